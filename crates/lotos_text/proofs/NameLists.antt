-- Lists of names: how the loop over names parses and fails, and that tokens start with at most one list.
use Rattle.std.proofs.Common.{◌≡◌, ℕ, List, [], ◌∷◌, ◌++◌, refl, sym, ◌∙◌, ap, append_assoc, subst}
use Rattle.lotos_text.specs.Grammar.{IsOfKind, located_name, Names, one_name, more_names, GateList, no_gates, gates}
use Rattle.lotos_text.specs.ParserContracts.{Phrase, DoesNotStartWith, Parses, Fails}
use Rattle.lotos_text.specs.Phrases.{OneToken, Preceded, Followed, NameList, OptionalGates, SyncList, no_sync, some_sync}
use Rattle.lotos_text.specs.declared.token.Token.{Token}
use Rattle.lotos_text.specs.declared.token.TokenKind.{TokenKind}
use Rattle.lotos_text.specs.declared.token.TokenKind.TheVariants.{Identifier, Sign}
use Rattle.lotos_text.specs.declared.token.Sign.TheVariants as s
use Rattle.lotos_text.specs.declared.ast.Placed.{Placed}
use Rattle.lotos_text.proofs.FirstToken.{head_same, tail_same, apart, not_first, is_first, starts_not}
use Rattle.lotos_text.proofs.OneToken.{found_preceded, lost_preceded, firm_preceded, found_before, lost_unclosed, lost_within}
use Rattle.lotos_text.proofs.Sequences.{Same, Firm, lost_as, between, as_between}

module _ (text : List ℕ) where
  -- a name with no comma after it is a list
  pub found_last : (ts remainder : List Token) (n : Token) → ts ≡ n ∷ remainder → IsOfKind n Identifier → DoesNotStartWith (Sign s.Comma) remainder →
      Parses (NameList text) ts (located_name text n ∷ []) remainder
  found_last ts remainder n e i h = record { front = n ∷ []; joined = e; whole = record { names = one_name i; quits = h } }

  -- a name and a comma go before a list
  pub found_more : (ts remainder after rest : List Token) (n comma : Token) (names : List Placed) → ts ≡ n ∷ remainder →
      IsOfKind n Identifier → remainder ≡ comma ∷ after → IsOfKind comma (Sign s.Comma) →
      Parses (NameList text) after names rest → Parses (NameList text) ts (located_name text n ∷ names) rest
  found_more ts remainder after rest n comma names e i g j f = record {
    front = n ∷ comma ∷ f.front;
    joined = e ∙ ap (λ l. n ∷ l) (g ∙ ap (λ l. comma ∷ l) f.joined);
    whole = record { names = more_names i j f.whole.names; quits = f.whole.quits };
  }

  -- if the first name fails, so does the list
  pub lost_here : (ts rest : List Token) → Fails (OneToken Identifier) ts rest → Fails (NameList text) ts rest
  lost_here ts rest l = record {
    front = l.front;
    joined = l.joined;
    never = λ more own remainder said st e p. never_here l.front more own remainder said
        (λ n ls e i. l.never more (n ∷ []) ls n st e (record { joined = refl; is = i })) e p.names;
  }
    where
      never_here : (front more own remainder : List Token) (names : List Placed) →
          ((n : Token) (ls : List Token) → front ++ more ≡ n ∷ ls → IsOfKind n Identifier → ⊥) →
          front ++ more ≡ own ++ remainder → Names text own names → ⊥
      never_here front more _ remainder _ h e (one_name {n = n} i) = h n remainder e i
      never_here front more _ remainder _ h e (more_names {n = n} {comma = comma} {ts = ts} i j d) = h n (comma ∷ ts ++ remainder) e i

  -- if a list fails after a name and a comma, so does the list with them
  pub lost_more : (ts remainder after rest : List Token) (n comma : Token) → ts ≡ n ∷ remainder → remainder ≡ comma ∷ after →
      IsOfKind comma (Sign s.Comma) →
      Fails (NameList text) after rest → Fails (NameList text) ts rest
  lost_more ts remainder after rest n comma e g j l = record {
    front = n ∷ comma ∷ l.front;
    joined = e ∙ ap (λ m. n ∷ m) (g ∙ ap (λ m. comma ∷ m) l.joined);
    never = λ more own remainder said st e p. never_more l.front more own remainder said
        (λ a ms e d. l.never more a remainder ms st e (record { names = d; quits = p.quits })) e p.names p.quits;
  }
    where
      never_more : (front more own remainder : List Token) (names : List Placed) →
          ((a : List Token) (ms : List Placed) → front ++ more ≡ a ++ remainder → Names text a ms → ⊥) →
          n ∷ comma ∷ (front ++ more) ≡ own ++ remainder → Names text own names → DoesNotStartWith (Sign s.Comma) remainder → ⊥
      never_more front more _ remainder _ h e (one_name i) q = not_first _ remainder (front ++ more) q j (sym (tail_same e))
      never_more front more _ remainder _ h e (more_names {ts = ts} {names = ms} i k d) q = h ts ms (tail_same (tail_same e)) d

  -- one list begins with one list of names
  pub unique_names : {a b : List Token} {ns ms : List Placed} (r q : List Token) → Names text a ns → Names text b ms →
      a ++ r ≡ b ++ q →
      DoesNotStartWith (Sign s.Comma) r → DoesNotStartWith (Sign s.Comma) q → Same a b ns ms r q
  unique_names r q (one_name i) (one_name j) e hr hq = record {
    tokens = ap (λ n. n ∷ []) (head_same e);
    said = ap (λ n. located_name text n ∷ []) (head_same e);
    rest = tail_same e;
  }
  unique_names r q (one_name i) (more_names {ts = ts} j c d) e hr hq = absurd (not_first _ r (ts ++ q) hr c (tail_same e))
  unique_names r q (more_names {ts = ts} j c d) (one_name i) e hr hq = absurd (not_first _ q (ts ++ r) hq c (sym (tail_same e)))
  unique_names r q (more_names {n} {comma} {ts} {names} i c d)
      (more_names {n = m} {comma = other} {ts = us} {names = ms} j k f) e hr hq =
      let h = unique_names r q d f (tail_same (tail_same e)) hr hq in
      record {
        tokens = (let f = h.tokens in let g = head_same e in let i = head_same (tail_same e) in cc);
        said = (let f = h.said in let g : located_name text n ≡ located_name text m = ap (located_name text) (head_same e) in cc);
        rest = h.rest;
      }

  -- one list begins with one gate list
  pub unique_gates : {a b : List Token} {ns ms : List Placed} (r q : List Token) → GateList text a ns → GateList text b ms →
      a ++ r ≡ b ++ q →
      (a ≡ [] → DoesNotStartWith (Sign s.LeftBracket) r) → (b ≡ [] → DoesNotStartWith (Sign s.LeftBracket) q) → Same a b ns ms r q
  unique_gates r q no_gates no_gates e hr hq = record { tokens = refl; said = refl; rest = e }
  unique_gates r q no_gates (gates {right = c} {ts = ts} i d j) e hr hq = absurd (not_first _ r ((ts ++ c ∷ []) ++ q)
      (hr refl) i e)
  unique_gates r q (gates {right = c} {ts = ts} i d j) no_gates e hr hq = absurd (not_first _ q ((ts ++ c ∷ []) ++ r) (hq refl) i
      (sym e))
  unique_gates r q (gates {right = c} {ts = ts} i d j) (gates {right = other} {ts = us} k f l) e hr hq =
      let h = unique_names (c ∷ r) (other ∷ q) d f
      (sym (append_assoc ts (c ∷ []) r) ∙ tail_same e ∙ append_assoc us (other ∷ []) q)
      (is_first j (λ e. cc)) (is_first l (λ e. cc)) in
      record {
        tokens = (let a = h.tokens in let b = head_same e in let d = head_same h.rest in cc);
        said = h.said;
        rest = tail_same h.rest;
      }

  -- no list of names begins with what is no identifier
  names_first : {a : List Token} {names : List Placed} {n : Token} {k : TokenKind} (r ts : List Token) → Names text a names →
      IsOfKind n k → a ++ r ≡ n ∷ ts → (Identifier ≡ k → ⊥) → ⊥
  names_first r ts (one_name i) j e two = apart i j (head_same e) two
  names_first r ts (more_names i k d) j e two = apart i j (head_same e) two

  -- one list begins with one list of names or none before `]` and `|`
  pub unique_sync_list : {a b c d : List Token} {ns ms : List Placed} (r q : List Token) → SyncList text a ns c →
      SyncList text b ms d → a ++ r ≡ b ++ q → Same a b ns ms r q
  unique_sync_list r q (no_sync i j) (no_sync k l) e = record {
    tokens = (let a = head_same e in let b = head_same (tail_same e) in cc);
    said = refl;
    rest = tail_same (tail_same e);
  }
  unique_sync_list r q (no_sync {bar = bar} i j) (some_sync {right = right} {bar = other} {ts = ts} d k l) e =
      absurd (names_first (right ∷ other ∷ q) (bar ∷ r) d i (sym (e ∙ append_assoc ts (right ∷ other ∷ []) q)) (λ e. cc))
  unique_sync_list r q (some_sync {right = right} {bar = bar} {ts = ts} d i j) (no_sync {bar = other} k l) e =
      absurd (names_first (right ∷ bar ∷ r) (other ∷ q) d k (sym (append_assoc ts (right ∷ bar ∷ []) r) ∙ e) (λ e. cc))
  unique_sync_list r q (some_sync {right = right} {bar = bar} {ts = ts} d i j)
      (some_sync {right = right'} {bar = bar'} {ts = us} f k l) e =
      let h = unique_names (right ∷ bar ∷ r) (right' ∷ bar' ∷ q) d f
      (sym (append_assoc ts (right ∷ bar ∷ []) r) ∙ e ∙ append_assoc us (right' ∷ bar' ∷ []) q)
      (is_first i (λ e. cc)) (is_first k (λ e. cc)) in
      record {
        tokens = (let a = h.tokens in let b = head_same h.rest in let c = head_same (tail_same h.rest) in cc);
        said = h.said;
        rest = tail_same (tail_same h.rest);
      }

  -- so each of these phrases is unique

  -- a list of names is unique
  pub firm_names : Firm (NameList text)
  firm_names a b r more q x y p st o e = unique_names more q p.names o.names e (starts_not _ r more st p.quits) o.quits

  -- names in brackets, or none, are unique
  pub firm_gates : Firm (OptionalGates text)
  firm_gates a b r more q x y p st o e = unique_gates more q p.gates o.gates e (λ h. starts_not _ r more st (p.quits h)) o.quits

  -- names in brackets, as three parts

  abbrev Opened : Phrase (List Placed)
  Opened = Preceded (Sign s.LeftBracket) (NameList text)

  abbrev InBrackets : Phrase (List Placed)
  InBrackets = Followed Opened (Sign s.RightBracket)

  -- without a bracket there are no gates
  pub found_no_gates : (ts : List Token) → DoesNotStartWith (Sign s.LeftBracket) ts → Parses (OptionalGates text) ts [] ts
  found_no_gates ts h = record { front = []; joined = refl; whole = record { gates = no_gates; quits = λ e. h } }

  -- if names in brackets parse, so does the gate list
  found_gates : (ts rest : List Token) (names : List Placed) → Parses InBrackets ts names rest → Parses (OptionalGates text) ts names rest
  found_gates ts rest names f =
      let b = between _ _ (NameList text) f.front rest names f.whole in
      record {
        front = f.front;
        joined = f.joined;
        whole = record {
          gates = subst (λ m. GateList text m names) (sym b.joined) (gates b.begins b.within.names b.ends);
          quits = λ e. absurd (let h = b.joined in cc);
        };
      }

  -- a gate list is names in brackets, if the tokens begin with a left bracket
  down_gates : (n : Token) → IsOfKind n (Sign s.LeftBracket) → (own remainder more : List Token) (names : List Placed) →
      own ++ remainder ≡ n ∷ more → GateList text own names →
      (own ≡ [] → DoesNotStartWith (Sign s.LeftBracket) remainder) → (said : List Placed) × InBrackets own said remainder
  down_gates n i _ remainder more _ e no_gates h = absurd (not_first _ remainder more (h refl) i e)
  down_gates n i _ remainder more _ e (gates {left = left} {right = right} {ts = ts} {names = names} j d k) h =
      (names, as_between _ _ (NameList text) left right ts remainder names j (record { names = d; quits = is_first k (λ e. cc) }) k)

  -- if names in brackets fail and the next token is a left bracket, the gate list fails
  lost_gates : (ts others rest : List Token) (n : Token) → ts ≡ n ∷ others → IsOfKind n (Sign s.LeftBracket) → Fails InBrackets ts rest →
      Fails (OptionalGates text) ts rest
  lost_gates ts others rest n e i l = lost_as (OptionalGates text) InBrackets n ts others rest e
      (λ own remainder more x e p. down_gates n i own remainder more x e p.gates p.quits) l

  -- a bracket, names and a bracket are a gate list
  pub found_closed : (ts inside between rest : List Token) (left right : Token) (names : List Placed) → ts ≡ left ∷ inside →
      IsOfKind left (Sign s.LeftBracket) →
      Parses (NameList text) inside names between → between ≡ right ∷ rest → IsOfKind right (Sign s.RightBracket) → Parses
      (OptionalGates text) ts names rest
  found_closed ts inside between rest left right names e i f g j =
      found_gates ts rest names (found_before Opened _ ts between rest right names
      (found_preceded _ (NameList text) ts inside between left names e i f) g j)

  -- if the names in the bracket fail, so does the gate list
  pub lost_inside : (ts inside rest : List Token) (left : Token) → ts ≡ left ∷ inside → IsOfKind left (Sign s.LeftBracket) →
      Fails (NameList text) inside rest → Fails (OptionalGates text) ts rest
  lost_inside ts inside rest left e i l = lost_gates ts inside rest left e i
      (lost_within Opened _ ts rest (lost_preceded _ (NameList text) ts inside rest left e i l))

  -- if the right bracket fails, so does the gate list
  pub lost_open : (ts inside between rest : List Token) (left : Token) (names : List Placed) → ts ≡ left ∷ inside →
      IsOfKind left (Sign s.LeftBracket) →
      Parses (NameList text) inside names between → Fails (OneToken (Sign s.RightBracket)) between rest → Fails (OptionalGates text) ts rest
  lost_open ts inside between rest left names e i f l =
      lost_gates ts inside rest left e i
      (lost_unclosed Opened _ (firm_preceded _ (NameList text) firm_names) ts between rest names
      (found_preceded _ (NameList text) ts inside between left names e i f) l)
