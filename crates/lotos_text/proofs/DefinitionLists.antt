-- Lists of definitions, and inner definitions: how they parse and fail.
use Rattle.std.proofs.Common.{◌≡◌, ℕ, ◌+◌, ◌≤◌, List, [], ◌∷◌, ◌++◌, Some, None, refl, sym, ◌∙◌, ap, append_assoc, arith, subst, cond, true, max}
use Rattle.lotos_text.specs.Grammar.{IsOfKind, a_process, SpellsDefinition, definition, SpellsDefinitions, last, another}
use Rattle.lotos_text.specs.ConstructOpenings.{opens_construct, count_openings}
use Rattle.lotos_text.specs.ParserContracts.{NestingLimit, IsNestingWithin, DoesNotStartWith, StartsAlike, Parses, Fails, IsTooDeepAt}
use Rattle.lotos_text.specs.Phrases.{OneToken, DefinitionList, WherePhrase, no_inner, some_inner, DefinitionRest, CompleteDefinition}
use Rattle.lotos_text.specs.AstView.{DefinitionView, DefinitionListView, no_defs, more_defs}
use Rattle.lotos_text.specs.declared.token.Token.{Token}
use Rattle.lotos_text.specs.declared.token.TokenKind.TheVariants.{Reserved}
use Rattle.lotos_text.specs.declared.token.Word.TheVariants as w
use Rattle.lotos_text.proofs.Definitions.{within_first, within_second, within_both, firm_definition, as_definition, from_definition}
use Rattle.lotos_text.proofs.FirstToken.{tail_same, not_first, starts_after}
use Rattle.lotos_text.proofs.OneToken.{found_preceded, lost_preceded}
use Rattle.lotos_text.proofs.ParseErrors.{Carries}

-- a token that opens a construct is one opening
one_opening : (n : Token) → opens_construct n.kind ≡ true → count_openings (n ∷ []) ≡ 1
one_opening n e = ap (λ b. 0 + cond b 1 0) e

module _ (text : List ℕ) where
  -- lists of definitions

  -- a process that no other process follows is a list
  pub found_last_process : (inner nesting_left : ℕ) (ts after remainder : List Token) (n : Token) (d : DefinitionView) → inner + 1 ≤ nesting_left →
      ts ≡ n ∷ after →
      IsOfKind n (Reserved w.ProcessWord) → Parses (DefinitionRest text a_process (Some inner)) after d remainder →
      DoesNotStartWith (Reserved w.ProcessWord) remainder → Parses (DefinitionList text (Some nesting_left)) ts (more_defs d no_defs) remainder
  found_last_process inner nesting_left ts after remainder n d h e i f g =
      let p = found_preceded _ (DefinitionRest text a_process (Some inner)) ts after remainder n d e i f in
      let q = from_definition text (Some inner) p.front remainder d p.whole in
      record {
        front = p.front;
        joined = p.joined;
        whole = record { nesting = q.0 + 1; several = last q.1; ends = g; within = (let j = q.2 in omega (arith, h, j)) };
      }

  -- a process and a list after it are a list
  pub found_more_processes : (inner nesting_left : ℕ) (ts after remainder rest : List Token) (n : Token) (d : DefinitionView) (ds : DefinitionListView) →
      inner + 1 ≤ nesting_left →
      ts ≡ n ∷ after → IsOfKind n (Reserved w.ProcessWord) → Parses (DefinitionRest text a_process (Some inner)) after d remainder →
      Parses (DefinitionList text (Some nesting_left)) remainder ds rest → Parses (DefinitionList text (Some nesting_left)) ts (more_defs d ds) rest
  found_more_processes inner nesting_left ts after remainder rest n d ds h e i f g =
      let p = found_preceded _ (DefinitionRest text a_process (Some inner)) ts after remainder n d e i f in
      let q = from_definition text (Some inner) p.front remainder d p.whole in
      record {
        front = p.front ++ g.front;
        joined = p.joined ∙ ap (λ m. p.front ++ m) g.joined ∙ sym (append_assoc p.front g.front rest);
        whole = record {
          nesting = max (q.0 + 1) g.whole.nesting;
          several = another q.1 g.whole.several;
          ends = g.whole.ends;
          within = within_both (Some nesting_left) (q.0 + 1) g.whole.nesting (let j = q.2 in omega (arith, h, j)) g.whole.within;
        };
      }

  -- the first token of a list, and the others
  record Begins (own : List Token) : Type 0 where
    pub word : Token
    pub others : List Token
    pub joined : own ≡ word ∷ others
    pub is : IsOfKind word (Reserved w.ProcessWord)

  -- a definition of a process begins with the keyword `process`
  process_begins : {n : ℕ} {own : List Token} {d : DefinitionView} → SpellsDefinition text a_process n own d → Begins own
  process_begins (definition {word = word} i j g c f k s l z) = record { word = word; others = _; joined = refl; is = i }

  -- a list of definitions begins with the keyword `process`
  row_begins : {n : ℕ} {own : List Token} {ds : DefinitionListView} → SpellsDefinitions text n own ds → Begins own
  row_begins (last d) = process_begins d
  row_begins (another {others = others} d ds) =
      let b = process_begins d in
      record { word = b.word; others = b.others ++ others; joined = ap (λ m. m ++ others) b.joined; is = b.is }

  -- if the keyword `process` fails, so does the list
  pub lost_word : (limit : NestingLimit) (ts rest : List Token) → Fails (OneToken (Reserved w.ProcessWord)) ts rest →
      Fails (DefinitionList text limit) ts rest
  lost_word limit ts rest l = record {
    front = l.front;
    joined = l.joined;
    never = λ more own remainder said st e p.
        let b = row_begins p.several in
        l.never more (b.word ∷ []) (b.others ++ remainder) b.word st (e ∙ ap (λ m. m ++ remainder) b.joined)
        (record { joined = refl; is = b.is });
  }

  -- if no process within the limit inside begins the tokens, no list of definitions within the limit does
  never_first : {n : ℕ} {own : List Token} {ds : DefinitionListView} (inner limit : NestingLimit) (front more remainder : List Token) →
      ((n : ℕ) → IsNestingWithin limit (n + 1) → IsNestingWithin inner n) →
      ((a b : List Token) (d : DefinitionView) → front ++ more ≡ a ++ b → CompleteDefinition text a_process inner a d b → ⊥) →
      front ++ more ≡ own ++ remainder → SpellsDefinitions text n own ds → IsNestingWithin limit n → ⊥
  never_first inner limit front more remainder to h e (last {n = n} {ts = own} {d = d} p) v =
      h own remainder d e (as_definition text inner remainder p (to n v))
  never_first inner limit front more remainder to h e (another {n = n} {m = m} {first = first} {others = others} {d = d} p ds) v =
      h first (others ++ remainder) d (e ∙ append_assoc first others remainder)
      (as_definition text inner (others ++ remainder) p (to n (within_first limit (n + 1) m v)))

  -- if the first process fails, so does the list
  lost_process : (inner limit : NestingLimit) (ts after rest : List Token) (n : Token) →
      ((n : ℕ) → IsNestingWithin limit (n + 1) → IsNestingWithin inner n) →
      ts ≡ n ∷ after → IsOfKind n (Reserved w.ProcessWord) → Fails (DefinitionRest text a_process inner) after rest →
      Fails (DefinitionList text limit) ts rest
  lost_process inner limit ts after rest n to e i lost =
      let l = lost_preceded _ (DefinitionRest text a_process inner) ts after rest n e i lost in
      record {
        front = l.front;
        joined = l.joined;
        never = λ more own remainder said st e p. never_first inner limit l.front more remainder to
            (λ a b d e q. l.never more a b d st e q) e p.several p.within;
      }

  -- an error inside a process is an error of the list
  pub carries_process : (inner nesting_left : ℕ) (ts after : List Token) (n : Token) → inner + 1 ≡ nesting_left → ts ≡ n ∷ after →
      IsOfKind n (Reserved w.ProcessWord) → Carries (DefinitionRest text a_process) inner after (DefinitionList text) nesting_left ts
  carries_process inner nesting_left ts after n h e i = record {
    free = λ rest l. lost_process None None ts after rest n (λ n g. tt) e i l;
    limited = λ rest l. lost_process (Some inner) (Some nesting_left) ts after rest n (λ n g. omega (arith, h, g)) e i l;
    before = n ∷ [];
    joined = e;
    crowds = (let j = one_opening n (ap opens_construct i.same) in omega (arith, h, j));
  }

  -- if a process begins the tokens and `process` follows, but no list up to the rest, no list up to it begins them
  never_more : {n : ℕ} {own : List Token} {ds : DefinitionListView} (inner : ℕ) (limit : NestingLimit) (front remainder more rest : List Token)
      (m : Token) (d : DefinitionView) →
      CompleteDefinition text a_process (Some inner) front d remainder → StartsAlike remainder more → IsOfKind m (Reserved w.ProcessWord) →
      (others : List Token) → more ≡ m ∷ others → DoesNotStartWith (Reserved w.ProcessWord) rest →
      ((a : List Token) (es : DefinitionListView) → more ≡ a ++ rest → DefinitionList text limit a es rest → ⊥) →
      front ++ more ≡ own ++ rest → SpellsDefinitions text n own ds → IsNestingWithin limit n → ⊥
  never_more inner limit front remainder more rest m d p st i others g ends h e (last {ts = own} {d = d'} q) v =
      let one = firm_definition text a_process (Some inner) None front own remainder more rest d d' p st
      (as_definition text None rest q tt) e in
      not_first _ rest others ends i (sym one.rest ∙ g)
  never_more inner limit front remainder more rest m d p st i others g ends h e
      (another {n = n} {m = k} {first = first} {others = own} {d = d'} {ds = es} q qs) v =
      let one = firm_definition text a_process (Some inner) None front first remainder more (own ++ rest) d d' p st
      (as_definition text None (own ++ rest) q tt) (e ∙ append_assoc first own rest) in
      h own es one.rest (record { nesting = k; several = qs; ends = ends; within = within_second limit (n + 1) k v })

  -- if a list fails after a process, so does the list with that process
  lost_more_processes : (inner : ℕ) (limit : NestingLimit) (ts after remainder rest others : List Token) (n m : Token) (d : DefinitionView) →
      ts ≡ n ∷ after →
      IsOfKind n (Reserved w.ProcessWord) → Parses (DefinitionRest text a_process (Some inner)) after d remainder → remainder ≡ m ∷ others →
      IsOfKind m (Reserved w.ProcessWord) → Fails (DefinitionList text limit) remainder rest → Fails (DefinitionList text limit) ts rest
  lost_more_processes inner limit ts after remainder rest others n m d e i f g j l =
      let p = found_preceded _ (DefinitionRest text a_process (Some inner)) ts after remainder n d e i f in
      record {
        front = p.front ++ l.front;
        joined = p.joined ∙ ap (λ k. p.front ++ k) l.joined ∙ sym (append_assoc p.front l.front rest);
        never = λ more own last said st e q.
            let alike : StartsAlike remainder (l.front ++ more) = subst (λ k. StartsAlike k (l.front ++ more)) (sym l.joined)
            (starts_after l.front rest more st) in
            let begins : StartsAlike (m ∷ others) (l.front ++ more) = subst (λ k. StartsAlike k (l.front ++ more)) g alike in
            never_more inner limit p.front remainder (l.front ++ more) last m d p.whole alike j begins.0 begins.1 q.ends
            (λ a es h r. l.never more a last es st h r) (sym (append_assoc p.front l.front more) ∙ e) q.several q.within;
      }

  -- an error in a list is an error of the list with a process before it
  pub carries_more : (inner nesting_left : ℕ) (ts after remainder others : List Token) (n m : Token) (d : DefinitionView) → ts ≡ n ∷ after →
      IsOfKind n (Reserved w.ProcessWord) → Parses (DefinitionRest text a_process (Some inner)) after d remainder → remainder ≡ m ∷ others →
      IsOfKind m (Reserved w.ProcessWord) → Carries (DefinitionList text) nesting_left remainder (DefinitionList text) nesting_left ts
  carries_more inner nesting_left ts after remainder others n m d e i f g j =
      let p = found_preceded _ (DefinitionRest text a_process (Some inner)) ts after remainder n d e i f in
      record {
        free = λ rest l. lost_more_processes inner None ts after remainder rest others n m d e i f g j l;
        limited = λ rest l. lost_more_processes inner (Some nesting_left) ts after remainder rest others n m d e i f g j l;
        before = p.front;
        joined = p.joined;
        crowds = omega arith;
      }

  -- an error inside a list is an error of the list
  pub carries_all : (nesting_left : ℕ) (ts : List Token) → Carries (DefinitionList text) nesting_left ts (DefinitionList text) nesting_left ts
  carries_all nesting_left ts = record {
    free = λ rest l. l;
    limited = λ rest l. l;
    before = [];
    joined = refl;
    crowds = omega arith;
  }

  -- a list of definitions has a nesting of at least 1
  never_shallow : {n : ℕ} {own : List Token} {ds : DefinitionListView} → SpellsDefinitions text n own ds → n ≤ 0 → ⊥
  never_shallow (last d) h = omega (arith, h)
  never_shallow (another d ds) h = omega (arith, h)

  -- with no nesting left, the keyword `process` is too deep
  pub deep_process : (nesting_left : ℕ) (ts after : List Token) (n : Token) → nesting_left ≡ 0 → ts ≡ n ∷ after → IsOfKind n (Reserved w.ProcessWord) →
      IsTooDeepAt (DefinitionList text) nesting_left ts n
  deep_process nesting_left ts after n h e i = record {
    after = after;
    fails = record {
      front = [];
      joined = e;
      never = λ more own remainder said st e p. never_shallow p.several (let g = p.within in omega (arith, h, g));
    };
    too_many_open = record { front = []; joined = e; many = (let j = one_opening n (ap opens_construct i.same) in omega (arith, h, j)) };
    opens = ap opens_construct i.same;
  }

  -- inner definitions

  -- without the keyword `where` there are none
  pub found_no_inner : (limit : NestingLimit) (ts : List Token) → DoesNotStartWith (Reserved w.WhereWord) ts →
      Parses (WherePhrase text limit) ts no_defs ts
  found_no_inner limit ts h = record { front = []; joined = refl; whole = no_inner h }

  -- the keyword and a list
  pub found_inner : (limit : NestingLimit) (ts after rest : List Token) (n : Token) (ds : DefinitionListView) → ts ≡ n ∷ after →
      IsOfKind n (Reserved w.WhereWord) →
      Parses (DefinitionList text limit) after ds rest → Parses (WherePhrase text limit) ts ds rest
  found_inner limit ts after rest n ds e i f = record {
    front = n ∷ f.front;
    joined = e ∙ ap (λ m. n ∷ m) f.joined;
    whole = some_inner i f.whole;
  }

  -- if no list of definitions follows `where` up to the rest, no inner definitions begin with `where` and go up to it
  never_inner : {own remainder : List Token} {said : DefinitionListView} (limit : NestingLimit) (n : Token) (front more : List Token) →
      IsOfKind n (Reserved w.WhereWord) →
      ((a : List Token) → front ++ more ≡ a ++ remainder → DefinitionList text limit a said remainder → ⊥) →
      n ∷ (front ++ more) ≡ own ++ remainder → WherePhrase text limit own said remainder → ⊥
  never_inner limit n front more i h e (no_inner {rest = remainder} g) = not_first _ remainder (front ++ more) g i (sym e)
  never_inner limit n front more i h e (some_inner {tokens = own} j r) = h own (tail_same e) r

  -- if the list fails, so do the inner definitions
  lost_row : (limit : NestingLimit) (ts after rest : List Token) (n : Token) → ts ≡ n ∷ after → IsOfKind n (Reserved w.WhereWord) →
      Fails (DefinitionList text limit) after rest → Fails (WherePhrase text limit) ts rest
  lost_row limit ts after rest n e i l = record {
    front = n ∷ l.front;
    joined = e ∙ ap (λ m. n ∷ m) l.joined;
    never = λ more own remainder said st e p. never_inner limit n l.front more i (λ a e r. l.never more a remainder said st e r) e p;
  }

  -- an error inside the list is an error of the inner definitions
  pub carries_row : (nesting_left : ℕ) (ts after : List Token) (n : Token) → ts ≡ n ∷ after → IsOfKind n (Reserved w.WhereWord) →
      Carries (DefinitionList text) nesting_left after (WherePhrase text) nesting_left ts
  carries_row nesting_left ts after n e i = record {
    free = λ rest l. lost_row None ts after rest n e i l;
    limited = λ rest l. lost_row (Some nesting_left) ts after rest n e i l;
    before = n ∷ [];
    joined = e;
    crowds = omega arith;
  }
