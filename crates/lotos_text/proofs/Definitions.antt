-- Definitions: tokens start with at most one definition and one list of them, and these are the parser's phrases.
use Rattle.std.proofs.Common.{◌≡◌, ℕ, ◌+◌, max, List, [], ◌∷◌, ◌++◌, Some, None, refl, sym, ◌∙◌, ap, append_assoc, arith, subst}
use Rattle.lotos_text.specs.AstView as t
use Rattle.lotos_text.specs.AstView.{BehaviourView, DefinitionView, DefinitionListView}
use Rattle.lotos_text.specs.Grammar.{IsOfKind, located_name, GateList, IsFunctionality, enabling, DefinitionKind, a_specification, a_process, opening_word, defining_sign, closing_word, SpellsDefinition, definition, SpellsWhere, nothing, definitions, SpellsDefinitions, last, another, SpellsSpecification}
use Rattle.lotos_text.specs.Follow.{kind_precedence, precedence}
use Rattle.lotos_text.specs.ParserContracts.{Phrase, NestingLimit, IsNestingWithin, DoesNotStartWith}
use Rattle.lotos_text.specs.Phrases.{Sequence, BehaviourPhrase, OneFunctionality, HeaderValue, HeaderPhrase, BodyPhrase, DefinitionList, WherePhrase, no_inner, some_inner, make_definition, DefinitionRest, CompleteDefinition}
use Rattle.lotos_text.specs.declared.token.Token.{Token}
use Rattle.lotos_text.specs.declared.token.TokenKind.TheVariants.{Identifier, Reserved, Sign}
use Rattle.lotos_text.specs.declared.token.Word.TheVariants as w
use Rattle.lotos_text.specs.declared.token.Sign.TheVariants as s
use Rattle.lotos_text.specs.declared.ast.Functionality.{Functionality}
use Rattle.lotos_text.specs.declared.ast.Placed.{Placed}
use Rattle.lotos_text.proofs.Headers.{firm_header}
use Rattle.lotos_text.proofs.PhraseUniqueness.{FirmWithin, firm_always, firm_then_within, firm_preceded_within, firm_before_within, firm_expression}
use Rattle.lotos_text.proofs.FirstToken.{head_same, tail_same, not_first, is_first, starts_not}
use Rattle.lotos_text.proofs.Levels.{rank_none, rank_is}
use Rattle.lotos_text.proofs.NameLists.{unique_gates}
use Rattle.lotos_text.proofs.OneToken.{same_functionality, remainder as after_token, uncover}
use Rattle.lotos_text.proofs.GrammarUnique.{unique}

-- four lists before a fifth
four_lists : (a b c d r : List Token) → (a ++ b ++ c ++ d) ++ r ≡ a ++ (b ++ (c ++ (d ++ r)))
four_lists a b c d r =
    append_assoc (a ++ b ++ c) d r ∙ append_assoc (a ++ b) c (d ++ r) ∙ append_assoc a b (c ++ (d ++ r))

-- what a definition ends with goes on with nothing, and begins no inner definitions

-- the last keyword of a definition has precedence 0
closing_rank : (what : DefinitionKind) → kind_precedence (closing_word what) ≡ 0
closing_rank a_specification = refl
closing_rank a_process = refl

-- the last keyword of a definition is not `where`
closing_row : (what : DefinitionKind) → closing_word what ≡ Reserved w.WhereWord → ⊥
closing_row a_specification e = cc
closing_row a_process e = cc

-- the last keyword of a definition is not `process`
closing_one : (what : DefinitionKind) → closing_word what ≡ Reserved w.ProcessWord → ⊥
closing_one a_specification e = cc
closing_one a_process e = cc

-- what keeps within a limit as the deeper of two does so as each of them, and the other way round

-- if the greater of two nestings is within the limit, so is the first
pub within_first : (limit : NestingLimit) (n m : ℕ) → IsNestingWithin limit (max n m) → IsNestingWithin limit n
within_first None n m h = tt
within_first (Some limit) n m h = omega (arith, h)

-- if the greater of two nestings is within the limit, so is the second
pub within_second : (limit : NestingLimit) (n m : ℕ) → IsNestingWithin limit (max n m) → IsNestingWithin limit m
within_second None n m h = tt
within_second (Some limit) n m h = omega (arith, h)

-- if two nestings are within the limit, so is the greater of them
pub within_both : (limit : NestingLimit) (n m : ℕ) → IsNestingWithin limit n → IsNestingWithin limit m → IsNestingWithin limit (max n m)
within_both None n m h g = tt
within_both (Some limit) n m h g = omega (arith, h, g)

pub record SameNested {A : Type 0} (a b : List Token) (n m : ℕ) (x y : A) (r q : List Token) : Type 0 where
  pub tokens : a ≡ b
  pub nesting : n ≡ m
  pub tree : x ≡ y
  pub rest : r ≡ q

module _ (text : List ℕ) where
  -- no operator follows the body of a definition
  rest_rank : {m : ℕ} {own : List Token} {inner : DefinitionListView} (remainder : List Token) → SpellsWhere text m own inner → precedence remainder ≡ 0 →
      precedence (own ++ remainder) ≡ 0
  rest_rank remainder nothing e = e
  rest_rank remainder (definitions i d) e = ap kind_precedence i.same

  -- a definition of a process begins with that word
  process_first : {n : ℕ} {own : List Token} {d : DefinitionView} (remainder : List Token) → SpellsDefinition text a_process n own d →
      DoesNotStartWith (Reserved w.ProcessWord) (own ++ remainder) → ⊥
  process_first remainder (definition i j g c f k s l e) h = h i

  -- a list of definitions begins with the word `process`
  several_first : {n : ℕ} {own : List Token} {ds : DefinitionListView} (remainder : List Token) → SpellsDefinitions text n own ds →
      DoesNotStartWith (Reserved w.ProcessWord) (own ++ remainder) → ⊥
  several_first remainder (last d) h = process_first remainder d h
  several_first remainder (another {first = first} {others = others} d ds) h =
      process_first (others ++ remainder) d (subst (λ m. DoesNotStartWith (Reserved w.ProcessWord) m) (append_assoc first others remainder) h)

  mutual
    -- one list begins with one definition
    pub unique_definition : {what : DefinitionKind} {n m : ℕ} {a b : List Token} {x y : DefinitionView} (r q : List Token) →
        SpellsDefinition text what n a x → SpellsDefinition text what m b y → a ++ r ≡ b ++ q → SameNested a b n m x y r q
    unique_definition {what} r q
        (definition {word = word} {name = name} {colon = colon} {returns = returns} {define = define} {end = end} {gates = gates}
        {body = body} {rest = rest} {o = o} i j g c f k s l z)
        (definition {word = word'} {name = name'} {colon = colon'} {returns = returns'} {define = define'} {end = end'}
        {gates = gates'} {body = body'} {rest = rest'} {o = o'} i' j' g' c' f' k' s' l' z') e =
        let front = sym (four_lists (word ∷ name ∷ gates) (colon ∷ returns ∷ define ∷ body) rest (end ∷ []) r) ∙ e
        ∙ four_lists (word' ∷ name' ∷ gates') (colon' ∷ returns' ∷ define' ∷ body') rest' (end' ∷ []) q in
        let u = unique_gates text (colon ∷ returns ∷ define ∷ (body ++ (rest ++ end ∷ r)))
        (colon' ∷ returns' ∷ define' ∷ (body' ++ (rest' ++ end' ∷ q))) g g' (tail_same (tail_same front))
        (λ _. is_first c (λ e. cc)) (λ _. is_first c' (λ e. cc)) in
        let v = unique text (rest ++ end ∷ r) (rest' ++ end' ∷ q) s s' (tail_same (tail_same (tail_same u.rest)))
        (rank_none enabling o (rest ++ end ∷ r) (rest_rank (end ∷ r) l (rank_is r z ∙ closing_rank what)))
        (rank_none enabling o' (rest' ++ end' ∷ q) (rest_rank (end' ∷ q) l' (rank_is q z' ∙ closing_rank what))) in
        let h = unique_rest (end ∷ r) (end' ∷ q) l l' v.rest (is_first z (closing_row what)) (is_first z' (closing_row what))
        (is_first z (closing_one what)) (is_first z' (closing_one what)) in
        let names : located_name text name ≡ located_name text name' = ap (located_name text) (head_same (tail_same front)) in
        let functionality = same_functionality f f' (head_same (tail_same u.rest)) in
        record {
          tokens = (let a = head_same front in let b = head_same (tail_same front) in let c = u.tokens in
              let d = head_same u.rest in let e = head_same (tail_same u.rest) in
              let f = head_same (tail_same (tail_same u.rest)) in let g = v.tokens in let i = h.tokens in
              let j = head_same h.rest in cc);
          nesting = (let a = v.nesting in let b = h.nesting in cc);
          tree = (let a = u.said in let b = v.tree in let c = h.tree in cc);
          rest = tail_same h.rest;
        }

    unique_rest : {n m : ℕ} {a b : List Token} {x y : DefinitionListView} (r q : List Token) → SpellsWhere text n a x → SpellsWhere text m b y →
        a ++ r ≡ b ++ q → DoesNotStartWith (Reserved w.WhereWord) r → DoesNotStartWith (Reserved w.WhereWord) q →
        DoesNotStartWith (Reserved w.ProcessWord) r → DoesNotStartWith (Reserved w.ProcessWord) q → SameNested a b n m x y r q
    unique_rest r q nothing nothing e hr hq pr pq = record { tokens = refl; nesting = refl; tree = refl; rest = e }
    unique_rest r q nothing (definitions {ts = ts} i d) e hr hq pr pq = absurd (not_first _ r (ts ++ q) hr i e)
    unique_rest r q (definitions {ts = ts} i d) nothing e hr hq pr pq = absurd (not_first _ q (ts ++ r) hq i (sym e))
    unique_rest r q (definitions i d) (definitions j f) e hr hq pr pq =
        let h = unique_several r q d f (tail_same e) pr pq in
        record {
          tokens = (let a = head_same e in let b = h.tokens in cc);
          nesting = h.nesting;
          tree = h.tree;
          rest = h.rest;
        }

    -- one list begins with one list of definitions that no other definition follows
    pub unique_several : {n m : ℕ} {a b : List Token} {x y : DefinitionListView} (r q : List Token) → SpellsDefinitions text n a x →
        SpellsDefinitions text m b y → a ++ r ≡ b ++ q →
        DoesNotStartWith (Reserved w.ProcessWord) r → DoesNotStartWith (Reserved w.ProcessWord) q → SameNested a b n m x y r q
    unique_several r q (last d) (last f) e hr hq =
        let h = unique_definition r q d f e in
        record {
          tokens = h.tokens;
          nesting = ap (λ n. n + 1) h.nesting;
          tree = ap (λ d. t.more_defs d t.no_defs) h.tree;
          rest = h.rest;
        }
    unique_several r q (last d) (another {first = first} {others = others} f fs) e hr hq =
        let h = unique_definition r (others ++ q) d f (e ∙ append_assoc first others q) in
        absurd (several_first q fs (subst (λ m. DoesNotStartWith (Reserved w.ProcessWord) m) h.rest hr))
    unique_several r q (another {first = first} {others = others} d ds) (last f) e hr hq =
        let h = unique_definition (others ++ r) q d f (sym (append_assoc first others r) ∙ e) in
        absurd (several_first r ds (subst (λ m. DoesNotStartWith (Reserved w.ProcessWord) m) (sym h.rest) hq))
    unique_several r q (another {first = first} {others = others} d ds)
        (another {first = first'} {others = others'} f fs) e hr hq =
        let h = unique_definition (others ++ r) (others' ++ q) d f
        (sym (append_assoc first others r) ∙ e ∙ append_assoc first' others' q) in
        let g = unique_several r q ds fs h.rest hr hq in
        record {
          tokens = (let a = h.tokens in let b = g.tokens in cc);
          nesting = (let a = h.nesting in let b = g.nesting in cc);
          tree = (let a = h.tree in let b = g.tree in cc);
          rest = g.rest;
        }

  -- the parts

  abbrev Headed : DefinitionKind → NestingLimit → Phrase (HeaderValue × BehaviourView)
  Headed what limit = Sequence (λ heading body. (heading, body)) (HeaderPhrase text) (BodyPhrase text what limit)

  abbrev HeaderBodyWhere : DefinitionKind → NestingLimit → Phrase DefinitionView
  HeaderBodyWhere what limit = Sequence make_definition (Headed what limit) (WherePhrase text limit)

  -- a list of definitions is unique
  pub firm_row : FirmWithin (DefinitionList text)
  firm_row l m a b r more q x y p st o e =
      let h = unique_several more q p.several o.several e (starts_not _ r more st p.ends) o.ends in
      record { tokens = h.tokens; said = h.tree; rest = h.rest }

  -- so are the inner definitions
  pub firm_inner : FirmWithin (WherePhrase text)
  firm_inner l m _ _ r more q _ _ (no_inner h) st (no_inner g) e = record { tokens = refl; said = refl; rest = e }
  firm_inner l m _ _ r more q _ _ (no_inner h) st (some_inner {tokens = own} i p) e =
      absurd (not_first _ more (own ++ q) (starts_not _ r more st h) i e)
  firm_inner l m _ _ r more q _ _ (some_inner {tokens = own} i p) st (no_inner h) e =
      absurd (not_first _ q (own ++ more) h i (sym e))
  firm_inner l m _ _ r more q x y (some_inner {tokens = a} i p) st (some_inner {tokens = b} j o) e =
      let h = firm_row l m a b r more q x y p st o (tail_same e) in
      record { tokens = (let a = head_same e in let b = h.tokens in cc); said = h.said; rest = h.rest }

  -- the header with the body is unique
  firm_headed : (what : DefinitionKind) → FirmWithin (Headed what)
  firm_headed what = firm_then_within (λ heading body. (heading, body)) (λ _. HeaderPhrase text) (BodyPhrase text what)
      (firm_always (HeaderPhrase text) (firm_header text))
      (firm_preceded_within (defining_sign what) (BehaviourPhrase text enabling) (firm_expression text enabling))

  -- the header with the body and the inner definitions is unique
  firm_header_body_where : (what : DefinitionKind) → FirmWithin (HeaderBodyWhere what)
  firm_header_body_where what = firm_then_within make_definition (Headed what) (WherePhrase text) (firm_headed what) firm_inner

  -- so is what follows the first keyword of a definition
  pub firm_contents : (what : DefinitionKind) → FirmWithin (DefinitionRest text what)
  firm_contents what = firm_before_within (HeaderBodyWhere what) (closing_word what) (firm_header_body_where what)

  -- so is a definition
  pub firm_definition : (what : DefinitionKind) → FirmWithin (CompleteDefinition text what)
  firm_definition what = firm_preceded_within (opening_word what) (DefinitionRest text what) (firm_contents what)

  -- headers as parts

  -- the tokens of a header, and what they say
  record HeaderTokens (own : List Token) (said : HeaderValue) : Type 0 where
    pub name : Token
    pub gates : List Token
    pub colon : Token
    pub returns : Token
    pub formals : List Placed
    pub func : Functionality
    pub tokens : own ≡ (name ∷ gates) ++ colon ∷ returns ∷ []
    pub names : IsOfKind name Identifier
    pub listed : GateList text gates formals
    pub separates : IsOfKind colon (Sign s.Colon)
    pub declares : IsFunctionality returns func
    pub same : said ≡ (located_name text name, formals, func)

  -- a name, a gate list, a colon and a functionality are the part that is a header
  as_header : {name colon returns : Token} {gates : List Token} {formals : List Placed} {func : Functionality}
      (remainder : List Token) → IsOfKind name Identifier → GateList text gates formals → IsOfKind colon (Sign s.Colon) → IsFunctionality returns func →
      HeaderPhrase text ((name ∷ gates) ++ colon ∷ returns ∷ []) (located_name text name, formals, func) remainder
  as_header {name} {colon} {returns} {gates} {formals} {func} remainder i g j d = record {
    front = name ∷ gates;
    back = colon ∷ returns ∷ [];
    one = (located_name text name, formals);
    other = func;
    joined = refl;
    first = record {
      front = name ∷ [];
      back = gates;
      one = located_name text name;
      other = formals;
      joined = refl;
      first = record { token = name; joined = refl; is = i; same = refl };
      second = record { gates = g; quits = λ _. is_first j (λ e. cc) };
      same = refl;
    };
    second = after_token _ OneFunctionality colon (returns ∷ []) remainder func j (record { token = returns; joined = refl; declares = d });
    same = refl;
  }

  -- the part that is a header is a name, a gate list, a colon and a functionality
  from_header : (own remainder : List Token) (said : HeaderValue) → HeaderPhrase text own said remainder → HeaderTokens own said
  from_header own remainder said h =
      let f = h.first in
      let returns = uncover _ OneFunctionality h.back remainder h.other h.second in
      record {
        name = f.first.token;
        gates = f.back;
        colon = returns.token;
        returns = returns.within.token;
        formals = f.other;
        func = h.other;
        tokens = h.joined ∙ ap (λ m. m ++ h.back) (f.joined ∙ ap (λ m. m ++ f.back) f.first.joined)
            ∙ ap (λ m. (f.first.token ∷ f.back) ++ m) (returns.joined ∙ ap (λ m. returns.token ∷ m) returns.within.joined);
        names = f.first.is;
        listed = f.second.gates;
        separates = returns.is;
        declares = returns.within.declares;
        same = h.same ∙ ap (λ (m : Placed × List Placed). (m.0, m.1, h.other))
            (f.same ∙ ap (λ m. (m, f.other)) f.first.same);
      }

  -- inner definitions as parts

  -- inner definitions nested within the limit, which neither `where` nor `process` follows, are the part
  as_inner : {m : ℕ} {own : List Token} {ds : DefinitionListView} (limit : NestingLimit) (remainder : List Token) → SpellsWhere text m own ds →
      IsNestingWithin limit m →
      DoesNotStartWith (Reserved w.WhereWord) remainder → DoesNotStartWith (Reserved w.ProcessWord) remainder → WherePhrase text limit own ds remainder
  as_inner limit remainder nothing h row one = no_inner row
  as_inner limit remainder (definitions {n = n} i d) h row one =
      some_inner i (record { nesting = n; several = d; ends = one; within = h })

  -- the part is inner definitions whose nesting is within the limit
  from_inner : (limit : NestingLimit) (own remainder : List Token) (ds : DefinitionListView) → WherePhrase text limit own ds remainder →
      (n : ℕ) × SpellsWhere text n own ds × IsNestingWithin limit n
  from_inner None _ remainder _ (no_inner h) = (0, nothing, tt)
  from_inner (Some limit) _ remainder _ (no_inner h) = (0, nothing, omega arith)
  from_inner limit _ remainder _ (some_inner i r) = (r.nesting, definitions i r.several, r.within)

  -- definitions as parts

  -- a definition whose nesting is within the limit is the part
  pub as_definition : {what : DefinitionKind} {n : ℕ} {own : List Token} {d : DefinitionView} (limit : NestingLimit) (remainder : List Token) →
      SpellsDefinition text what n own d → IsNestingWithin limit n → CompleteDefinition text what limit own d remainder
  as_definition {what} limit remainder
      (definition {word = word} {name = name} {colon = colon} {returns = returns} {define = define} {end = end} {gates = gates}
      {body = body} {rest = rest} {formals = formals} {func = func} {o = o} {n = n} {m = m} {x = x} {inner = inner}
      i j g c f k spells ds z) h =
      let after : List Token = end ∷ remainder in
      let header = (name ∷ gates) ++ colon ∷ returns ∷ [] in
      let heading : HeaderValue = (located_name text name, formals, func) in
      let expression : BehaviourPhrase text enabling limit body x (rest ++ after) = record {
        ends = o;
        nesting = n;
        spells = spells;
        quits = rank_none enabling o (rest ++ after) (rest_rank after ds (rank_is remainder z ∙ closing_rank what));
        within = within_first limit n m h;
      } in
      let headed : Headed what limit ((name ∷ gates) ++ colon ∷ returns ∷ define ∷ body) (heading, x) (rest ++ after) = record {
        front = header;
        back = define ∷ body;
        one = heading;
        other = x;
        joined = sym (append_assoc (name ∷ gates) (colon ∷ returns ∷ []) (define ∷ body));
        first = as_header (define ∷ (body ++ (rest ++ after))) j g c f;
        second = after_token _ (BehaviourPhrase text enabling limit) define body (rest ++ after) x k expression;
        same = refl;
      } in
      let parts : HeaderBodyWhere what limit ((name ∷ gates) ++ (colon ∷ returns ∷ define ∷ body) ++ rest)
      (make_definition (heading, x) inner) after =
      record {
        front = (name ∷ gates) ++ colon ∷ returns ∷ define ∷ body;
        back = rest;
        one = (heading, x);
        other = inner;
        joined = refl;
        first = headed;
        second = as_inner limit after ds (within_second limit n m h) (is_first z (closing_row what))
            (is_first z (closing_one what));
        same = refl;
      } in
      after_token (opening_word what) (DefinitionRest text what limit) word
      ((name ∷ gates) ++ (colon ∷ returns ∷ define ∷ body) ++ rest ++ end ∷ []) remainder _ i
      (record {
        front = (name ∷ gates) ++ (colon ∷ returns ∷ define ∷ body) ++ rest;
        back = end ∷ [];
        one = make_definition (heading, x) inner;
        other = end;
        joined = refl;
        first = parts;
        second = record { joined = refl; is = z };
        same = refl;
      })

  -- the part is a definition whose nesting is within the limit
  pub from_definition : {what : DefinitionKind} (limit : NestingLimit) (own remainder : List Token) (d : DefinitionView) →
      CompleteDefinition text what limit own d remainder → (n : ℕ) × SpellsDefinition text what n own d × IsNestingWithin limit n
  from_definition {what} limit own remainder d w =
      let whole = uncover (opening_word what) (DefinitionRest text what limit) own remainder d w in
      let c = whole.within in
      let parts = c.first in
      let f = parts.first in
      let header = from_header f.front _ f.one f.first in
      let body = uncover _ (BehaviourPhrase text enabling limit) f.back _ f.other f.second in
      let inner = from_inner limit parts.back _ parts.other parts.second in
      let gates = header.name ∷ header.gates in
      let mid : List Token = header.colon ∷ header.returns ∷ body.token ∷ body.inner in
      let headed : parts.front ≡ gates ++ mid =
      f.joined ∙ ap (λ m. m ++ f.back) header.tokens
      ∙ ap (λ m. (gates ++ header.colon ∷ header.returns ∷ []) ++ m) body.joined
      ∙ append_assoc gates (header.colon ∷ header.returns ∷ []) (body.token ∷ body.inner) in
      let tokens : own ≡ (whole.token ∷ gates) ++ mid ++ parts.back ++ c.other ∷ [] =
      whole.joined ∙ ap (λ m. whole.token ∷ m)
      (c.joined ∙ ap (λ m. m ++ c.back) (parts.joined ∙ ap (λ m. m ++ parts.back) headed)
      ∙ ap (λ m. ((gates ++ mid) ++ parts.back) ++ m) c.second.joined) in
      let same_value : d ≡ make_definition ((located_name text header.name, header.formals, header.func), f.other) parts.other =
      c.same ∙ parts.same ∙ ap (λ m. make_definition m parts.other) (f.same ∙ ap (λ m. (m, f.other)) header.same) in (
        max body.within.nesting inner.0,
        subst (λ m. SpellsDefinition text what (max body.within.nesting inner.0) m d) (sym tokens)
            (subst (λ m. SpellsDefinition text what (max body.within.nesting inner.0)
            ((whole.token ∷ gates) ++ mid ++ parts.back ++ c.other ∷ []) m) (sym same_value)
            (definition whole.is header.names header.listed header.separates header.declares body.is body.within.spells
            inner.1 c.second.is)),
        within_both limit body.within.nesting inner.0 body.within.within inner.2,
      )

  -- a token list spells one specification, with one nesting
  pub one_specification : (ts : List Token) (n m : ℕ) (x y : DefinitionView) → SpellsSpecification text n ts x → SpellsSpecification text m ts y →
      (x ≡ y) × (n ≡ m)
  one_specification ts n m x y d e = let h = unique_definition [] [] d e refl in (h.tree, h.nesting)
