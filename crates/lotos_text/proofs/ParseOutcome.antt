-- What the parser's result says of the whole text, whatever it is to spell.
use Rattle.std.proofs.Common.{◌≡◌, ℕ, ◌≤◌, Bool, true, false, if◌then◌else◌, List, [], ◌∷◌, ◌++◌, length, Some, None, refl, sym, ◌∙◌, ap, append_assoc, subst, arith}
use Rattle.std.proofs.lemmas.List.{append-nil, append_cancel_right}
use Rattle.lotos_text.specs.Lexing.{Lexes, at_byte, at_comment}
use Rattle.lotos_text.specs.Grammar.{Spelling}
use Rattle.lotos_text.specs.ConstructOpenings.{count_openings, is_full_lotos}
use Rattle.lotos_text.specs.ParserContracts.{Phrase, NestingLimit, IsNestingWithin, Parses, Fails, IsTooDeepAt, FailsWithin, StartsAlike, fault_at, fault_of_error}
use Rattle.lotos_text.specs.Limits.{max_text_length, max_nesting}
use Rattle.lotos_text.specs.TextFaults.{IsLexingFault, IsFault, IsE05, SpellsNothing, IsOffsetOfToken}
use Rattle.lotos_text.specs.Spelled.{IsSpelled}
use Rattle.lotos_text.specs.declared.fault.TextFault.{TextFault}
use Rattle.lotos_text.specs.declared.fault.TextFault.TheVariants.{E01, E02, E03, E04, E05, E06, E07, E99}
use Rattle.lotos_text.specs.declared.parse_primitives.ParseError.{ParseError}
use Rattle.lotos_text.specs.declared.parse_primitives.ParseError.TheVariants.{Unexpected, TooDeep, Memory}
use Rattle.lotos_text.specs.declared.token.Token.{Token}
use Rattle.lotos_text.proofs.LexingUnique.{one_cut, sticks_uncut}
use Rattle.lotos_text.proofs.FirstToken.{starts_same}

-- a text that does not lex spells nothing
pub stuck_spells_nothing : {V : Type 0} (Spells : List ℕ → Spelling V) (text : List ℕ) (e : TextFault) → IsLexingFault text e →
    SpellsNothing Spells text e
stuck_spells_nothing Spells text (E01 at) h = λ whole s. sticks_uncut text s.tokens at s.lexes (at_byte h.fails)
stuck_spells_nothing Spells text (E02 at) h = λ whole s. sticks_uncut text s.tokens at s.lexes (at_comment h.fails)
stuck_spells_nothing Spells text E03 h = λ whole s. let short = s.short in omega (arith, h, short)
stuck_spells_nothing Spells text (E04 at) h = absurd h
stuck_spells_nothing Spells text (E05 at) h = absurd h
stuck_spells_nothing Spells text (E06 at) h = absurd h
stuck_spells_nothing Spells text (E07 at) h = absurd h
stuck_spells_nothing Spells text (E99 e) h = tt

-- that each spelling whose nesting is within a limit is the phrase within it, that the phrase is such a spelling, and that a list
-- of tokens spells one thing at most
pub record IsPhraseOf {V : Type 0} (Spells : Spelling V) (P : NestingLimit → Phrase V) : Type 0 where
  pub as_whole : (n : ℕ) (limit : NestingLimit) (ts : List Token) (whole : V) → Spells n ts whole → IsNestingWithin limit n → P limit ts whole []
  pub from_whole : (limit : NestingLimit) (ts : List Token) (whole : V) → P limit ts whole [] → (n : ℕ) × Spells n ts whole × IsNestingWithin limit n
  pub one : (ts : List Token) (n m : ℕ) (whole other : V) → Spells n ts whole → Spells m ts other → whole ≡ other

module _ {V : Type 0} (Spells : List ℕ → Spelling V) (text : List ℕ) (P : NestingLimit → Phrase V) (phrase : IsPhraseOf (Spells text) P)
    (ts : List Token) (short : length text ≤ max_text_length) (cut : Lexes text ts) where
  -- if all tokens parse as a specification, they spell it with a nesting of at most `max_nesting`
  found_specifies : (whole : V) → Parses (P (Some max_nesting)) ts whole [] →
      (n : ℕ) × Spells text n ts whole × (n ≤ max_nesting)
  found_specifies whole f = phrase.from_whole (Some max_nesting) ts whole
      (subst (λ m. P (Some max_nesting) m whole []) (sym (f.joined ∙ append-nil f.front)) f.whole)

  -- the result is what the text spells
  pub found_spelled : (whole : V) → Parses (P (Some max_nesting)) ts whole [] → IsSpelled Spells text whole
  found_spelled whole f =
      let s = found_specifies whole f in
      record { tokens = ts; nesting = s.0; short = short; lexes = cut; spells = s.1; shallow = s.2 }

  -- the result is unique
  pub found_only : (whole other : V) → Parses (P (Some max_nesting)) ts whole [] → IsSpelled Spells text other → other ≡ whole
  found_only whole other f s =
      let found = found_specifies whole f in
      phrase.one ts s.nesting found.0 other whole
      (subst (λ m. Spells text s.nesting m other) (one_cut text s.tokens ts s.lexes cut) s.spells) found.1

  -- if the parser fails, no tokens that start with those up to the first of the rest are a specification within the limit
  never_begun : (limit : NestingLimit) (rest more : List Token) (n : ℕ) (whole : V) (l : Fails (P limit) ts rest) →
      StartsAlike rest more → Spells text n (l.front ++ more) whole → IsNestingWithin limit n → ⊥
  never_begun limit rest more n whole l st s h =
      l.never more (l.front ++ more) [] whole st (sym (append-nil (l.front ++ more)))
      (phrase.as_whole n limit (l.front ++ more) whole s h)

  -- if the parser fails within a limit that allows each nesting up to the greatest, the text spells nothing
  never_spelled : (limit : NestingLimit) (rest : List Token) (whole : V) → Fails (P limit) ts rest →
      ((n : ℕ) → n ≤ max_nesting → IsNestingWithin limit n) → IsSpelled Spells text whole → ⊥
  never_spelled limit rest whole l to s =
      never_begun limit rest rest s.nesting whole l (starts_same rest)
      (subst (λ m. Spells text s.nesting m whole) (one_cut text s.tokens ts s.lexes cut ∙ l.joined) s.spells)
      (to s.nesting s.shallow)

  -- the token is in the text, after those before it
  stands : (before after : List Token) (t : Token) → ts ≡ before ++ t ∷ after → IsOffsetOfToken text t.at before t
  stands before after t e = record { after = after; short = short; lexes = subst (λ m. Lexes text m) e cut; offset = refl }

  -- if the parser fails at a token, the text has the fault E07 or E04 there, as the token is of full LOTOS or not
  token_refused : (after : List Token) (t : Token) → Fails (P None) ts (t ∷ after) → (full : Bool) →
      is_full_lotos t.kind ≡ full → IsFault Spells text (if full then E07 t.at else E04 t.at)
  token_refused after t l true e = record {
    before = l.front;
    token = t;
    located = stands l.front after t l.joined;
    never = λ b. never_begun None (t ∷ after) (t ∷ b.more) b.nesting b.whole l (b.more, refl)
        (subst (λ m. Spells text b.nesting m b.whole) (append_assoc l.front (t ∷ []) b.more) b.spells) tt;
    full = e;
  }
  token_refused after t l false e = record {
    before = l.front;
    token = t;
    located = stands l.front after t l.joined;
    never = λ b. never_begun None (t ∷ after) (t ∷ b.more) b.nesting b.whole l (b.more, refl)
        (subst (λ m. Spells text b.nesting m b.whole) (append_assoc l.front (t ∷ []) b.more) b.spells) tt;
    basic = e;
  }

  -- if the parser fails at a token, with the fault E07 or E04 there, the text spells nothing
  token_nothing : (after : List Token) (t : Token) → Fails (P None) ts (t ∷ after) → (full : Bool) →
      SpellsNothing Spells text (if full then E07 t.at else E04 t.at)
  token_nothing after t l true = λ whole s. never_spelled None (t ∷ after) whole l (λ n h. tt) s
  token_nothing after t l false = λ whole s. never_spelled None (t ∷ after) whole l (λ n h. tt) s

  -- if the parser fails, the text has the fault at the first token of the rest, or at its end
  at_refused : (rest : List Token) → Fails (P None) ts rest → IsFault Spells text (fault_at rest (length text))
  at_refused [] l = record {
    tokens = ts;
    short = short;
    lexes = cut;
    offset = refl;
    never = λ n whole s. never_begun None [] [] n whole l refl (subst (λ m. Spells text n m whole) l.joined s) tt;
  }
  at_refused (t ∷ after) l = token_refused after t l (is_full_lotos t.kind) refl

  -- if the parser fails at a token or at the end, the text spells nothing
  at_nothing : (rest : List Token) → Fails (P None) ts rest → SpellsNothing Spells text (fault_at rest (length text))
  at_nothing [] l = λ whole s. never_spelled None [] whole l (λ n h. tt) s
  at_nothing (t ∷ after) l = token_nothing after t l (is_full_lotos t.kind)

  -- if a token is too deep, the text has the fault E05 there
  deep_refused : (t : Token) → IsTooDeepAt P max_nesting ts t → IsE05 Spells text t.at
  deep_refused t d =
      let l = d.fails in
      let fronts : d.too_many_open.front ≡ l.front =
      append_cancel_right d.too_many_open.front l.front (t ∷ d.after) (sym d.too_many_open.joined ∙ l.joined) in
      record {
        before = l.front;
        token = t;
        located = stands l.front d.after t l.joined;
        never = λ b. never_begun (Some max_nesting) (t ∷ d.after) (t ∷ b.more) b.nesting b.whole l (b.more, refl)
            (subst (λ m. Spells text b.nesting m b.whole) (append_assoc l.front (t ∷ []) b.more) b.spells) b.within;
        opening = d.opens;
        many = (let i = d.too_many_open.many in let j = ap (λ m. count_openings (m ++ t ∷ [])) fronts in omega (arith, i, j));
      }

  -- if a token is too deep, the text spells nothing
  deep_nothing : (t : Token) → IsTooDeepAt P max_nesting ts t → (whole : V) → IsSpelled Spells text whole → ⊥
  deep_nothing t d whole s = never_spelled (Some max_nesting) (t ∷ d.after) whole d.fails (λ n h. h) s

  -- the fault is the one that the tokens give
  pub lost_refused : (stop : ParseError) (e : TextFault) → FailsWithin P max_nesting ts stop → e ≡ fault_of_error stop (length text) →
      IsFault Spells text e
  lost_refused (Unexpected rest) e l h = subst (λ m. IsFault Spells text m) (sym h) (at_refused rest.now l)
  lost_refused (TooDeep token) e l h = subst (λ m. IsFault Spells text m) (sym h) (deep_refused token l)
  lost_refused (Memory x) e l h = subst (λ m. IsFault Spells text m) (sym h) short

  -- unless memory ran out, the text spells nothing
  pub lost_spells_nothing : (stop : ParseError) (e : TextFault) → FailsWithin P max_nesting ts stop →
      e ≡ fault_of_error stop (length text) → SpellsNothing Spells text e
  lost_spells_nothing (Unexpected rest) e l h = subst (λ m. SpellsNothing Spells text m) (sym h) (at_nothing rest.now l)
  lost_spells_nothing (TooDeep token) e l h = subst (λ m. SpellsNothing Spells text m) (sym h) (deep_nothing token l)
  lost_spells_nothing (Memory x) e l h = subst (λ m. SpellsNothing Spells text m) (sym h) tt
