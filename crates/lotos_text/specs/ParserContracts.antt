-- What it means that a parser succeeds or fails on a phrase.
use Rattle.std.specs.Prelude.{◌≡◌, ℕ, ◌≤◌, ◌<◌, true, if◌then◌else◌, List, [], ◌∷◌, ◌++◌, Option, Some, None}
use Rattle.lotos_text.specs.Grammar.{IsOfKind}
use Rattle.lotos_text.specs.ConstructOpenings.{opens_construct, count_openings, is_full_lotos}
use Rattle.lotos_text.specs.declared.fault.TextFault.{TextFault}
use Rattle.lotos_text.specs.declared.fault.TextFault.TheVariants.{E04, E05, E06, E07, E99}
use Rattle.lotos_text.specs.declared.parse_primitives.ParseError.{ParseError}
use Rattle.lotos_text.specs.declared.parse_primitives.ParseError.TheVariants.{Unexpected, TooDeep, Memory}
use Rattle.lotos_text.specs.declared.token.Token.{Token}
use Rattle.lotos_text.specs.declared.token.TokenKind.{TokenKind}

-- a phrase of the grammar: its own tokens, its value, and the tokens after it, before which it is complete
abbrev pub Phrase : Type 0 → Type 1
Phrase A = List Token → A → List Token → Type 0

-- a limit on nesting, or none
abbrev pub NestingLimit : Type 0
NestingLimit = Option ℕ

-- the nesting is at most the limit, if there is one
abbrev pub IsNestingWithin : NestingLimit → ℕ → Type 0
IsNestingWithin None n = Unit {0}
IsNestingWithin (Some limit) n = n ≤ limit

-- the tokens start with the phrase, which is complete before the rest
pub record Parses {A : Type 0} (P : Phrase A) (ts : List Token) (value : A) (rest : List Token) : Type 0 where
  pub front : List Token
  pub joined : ts ≡ front ++ rest
  pub whole : P front value rest

-- the second list starts with the first token of the first, or both are empty
abbrev pub StartsAlike : List Token → List Token → Type 0
StartsAlike [] more = more ≡ []
StartsAlike (t ∷ ts) more = (others : List Token) × (more ≡ t ∷ others)

-- no list that starts with the tokens up to and including the first of the rest starts with the phrase; if the rest is
-- empty, the tokens themselves do not
pub record Fails {A : Type 0} (P : Phrase A) (ts rest : List Token) : Type 0 where
  pub front : List Token
  pub joined : ts ≡ front ++ rest
  pub never : (more tokens after : List Token) (value : A) → StartsAlike rest more → front ++ more ≡ tokens ++ after →
      P tokens value after → ⊥

-- of the tokens up to and including this one, more open a construct than may be open
pub record HasTooManyOpen (nesting_left : ℕ) (ts : List Token) (token : Token) (after : List Token) : Type 0 where
  pub front : List Token
  pub joined : ts ≡ front ++ token ∷ after
  pub many : nesting_left < count_openings (front ++ token ∷ [])

-- the token opens a construct where no more may be open, and no phrase within that nesting starts like this
pub record IsTooDeepAt {A : Type 0} (P : NestingLimit → Phrase A) (nesting_left : ℕ) (ts : List Token)
    (token : Token) : Type 0 where
  pub after : List Token
  pub fails : Fails (P (Some nesting_left)) ts (token ∷ after)
  pub too_many_open : HasTooManyOpen nesting_left ts token after
  pub opens : opens_construct token.kind ≡ true

-- the phrase fails at the unexpected token; the parser has no other error
abbrev pub FailsAtToken : {A : Type 0} → Phrase A → List Token → ParseError → Type 0
FailsAtToken P ts (Unexpected rest) = Fails P ts rest.now
FailsAtToken P ts (TooDeep token) = ⊥
FailsAtToken P ts (Memory e) = ⊥

-- the phrase fails at the unexpected token, or memory ran out
abbrev pub FailsAtAnyNesting : {A : Type 0} → Phrase A → List Token → ParseError → Type 0
FailsAtAnyNesting P ts (Unexpected rest) = Fails P ts rest.now
FailsAtAnyNesting P ts (TooDeep token) = ⊥
FailsAtAnyNesting P ts (Memory e) = Unit {0}

-- the phrase fails at the unexpected token with any nesting, or at the token that is too deep with this much nesting
-- left, or memory ran out
abbrev pub FailsWithin : {A : Type 0} → (NestingLimit → Phrase A) → ℕ → List Token → ParseError → Type 0
FailsWithin P nesting_left ts (Unexpected rest) = Fails (P None) ts rest.now
FailsWithin P nesting_left ts (TooDeep token) = IsTooDeepAt P nesting_left ts token
FailsWithin P nesting_left ts (Memory e) = Unit {0}

-- the first of these tokens is the unexpected one
abbrev pub StopsAt : List Token → ParseError → Type 0
StopsAt ts (Unexpected rest) = rest.now ≡ ts
StopsAt ts (TooDeep token) = ⊥
StopsAt ts (Memory e) = ⊥

-- the list does not start with a token of the kind
abbrev pub DoesNotStartWith : TokenKind → List Token → Type 0
DoesNotStartWith kind [] = Unit {0}
DoesNotStartWith kind (t ∷ ts) = IsOfKind t kind → ⊥

-- the fault at the first of the tokens, or at the end of a text of this length
abbrev pub fault_at : List Token → ℕ → TextFault
fault_at [] length = E06 length
fault_at (t ∷ ts) length = if is_full_lotos t.kind then E07 t.at else E04 t.at

-- the fault of a parse error in a text of this length
abbrev pub fault_of_error : ParseError → ℕ → TextFault
fault_of_error (Unexpected rest) length = fault_at rest.now length
fault_of_error (TooDeep token) length = E05 token.at
fault_of_error (Memory e) length = E99 e
