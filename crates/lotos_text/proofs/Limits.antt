-- Limits on nesting, inside a construct and outside, and the tokens that open constructs.
use Rattle.std.proofs.Common.{◌≡◌, ℕ, ◌+◌, ◌-◌, ◌≤◌, true, cond, List, [], ◌∷◌, ◌++◌, Some, None, ap, ◌∙◌, arith}
use Rattle.std.proofs.lemmas.Bool.{cond-true}
use Rattle.std.proofs.lemmas.List.Sums.{sum_by-append, sum_by-cons}
use Rattle.lotos_text.specs.Grammar.{IsOfKind}
use Rattle.lotos_text.specs.ConstructOpenings.{opens_construct, count_openings}
use Rattle.lotos_text.specs.ParserContracts.{NestingLimit, IsNestingWithin, HasTooManyOpen}
use Rattle.lotos_text.specs.declared.token.Token.{Token}
use Rattle.lotos_text.specs.declared.token.TokenKind.{TokenKind}

-- the limit inside one more construct
abbrev pub inside : NestingLimit → NestingLimit
inside None = None
inside (Some nesting_left) = Some (nesting_left - 1)

-- a construct within the limit leaves its inner part within the limit inside
pub within_inside : (limit : NestingLimit) (n m : ℕ) → m ≡ n + 1 → IsNestingWithin limit m → IsNestingWithin (inside limit) n
within_inside None n m e h = tt
within_inside (Some nesting_left) n m e h = omega (arith, e, h)

-- each limit allows no nesting
pub within_none : (limit : NestingLimit) → IsNestingWithin limit 0
within_none None = tt
within_none (Some nesting_left) = omega arith

-- a limit allows what is nested less
pub within_less : (limit : NestingLimit) (n m : ℕ) → n ≤ m → IsNestingWithin limit m → IsNestingWithin limit n
within_less None n m e h = tt
within_less (Some nesting_left) n m e h = omega (arith, e, h)

-- a token of a kind that opens a construct opens one
pub opens_is : {n : Token} {k : TokenKind} → IsOfKind n k → opens_construct k ≡ true → opens_construct n.kind ≡ true
opens_is i e = ap opens_construct i.same ∙ e

-- among tokens with such a one, one at least opens a construct
pub opens_among : (before after : List Token) (n : Token) → opens_construct n.kind ≡ true → 1 ≤ count_openings (before ++ n ∷ after)
opens_among before after n h =
    let e = sum_by-append (λ (t : Token). cond (opens_construct t.kind) 1 0) before (n ∷ after) in
    let f = sum_by-cons (λ (t : Token). cond (opens_construct t.kind) 1 0) n after in
    let g = cond-true {A = ℕ} (opens_construct n.kind) 1 0 h in
    omega (arith, e, f, g)

-- with no nesting left, a token that opens a construct is too deep
pub crowded_here : (ts front after : List Token) (n : Token) (nesting_left : ℕ) → ts ≡ front ++ n ∷ after → nesting_left ≡ 0 →
    opens_construct n.kind ≡ true → HasTooManyOpen nesting_left ts n after
crowded_here ts front after n nesting_left e h i = record {
  front = front;
  joined = e;
  many = (let k = opens_among front [] n i in omega (arith, h, k));
}
