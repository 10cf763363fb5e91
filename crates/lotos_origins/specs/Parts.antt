-- The parts of terms whose steps make steps of the term.
use Rattle.std.specs.Prelude.{◌≡◌, ◌<◌, ℕ, List, Option, Some, None, slice_get}
use Rattle.lotos_store.specs.Terms.{Term, stop, exit, prefix, choice, par, hide, enable, disable, call, relabel}

-- the left operand, or the body, of a term that a step of it leaves in its place
abbrev pub first_part_of : Term → Option Term
first_part_of stop = None
first_part_of exit = None
first_part_of (prefix a b) = None
first_part_of (choice l r) = None
first_part_of (par l s r) = Some l
first_part_of (hide gates b) = Some b
first_part_of (enable l r) = Some l
first_part_of (disable l r) = Some l
first_part_of (call p gates) = None
first_part_of (relabel m b) = Some b

-- the right operand of a parallel composition
abbrev pub second_part_of : Term → Option Term
second_part_of stop = None
second_part_of exit = None
second_part_of (prefix a b) = None
second_part_of (choice l r) = None
second_part_of (par l s r) = Some r
second_part_of (hide gates b) = None
second_part_of (enable l r) = None
second_part_of (disable l r) = None
second_part_of (call p gates) = None
second_part_of (relabel m b) = None

-- the term has this number, which is smaller than the other one
abbrev pub IsPart : List Term → ℕ → Term → ℕ → Type 0
IsPart terms number t k = (k < number) × (slice_get terms k ≡ Some t)
