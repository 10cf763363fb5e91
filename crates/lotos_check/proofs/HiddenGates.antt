-- Gates hidden in a system.
use Rattle.std.proofs.Common.{◌≡◌, ◌↔◌, ◌∙◌, ℕ, List, [], ◌∷◌, Bool, true, false, Some, slice_get, sym, subst, ap, refl, inl, inr}
use Rattle.std.specs.Prelude.{filter, not}
use Rattle.std.proofs.Math.Logic.{∥∥₁_map}
use Rattle.std.proofs.lemmas.Fn.{filter_same}
use Rattle.std.specs.List.{list_any}
use Rattle.std.specs.List.Retain.{IsFiltered}
use Rattle.std.specs.Str.{bytes_eq}
use Rattle.lotos_check.specs.NameLists.{Name, In, IsAscendingNames}
use Rattle.lotos_check.specs.Flat.{Flat, System, hide}
use Rattle.lotos_check.specs.Bodies.{IsBodyOf, of_whole, of_process}
use Rattle.lotos_check.specs.Acceptance.{AreRanks}
use Rattle.lotos_check.specs.CheckedInvariant.{IsCheckedSystem}
use Rattle.lotos_check.specs.HiddenGates.{IsWithout, no_name, removes, keeps, IsHiddenIn, HasHidden, as_given, once_more}
use Rattle.lotos_check.proofs.NameTests.{listed, not_listed}
use Rattle.lotos_check.proofs.NameOrder.{one_set}
use Rattle.lotos_check.proofs.FlatSystemUnique.{same_system}

-- a name is among the removed ones, by the test of a slice
abbrev pub is_removed : List Name → Name → Bool
is_removed removed n = list_any (λ m. bytes_eq m n) removed

-- the names that pass when those among the removed ones are filtered out
pub filter_is_without : (removed names : List Name) → IsWithout removed names (filter (λ n. not (is_removed removed n)) names)
filter_is_without removed [] = no_name
filter_is_without removed (n ∷ names) =
    let rest = filter_is_without removed names in
    let by = (λ (b : Bool) (h : is_removed removed n ≡ b). elim b as (λ b. is_removed removed n ≡ b →
    IsWithout removed (n ∷ names) (filter (λ n. not (is_removed removed n)) (n ∷ names))) [
      | true ↦ λ h. rw h (removes (listed n removed h) rest)
      | false ↦ λ h. rw h (keeps (not_listed n removed h) rest)
    ] h) in
    by (is_removed removed n) refl

-- what a closure keeps that tests for the removed ones
pub retain_is_without : {F : Type 0} (R : F → Name → Bool → F → Type 0) (removed : List Name) (f : F) →
    ((n : Name) (b : Bool) (g : F) → R f n b g → (b ≡ not (is_removed removed n)) × (g ≡ f)) → (names left : List Name) →
    IsFiltered R f names left → IsWithout removed names left
retain_is_without R removed f test names left filtered =
    subst (IsWithout removed names) (sym (filter_same R (λ n. not (is_removed removed n)) f test names left filtered)) (filter_is_without removed names)

-- a name that is left was in the list and is not removed
pub in_left : (removed names left : List Name) → IsWithout removed names left → (n : Name) → In n left → In n names × (In n removed → ⊥)
in_left removed names left no_name n i = absurd i
in_left removed names left (removes r rest) n i = let found = in_left removed _ _ rest n i in (inr found.0, found.1)
in_left removed names left (keeps out rest) n (inl e) = (inl e, λ r. out (subst (λ m. In m removed) (sym e) r))
in_left removed names left (keeps out rest) n (inr i) = let found = in_left removed _ _ rest n i in (inr found.0, found.1)

-- a name of the list that is not removed is left
pub left_in : (removed names left : List Name) → IsWithout removed names left → (n : Name) → In n names → (In n removed → ⊥) → In n left
left_in removed names left no_name n i out = i
left_in removed names left (removes r rest) n (inl e) out = absurd (out (subst (λ m. In m removed) e r))
left_in removed names left (removes r rest) n (inr i) out = left_in removed _ _ rest n i out
left_in removed names left (keeps o rest) n (inl e) out = inl e
left_in removed names left (keeps o rest) n (inr i) out = inr (left_in removed _ _ rest n i out)

-- the formal gates of a system with hidden gates are those that are not hidden
pub formals_left : (gates : List Name) (system hidden : System) → IsHiddenIn gates system hidden → (n : Name) →
    In n hidden.formals ↔ (In n system.formals × (In n gates → ⊥))
formals_left gates system hidden is n =
    (in_left gates system.formals hidden.formals is.formals n, λ h. left_in gates system.formals hidden.formals is.formals n h.0 h.1)

-- two lists without the same names of one are the same
one_left : (removed names left other : List Name) → IsWithout removed names left → IsWithout removed names other → left ≡ other
one_left removed names left other no_name no_name = refl
one_left removed names left other (removes r h) (removes q k) = one_left removed _ _ _ h k
one_left removed names left other (removes r h) (keeps out k) = absurd (out r)
one_left removed names left other (keeps out h) (removes r k) = absurd (out r)
one_left removed names left other (keeps {n = n} out h) (keeps o k) = ap (λ ns. n ∷ ns) (one_left removed _ _ _ h k)

-- two systems with the same gates hidden in one are the same
pub one_hidden : (gates : List Name) (system one other : System) → IsHiddenIn gates system one → IsHiddenIn gates system other → one ≡ other
one_hidden gates system one other h k =
    let names : h.names ≡ k.names = one_set h.names k.names h.ascends k.ascends
    (λ n i. (k.same n).1 ((h.same n).0 i)) (λ n i. (h.same n).1 ((k.same n).0 i)) in
    let starts : one.start ≡ other.start = h.start ∙ ap (λ ns. hide ns system.start) names ∙ sym k.start in
    same_system one.formals other.formals one.start other.start one.processes other.processes
    (one_left gates system.formals one.formals other.formals h.formals k.formals) starts (h.processes ∙ sym k.processes)

-- the processes stay the same
pub same_processes : (flat system : System) → HasHidden flat system → system.processes ≡ flat.processes
same_processes flat system as_given = refl
same_processes flat system (once_more {system = between} h hidden) = hidden.processes ∙ same_processes flat between h

-- what holds of a behaviour, and then of each that hides gates in it, holds after gates are hidden if it does before
pub of_start : (P : Flat → Type 0) (flat system : System) → HasHidden flat system →
    ((names : List Name) (b : Flat) → IsAscendingNames names → P b → P (hide names b)) → P flat.start → P system.start
of_start P flat system as_given under p = p
of_start P flat system (once_more {system = between} h hidden) under p =
    subst P (sym hidden.start) (under hidden.names between.start hidden.ascends (of_start P flat between h under p))

-- the same of the bodies of the processes too
pub of_bodies : (P : Flat → Type 0) (flat system : System) → HasHidden flat system →
    ((names : List Name) (b : Flat) → IsAscendingNames names → P b → P (hide names b)) → ((c : Flat) → IsBodyOf flat c → P c) → (c : Flat) →
    IsBodyOf system c → P c
of_bodies P flat system h under all c of_whole = of_start P flat system h under (all flat.start of_whole)
of_bodies P flat system h under all c (of_process p process at_) =
    all process.body (of_process p process (subst (λ ps. slice_get ps p ≡ Some process) (same_processes flat system h) at_))

-- a system with more gates hidden is checked if the one before is
pub hidden_more : (gates : List Name) (system hidden : System) (ranks : List ℕ) → ∥ IsCheckedSystem system ranks ∥₁ → IsHiddenIn gates system hidden →
    ∥ IsCheckedSystem hidden ranks ∥₁
hidden_more gates system hidden ranks kept more = ∥∥₁_map kept (λ h. record {
  whole = h.whole;
  flat = h.flat;
  accepted = h.accepted;
  hides = once_more h.hides more;
  ranked = subst (λ ps. AreRanks ps ranks) (sym more.processes) h.ranked;
})
