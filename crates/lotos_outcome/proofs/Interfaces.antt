-- The gates that an interface names, looked up one after the other.
use Rattle.std.proofs.Common.{◌≡◌, ◌++◌, ◌∙◌, ℕ, ◌+◌, List, [], ◌∷◌, Some, ap, drop, inl, inr, map, refl, string_bytes, subst, sym, take}
use Rattle.std.specs.Prelude.{slice_get}
use Rattle.std.specs.Char.{to_ascii_uppercase}
use Rattle.std.proofs.lemmas.List.{map_push, take-append-drop}
use Rattle.lotos_text.proofs.FirstToken.{head_same, tail_same}
use Rattle.lotos_check.specs.NameLists.{In, Name}
use Rattle.lotos_check.proofs.JoinedLists.{in_added}
use Rattle.lotos_pattern.proofs.Words.{drop_at, take_at}
use Rattle.lotos_outcome.specs.Interfaces.{AreGatesOf, IsFirstNoGate, gates_named}
use Rattle.lotos_outcome.specs.declared.refusal.Refusal.{Refusal}
use Rattle.lotos_outcome.specs.RefusalCauses.{IsNameRefusal}
use Rattle.lotos_outcome.specs.RefusalCauses.IsNameRefusal.{no_gate}

module _ (names : List (List ℕ)) (n : ℕ) (name : List ℕ) (at : slice_get names n ≡ Some name) where
  -- the gates of one name more
  pub named_more : gates_named (take (n + 1) names) ≡ gates_named (take n names) ++ map to_ascii_uppercase name ∷ []
  named_more = ap gates_named (take_at names n name at) ∙ map_push (map to_ascii_uppercase) (take n names) name

  -- if all before it are gates, and this one is, all up to it are
  pub known_more : (gates : List Name) → AreGatesOf gates (take n names) → In (map to_ascii_uppercase name) gates → AreGatesOf gates (take (n + 1) names)
  known_more gates known here m i = elim (in_added m (gates_named (take n names)) (map to_ascii_uppercase name) (subst (In m) named_more i)) [
    | inl before ↦ known m before
    | inr same ↦ subst (λ g. In g gates) same here
  ]

  -- if all before it are gates, and this one is none, it is the first that is none
  pub first_no_gate : (gates : List Name) → AreGatesOf gates (take n names) → (In (map to_ascii_uppercase name) gates → ⊥) → IsFirstNoGate gates names name
  first_no_gate gates known none = record {
    before = take n names;
    after = drop (n + 1) names;
    split = sym (take-append-drop n names) ∙ ap (λ rest. take n names ++ rest) (drop_at names n name at);
    known = known;
    no_gate = none;
  }

-- a name alone that is no gate is the first one that is none
pub no_gate_alone : (gates : List Name) (name : List ℕ) → (In (map to_ascii_uppercase name) gates → ⊥) → IsFirstNoGate gates (name ∷ []) name
no_gate_alone gates name none = record { before = []; after = []; split = refl; known = λ n i. absurd i; no_gate = none }

-- and its name is the only one that can be refused
only_name : (gates : List Name) (name given : List ℕ) → IsFirstNoGate gates (name ∷ []) given → (given ≡ name) × (In (map to_ascii_uppercase name) gates → ⊥)
only_name gates name given first = go first.before first.after first.split first.no_gate
  where
    go : (before after : List (List ℕ)) → name ∷ [] ≡ before ++ given ∷ after → (In (map to_ascii_uppercase given) gates → ⊥) →
        (given ≡ name) × (In (map to_ascii_uppercase name) gates → ⊥)
    go [] after same none = let head = sym (head_same same) in (head, subst (λ n. In (map to_ascii_uppercase n) gates → ⊥) head none)
    go (x ∷ before) after same none = absurd (apart before (tail_same same))
      where
        apart : (before : List (List ℕ)) → [] ≡ before ++ given ∷ after → ⊥
        apart [] e = cc
        apart (y ∷ ys) e = cc

-- what is refused of a name is refused of the list, if all before it are gates
pub name_refused : (gates : List Name) (names : List (List ℕ)) (n : ℕ) (name : List ℕ) → slice_get names n ≡ Some name → AreGatesOf gates (take n names) →
    (cause : Refusal) → IsNameRefusal gates (name ∷ []) cause → IsNameRefusal gates names cause
name_refused gates names n name at known _ (no_gate given first) =
    let (same, none) = only_name gates name (string_bytes given) first in
    no_gate given (subst (IsFirstNoGate gates names) (sym same) (first_no_gate names n name at gates known none))
