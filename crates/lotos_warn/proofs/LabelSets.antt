-- The labels of behaviours, from those of their parts.
use Rattle.std.proofs.Common.{◌≡◌, ◌↔◌, ◌⊎◌, ◌&&◌, ◌||◌, ℕ, List, [], ◌∷◌, Option, Some, None, map, length, slice_get, refl, sym, ap, ◌∙◌, subst, inl, inr, Bool, true, false, Bor}
use Rattle.std.specs.Prelude.{MatchBool, not, zip}
use Rattle.std.proofs.lemmas.List.{nil_from_length}
use Rattle.lotos_check.specs.Flat.{FlatProcess}
use Rattle.lotos_check.proofs.ListIndices.{one_item}
use Rattle.lotos_check.specs.NameLists.{Name, In}
use Rattle.lotos_check.proofs.NameTests.{in_or_not}
use Rattle.lotos_warn.specs.declared.first_labels.FirstLabels.{FirstLabels}
use Rattle.lotos_warn.specs.FirstLabels.{First, termination, internal, action, Becomes}
use Rattle.lotos_warn.specs.Additions.{Adds, LacksName}
use Rattle.lotos_warn.specs.LabelSets.{Has, HasExactly, IsBare, IsComposed, IsEnabled, IsHidden, IsJoint, IsMadeOf, IsOfAction, IsOfCall}
use Rattle.lotos_warn.proofs.ExitingNumbers.{one_true, both_true, first_true, second_true, all_true, both_ways}

-- labels without gates
pub bare_exactly : (new : FirstLabels) (terminates moves : Bool) → new.terminates ≡ terminates → new.internal ≡ moves → new.gates.keys ≡ [] →
    HasExactly new (IsBare terminates moves)
bare_exactly new terminates moves e f none termination = ((λ h. sym e ∙ h), (λ h. e ∙ h))
bare_exactly new terminates moves e f none internal = ((λ h. sym f ∙ h), (λ h. f ∙ h))
bare_exactly new terminates moves e f none (action n) =
    ((λ i. subst (λ ks. In n (map (λ k. k.now) ks)) none i), (λ h. absurd h))

-- no labels, the labels of `exit`, and that of an internal prefix
bare_none : (x : First) → IsBare false false x → ⊥
bare_none termination e = let wrong : false ≡ true = e in cc
bare_none internal e = let wrong : false ≡ true = e in cc
bare_none (action n) h = h

-- if no label has the property, an empty set of labels is exactly that of the labels with it
pub none_exactly : (new : FirstLabels) (P : First → Type 0) → ((x : First) → P x → ⊥) → HasExactly new (IsBare false false) → HasExactly new P
none_exactly new P none exact x = ((λ h. absurd (bare_none x ((exact x).0 h))), (λ p. absurd (none x p)))

-- labels with termination, but without the internal one and without actions, are termination alone
termination_alone : (x : First) → IsBare true false x ↔ (x ≡ termination)
termination_alone termination = ((λ h. refl), (λ e. refl))
termination_alone internal = ((λ e. let wrong : false ≡ true = e in cc), (λ e. cc))
termination_alone (action n) = ((λ h. absurd h), (λ e. cc))

-- if the labels have termination, but not the internal one and no actions, they are exactly termination
pub termination_exactly : (new : FirstLabels) → HasExactly new (IsBare true false) → HasExactly new (λ x. x ≡ termination)
termination_exactly new exact x = both_ways (exact x) (termination_alone x)

-- labels with the internal one, but without termination and without actions, are the label of an internal prefix
internal_alone : (x : First) → IsBare false true x ↔ IsOfAction None x
internal_alone termination = ((λ e. let wrong : false ≡ true = e in cc), (λ h. absurd h))
internal_alone internal = ((λ h. tt), (λ h. refl))
internal_alone (action n) = ((λ h. h), (λ h. h))

-- if the labels have the internal one, but not termination and no actions, they are exactly that of an internal prefix
pub internal_exactly : (new : FirstLabels) → HasExactly new (IsBare false true) → HasExactly new (IsOfAction None)
internal_exactly new exact x = both_ways (exact x) (internal_alone x)

-- the label of a prefix with a gate
pub gate_exactly : (new : FirstLabels) (gate : Name) → new.terminates ≡ false → new.internal ≡ false →
    ((n : Name) → In n (map (λ k. k.now) new.gates.keys) ↔ (gate ≡ n)) → HasExactly new (IsOfAction (Some gate))
gate_exactly new gate e f gates termination = ((λ h. let wrong : true ≡ false = sym h ∙ e in cc), (λ h. absurd h))
gate_exactly new gate e f gates internal = ((λ h. let wrong : true ≡ false = sym h ∙ f in cc), (λ h. absurd h))
gate_exactly new gate e f gates (action n) = gates n

-- whether there are labels
none_by_test : (labels : FirstLabels) (none : Bool) → labels.terminates ≡ false → labels.internal ≡ false →
    (none ≡ true) ↔ (length labels.gates.keys ≡ 0) → MatchBool none ((x : First) → Has labels x → ⊥) ((x : First) × Has labels x)
none_by_test labels true e f empty = at_label
  where
    at_label : (x : First) → Has labels x → ⊥
    at_label termination h = let wrong : true ≡ false = sym h ∙ e in cc
    at_label internal h = let wrong : true ≡ false = sym h ∙ f in cc
    at_label (action n) i = subst (λ ks. In n (map (λ k. k.now) ks)) (nil_from_length labels.gates.keys (empty.0 refl)) i
none_by_test labels false e f empty = from_key labels.gates.keys refl
  where
    from_key : (ks : List (Bor (List ℕ))) → labels.gates.keys ≡ ks → (x : First) × Has labels x
    from_key [] same = absurd (let wrong : false ≡ true = empty.1 (ap length same) in cc)
    from_key (k ∷ ks) same = (action k.now, subst (λ ys. In k.now (map (λ k. k.now) ys)) (sym same) (inl refl))

-- there is no label if there is neither termination nor the internal one nor a gate, and otherwise there is one
pub none_at_all : (labels : FirstLabels) (none : Bool) → (none ≡ true) ↔ (length labels.gates.keys ≡ 0) →
    MatchBool (not (labels.terminates || labels.internal) && none) ((x : First) → Has labels x → ⊥) ((x : First) × Has labels x)
none_at_all labels none empty = by_parts labels.terminates labels.internal refl refl
  where
    by_parts : (t i : Bool) → labels.terminates ≡ t → labels.internal ≡ i →
        MatchBool (not (t || i) && none) ((x : First) → Has labels x → ⊥) ((x : First) × Has labels x)
    by_parts true i e f = (termination, e)
    by_parts false true e f = (internal, f)
    by_parts false false e f = none_by_test labels none e f empty

-- the labels by what those of the parts are
module _ (left right new : FirstLabels) (P Q : First → Type 0) (is_left : HasExactly left P) (is_right : HasExactly right Q) where
  -- if the new labels are those of the left part and those of the right, they are those with `P` and those with `Q`
  pub either_as : HasExactly new (λ x. Has left x ⊎ Has right x) → HasExactly new (λ x. P x ⊎ Q x)
  either_as exact x = (
    (λ h. elim ((exact x).0 h) [ inl i ↦ inl ((is_left x).0 i) | inr i ↦ inr ((is_right x).0 i) ]),
    (λ h. (exact x).1 (elim h [ inl p ↦ inl ((is_left x).1 p) | inr q ↦ inr ((is_right x).1 q) ])),
  )

  -- if the new labels are those of a composition of the parts' labels, they are those of a composition of `P` and `Q`
  pub composed_as : (sync : Option (List Name)) → HasExactly new (IsComposed sync (Has left) (Has right)) → HasExactly new (IsComposed sync P Q)
  composed_as sync exact x = (
    (λ h. elim ((exact x).0 h) [
      | inl (both, i, j) ↦ inl (both, (is_left x).0 i, (is_right x).0 j)
      | inr (alone, inl i) ↦ inr (alone, inl ((is_left x).0 i))
      | inr (alone, inr j) ↦ inr (alone, inr ((is_right x).0 j))
    ]),
    (λ h. (exact x).1 (elim h [
      | inl (both, i, j) ↦ inl (both, (is_left x).1 i, (is_right x).1 j)
      | inr (alone, inl i) ↦ inr (alone, inl ((is_left x).1 i))
      | inr (alone, inr j) ↦ inr (alone, inr ((is_right x).1 j))
    ])),
  )

-- the labels of one behaviour or the other
pub either_exactly : (left right new : FirstLabels) → new.terminates ≡ (left.terminates || right.terminates) →
    new.internal ≡ (left.internal || right.internal) →
    Adds (map (λ k. k.now) left.gates.keys) (map (λ k. k.now) new.gates.keys) (λ n. In n (map (λ k. k.now) right.gates.keys)) →
    HasExactly new (λ x. Has left x ⊎ Has right x)
either_exactly left right new e f gates termination = (
  (λ h. one_true left.terminates right.terminates (sym e ∙ h)),
  (λ h. e ∙ elim h [ inl t ↦ first_true left.terminates right.terminates t | inr t ↦ second_true left.terminates right.terminates t ]),
)
either_exactly left right new e f gates internal = (
  (λ h. one_true left.internal right.internal (sym f ∙ h)),
  (λ h. f ∙ elim h [ inl t ↦ first_true left.internal right.internal t | inr t ↦ second_true left.internal right.internal t ]),
)
either_exactly left right new e f gates (action n) = gates n

-- the gates of a parallel composition
composed_gate : (sync : Option (List Name)) (left right : FirstLabels) (n : Name) →
    IsJoint sync (map (λ k. k.now) left.gates.keys) (map (λ k. k.now) right.gates.keys) n ↔ IsComposed sync (Has left) (Has right) (action n)
composed_gate None left right n = ((λ h. inl (tt, h.0, h.1)), (λ h. elim h [ inl k ↦ (k.1, k.2) | inr k ↦ absurd (k.0 tt) ]))
composed_gate (Some list) left right n = ((λ h. h), (λ h. h))

-- the labels of a parallel composition
pub composed_exactly : (sync : Option (List Name)) (left right new : FirstLabels) → new.terminates ≡ (left.terminates && right.terminates) →
    new.internal ≡ (left.internal || right.internal) →
    ((n : Name) → In n (map (λ k. k.now) new.gates.keys) ↔ IsJoint sync (map (λ k. k.now) left.gates.keys) (map (λ k. k.now) right.gates.keys) n) →
    HasExactly new (IsComposed sync (Has left) (Has right))
composed_exactly sync left right new e f gates termination = (
  (λ h. let both = both_true left.terminates right.terminates (sym e ∙ h) in inl (tt, both.0, both.1)),
  (λ h. elim h [
    | inl (both, l, r) ↦ e ∙ all_true left.terminates right.terminates l r
    | inr (alone, k) ↦ absurd (alone tt)
  ]),
)
composed_exactly sync left right new e f gates internal = (
  (λ h. inr ((λ i. i), one_true left.internal right.internal (sym f ∙ h))),
  (λ h. elim h [
    | inl (both, l, r) ↦ absurd both
    | inr (alone, k) ↦ f ∙ elim k [ inl t ↦ first_true left.internal right.internal t | inr t ↦ second_true left.internal right.internal t ]
  ]),
)
composed_exactly sync left right new e f gates (action n) = both_ways (gates n) (composed_gate sync left right n)

-- the labels of `>>`
pub enabled_exactly : (left new : FirstLabels) → new.terminates ≡ false → new.internal ≡ (left.internal || left.terminates) → new.gates ≡ left.gates →
    HasExactly new (IsEnabled (Has left))
enabled_exactly left new e f g termination = ((λ h. let wrong : true ≡ false = sym h ∙ e in cc), (λ h. absurd h))
enabled_exactly left new e f g internal = (
  (λ h. one_true left.internal left.terminates (sym f ∙ h)),
  (λ h. f ∙ elim h [ inl t ↦ first_true left.internal left.terminates t | inr t ↦ second_true left.internal left.terminates t ]),
)
enabled_exactly left new e f g (action n) =
    subst (λ s. In n (map (λ k. k.now) s.keys) ↔ In n (map (λ k. k.now) left.gates.keys)) (sym g) ((λ h. h), (λ h. h))

-- the labels of a hiding with one more gate
hidden_more : (gate : Name) (rest : List Name) (inside : First → Type 0) (x : First) →
    IsHidden (gate ∷ rest) inside x ↔ IsHidden rest (IsHidden (gate ∷ []) inside) x
hidden_more gate rest inside termination = ((λ h. h), (λ h. h))
hidden_more gate rest inside internal = (
  (λ h. elim h [
    | inl i ↦ inl (inl i)
    | inr (n, inl e, j) ↦ inl (inr (n, inl e, j))
    | inr (n, inr i, j) ↦ elim (in_or_not n (gate ∷ [])) [ inl k ↦ inl (inr (n, k, j)) | inr out ↦ inr (n, i, (out, j)) ]
  ]),
  (λ h. elim h [
    | inl (inl i) ↦ inl i
    | inl (inr (n, inl e, j)) ↦ inr (n, inl e, j)
    | inl (inr (n, inr none, j)) ↦ absurd none
    | inr (n, i, (out, j)) ↦ inr (n, inr i, j)
  ]),
)
hidden_more gate rest inside (action n) = (
  (λ h. ((λ i. h.0 (inr i)), ((λ i. elim i [ inl e ↦ h.0 (inl e) | inr none ↦ none ]), h.1))),
  (λ h. ((λ i. elim i [ inl e ↦ h.1.0 (inl e) | inr j ↦ h.0 j ]), h.1.1)),
)

-- if one property of labels implies another, so do the properties that hiding the gates makes of them
hidden_as : (gates : List Name) (P Q : First → Type 0) → ((x : First) → P x → Q x) → (x : First) → IsHidden gates P x → IsHidden gates Q x
hidden_as gates P Q same termination h = same termination h
hidden_as gates P Q same internal h = elim h [ inl i ↦ inl (same internal i) | inr (n, i, j) ↦ inr (n, i, same (action n) j) ]
hidden_as gates P Q same (action n) h = (h.0, same (action n) h.1)

-- a gate of the list is hidden
pub hidden_next : (inside now new : FirstLabels) (all rest left : List Name) (gate : Name) → rest ≡ gate ∷ left →
    HasExactly new (IsHidden (gate ∷ []) (Has now)) → ((x : First) → IsHidden rest (Has now) x ↔ IsHidden all (Has inside) x) →
    (x : First) → IsHidden left (Has new) x ↔ IsHidden all (Has inside) x
hidden_next inside now new all rest left gate next hides before x =
    let here : IsHidden (gate ∷ left) (Has now) x ↔ IsHidden all (Has inside) x =
    subst (λ gs. IsHidden gs (Has now) x ↔ IsHidden all (Has inside) x) next (before x) in (
      (λ h. here.0 ((hidden_more gate left (Has now) x).1 (hidden_as left (Has new) (IsHidden (gate ∷ []) (Has now)) (λ y. (hides y).0) x h))),
      (λ h. hidden_as left (IsHidden (gate ∷ []) (Has now)) (Has new) (λ y. (hides y).1) x ((hidden_more gate left (Has now) x).0 (here.1 h))),
    )

-- all are hidden
pub hidden_end : (labels : FirstLabels) (x : First) → Has labels x ↔ IsHidden [] (Has labels) x
hidden_end labels termination = ((λ h. h), (λ h. h))
hidden_end labels internal = ((λ h. inl h), (λ h. elim h [ inl i ↦ i | inr (n, none, j) ↦ absurd none ]))
hidden_end labels (action n) = ((λ h. ((λ i. i), h)), (λ h. h.1))

-- the labels after one gate is hidden, which was there or not
pub hides_exactly : (old new : FirstLabels) (gate : Name) (there : Bool) → new.terminates ≡ old.terminates → new.internal ≡ (old.internal || there) →
    LacksName (λ k. k.now) old.gates.keys new.gates.keys gate →
    MatchBool there (In gate (map (λ k. k.now) old.gates.keys)) (In gate (map (λ k. k.now) old.gates.keys) → ⊥) →
    HasExactly new (IsHidden (gate ∷ []) (Has old))
hides_exactly old new gate there e f lacks found termination = ((λ h. sym e ∙ h), (λ h. e ∙ h))
hides_exactly old new gate true e f lacks found internal =
    ((λ h. inr (gate, inl refl, found)), (λ h. f ∙ second_true old.internal true refl))
hides_exactly old new gate false e f lacks missing internal = (
  (λ h. elim (one_true old.internal false (sym f ∙ h)) [ inl i ↦ inl i | inr t ↦ absurd (let wrong : false ≡ true = t in cc) ]),
  (λ h. elim h [
    | inl i ↦ f ∙ first_true old.internal false i
    | inr (n, inl same, j) ↦ absurd (missing (subst (λ m. In m (map (λ k. k.now) old.gates.keys)) (sym same) j))
    | inr (n, inr none, j) ↦ absurd none
  ]),
)
hides_exactly old new gate there e f lacks found (action n) = (
  (λ h. let k = (lacks n).0 h in ((λ i. elim i [ inl same ↦ k.1 same | inr none ↦ none ]), k.0)),
  (λ h. (lacks n).1 (h.1, λ same. h.0 (inl same))),
)

-- if the labels inside are those with a property, hiding the gates makes the same labels of them as of the property
pub hidden_as_inside : (inside new : FirstLabels) (P : First → Type 0) (gates : List Name) → HasExactly inside P →
    HasExactly new (IsHidden gates (Has inside)) →
    HasExactly new (IsHidden gates P)
hidden_as_inside inside new P gates is_inside exact x = (
  (λ h. hidden_as gates (Has inside) P (λ y. (is_inside y).0) x ((exact x).0 h)),
  (λ h. (exact x).1 (hidden_as gates P (Has inside) (λ y. (is_inside y).1) x h)),
)

-- if one property of labels implies another, so do the properties that `>>` makes of them
enabled_by : (P Q : First → Type 0) → ((x : First) → P x → Q x) → (x : First) → IsEnabled P x → IsEnabled Q x
enabled_by P Q same termination h = h
enabled_by P Q same internal h = elim h [ inl i ↦ inl (same internal i) | inr i ↦ inr (same termination i) ]
enabled_by P Q same (action n) h = same (action n) h

-- if the labels of the left side are those with a property, `>>` makes the same labels of them as of the property
pub enabled_as : (left new : FirstLabels) (P : First → Type 0) → HasExactly left P → HasExactly new (IsEnabled (Has left)) → HasExactly new (IsEnabled P)
enabled_as left new P is_left exact x = (
  (λ h. enabled_by (Has left) P (λ y. (is_left y).0) x ((exact x).0 h)),
  (λ h. (exact x).1 (enabled_by P (Has left) (λ y. (is_left y).1) x h)),
)

-- what a call of a process makes of the labels that are known of it
pub call_exactly : (processes : List FlatProcess) (known : List FirstLabels) (k : ℕ) (gates : List Name) (process : FlatProcess) (labels new : FirstLabels) →
    slice_get processes k ≡ Some process → slice_get known k ≡ Some labels → HasExactly new (IsMadeOf labels (zip process.formals gates)) →
    HasExactly new (IsOfCall processes known k gates)
call_exactly processes known k gates process labels new located kept exact y = (
  (λ h. let (x, has, becomes) = (exact y).0 h in
      record { process = process; located = located; labels = labels; kept = kept; x = x; has = has; becomes = becomes }),
  (λ h. (exact y).1 (
    h.x,
    subst (λ l. Has l h.x) (one_item known k h.labels labels h.kept kept) h.has,
    subst (λ (p : FlatProcess). Becomes (zip p.formals gates) h.x y) (one_item processes k h.process process h.located located) h.becomes,
  )),
)
