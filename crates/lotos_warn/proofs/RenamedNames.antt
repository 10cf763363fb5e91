-- What a call makes of the gates of its process.
use Rattle.std.proofs.Common.{◌≡◌, ◌↔◌, ◌⊎◌, List, [], ◌∷◌, map, refl, sym, ◌∙◌, subst, inl, inr}
use Rattle.std.specs.Prelude.{◌≢◌, zip}
use Rattle.lotos_check.specs.NameLists.{Name, In}
use Rattle.lotos_warn.specs.declared.first_labels.FirstLabels.{FirstLabels}
use Rattle.lotos_warn.specs.FirstLabels as c
use Rattle.lotos_warn.specs.FirstLabels.{First, termination, internal, action, Becomes}
use Rattle.lotos_warn.specs.Additions.{Adds}
use Rattle.lotos_warn.specs.LabelSets.{Has, HasExactly, IsMadeOf, IsRenamed}

-- only termination becomes termination
becomes_termination : {pairs : List (Name × Name)} {x : First} → Becomes pairs x termination → x ≡ termination
becomes_termination c.termination_stays = refl
becomes_termination (c.later apart b) = absurd (let same : action _ ≡ termination = becomes_termination b in cc)

-- only the internal action becomes the internal action
becomes_internal : {pairs : List (Name × Name)} {x : First} → Becomes pairs x internal → x ≡ internal
becomes_internal c.internal_stays = refl
becomes_internal (c.later apart b) = absurd (let same : action _ ≡ internal = becomes_internal b in cc)

-- and only an action an action
becomes_action : {pairs : List (Name × Name)} {x : First} {n : Name} → Becomes pairs x (action n) → (g : Name) × (x ≡ action g)
becomes_action (c.stays {g = g}) = (g, refl)
becomes_action (c.at_first {g = g}) = (g, refl)
becomes_action (c.later {g = g} apart b) = (g, refl)

-- without pairs of gates a gate becomes only itself
pub none_becomes : {g n : Name} → Becomes [] (action g) (action n) → g ≡ n
none_becomes c.stays = refl

-- a gate becomes a gate by the first pair if it is the formal one there, and otherwise by the other pairs
pub first_becomes : {pairs : List (Name × Name)} {f a g n : Name} → Becomes ((f, a) ∷ pairs) (action g) (action n) →
    ((f ≡ g) × (a ≡ n)) ⊎ ((f ≢ g) × Becomes pairs (action g) (action n))
first_becomes c.at_first = inl (refl, refl)
first_becomes (c.later apart b) = inr (apart, b)

-- the name is what these pairs make of one of the names that is not seen
abbrev pub IsLeftToRename : (formals actuals seen names : List Name) → Name → Type 0
IsLeftToRename [] actuals seen names n = (In n seen → ⊥) × In n names
IsLeftToRename (f ∷ formals) [] seen names n = (In n seen → ⊥) × In n names
IsLeftToRename (f ∷ formals) (a ∷ actuals) seen names n =
    ((In f seen → ⊥) × In f names × (a ≡ n)) ⊎ IsLeftToRename formals actuals (f ∷ seen) names n

-- the gate becomes the name, and was not seen
record IsSource (pairs : List (Name × Name)) (seen names : List Name) (n : Name) : Type 0 where
  gate : Name
  among : In gate names
  unseen : In gate seen → ⊥
  becomes : Becomes pairs (action gate) (action n)

module _ (names : List Name) (n : Name) where
  -- if a call makes the name of the names, one of them that is not seen becomes the name
  source : (formals actuals seen : List Name) → IsLeftToRename formals actuals seen names n → IsSource (zip formals actuals) seen names n
  source [] actuals seen h = record { gate = n; among = h.1; unseen = h.0; becomes = c.stays }
  source (f ∷ formals) [] seen h = record { gate = n; among = h.1; unseen = h.0; becomes = c.stays }
  source (f ∷ formals) (a ∷ actuals) seen (inl (out, i, e)) =
      record { gate = f; among = i; unseen = out; becomes = subst (λ m. Becomes ((f, a) ∷ zip formals actuals) (action f) (action m)) e c.at_first }
  source (f ∷ formals) (a ∷ actuals) seen (inr h) =
      let s = source formals actuals (f ∷ seen) h in
      record { gate = s.gate; among = s.among; unseen = λ i. s.unseen (inr i); becomes = c.later (λ e. s.unseen (inl e)) s.becomes }

  -- if one of the names that is not seen becomes the name, a call makes the name of the names
  from_source : (formals actuals seen : List Name) (g : Name) → In g names → (In g seen → ⊥) → Becomes (zip formals actuals) (action g) (action n) →
      IsLeftToRename formals actuals seen names n
  from_source [] actuals seen g i out b =
      let e = none_becomes b in (subst (λ m. In m seen → ⊥) e out, subst (λ m. In m names) e i)
  from_source (f ∷ formals) [] seen g i out b =
      let e = none_becomes b in (subst (λ m. In m seen → ⊥) e out, subst (λ m. In m names) e i)
  from_source (f ∷ formals) (a ∷ actuals) seen g i out b = elim (first_becomes b) [
    | inl (e, same) ↦ inl (subst (λ m. In m seen → ⊥) (sym e) out, subst (λ m. In m names) (sym e) i, same)
    | inr (apart, after) ↦ inr (from_source formals actuals (f ∷ seen) g i (λ j. elim j [ inl e ↦ apart e | inr k ↦ out k ]) after)
  ]

  -- what is renamed depends only on what the seen names are
  renamed_as : (formals actuals seen others : List Name) → ((m : Name) → In m seen → In m others) → ((m : Name) → In m others → In m seen) →
      IsLeftToRename formals actuals seen names n → IsLeftToRename formals actuals others names n
  renamed_as [] actuals seen others to from h = ((λ i. h.0 (from n i)), h.1)
  renamed_as (f ∷ formals) [] seen others to from h = ((λ i. h.0 (from n i)), h.1)
  renamed_as (f ∷ formals) (a ∷ actuals) seen others to from (inl h) = inl ((λ i. h.0 (from f i)), h.1, h.2)
  renamed_as (f ∷ formals) (a ∷ actuals) seen others to from (inr h) = inr (renamed_as formals actuals (f ∷ seen) (f ∷ others)
      (λ m i. elim i [ inl e ↦ inl e | inr j ↦ inr (to m j) ]) (λ m i. elim i [ inl e ↦ inl e | inr j ↦ inr (from m j) ]) h)

  -- the first pair of gates
  pub renamed_split : (f a : Name) (formals actuals seen more : List Name) → Adds seen more (λ m. f ≡ m) →
      IsLeftToRename (f ∷ formals) (a ∷ actuals) seen names n
      ↔ (((In f seen → ⊥) × In f names × (a ≡ n)) ⊎ IsLeftToRename formals actuals more names n)
  renamed_split f a formals actuals seen more sees =
      let to : (m : Name) → In m (f ∷ seen) → In m more = λ m i. elim i [ inl e ↦ (sees m).1 (inr e) | inr j ↦ (sees m).1 (inl j) ] in
      let from : (m : Name) → In m more → In m (f ∷ seen) = λ m i. elim ((sees m).0 i) [ inl j ↦ inr j | inr e ↦ inl e ] in (
        (λ h. elim h [ inl k ↦ inl k | inr k ↦ inr (renamed_as formals actuals (f ∷ seen) more to from k) ]),
        (λ h. elim h [ inl k ↦ inl k | inr k ↦ inr (renamed_as formals actuals more (f ∷ seen) from to k) ]),
      )

  -- after the last pair the others are left
  pub renamed_end : (formals actuals seen : List Name) → (formals ≡ []) ⊎ (actuals ≡ []) →
      IsLeftToRename formals actuals seen names n ↔ ((In n seen → ⊥) × In n names)
  renamed_end [] actuals seen none = ((λ h. h), (λ h. h))
  renamed_end (f ∷ formals) [] seen none = ((λ h. h), (λ h. h))
  renamed_end (f ∷ formals) (a ∷ actuals) seen none = absurd (elim none [ inl e ↦ cc | inr e ↦ cc ])

  -- before the first pair none is seen
  pub renamed_all : (formals actuals : List Name) → IsLeftToRename formals actuals [] names n ↔ IsRenamed (zip formals actuals) names n
  renamed_all formals actuals = (
    (λ h. let s = source formals actuals [] h in (s.gate, s.among, s.becomes)),
    (λ (g, among, becomes). from_source formals actuals [] g among (λ i. i) becomes),
  )

-- the labels that a call makes of labels
pub made_exactly : (labels new : FirstLabels) (formals actuals : List Name) → new.terminates ≡ labels.terminates → new.internal ≡ labels.internal →
    ((n : Name) → In n (map (λ k. k.now) new.gates.keys) ↔ IsRenamed (zip formals actuals) (map (λ k. k.now) labels.gates.keys) n) →
    HasExactly new (IsMadeOf labels (zip formals actuals))
made_exactly labels new formals actuals e f gates termination = (
  (λ h. (termination, sym e ∙ h, c.termination_stays)),
  (λ (x, has, b). e ∙ subst (Has labels) (becomes_termination b) has),
)
made_exactly labels new formals actuals e f gates internal = (
  (λ h. (internal, sym f ∙ h, c.internal_stays)),
  (λ (x, has, b). f ∙ subst (Has labels) (becomes_internal b) has),
)
made_exactly labels new formals actuals e f gates (action n) = (
  (λ h. let (g, among, becomes) = (gates n).0 h in (action g, among, becomes)),
  (λ (x, has, b). let (g, same) = becomes_action b in
      (gates n).1 (g, subst (Has labels) same has, subst (λ y. Becomes (zip formals actuals) y (action n)) same b)),
)
