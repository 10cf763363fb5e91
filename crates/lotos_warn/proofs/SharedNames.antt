-- What is left of two sets of names when those of a list are removed that one of them lacks.
use Rattle.std.proofs.Common.{◌≡◌, ◌↔◌, ◌⊎◌, ℕ, List, [], ◌∷◌, Some, map, refl, sym, ◌∙◌, subst, inl, inr, Bool, true, false, Bor}
use Rattle.std.specs.Prelude.{cond, MatchBool}
use Rattle.std.specs.List.{list_any}
use Rattle.std.specs.Str.{bytes_eq}
use Rattle.std.proofs.lemmas.Slice.Eq.{bytes_eq-Decides}
use Rattle.lotos_check.specs.NameLists.{Name, In}
use Rattle.lotos_check.proofs.NameTests.{in_or_not, name_found, name_missing}
use Rattle.lotos_warn.specs.Additions.{Adds, KeepsShared, LacksName}
use Rattle.lotos_warn.specs.LabelSets.{IsJoint}

-- a name among the keys is found by a test
name_among : (n : Name) (ks : List (Bor (List ℕ))) → In n (map (λ k. k.now) ks) → list_any (λ k. bytes_eq n k.now) ks ≡ true
name_among n ks i = by_test (list_any (λ k. bytes_eq n k.now) ks) refl
  where
    by_test : (there : Bool) → list_any (λ k. bytes_eq n k.now) ks ≡ there → there ≡ true
    by_test true e = refl
    by_test false e = absurd (name_missing (λ k. k.now) n ks e i)

-- the keys after a removal
pub removed_name : (old new : List (Bor (List ℕ))) (n : Name) →
    ((q : Bor (List ℕ)) → list_any (λ k. bytes_eq q.now k.now) new ≡ cond (bytes_eq n q.now) false (list_any (λ k. bytes_eq q.now k.now) old)) →
    LacksName (λ k. k.now) old new n
removed_name old new n updates m = by_test (bytes_eq n m) refl
  where
    at_name : list_any (λ k. bytes_eq m k.now) new ≡ cond (bytes_eq n m) false (list_any (λ k. bytes_eq m k.now) old)
    at_name = updates (record { ref_ptr = (0, 0); now = m })

    by_test : (same : Bool) → bytes_eq n m ≡ same → In m (map (λ k. k.now) new) ↔ (In m (map (λ k. k.now) old) × (n ≡ m → ⊥))
    by_test true e = (
      (λ i. absurd (let f : true ≡ false = sym (name_among m new i) ∙ (rw e at at_name) in cc)),
      (λ h. absurd (h.1 ((bytes_eq-Decides n m).0 e))),
    )
    by_test false e = (
      (λ i. (
        name_found (λ k. k.now) m old (sym (rw e at at_name) ∙ name_among m new i),
        (λ same. let f : true ≡ false = sym ((bytes_eq-Decides n m).1 same) ∙ e in cc),
      )),
      (λ h. name_found (λ k. k.now) m new ((rw e at at_name) ∙ name_among m old h.0)),
    )

-- a test says whether a name is among the keys
pub there_by_test : (ks : List (Bor (List ℕ))) (n name : Name) (there : Bool) → n ≡ name → there ≡ list_any (λ k. bytes_eq n k.now) ks →
    MatchBool there (In name (map (λ k. k.now) ks)) (In name (map (λ k. k.now) ks) → ⊥)
there_by_test ks n name true same e = subst (λ m. In m (map (λ k. k.now) ks)) same (name_found (λ k. k.now) n ks (sym e))
there_by_test ks n name false same e = subst (λ m. In m (map (λ k. k.now) ks) → ⊥) same (name_missing (λ k. k.now) n ks (sym e))

-- the second of two tests, if the first one finds the name
pub second_by_test : (first second : List Name) (name : Name) (there : Bool) → In name first → MatchBool there (In name second) (In name second → ⊥) →
    MatchBool there (In name first × In name second) ((In name first → ⊥) ⊎ (In name second → ⊥))
second_by_test first second name true i h = (i, h)
second_by_test first second name false i h = inr h

-- if the first list lacks the name, a test that is false says rightly that one of the two lists lacks it
pub first_by_test : (first second : List Name) (name : Name) (there : Bool) → there ≡ false → (In name first → ⊥) →
    MatchBool there (In name first × In name second) ((In name first → ⊥) ⊎ (In name second → ⊥))
first_by_test first second name true e out = let wrong : true ≡ false = e in cc
first_by_test first second name false e out = inl out

-- a name that is removed from a set, since that or another set lacks it
module _ (old new other : List Name) (n : Name) where
  -- if the set itself or the other set lacks a name, to remove the name is to remove it if the other lacks it
  pub unshared : ((m : Name) → In m new ↔ (In m old × (n ≡ m → ⊥))) → (In n old → ⊥) ⊎ (In n other → ⊥) → KeepsShared old new other (λ m. n ≡ m)
  unshared lacks none m = (
    (λ i. let h = (lacks m).0 i in (h.0, λ e. absurd (h.1 e))),
    (λ h. (lacks m).1 (
      h.0,
      λ e. elim none [
        | inl out ↦ out (subst (λ m. In m old) (sym e) h.0)
        | inr out ↦ out (subst (λ m. In m other) (sym e) (h.1 e))
      ],
    )),
  )

-- if the other set or the set itself lacks a name, to remove the name is to remove it if the other lacks it
pub unshared_second : (old new other : List Name) (n : Name) → ((m : Name) → In m new ↔ (In m old × (n ≡ m → ⊥))) →
    (In n other → ⊥) ⊎ (In n old → ⊥) → KeepsShared old new other (λ m. n ≡ m)
unshared_second old new other n lacks none = unshared old new other n lacks (elim none [ inl out ↦ inr out | inr out ↦ inl out ])

-- the rest of the list is still to be removed
abbrev pub KeepsRest : List Name → List Name → List Name → List Name → List Name → List Name → Type 0
KeepsRest first now second others rest all = (m : Name) → (In m now × (In m rest → In m others)) ↔ (In m first × (In m all → In m second))

-- at the start all of the list is to be removed
pub rest_start : (first second all : List Name) → KeepsRest first first second second all all
rest_start first second all m = ((λ h. h), (λ h. h))

-- if the first name of the rest is removed from each set when the other lacks it, the other names of the rest are still
-- to be removed
pub rest_next : (first now new second others fewer rest left all : List Name) (n : Name) → rest ≡ n ∷ left →
    KeepsShared now new others (λ m. n ≡ m) → KeepsShared others fewer now (λ m. n ≡ m) →
    KeepsRest first now second others rest all → KeepsRest first new second fewer left all
rest_next first now new second others fewer rest left all n next keeps keeps_others before m =
    let here : (In m now × (In m (n ∷ left) → In m others)) ↔ (In m first × (In m all → In m second)) =
    subst (λ ns. (In m now × (In m ns → In m others)) ↔ (In m first × (In m all → In m second))) next (before m) in (
      (λ h. let k = (keeps m).0 h.0 in here.0 (k.0, λ i. elim i [ inl e ↦ k.1 e | inr j ↦ ((keeps_others m).0 (h.1 j)).0 ])),
      (λ h. let k = here.1 h in (
        (keeps m).1 (k.0, λ e. k.1 (inl e)),
        (λ j. (keeps_others m).1 (k.1 (inr j), λ e. k.0)),
      )),
    )

-- if no name is left, the set is the first one without the names of the list that the second one lacks
pub rest_end : (first now second others rest all : List Name) → rest ≡ [] → KeepsRest first now second others rest all →
    KeepsShared first now second (λ m. In m all)
rest_end first now second others rest all none before m = (
  (λ i. (before m).0 (i, λ j. absurd (subst (λ ns. In m ns) none j))),
  (λ h. ((before m).1 h).0),
)

-- what is left of both
pub joint : (list left right fewer others new : List Name) → KeepsShared left fewer right (λ m. In m list) → KeepsShared right others left (λ m. In m list) →
    Adds fewer new (λ m. In m others) → (n : Name) → In n new ↔ IsJoint (Some list) left right n
joint list left right fewer others new keeps keeps_others adds n = (
  (λ i. elim ((adds n).0 i) [
    | inl j ↦ (let k = (keeps n).0 j in elim (in_or_not n list) [ inl l ↦ inl (l, k.0, k.1 l) | inr out ↦ inr (out, inl k.0) ])
    | inr j ↦ (let k = (keeps_others n).0 j in elim (in_or_not n list) [ inl l ↦ inl (l, k.1 l, k.0) | inr out ↦ inr (out, inr k.0) ])
  ]),
  (λ h. (adds n).1 (elim h [
    | inl (l, i, j) ↦ inl ((keeps n).1 (i, λ _. j))
    | inr (out, inl i) ↦ inl ((keeps n).1 (i, λ l. absurd (out l)))
    | inr (out, inr j) ↦ inr ((keeps_others n).1 (j, λ l. absurd (out l)))
  ])),
)

-- a name that others have is the first of a list, or one of the others in the list
pub shared_split : (others : List Name) (k : Name) (ks : List Name) (n : Name) →
    (In n others × In n (k ∷ ks)) ↔ ((In n others × (k ≡ n)) ⊎ (In n others × In n ks))
shared_split others k ks n = (
  (λ h. elim h.1 [ inl e ↦ inl (h.0, e) | inr i ↦ inr (h.0, i) ]),
  (λ h. elim h [ inl m ↦ (m.0, inl m.1) | inr m ↦ (m.0, inr m.1) ]),
)
