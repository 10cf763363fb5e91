-- The segments of an element that start with a label.
use Rattle.std.proofs.Common.{◌≡◌, Bool, List, [], ◌∷◌, ◌++◌, refl, ap, subst}
use Rattle.std.specs.Prelude.{All}
use Rattle.std.proofs.lemmas.List.Elements.{All-head, All-tail, All-cons, All-nil}
use Rattle.lotos_pattern.specs.PatternLabels.{Label}
use Rattle.lotos_pattern.specs.Patterns.{Element, IsIn, IsObservable, LabelSet, Segment, one, others, refuses, until, until_refuses, while}
use Rattle.lotos_pattern.specs.Spelling.{Spelling, Text, WideSetSpelling, all, end, one_of, some, until_end, until_set, while_set}
use Rattle.lotos_pattern.specs.ElementView.{CanOccur}
use Rattle.lotos_pattern.specs.Transitions.{IsTransition}
use Rattle.lotos_pattern.specs.declared.element.Transition.TheVariants.{Reject, Advance, Stay}
use Rattle.lotos_pattern.proofs.LabelNames.{some_label, some_other_label}

-- the label is outside of the set
abbrev IsOutside : LabelSet → Label → Type 0
IsOutside set l = IsIn l set → ⊥

module _ (set : LabelSet) (l : Label) where
  -- a label of the set has the transition `Advance` at the element `one set`
  pub one_passes : IsIn l set → IsTransition (one set) l Advance
  unfolding IsTransition
  one_passes has s = (λ (x, is, e). let none : s ≡ [] = cc in none, λ e. (l, has, ap (λ rest. l ∷ rest) e))

  -- a label outside of the set has the transition `Reject` at the element `one set`
  pub one_fails : (IsIn l set → ⊥) → IsTransition (one set) l Reject
  unfolding IsTransition
  one_fails none s (x, is, e) = let same : x ≡ l = cc in none (subst (λ v. IsIn v set) same is)

  -- if the first label of a sequence is in the set, and all but the last are outside of it, no label follows the first
  until_ends : (s before : List Label) (x : Label) → IsIn l set → All (IsOutside set) before → l ∷ s ≡ before ++ x ∷ [] → s ≡ []
  until_ends s [] x has h e = cc
  until_ends s (y ∷ before) x has h e = absurd (let same : l ≡ y = cc in All-head (IsOutside set) y before h (subst (λ v. IsIn v set) same has))

  -- if a segment of `until set` begins with a label outside of the set, the rest of it is a segment too
  until_goes_on : (s before : List Label) (x : Label) → (IsIn l set → ⊥) → All (IsOutside set) before → IsIn x set → l ∷ s ≡ before ++ x ∷ [] →
      Segment (until set) s
  until_goes_on s [] x none h is e = absurd (let same : x ≡ l = cc in none (subst (λ v. IsIn v set) same is))
  until_goes_on s (y ∷ before) x none h is e = (before, x, All-tail (IsOutside set) y before h, is, let rest : s ≡ before ++ x ∷ [] = cc in rest)

  -- a label of the set has the transition `Advance` at the element `until set`
  pub until_passes : IsIn l set → IsTransition (until set) l Advance
  unfolding IsTransition
  until_passes has s = (
    λ (before, x, h, is, e). until_ends s before x has h e,
    λ e. ([], l, All-nil (IsOutside set), has, ap (λ rest. l ∷ rest) e),
  )

  -- a label outside of the set has the transition `Stay` at the element `until set`
  pub until_stays : (IsIn l set → ⊥) → IsTransition (until set) l Stay
  unfolding IsTransition
  until_stays none s = (
    λ (before, x, h, is, e). until_goes_on s before x none h is e,
    λ (before, x, h, is, e). (l ∷ before, x, All-cons (IsOutside set) l before none h, is, ap (λ rest. l ∷ rest) e),
  )

  -- a label of the set has the transition `Stay` at the element `while set`
  pub while_stays : IsIn l set → IsTransition (while set) l Stay
  unfolding IsTransition
  while_stays has s = (λ h. All-tail (λ v. IsIn v set) l s h, λ h. All-cons (λ v. IsIn v set) l s has h)

  -- a label outside of the set has the transition `Reject` at the element `while set`
  pub while_fails : (IsIn l set → ⊥) → IsTransition (while set) l Reject
  unfolding IsTransition
  while_fails none s h = none (All-head (λ v. IsIn v set) l s h)

-- every label has the transition `Reject` at the element `refuses set`
pub refuses_fails : (set : LabelSet) (l : Label) → IsTransition (refuses set) l Reject
unfolding IsTransition
refuses_fails set l s e = cc

-- every label has the transition `Stay` at the element `until_refuses set`
pub until_refuses_stays : (set : LabelSet) (l : Label) → IsTransition (until_refuses set) l Stay
unfolding IsTransition
until_refuses_stays set l s = (λ h. tt, λ h. tt)

module _ (strong : Bool) where
  -- if a label can be observed, all labels of the sequence of this label alone can be observed
  alone : (l : Label) → IsObservable strong l → All (IsObservable strong) (l ∷ [])
  alone l h = All-cons (IsObservable strong) l [] h (All-nil (IsObservable strong))

  -- with a label of the set that can be observed, its elements can occur
  one_occurs : (set : LabelSet) → (l : Label) × IsIn l set × IsObservable strong l → CanOccur strong (one set)
  one_occurs set (l, has, seen) = (l ∷ [], (l, has, refl), alone l seen)

  -- with a label of the set that can be observed, the element `until set` can occur
  until_occurs : (set : LabelSet) → (l : Label) × IsIn l set × IsObservable strong l → CanOccur strong (until set)
  until_occurs set (l, has, seen) = (l ∷ [], ([], l, All-nil (IsOutside set), has, refl), alone l seen)

  -- the element `while set` can occur, whatever the set
  while_occurs : (set : LabelSet) → CanOccur strong (while set)
  while_occurs set = ([], All-nil (λ x. IsIn x set), All-nil (IsObservable strong))

  -- one label of a set that is spelled can be observed
  wide_set_occurs : (set : LabelSet) (words : List Text) → WideSetSpelling strong set words → CanOccur strong (one set)
  wide_set_occurs set words (some h) = one_occurs set (some_label strong set words h)
  wide_set_occurs _ _ (all i) = one_occurs (others []) (some_other_label strong)

  -- an element that is spelled has a segment that can be observed
  pub can_occur : (e : Element) (words : List Text) → Spelling strong e words → CanOccur strong e
  can_occur _ words (one_of {set = set} h) = wide_set_occurs set words h
  can_occur _ _ (until_set {set = set} {rest = rest} i h) = until_occurs set (some_label strong set rest h)
  can_occur _ _ (while_set {set = set} i h) = while_occurs set
  can_occur _ _ (end i) = ([], refl, All-nil (IsObservable strong))
  can_occur _ _ (until_end i j) = ([], tt, All-nil (IsObservable strong))
