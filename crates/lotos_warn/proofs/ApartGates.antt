-- What the forms of behaviours add to the gates that both sides of a composition offer without synchronization.
use Rattle.std.proofs.Common.{◌≡◌, ◌⊎◌, ℕ, List, [], refl, inl, inr}
use Rattle.lotos_text.specs.AstView.{BehaviourView, SyncView, stop, exit, prefix, choice, par, hide, enable, disable, call}
use Rattle.lotos_text.specs.declared.ast.Placed.{Placed}
use Rattle.lotos_text.specs.declared.ast.Action.{Action}
use Rattle.lotos_check.specs.NameLists.{Name, In, texts}
use Rattle.lotos_warn.specs.Additions.{Adds, IsVisible}
use Rattle.lotos_warn.specs.Warnings.{OffersFree, SynchronizesOn, IsOfferedApart, on_both_sides, within_prefix, within_choice_left, within_choice_right, within_par_left, within_par_right, within_hide, within_enable_left, within_enable_right, within_disable_left, within_disable_right}
use Rattle.lotos_warn.proofs.Additions.{adds_as, adds_both, adds_nothing, adds_alone}

-- such gates of a behaviour
abbrev pub Apart : BehaviourView → Name → Type 0
Apart b n = IsOfferedApart n b

-- `stop` has none
pub apart_stop : (names : List Name) → Adds names names (λ n. IsOfferedApart n stop)
apart_stop names = adds_nothing names (Apart stop) (λ n h. elim h [ ])

-- `exit` has none
pub apart_exit : (names : List Name) → Adds names names (λ n. IsOfferedApart n exit)
apart_exit names = adds_nothing names (Apart exit) (λ n h. elim h [ ])

-- a call has none
pub apart_call : (names : List Name) (p : Placed) (gs : List Placed) → Adds names names (λ n. IsOfferedApart n (call p gs))
apart_call names p gs = adds_nothing names (Apart (call p gs)) (λ n h. elim h [ ])

-- a prefix has those of the behaviour after its action
pub apart_prefix : (old new : List Name) (a : Action) (b : BehaviourView) → Adds old new (λ n. IsOfferedApart n b) →
    Adds old new (λ n. IsOfferedApart n (prefix a b))
apart_prefix old new a b h = adds_as old new (Apart b) (Apart (prefix a b)) (λ n. (
  (λ x. within_prefix x),
  (λ x. elim x [ within_prefix y ↦ y ]),
)) h

module _ (old mid new : List Name) (l r : BehaviourView) (first : Adds old mid (λ n. IsOfferedApart n l))
    (second : Adds mid new (λ n. IsOfferedApart n r)) where
  -- what both sides add
  sides : Adds old new (λ n. Apart l n ⊎ Apart r n)
  sides = adds_both old mid new (Apart l) (Apart r) first second

  -- a choice has those of its sides
  pub apart_choice : Adds old new (λ n. IsOfferedApart n (choice l r))
  apart_choice = adds_as old new (λ n. Apart l n ⊎ Apart r n) (Apart (choice l r)) (λ n. (
    (λ h. elim h [ inl x ↦ within_choice_left x | inr x ↦ within_choice_right x ]),
    (λ h. elim h [ within_choice_left x ↦ inl x | within_choice_right x ↦ inr x ]),
  )) sides

  -- `>>` has those of its sides
  pub apart_enable : (at : ℕ) → Adds old new (λ n. IsOfferedApart n (enable l at r))
  apart_enable at = adds_as old new (λ n. Apart l n ⊎ Apart r n) (Apart (enable l at r)) (λ n. (
    (λ h. elim h [ inl x ↦ within_enable_left x | inr x ↦ within_enable_right x ]),
    (λ h. elim h [ within_enable_left x ↦ inl x | within_enable_right x ↦ inr x ]),
  )) sides

  -- `[>` has those of its sides
  pub apart_disable : Adds old new (λ n. IsOfferedApart n (disable l r))
  apart_disable = adds_as old new (λ n. Apart l n ⊎ Apart r n) (Apart (disable l r)) (λ n. (
    (λ h. elim h [ inl x ↦ within_disable_left x | inr x ↦ within_disable_right x ]),
    (λ h. elim h [ within_disable_left x ↦ inl x | within_disable_right x ↦ inr x ]),
  )) sides

-- a parallel composition has those of its sides and those that both sides offer, which were found apart, but for the
-- gates on which it synchronizes
pub apart_par : (old new empty mid more both by_left by_right : List Name) (l : BehaviourView) (s : SyncView) (r : BehaviourView) → empty ≡ [] →
    Adds [] by_left (OffersFree l) → Adds [] by_right (OffersFree r) →
    Adds empty mid (λ n. IsOfferedApart n l) → Adds mid more (λ n. IsOfferedApart n r) →
    Adds more both (λ n. In n by_left × In n by_right) →
    Adds old new (λ n. (SynchronizesOn s n → ⊥) × In n both) → Adds old new (λ n. IsOfferedApart n (par l s r))
apart_par old new empty mid more both by_left by_right l s r none offers_left offers_right first second third last =
    let left = adds_alone [] by_left (OffersFree l) refl offers_left in
    let right = adds_alone [] by_right (OffersFree r) refl offers_right in
    let inside = adds_alone empty both (λ n. Apart l n ⊎ (Apart r n ⊎ (In n by_left × In n by_right))) none
    (adds_both empty mid both (Apart l) (λ n. Apart r n ⊎ (In n by_left × In n by_right)) first
    (adds_both mid more both (Apart r) (λ n. In n by_left × In n by_right) second third)) in
    adds_as old new (λ n. (SynchronizesOn s n → ⊥) × In n both) (Apart (par l s r)) (λ n. (
      (λ (free, i). elim ((inside n).0 i) [
        | inl x ↦ within_par_left free x
        | inr (inl x) ↦ within_par_right free x
        | inr (inr x) ↦ on_both_sides free ((left n).0 x.0) ((right n).0 x.1)
      ]),
      (λ h. elim h [
        | on_both_sides free x y ↦ (free, (inside n).1 (inr (inr ((left n).1 x, (right n).1 y))))
        | within_par_left free x ↦ (free, (inside n).1 (inl x))
        | within_par_right free x ↦ (free, (inside n).1 (inr (inl x)))
      ]),
    )) last

-- a hiding has those of the behaviour inside it, which were found apart, without those that it hides
pub apart_hide : (old new empty inside : List Name) (gs : List Placed) (b : BehaviourView) → empty ≡ [] →
    Adds empty inside (λ n. IsOfferedApart n b) → Adds old new (IsVisible (texts gs) inside) → Adds old new (λ n. IsOfferedApart n (hide gs b))
apart_hide old new empty inside gs b none found last =
    let alone = adds_alone empty inside (Apart b) none found in
    adds_as old new (IsVisible (texts gs) inside) (Apart (hide gs b)) (λ n. (
      (λ (out, i). within_hide out ((alone n).0 i)),
      (λ h. elim h [ within_hide out x ↦ (out, (alone n).1 x) ]),
    )) last
