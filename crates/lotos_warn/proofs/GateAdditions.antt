-- What the forms of behaviours add to a set of gates.
use Rattle.std.proofs.Common.{◌≡◌, ◌↔◌, ◌⊎◌, ℕ, List, [], refl, inl, inr}
use Rattle.lotos_text.specs.AstView.{BehaviourView, SyncView, stop, exit, prefix, choice, par, hide, enable, disable, call}
use Rattle.lotos_text.specs.declared.ast.Placed.{Placed}
use Rattle.lotos_text.specs.declared.ast.Action.{Action}
use Rattle.lotos_check.specs.NameLists.{Name, In, texts}
use Rattle.lotos_warn.specs.Additions.{Adds, IsActionNamed, IsListed, IsVisible}
use Rattle.lotos_warn.specs.Warnings.{UsesFree, OffersFree}
use Rattle.lotos_warn.proofs.Additions.{adds_as, adds_both, adds_nothing, adds_alone}
use Rattle.lotos_warn.proofs.FreeGates.{HasIn, used_by_form, IsNone, offered_by_form}

-- equivalence is symmetric
flip : {P Q : Type 0} → P ↔ Q → Q ↔ P
flip h = (h.1, h.0)

module _ (free : BehaviourView → Name → Type 0) (listed : SyncView → Name → Type 0)
    (same : (b : BehaviourView) (n : Name) → free b n ↔ HasIn listed b n) where
  -- if the free gates of a behaviour are added, the gates that it has free by its form are
  shown : (old new : List Name) (b : BehaviourView) → Adds old new (free b) → Adds old new (HasIn listed b)
  shown old new b = adds_as old new (free b) (HasIn listed b) (same b)

  -- if the gates that a behaviour has free by its form are added, its free gates are
  made : (old new : List Name) (b : BehaviourView) → Adds old new (HasIn listed b) → Adds old new (free b)
  made old new b = adds_as old new (HasIn listed b) (free b) (λ n. flip (same b n))

  -- `stop` adds no gate to those that are free
  pub form_stop : (names : List Name) → Adds names names (free stop)
  form_stop names = made names names stop (adds_nothing names (HasIn listed stop) (λ n h. h))

  -- `exit` adds no gate to those that are free
  pub form_exit : (names : List Name) → Adds names names (free exit)
  form_exit names = made names names exit (adds_nothing names (HasIn listed exit) (λ n h. h))

  module _ (old mid new : List Name) where
    pub form_prefix : (a : Action) (b : BehaviourView) → Adds old mid (IsActionNamed a) → Adds mid new (free b) → Adds old new (free (prefix a b))
    form_prefix a b h k = made old new (prefix a b) (adds_both old mid new (IsActionNamed a) (HasIn listed b) h (shown mid new b k))

    pub form_choice : (l r : BehaviourView) → Adds old mid (free l) → Adds mid new (free r) → Adds old new (free (choice l r))
    form_choice l r h k = made old new (choice l r) (adds_both old mid new (HasIn listed l) (HasIn listed r) (shown old mid l h) (shown mid new r k))

    pub form_enable : (l : BehaviourView) (at : ℕ) (r : BehaviourView) → Adds old mid (free l) → Adds mid new (free r) → Adds old new (free (enable l at r))
    form_enable l at r h k = made old new (enable l at r) (adds_both old mid new (HasIn listed l) (HasIn listed r) (shown old mid l h) (shown mid new r k))

    pub form_disable : (l r : BehaviourView) → Adds old mid (free l) → Adds mid new (free r) → Adds old new (free (disable l r))
    form_disable l r h k = made old new (disable l r) (adds_both old mid new (HasIn listed l) (HasIn listed r) (shown old mid l h) (shown mid new r k))

  -- a parallel composition adds the free gates of its sides, and those that its list has by `listed`
  pub form_par : (old mid more new : List Name) (l : BehaviourView) (s : SyncView) (r : BehaviourView) →
      Adds old mid (free l) → Adds mid more (listed s) → Adds more new (free r) → Adds old new (free (par l s r))
  form_par old mid more new l s r h k m =
      made old new (par l s r)
      (adds_both old mid new (HasIn listed l) (λ n. listed s n ⊎ HasIn listed r n) (shown old mid l h)
      (adds_both mid more new (listed s) (HasIn listed r) k (shown more new r m)))

  -- a hiding adds the free gates of the behaviour inside it, which were found apart, without those that it hides
  pub form_hide : (old new empty inside : List Name) (gs : List Placed) (b : BehaviourView) → empty ≡ [] → Adds empty inside (free b) →
      Adds old new (IsVisible (texts gs) inside) → Adds old new (free (hide gs b))
  form_hide old new empty inside gs b none h k =
      let alone = adds_alone empty inside (HasIn listed b) none (shown empty inside b h) in
      made old new (hide gs b) (adds_as old new (IsVisible (texts gs) inside) (HasIn listed (hide gs b))
      (λ n. ((λ v. (v.0, (alone n).0 v.1)), (λ v. (v.0, (alone n).1 v.1)))) k)

  -- a call adds its actual gates to those that are free
  pub form_call : (old new : List Name) (p : Placed) (gs : List Placed) → Adds old new (λ n. In n (texts gs)) → Adds old new (free (call p gs))
  form_call old new p gs h = made old new (call p gs) h

-- `stop` adds no gate to those that are used
pub uses_stop : (names : List Name) → Adds names names (UsesFree stop)
uses_stop = form_stop UsesFree IsListed used_by_form

-- `exit` adds no gate to those that are used
pub uses_exit : (names : List Name) → Adds names names (UsesFree exit)
uses_exit = form_exit UsesFree IsListed used_by_form

-- a prefix adds the gate of its action, if that has one, and the gates that the behaviour after it uses
pub uses_prefix : (old mid new : List Name) (a : Action) (b : BehaviourView) → Adds old mid (IsActionNamed a) → Adds mid new (UsesFree b) →
    Adds old new (UsesFree (prefix a b))
uses_prefix = form_prefix UsesFree IsListed used_by_form

-- a choice adds the gates that its sides use
pub uses_choice : (old mid new : List Name) (l r : BehaviourView) → Adds old mid (UsesFree l) → Adds mid new (UsesFree r) → Adds old new (UsesFree (choice l r))
uses_choice = form_choice UsesFree IsListed used_by_form

-- `>>` adds the gates that its sides use
pub uses_enable : (old mid new : List Name) (l : BehaviourView) (at : ℕ) (r : BehaviourView) → Adds old mid (UsesFree l) → Adds mid new (UsesFree r) →
    Adds old new (UsesFree (enable l at r))
uses_enable = form_enable UsesFree IsListed used_by_form

-- `[>` adds the gates that its sides use
pub uses_disable : (old mid new : List Name) (l r : BehaviourView) → Adds old mid (UsesFree l) → Adds mid new (UsesFree r) →
    Adds old new (UsesFree (disable l r))
uses_disable = form_disable UsesFree IsListed used_by_form

-- a parallel composition adds the gates of its list, if it has one, and those that its sides use
pub uses_par : (old mid more new : List Name) (l : BehaviourView) (s : SyncView) (r : BehaviourView) →
    Adds old mid (UsesFree l) → Adds mid more (IsListed s) → Adds more new (UsesFree r) → Adds old new (UsesFree (par l s r))
uses_par = form_par UsesFree IsListed used_by_form

-- a hiding adds the gates that the behaviour inside it uses, without those that it hides
pub uses_hide : (old new empty inside : List Name) (gs : List Placed) (b : BehaviourView) → empty ≡ [] → Adds empty inside (UsesFree b) →
    Adds old new (IsVisible (texts gs) inside) → Adds old new (UsesFree (hide gs b))
uses_hide = form_hide UsesFree IsListed used_by_form

-- a call adds its actual gates to those that are used
pub uses_call : (old new : List Name) (p : Placed) (gs : List Placed) → Adds old new (λ n. In n (texts gs)) → Adds old new (UsesFree (call p gs))
uses_call = form_call UsesFree IsListed used_by_form

-- `stop` adds no gate to those that are offered
pub offers_stop : (names : List Name) → Adds names names (OffersFree stop)
offers_stop = form_stop OffersFree IsNone offered_by_form

-- `exit` adds no gate to those that are offered
pub offers_exit : (names : List Name) → Adds names names (OffersFree exit)
offers_exit = form_exit OffersFree IsNone offered_by_form

-- a prefix adds the gate of its action, if that has one, and the gates that the behaviour after it offers
pub offers_prefix : (old mid new : List Name) (a : Action) (b : BehaviourView) → Adds old mid (IsActionNamed a) → Adds mid new (OffersFree b) →
    Adds old new (OffersFree (prefix a b))
offers_prefix = form_prefix OffersFree IsNone offered_by_form

-- a choice adds the gates that its sides offer
pub offers_choice : (old mid new : List Name) (l r : BehaviourView) → Adds old mid (OffersFree l) → Adds mid new (OffersFree r) →
    Adds old new (OffersFree (choice l r))
offers_choice = form_choice OffersFree IsNone offered_by_form

-- `>>` adds the gates that its sides offer
pub offers_enable : (old mid new : List Name) (l : BehaviourView) (at : ℕ) (r : BehaviourView) → Adds old mid (OffersFree l) → Adds mid new (OffersFree r) →
    Adds old new (OffersFree (enable l at r))
offers_enable = form_enable OffersFree IsNone offered_by_form

-- `[>` adds the gates that its sides offer
pub offers_disable : (old mid new : List Name) (l r : BehaviourView) → Adds old mid (OffersFree l) → Adds mid new (OffersFree r) →
    Adds old new (OffersFree (disable l r))
offers_disable = form_disable OffersFree IsNone offered_by_form

-- a hiding adds the gates that the behaviour inside it offers, without those that it hides
pub offers_hide : (old new empty inside : List Name) (gs : List Placed) (b : BehaviourView) → empty ≡ [] → Adds empty inside (OffersFree b) →
    Adds old new (IsVisible (texts gs) inside) → Adds old new (OffersFree (hide gs b))
offers_hide = form_hide OffersFree IsNone offered_by_form

-- a call adds its actual gates to those that are offered
pub offers_call : (old new : List Name) (p : Placed) (gs : List Placed) → Adds old new (λ n. In n (texts gs)) → Adds old new (OffersFree (call p gs))
offers_call = form_call OffersFree IsNone offered_by_form

-- a parallel composition offers what its sides offer, which were found apart
pub offers_par : (old new by_left by_right : List Name) (l : BehaviourView) (s : SyncView) (r : BehaviourView) →
    Adds [] by_left (OffersFree l) → Adds [] by_right (OffersFree r) →
    Adds old new (λ n. In n by_left ⊎ In n by_right) → Adds old new (OffersFree (par l s r))
offers_par old new by_left by_right l s r h k m =
    let left = adds_alone [] by_left (OffersFree l) refl h in
    let right = adds_alone [] by_right (OffersFree r) refl k in
    made OffersFree IsNone offered_by_form old new (par l s r)
    (adds_as old new (λ n. In n by_left ⊎ In n by_right) (HasIn IsNone (par l s r))
    (λ n. (
      (λ i. elim i [ inl j ↦ inl ((offered_by_form l n).0 ((left n).0 j)) | inr j ↦ inr (inr ((offered_by_form r n).0 ((right n).0 j))) ]),
      (λ i. elim i [
        | inl j ↦ inl ((left n).1 ((offered_by_form l n).1 j))
        | inr (inl j) ↦ absurd j
        | inr (inr j) ↦ inr ((right n).1 ((offered_by_form r n).1 j))
      ]),
    )) m)
