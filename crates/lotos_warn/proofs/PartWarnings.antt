-- The warnings about the parts of a behaviour, by its form.
use Rattle.std.proofs.Common.{◌↔◌, ◌⊎◌, ℕ, List, [], ◌++◌, inl, inr}
use Rattle.lotos_text.specs.AstView.{BehaviourView, SyncView, stop, exit, prefix, choice, par, hide, enable, disable, call}
use Rattle.lotos_text.specs.declared.ast.Placed.{Placed}
use Rattle.lotos_text.specs.declared.ast.Action.{Action}
use Rattle.lotos_check.specs.NameLists.{Name, texts}
use Rattle.lotos_check.specs.Subexpressions as parts
use Rattle.lotos_check.specs.Subexpressions.{IsSubexpression, in_prefix, in_choice_left, in_choice_right, in_par_left, in_par_right, in_hide, in_enable_left, in_enable_right, in_disable_left, in_disable_right}
use Rattle.lotos_warn.specs.declared.warning.Warning.{Warning}
use Rattle.lotos_warn.specs.Additions.{Adds}
use Rattle.lotos_warn.proofs.Additions.{adds_as, adds_both}

-- `Own` says which warnings a behaviour has itself, and not only in a part of it
module _ (Own : BehaviourView → Warning → Type 0) where
  -- a part has the warning itself, where these gates are hidden around the behaviour
  pub record WarnsFrom (start : List Name) (behaviour : BehaviourView) (warning : Warning) : Type 0 where
    pub hidden : List Name
    pub part : BehaviourView
    pub inside : IsSubexpression start behaviour hidden part
    pub own : Own part warning

  -- the behaviour has the warning, by its form
  abbrev pub WarnsIn : BehaviourView → Warning → Type 0
  WarnsIn stop w = Own stop w
  WarnsIn exit w = Own exit w
  WarnsIn (prefix a b) w = WarnsIn b w ⊎ Own (prefix a b) w
  WarnsIn (choice l r) w = WarnsIn l w ⊎ (WarnsIn r w ⊎ Own (choice l r) w)
  WarnsIn (par l s r) w = WarnsIn l w ⊎ (WarnsIn r w ⊎ Own (par l s r) w)
  WarnsIn (hide gs b) w = WarnsIn b w ⊎ Own (hide gs b) w
  WarnsIn (enable l at r) w = WarnsIn l w ⊎ (WarnsIn r w ⊎ Own (enable l at r) w)
  WarnsIn (disable l r) w = WarnsIn l w ⊎ (WarnsIn r w ⊎ Own (disable l r) w)
  WarnsIn (call p gs) w = Own (call p gs) w

  -- a behaviour that has the warning itself has it by its form
  own_form : (b : BehaviourView) (w : Warning) → Own b w → WarnsIn b w
  own_form stop w o = o
  own_form exit w o = o
  own_form (prefix a b) w o = inr o
  own_form (choice l r) w o = inr (inr o)
  own_form (par l s r) w o = inr (inr o)
  own_form (hide gs b) w o = inr o
  own_form (enable l at r) w o = inr (inr o)
  own_form (disable l r) w o = inr (inr o)
  own_form (call p gs) w o = o

  -- if a part of a behaviour has the warning itself, the behaviour has it by its form
  to_form : (start hidden : List Name) (b part : BehaviourView) (w : Warning) → IsSubexpression start b hidden part → Own part w → WarnsIn b w
  to_form start hidden b part w parts.whole o = own_form b w o
  to_form start hidden b part w (in_prefix i) o = inl (to_form start hidden _ part w i o)
  to_form start hidden b part w (in_choice_left i) o = inl (to_form start hidden _ part w i o)
  to_form start hidden b part w (in_choice_right i) o = inr (inl (to_form start hidden _ part w i o))
  to_form start hidden b part w (in_par_left i) o = inl (to_form start hidden _ part w i o)
  to_form start hidden b part w (in_par_right i) o = inr (inl (to_form start hidden _ part w i o))
  to_form start hidden b part w (in_hide {gs = gs} i) o = inl (to_form (texts gs ++ start) hidden _ part w i o)
  to_form start hidden b part w (in_enable_left i) o = inl (to_form start hidden _ part w i o)
  to_form start hidden b part w (in_enable_right i) o = inr (inl (to_form start hidden _ part w i o))
  to_form start hidden b part w (in_disable_left i) o = inl (to_form start hidden _ part w i o)
  to_form start hidden b part w (in_disable_right i) o = inr (inl (to_form start hidden _ part w i o))

  -- if each part of a behaviour is a part of another, with the same gates hidden around it, the other has the warning
  -- if the first has it
  lifted : (start more : List Name) (t u : BehaviourView) (w : Warning) →
      ((there : List Name) (part : BehaviourView) → IsSubexpression more t there part → IsSubexpression start u there part) →
      WarnsFrom more t w → WarnsFrom start u w
  lifted start more t u w wider h = record { hidden = h.hidden; part = h.part; inside = wider h.hidden h.part h.inside; own = h.own }

  -- a behaviour that has the warning itself has it, whatever gates are hidden around it
  itself : (start : List Name) (b : BehaviourView) (w : Warning) → Own b w → WarnsFrom start b w
  itself start b w o = record { hidden = start; part = b; inside = parts.whole; own = o }

  -- a behaviour that has the warning by its form has it, whatever gates are hidden around it
  from_form : (start : List Name) (b : BehaviourView) (w : Warning) → WarnsIn b w → WarnsFrom start b w
  from_form start stop w o = itself start stop w o
  from_form start exit w o = itself start exit w o
  from_form start (prefix a b) w (inl h) = lifted start start b (prefix a b) w (λ there part i. in_prefix i) (from_form start b w h)
  from_form start (prefix a b) w (inr o) = itself start (prefix a b) w o
  from_form start (choice l r) w (inl h) = lifted start start l (choice l r) w (λ there part i. in_choice_left i) (from_form start l w h)
  from_form start (choice l r) w (inr (inl h)) = lifted start start r (choice l r) w (λ there part i. in_choice_right i) (from_form start r w h)
  from_form start (choice l r) w (inr (inr o)) = itself start (choice l r) w o
  from_form start (par l s r) w (inl h) = lifted start start l (par l s r) w (λ there part i. in_par_left i) (from_form start l w h)
  from_form start (par l s r) w (inr (inl h)) = lifted start start r (par l s r) w (λ there part i. in_par_right i) (from_form start r w h)
  from_form start (par l s r) w (inr (inr o)) = itself start (par l s r) w o
  from_form start (hide gs b) w (inl h) =
      lifted start (texts gs ++ start) b (hide gs b) w (λ there part i. in_hide i) (from_form (texts gs ++ start) b w h)
  from_form start (hide gs b) w (inr o) = itself start (hide gs b) w o
  from_form start (enable l at r) w (inl h) = lifted start start l (enable l at r) w (λ there part i. in_enable_left i) (from_form start l w h)
  from_form start (enable l at r) w (inr (inl h)) = lifted start start r (enable l at r) w (λ there part i. in_enable_right i) (from_form start r w h)
  from_form start (enable l at r) w (inr (inr o)) = itself start (enable l at r) w o
  from_form start (disable l r) w (inl h) = lifted start start l (disable l r) w (λ there part i. in_disable_left i) (from_form start l w h)
  from_form start (disable l r) w (inr (inl h)) = lifted start start r (disable l r) w (λ there part i. in_disable_right i) (from_form start r w h)
  from_form start (disable l r) w (inr (inr o)) = itself start (disable l r) w o
  from_form start (call p gs) w o = itself start (call p gs) w o

  -- a behaviour that has the warning where some gates are hidden around it has it where others are
  pub elsewhere : (start other : List Name) (b : BehaviourView) (w : Warning) → WarnsFrom start b w → WarnsFrom other b w
  elsewhere start other b w h = from_form other b w (to_form start h.hidden b h.part w h.inside h.own)

  -- `has` says which warnings a behaviour has: those that a part of it has itself
  module _ (has : BehaviourView → Warning → Type 0) (same : (b : BehaviourView) (w : Warning) → has b w ↔ WarnsFrom [] b w) where
    -- if the warnings of a behaviour are added, those that it has by its form are
    shown : (old new : List Warning) (b : BehaviourView) → Adds old new (has b) → Adds old new (WarnsIn b)
    shown old new b = adds_as old new (has b) (WarnsIn b) (λ w. (
      (λ h. let from = (same b w).0 h in to_form [] from.hidden b from.part w from.inside from.own),
      (λ h. (same b w).1 (from_form [] b w h)),
    ))

    -- if the warnings that a behaviour has by its form are added, its warnings are
    made : (old new : List Warning) (b : BehaviourView) → Adds old new (WarnsIn b) → Adds old new (has b)
    made old new b = adds_as old new (WarnsIn b) (has b) (λ w. (
      (λ h. (same b w).1 (from_form [] b w h)),
      (λ h. let from = (same b w).0 h in to_form [] from.hidden b from.part w from.inside from.own),
    ))

    -- `stop` adds the warnings that it has itself
    pub part_stop : (old new : List Warning) → Adds old new (Own stop) → Adds old new (has stop)
    part_stop old new o = made old new stop o

    -- `exit` adds the warnings that it has itself
    pub part_exit : (old new : List Warning) → Adds old new (Own exit) → Adds old new (has exit)
    part_exit old new o = made old new exit o

    -- a call adds the warnings that it has itself
    pub part_call : (old new : List Warning) (p : Placed) (gs : List Placed) → Adds old new (Own (call p gs)) → Adds old new (has (call p gs))
    part_call old new p gs o = made old new (call p gs) o

    -- a prefix adds the warnings of the behaviour after its action, and those that it has itself
    pub part_prefix : (old mid new : List Warning) (a : Action) (b : BehaviourView) → Adds old mid (has b) → Adds mid new (Own (prefix a b)) →
        Adds old new (has (prefix a b))
    part_prefix old mid new a b h o = made old new (prefix a b) (adds_both old mid new (WarnsIn b) (Own (prefix a b)) (shown old mid b h) o)

    -- a hiding adds the warnings of the behaviour inside it, and those that it has itself
    pub part_hide : (old mid new : List Warning) (gs : List Placed) (b : BehaviourView) → Adds old mid (has b) → Adds mid new (Own (hide gs b)) →
        Adds old new (has (hide gs b))
    part_hide old mid new gs b h o = made old new (hide gs b) (adds_both old mid new (WarnsIn b) (Own (hide gs b)) (shown old mid b h) o)

    module _ (old mid more new : List Warning) (l r : BehaviourView) (first : Adds old mid (has l)) (second : Adds mid more (has r)) where
      -- the warnings that two behaviours have by their forms are added, and then those that their whole has itself
      joined : (own : Warning → Type 0) → Adds more new own → Adds old new (λ w. WarnsIn l w ⊎ (WarnsIn r w ⊎ own w))
      joined own o = adds_both old mid new (WarnsIn l) (λ w. WarnsIn r w ⊎ own w) (shown old mid l first)
          (adds_both mid more new (WarnsIn r) own (shown mid more r second) o)

      -- a choice adds the warnings of its sides, and those that it has itself
      pub part_choice : Adds more new (Own (choice l r)) → Adds old new (has (choice l r))
      part_choice o = made old new (choice l r) (joined (Own (choice l r)) o)

      -- a parallel composition adds the warnings of its sides, and those that it has itself
      pub part_par : (s : SyncView) → Adds more new (Own (par l s r)) → Adds old new (has (par l s r))
      part_par s o = made old new (par l s r) (joined (Own (par l s r)) o)

      -- a `>>` adds the warnings of its sides, and those that it has itself
      pub part_enable : (at : ℕ) → Adds more new (Own (enable l at r)) → Adds old new (has (enable l at r))
      part_enable at o = made old new (enable l at r) (joined (Own (enable l at r)) o)

      -- a `[>` adds the warnings of its sides, and those that it has itself
      pub part_disable : Adds more new (Own (disable l r)) → Adds old new (has (disable l r))
      part_disable o = made old new (disable l r) (joined (Own (disable l r)) o)
