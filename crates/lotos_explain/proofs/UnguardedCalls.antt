-- Unguarded calls of a behaviour with two operands are those of the operands.
use Rattle.std.specs.Prelude.{◌≡◌, ◌⊎◌, Box}
use Rattle.std.specs.declared.alloc.Global.{Global}
use Rattle.std.proofs.Common.{inl, inr}
use Rattle.lotos_text.specs.AstOf.{behaviour_view}
use Rattle.lotos_text.specs.declared.ast.Behaviour as code
use Rattle.lotos_text.specs.declared.ast.Behaviour.{Behaviour}
use Rattle.lotos_text.specs.declared.ast.SyncSet.{SyncSet}
use Rattle.lotos_text.specs.declared.ast.Placed.{Placed}
use Rattle.lotos_explain.specs.UnguardedRings.{CallsUnguarded, left_choice, right_choice, left_par, right_par, left_disable, right_disable}

module _ (b : Behaviour) (left right : Box Behaviour Global) (p : Placed)
    (is : (b ≡ code.Choice left right) ⊎ ((s : SyncSet) × (b ≡ code.Par left s right)) ⊎ (b ≡ code.Disable left right)) where
  -- a choice, a parallel composition or a disabling has the unguarded calls of its left operand
  pub left_unguarded : CallsUnguarded (behaviour_view left.value) p → CallsUnguarded (behaviour_view b) p
  left_unguarded h = elim is [
    | inl e ↦ rw e (left_choice h)
    | inr (inl (s, e)) ↦ rw e (left_par h)
    | inr (inr e) ↦ rw e (left_disable h)
  ]

  -- a choice, a parallel composition or a disabling has the unguarded calls of its right operand
  pub right_unguarded : CallsUnguarded (behaviour_view right.value) p → CallsUnguarded (behaviour_view b) p
  right_unguarded h = elim is [
    | inl e ↦ rw e (right_choice h)
    | inr (inl (s, e)) ↦ rw e (right_par h)
    | inr (inr e) ↦ rw e (right_disable h)
  ]
