-- Behaviours that have two operands and do nothing else.
use Rattle.std.specs.Prelude.{◌≡◌, ◌⊎◌, ℕ, Box}
use Rattle.std.specs.declared.alloc.Global.{Global}
use Rattle.std.proofs.Common.{inl, inr, sym, subst}
use Rattle.lotos_text.specs.AstView.{BehaviourView, choice, enable, disable}
use Rattle.lotos_text.specs.AstOf.{behaviour_view}
use Rattle.lotos_text.specs.declared.ast.Behaviour as code
use Rattle.lotos_text.specs.declared.ast.Behaviour.{Behaviour}

-- the behaviour is a choice, an enabling or a disabling of these operands
abbrev pub HasOperands : Behaviour → Box Behaviour Global → Box Behaviour Global → Type 0
HasOperands b left right = (b ≡ code.Choice left right) ⊎ ((at : ℕ) × (b ≡ code.Enable left at right)) ⊎ (b ≡ code.Disable left right)

-- it has a property that all three have
pub by_operands : (Has : BehaviourView → Type 0) (b : Behaviour) (left right : Box Behaviour Global) →
    Has (choice (behaviour_view left.value) (behaviour_view right.value)) →
    ((at : ℕ) → Has (enable (behaviour_view left.value) at (behaviour_view right.value))) →
    Has (disable (behaviour_view left.value) (behaviour_view right.value)) → HasOperands b left right → Has (behaviour_view b)
by_operands Has b left right c e d (inl is) = subst (λ x. Has (behaviour_view x)) (sym is) c
by_operands Has b left right c e d (inr (inl (at, is))) = subst (λ x. Has (behaviour_view x)) (sym is) (e at)
by_operands Has b left right c e d (inr (inr is)) = subst (λ x. Has (behaviour_view x)) (sym is) d
