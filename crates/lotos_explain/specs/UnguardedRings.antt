-- Unguarded calls.
use Rattle.std.specs.Prelude.{◌≡◌, ℕ, List}
use Rattle.lotos_text.specs.AstView.{BehaviourView, SyncView, choice, par, hide, enable, disable, call, DefinitionView, name_of, body_of}
use Rattle.lotos_text.specs.declared.ast.Placed.{Placed}
use Rattle.lotos_check.specs.Scope.{Scope, IsDefinition}
use Rattle.lotos_explain.specs.FunctionalityCauses.{IsBoundTo}
use Rattle.lotos_explain.specs.declared.unguarded_calls.UnguardedCall.{UnguardedCall}

-- the behaviour has the call under no prefix and not in the right operand of `>>`
pub data CallsUnguarded : BehaviourView → Placed → Type 0 where
  itself : {p : Placed} {gs : List Placed} → CallsUnguarded (call p gs) p
  left_choice : {l r : BehaviourView} {p : Placed} → CallsUnguarded l p → CallsUnguarded (choice l r) p
  right_choice : {l r : BehaviourView} {p : Placed} → CallsUnguarded r p → CallsUnguarded (choice l r) p
  left_par : {l r : BehaviourView} {s : SyncView} {p : Placed} → CallsUnguarded l p → CallsUnguarded (par l s r) p
  right_par : {l r : BehaviourView} {s : SyncView} {p : Placed} → CallsUnguarded r p → CallsUnguarded (par l s r) p
  under_hide : {gs : List Placed} {b : BehaviourView} {p : Placed} → CallsUnguarded b p → CallsUnguarded (hide gs b) p
  left_enable : {l r : BehaviourView} {at : ℕ} {p : Placed} → CallsUnguarded l p → CallsUnguarded (enable l at r) p
  left_disable : {l r : BehaviourView} {p : Placed} → CallsUnguarded l p → CallsUnguarded (disable l r) p
  right_disable : {l r : BehaviourView} {p : Placed} → CallsUnguarded r p → CallsUnguarded (disable l r) p

-- the body of a definition that has the name of the caller has the call unguarded, and there the name of the call is
-- bound to a definition that has the name of the callee
pub record IsUnguardedCall (whole : DefinitionView) (c : UnguardedCall) : Type 0 where
  pub scope : Scope
  pub definition : DefinitionView
  pub located : IsDefinition whole scope definition
  pub caller : c.caller.now ≡ name_of definition
  pub calls : CallsUnguarded (body_of definition) c.called.now
  pub target : DefinitionView
  pub bound : IsBoundTo scope c.called.now.name target
  pub callee : c.callee.now ≡ name_of target
