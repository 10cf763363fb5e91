-- The functionality of a behaviour. With noexit the behaviour never terminates successfully; exit promises nothing: the
-- process `P := x; P` may be declared exit, and never ends.
use Rattle.std.specs.Prelude.{ℕ, List}
use Rattle.lotos_text.specs.AstView.{BehaviourView, SyncView, stop, exit, prefix, choice, par, hide, enable, disable, call, DefinitionView, declared_of}
use Rattle.lotos_text.specs.declared.ast.Placed.{Placed}
use Rattle.lotos_text.specs.declared.ast.Action.{Action}
use Rattle.lotos_text.specs.declared.ast.Functionality.{Functionality}
use Rattle.lotos_text.specs.declared.ast.Functionality.TheVariants.{Exit, NoExit}
use Rattle.lotos_check.specs.Scope.{Scope, Binds}

-- exit if either operand has exit
abbrev pub either : Functionality → Functionality → Functionality
either Exit g = Exit
either NoExit g = g

-- exit only if both operands have exit
abbrev pub both : Functionality → Functionality → Functionality
both Exit g = g
both NoExit g = NoExit

-- given the visible processes, the behaviour has the functionality. `stop` has noexit and `exit` has exit; a prefix and
-- a hide form have that of their body; a choice and a disabling have exit if either operand has; a parallel expression
-- has exit if both have; an enabling has that of its right operand; a call has the declared one. Only noexit says
-- something: that the behaviour never terminates successfully (law `noexit_never_exits` of `lotos_warn`). `P := x; P`
-- may be declared exit and never ends (own, after ISO)
pub data Func (scope : Scope) : BehaviourView → Functionality → Type 0 where
  of_stop : Func scope stop NoExit
  of_exit : Func scope exit Exit
  of_prefix : {a : Action} {b : BehaviourView} {f : Functionality} → Func scope b f → Func scope (prefix a b) f
  of_hide : {gs : List Placed} {b : BehaviourView} {f : Functionality} → Func scope b f → Func scope (hide gs b) f
  of_choice : {l r : BehaviourView} {f g : Functionality} → Func scope l f → Func scope r g →
      Func scope (choice l r) (either f g)
  of_disable : {l r : BehaviourView} {f g : Functionality} → Func scope l f → Func scope r g →
      Func scope (disable l r) (either f g)
  of_par : {l r : BehaviourView} {s : SyncView} {f g : Functionality} → Func scope l f → Func scope r g →
      Func scope (par l s r) (both f g)
  of_enable : {l r : BehaviourView} {at : ℕ} {g : Functionality} → Func scope r g → Func scope (enable l at r) g
  of_call : {p : Placed} {gs : List Placed} {k : ℕ} {d : DefinitionView} → Binds scope p.name k d →
      Func scope (call p gs) (declared_of d)
