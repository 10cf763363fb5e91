-- What makes the functionality of a definition.
use Rattle.std.specs.Prelude.{◌≡◌, ◌+◌, ℕ, List, [], ◌∷◌}
use Rattle.lotos_text.specs.AstView.{BehaviourView, DefinitionListView, SyncView, stop, exit, prefix, choice, par, hide, enable, disable, call, DefinitionView, name_of, body_of, inner_of}
use Rattle.lotos_text.specs.declared.ast.Action.{Action}
use Rattle.lotos_text.specs.declared.ast.Functionality.{Functionality}
use Rattle.lotos_text.specs.declared.ast.Placed.{Placed}
use Rattle.lotos_check.specs.NameLists.{Name}
use Rattle.lotos_check.specs.Scope.{Scope, Binds, Declares, IsDefinition}
use Rattle.lotos_check.specs.Functionality.{Func}
use Rattle.lotos_explain.specs.declared.functionality_causes.Cause.{Cause}
use Rattle.lotos_explain.specs.declared.functionality_causes.Leaf.{Leaf}
use Rattle.lotos_explain.specs.declared.functionality_causes.Leaf.TheVariants as leaf

-- what a leaf means: this behaviour is `stop`, `exit` or a call
abbrev pub IsLeaf : Leaf → BehaviourView → Type 0
IsLeaf leaf.Stop b = b ≡ stop
IsLeaf leaf.Exit b = b ≡ exit
IsLeaf (leaf.Call p) b = (gates : List Placed) × (b ≡ call p.now gates)

-- how many `stop` and `exit` the behaviour has
abbrev pub ends_of : BehaviourView → ℕ
ends_of stop = 1
ends_of exit = 1
ends_of (prefix a b) = ends_of b
ends_of (hide gs b) = ends_of b
ends_of (call p gates) = 0
ends_of (choice l r) = ends_of l + ends_of r
ends_of (disable l r) = ends_of l + ends_of r
ends_of (par l s r) = ends_of l + ends_of r
ends_of (enable l at r) = ends_of l + ends_of r

-- the last behaviour is a part of the first, and each part on the way has the functionality, both included; so many
-- `stop` and `exit` of the first are before the last
pub data IsReached (scope : Scope) (f : Functionality) : ℕ → BehaviourView → BehaviourView → Type 0 where
  itself : {b : BehaviourView} → Func scope b f → IsReached scope f 0 b b
  under_prefix : {n : ℕ} {a : Action} {b t : BehaviourView} → Func scope (prefix a b) f → IsReached scope f n b t →
      IsReached scope f n (prefix a b) t
  under_hide : {n : ℕ} {gs : List Placed} {b t : BehaviourView} → Func scope (hide gs b) f → IsReached scope f n b t →
      IsReached scope f n (hide gs b) t
  left_choice : {n : ℕ} {l r t : BehaviourView} → Func scope (choice l r) f → IsReached scope f n l t →
      IsReached scope f n (choice l r) t
  right_choice : {n : ℕ} {l r t : BehaviourView} → Func scope (choice l r) f → IsReached scope f n r t →
      IsReached scope f (ends_of l + n) (choice l r) t
  left_disable : {n : ℕ} {l r t : BehaviourView} → Func scope (disable l r) f → IsReached scope f n l t →
      IsReached scope f n (disable l r) t
  right_disable : {n : ℕ} {l r t : BehaviourView} → Func scope (disable l r) f → IsReached scope f n r t →
      IsReached scope f (ends_of l + n) (disable l r) t
  left_par : {n : ℕ} {l r t : BehaviourView} {s : SyncView} → Func scope (par l s r) f → IsReached scope f n l t →
      IsReached scope f n (par l s r) t
  right_par : {n : ℕ} {l r t : BehaviourView} {s : SyncView} → Func scope (par l s r) f → IsReached scope f n r t →
      IsReached scope f (ends_of l + n) (par l s r) t
  right_enable : {n : ℕ} {l r t : BehaviourView} {at : ℕ} → Func scope (enable l at r) f → IsReached scope f n r t →
      IsReached scope f (ends_of l + n) (enable l at r) t

-- the behaviour has the functionality of the cause, as has each part on the way to the leaf, and as many `stop` and
-- `exit` before the leaf as the cause says
pub record HasCause (scope : Scope) (b : BehaviourView) (cause : Cause) : Type 0 where
  pub part : BehaviourView
  pub is : IsLeaf cause.leaf part
  pub reached : IsReached scope cause.functionality cause.before b part

-- the right operand has the cause, but for the `stop` and `exit` of the left one, which are before the leaf too
pub record HasCauseAfter (scope : Scope) (left right : BehaviourView) (cause : Cause) : Type 0 where
  pub part : BehaviourView
  pub is : IsLeaf cause.leaf part
  pub own : ℕ
  pub counted : cause.before ≡ ends_of left + own
  pub reached : IsReached scope cause.functionality own right part

-- the body of the definition whose name has the offset has the cause
pub record IsCauseAt (whole : DefinitionView) (at : ℕ) (cause : Cause) : Type 0 where
  pub scope : Scope
  pub definition : DefinitionView
  pub located : IsDefinition whole scope definition
  pub offset : (name_of definition).at ≡ at
  pub has : HasCause scope (body_of definition) cause

-- the `where`s of the scope are those of the definitions, the nearest first
abbrev pub IsEnclosing : List DefinitionView → Scope → Type 0
IsEnclosing [] [] = Unit {0}
IsEnclosing [] (w ∷ ws) = ⊥
IsEnclosing (d ∷ ds) [] = ⊥
IsEnclosing (d ∷ ds) (w ∷ ws) = (inner_of d ≡ w.defs) × IsEnclosing ds ws

-- the name is bound to the definition
pub record IsBoundTo (scope : Scope) (n : Name) (definition : DefinitionView) : Type 0 where
  pub process : ℕ
  pub means : Binds scope n process definition

-- one of the definitions, the first of which has this number, has the name
pub record IsDeclared (ds : DefinitionListView) (first : ℕ) (n : Name) (definition : DefinitionView) : Type 0 where
  pub process : ℕ
  pub declares : Declares ds first n process definition
