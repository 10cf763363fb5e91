-- Gates inside a specification: those that it hides, and the formal ones of its processes.
use Rattle.std.specs.Prelude.{◌≡◌, ℕ, List}
use Rattle.lotos_text.specs.AstView.{BehaviourView, DefinitionView, hide, name_of, body_of, formals_of}
use Rattle.lotos_text.specs.declared.ast.Placed.{Placed}
use Rattle.lotos_check.specs.NameLists.{Name, In, texts}
use Rattle.lotos_check.specs.Scope.{Scope, ScopedDefinition, IsDefinition}
use Rattle.lotos_check.specs.StaticFaults.{Occurs}
use Rattle.lotos_check.specs.Subexpressions.{IsSubexpression}

-- one of the gates has this name and this offset
pub record IsNamedAt (gates : List Placed) (n : Name) (at : ℕ) : Type 0 where
  pub gate : Placed
  pub located : In gate gates
  pub named : gate.name ≡ n
  pub offset : gate.at ≡ at

-- with these gates in scope around the body, a part of it hides a gate that has this name and, in the list, this offset
pub record HidesAt (around : List Name) (body : BehaviourView) (n : Name) (at : ℕ) : Type 0 where
  pub there : List Name
  pub gates : List Placed
  pub part : BehaviourView
  pub inside : IsSubexpression around body there (hide gates part)
  pub listed : IsNamedAt gates n at

-- in the body of one of these definitions a `hide` has a gate with this name and this offset in its list
pub record HidesInAny (definitions : List ScopedDefinition) (n : Name) (at : ℕ) : Type 0 where
  pub scoped : ScopedDefinition
  pub located : In scoped definitions
  pub inside : HidesAt (texts (formals_of scoped.definition)) (body_of scoped.definition) n at

-- a `hide` of the specification has a gate with this name and this offset in its list
pub record IsHiddenAt (whole : DefinitionView) (n : Name) (at : ℕ) : Type 0 where
  pub scope : Scope
  pub in_scope : List Name
  pub gates : List Placed
  pub part : BehaviourView
  pub occurs : Occurs whole scope in_scope (hide gates part)
  pub listed : IsNamedAt gates n at

-- one of these definitions has the second name and a formal gate of the first one
pub record HasFormalInAny (definitions : List ScopedDefinition) (n process : Name) : Type 0 where
  pub scoped : ScopedDefinition
  pub located : In scoped definitions
  pub formal : In n (texts (formals_of scoped.definition))
  pub named : process ≡ (name_of scoped.definition).name

-- a definition of the specification, or the specification itself, has the second name and a formal gate of the first
-- one
pub record IsFormalGateOf (whole : DefinitionView) (n process : Name) : Type 0 where
  pub scope : Scope
  pub definition : DefinitionView
  pub located : IsDefinition whole scope definition
  pub formal : In n (texts (formals_of definition))
  pub named : process ≡ (name_of definition).name
