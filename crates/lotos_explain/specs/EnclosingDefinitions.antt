-- A definition with those around it.
use Rattle.std.specs.Prelude.{◌≡◌, List, ◌∷◌}
use Rattle.lotos_text.specs.AstView.{DefinitionView}
use Rattle.lotos_check.specs.NameLists.{In}
use Rattle.lotos_check.specs.Scope.{Scope, ScopedDefinition, IsDefinition}
use Rattle.lotos_explain.specs.FunctionalityCauses.{IsEnclosing}

-- the list is one of these definitions, and then those around it, the nearest first
pub record AreScopesInAny (definitions : List ScopedDefinition) (scopes : List DefinitionView) : Type 0 where
  pub scoped : ScopedDefinition
  pub located : In scoped definitions
  pub outer : List DefinitionView
  pub is : scopes ≡ scoped.definition ∷ outer
  pub around : IsEnclosing scopes scoped.scope

-- the list is a definition of the specification, and then those around it, the nearest first
pub record AreScopesOf (whole : DefinitionView) (scopes : List DefinitionView) : Type 0 where
  pub scope : Scope
  pub definition : DefinitionView
  pub located : IsDefinition whole scope definition
  pub outer : List DefinitionView
  pub is : scopes ≡ definition ∷ outer
  pub around : IsEnclosing scopes scope
