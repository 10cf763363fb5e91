-- The definition that a call is bound to.
use Rattle.lotos_text.specs.AstView.{DefinitionView, body_of, formals_of}
use Rattle.lotos_text.specs.declared.ast.Placed.{Placed}
use Rattle.lotos_check.specs.NameLists.{texts}
use Rattle.lotos_check.specs.Scope.{Scope, IsDefinition}
use Rattle.lotos_explain.specs.FunctionalityCauses.{IsBoundTo}
use Rattle.lotos_explain.specs.SimilarNames.{CallsAt}

-- the body of a definition has a call whose name has the offset of this one, and there the name is bound to the last
-- definition
pub record IsCalledAt (whole : DefinitionView) (called : Placed) (definition : DefinitionView) : Type 0 where
  pub scope : Scope
  pub caller : DefinitionView
  pub located : IsDefinition whole scope caller
  pub calls : CallsAt (texts (formals_of caller)) (body_of caller) called.at
  pub bound : IsBoundTo scope called.name definition
