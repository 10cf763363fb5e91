-- Where a name is declared that one list declares twice.
use Rattle.std.specs.Prelude.{ℕ}
use Rattle.lotos_text.specs.AstView.{DefinitionView, formals_of, inner_of}
use Rattle.lotos_text.specs.declared.ast.Placed.{Placed}
use Rattle.lotos_check.specs.NameLists.{In}
use Rattle.lotos_check.specs.Scope.{definitions_in, declared_names}
use Rattle.lotos_explain.specs.InnerGates.{IsNamedAt}
use Rattle.lotos_explain.specs.SimilarNames.{IsAmongAt}

-- a list of formal gates has a gate with the offset of this one, and one that has its name and the second offset
pub record IsFirstGate (whole : DefinitionView) (gate : Placed) (at : ℕ) : Type 0 where
  pub definition : DefinitionView
  pub located : In definition (definitions_in whole)
  pub listed : IsAmongAt (formals_of definition) gate.at
  pub first : IsNamedAt (formals_of definition) gate.name at

-- a `where` declares a process with the offset of this name, and one that has this name and the second offset
pub record IsFirstProcess (whole : DefinitionView) (process : Placed) (at : ℕ) : Type 0 where
  pub definition : DefinitionView
  pub located : In definition (definitions_in whole)
  pub listed : IsAmongAt (declared_names (inner_of definition)) process.at
  pub first : IsNamedAt (declared_names (inner_of definition)) process.name at
