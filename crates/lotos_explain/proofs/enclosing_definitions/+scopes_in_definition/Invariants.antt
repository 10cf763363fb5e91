use Rattle.std.specs.Prelude.{ℕ, drop}
use Rattle.lotos_text.specs.AstView.{inner_of}
use Rattle.lotos_text.specs.AstOf.{definition_view, definitions_view}
use Rattle.lotos_check.specs.Scope.{Scope}
use Rattle.lotos_explain.proofs.DefinitionScopes.{Continues}
use Rattle.lotos_explain.proofs.enclosing_definitions.+scopes_in_definition.Given as goal

abbrev pub decreases-scopes_in_definition : goal.decreases-scopes_in_definition
decreases-scopes_in_definition l = goal.size-scopes_in_definition l

abbrev pub invariant-loop-inner : goal.invariant-loop-inner
invariant-loop-inner l = (scope : Scope) (first : ℕ) →
    Continues scope first (inner_of (definition_view l.definition)) (definitions_view (drop l.inner-index l.inner-items))
