use Rattle.std.specs.Prelude.{ℕ, drop}
use Rattle.lotos_text.specs.AstOf.{definitions_view}
use Rattle.lotos_explain.proofs.FunctionalityCauses.{SameDeclared}
use Rattle.lotos_explain.proofs.functionality_causes.declared_in.Given as goal

-- none of the definitions so far has the name
abbrev pub invariant-loop-definition : goal.invariant-loop-definition
invariant-loop-definition l = (first : ℕ) →
    SameDeclared (definitions_view l.fn.definitions) first l.fn.name (definitions_view (drop l.definition-index l.definitions))
