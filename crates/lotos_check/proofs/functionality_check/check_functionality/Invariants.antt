use Rattle.std.proofs.Common.{map, drop}
use Rattle.lotos_text.specs.AstOf.{definition_view}
use Rattle.lotos_check.specs.Flat.{Pairwise}
use Rattle.lotos_check.specs.FunctionalityRules.{HasDeclaredFunctionality}
use Rattle.lotos_check.proofs.functionality_check.check_functionality.Given as goal

abbrev pub invariant-loop-index : goal.invariant-loop-index
invariant-loop-index l =
    Pairwise HasDeclaredFunctionality (drop l.index (map (λ d. definition_view d.now) l.definitions))
    (drop l.index l.found) →
    Pairwise HasDeclaredFunctionality (map (λ d. definition_view d.now) l.definitions) l.found
