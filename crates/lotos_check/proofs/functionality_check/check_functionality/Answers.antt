use Rattle.std.proofs.Common.{length, ◌<◌, arith}
use Rattle.lotos_text.specs.AstOf.{definition_view}
use Rattle.lotos_check.specs.FunctionalityRules.{HasDeclaredFunctionality}
use Rattle.lotos_check.proofs.Pairs.{pairs_from, pairs_end}
use Rattle.lotos_check.proofs.functionality_check.check_functionality.Goals as goal

pub loop-index-preserved : goal.loop-index-preserved
loop-index-preserved c = λ more.
    let h : c.loop-index.index < length c.args.definitions.now = omega arith in
    c.loop-index.invariant
    (pairs_from {P = HasDeclaredFunctionality} (λ d. definition_view d.now) c.args.definitions.now c.args.found.now c.loop-index.index
    c.index-definitions-index.result c.index-found-index.result h (omega arith)
    c.index-definitions-index.is c.index-found-index.is c.in_ok-check_body.ensures.typed more)

pub returns-clause-typed : goal.returns-clause-typed
returns-clause-typed c =
    c.loop-index.invariant
    (pairs_end {P = HasDeclaredFunctionality} (λ d. definition_view d.now) c.args.definitions.now c.args.found.now c.loop-index.index (omega arith)
    (omega arith))
