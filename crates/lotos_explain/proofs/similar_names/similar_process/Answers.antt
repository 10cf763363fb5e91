use Rattle.lotos_text.specs.AstOf.{definitions_view}
use Rattle.lotos_check.specs.NameLists.{texts}
use Rattle.lotos_check.specs.Scope.{declared_names}
use Rattle.lotos_text.specs.declared.ast.Definition.{out-Definition}
use Rattle.lotos_explain.proofs.SimilarNames.{from_more}
use Rattle.lotos_explain.proofs.DefinitionScopes.{declared_item}
use Rattle.lotos_explain.proofs.similar_names.similar_process.Goals as goal

pub loop-definition-preserved : goal.loop-definition-preserved
loop-definition-preserved c =
    from_more (λ k. k.now) c.args.best c.loop-definition.closest c.in_ok-closest.closest
    (texts (declared_names (definitions_view c.args.definitions.now))) (out-Definition c.definition-item.result).name.name
    (declared_item c.args.definitions.now c.loop-definition.definition-index c.definition-item.result c.loop-definition-test.true c.definition-item.is)
    c.loop-definition.invariant c.in_ok-closest.ensures.from
