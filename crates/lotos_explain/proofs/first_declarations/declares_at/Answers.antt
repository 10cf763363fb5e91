use Rattle.lotos_explain.proofs.FirstDeclarations.{declared_at}
use Rattle.lotos_explain.proofs.first_declarations.declares_at.Goals as goal

pub returns-then-definition-at : goal.returns-then-definition-at
returns-then-definition-at c = λ same.
    declared_at c.args.definitions.now c.loop-definition.definition-index c.definition-item.result c.loop-definition-test.true c.definition-item.is
    c.args.at c.if-definition-at.true
