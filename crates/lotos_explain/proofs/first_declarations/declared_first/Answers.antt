use Rattle.std.proofs.Common.{◌≡◌, rules}
use Rattle.lotos_text.specs.declared.ast.Definition.{out-Definition}
use Rattle.lotos_explain.proofs.FirstDeclarations.{declared_named}
use Rattle.lotos_explain.proofs.first_declarations.declared_first.Goals as goal

pub returns-then-eq : goal.returns-then-eq
returns-then-eq c =
    let definition = c.definition-item.result in
    let same : (out-Definition definition).name.name ≡ c.args.process.now.name = search rules in
    declared_named c.args.definitions.now c.loop-definition.definition-index definition c.loop-definition-test.true c.definition-item.is
    c.args.process.now same
