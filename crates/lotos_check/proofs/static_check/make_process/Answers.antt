use Rattle.std.proofs.Common.{◌∙◌, ap, refl}
use Rattle.lotos_text.specs.declared.ast.Definition.{out-Definition}
use Rattle.lotos_check.specs.NameLists.{texts}
use Rattle.lotos_check.specs.declared.resolved.Process.{Process}
use Rattle.lotos_check.proofs.Flattening.{made_of}
use Rattle.lotos_check.proofs.static_check.make_process.Goals as goal

pub returns : goal.returns
returns c =
    let d = c.args.definition.now in
    let process : Process = record {
      name = c.in_ok-name.name;
      formals = c.in_ok-formals.formals;
      functionality = (out-Definition d).functionality;
      body = c.into_inner.result;
    } in
    made_of d c.args.found process c.in_ok-name.ensures (c.in_ok-formals.ensures ∙ ap texts c.as_slice.ensures.value) refl
    c.into_inner.ensures
