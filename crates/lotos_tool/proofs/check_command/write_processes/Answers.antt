use Rattle.std.proofs.Common.{◌≡◌, ◌∙◌, ap, length, refl, subst, sym}
use Rattle.std.proofs.lemmas.List.{length-map}
use Rattle.std.specs.List.{flat_map}
use Rattle.lotos_check.specs.CheckedView.{process_of, system_of}
use Rattle.lotos_output.specs.OutputLines.{check_lines, process_line}
use Rattle.lotos_output.specs.WholeOutput.{EndsWhole}
use Rattle.lotos_tool.specs.CheckOutcome.{check_answering}
use Rattle.lotos_tool.proofs.CallEnds.{whole_ends}
use Rattle.lotos_tool.proofs.check_command.write_processes.Goals as goal

pub returns-in-Ok-clause-ends : goal.returns-in-Ok-clause-ends
returns-in-Ok-clause-ends g c =
    let system = system_of c.args.system.now in
    let lines = c.as_slice.ensures.value ∙ c.in-Ok.ensures ∙ ap (flat_map process_line) c.processes-processes.ensures in
    let count = sym (length-map c.processes-processes.result.now process_of) ∙ ap length c.processes-processes.ensures in
    whole_ends check_answering (λ asked. asked ≡ system) system (check_lines system) _ _ _ _ c.write_whole.result refl
    (record { lines = refl; count = count }) (λ part begun. begun)
    (subst (λ bytes. EndsWhole bytes (record { count = length c.processes-processes.result.now }) tt (g.W.Sink.state c.args.writer.now).written
    (g.W.Sink.state c.write_whole.new.writer).written c.write_whole.result) lines c.write_whole.ensures.whole)
