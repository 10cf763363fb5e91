use Rattle.std.proofs.Common.{arith}
use Rattle.std.proofs.lemmas.List.{take_all}
use Rattle.std.proofs.lemmas.List.Folds.{flat_map-map}
use Rattle.lotos_check.specs.CheckedView.{process_of}
use Rattle.lotos_output.specs.OutputLines.{process_line}
use Rattle.lotos_output.proofs.output_lines.format_processes.Goals as goal

pub returns : goal.returns
returns c =
    let all = take_all c.loop-process.process-index c.args.processes.now (omega arith) in
    rw (c.loop-process.invariant, all, flat_map-map process_line process_of c.args.processes.now)
