use Rattle.std.proofs.Common.{◌≡◌, take}
use Rattle.std.specs.List.{flat_map}
use Rattle.lotos_check.specs.CheckedView.{process_of}
use Rattle.lotos_output.specs.OutputLines.{process_line}
use Rattle.lotos_output.proofs.output_lines.format_processes.Given as goal

-- the lines so far are those of the processes before the index
abbrev pub invariant-loop-process : goal.invariant-loop-process
invariant-loop-process l =
    l.lines.items ≡ flat_map (λ p. process_line (process_of p)) (take l.process-index l.processes)
