use Rattle.std.proofs.Common.{◌∙◌}
use Rattle.clap.specs.Words.{found_of, one_of, rows_of}
use Rattle.clap.proofs.WalkLemmas.{one_text-rows}
use Rattle.lotos_command.proofs.EntryReading.{flag_reads}
use Rattle.lotos_command.proofs.request_reading.read_flag.Goals as goal

pub returns : goal.returns
returns c =
    let f = found_of c.args.found.now in
    let name = c.args.name.now in
    let same = one_text-rows f name in
    flag_reads (one_of name (rows_of f)) c.get_flag.result (λ e. c.get_flag.ensures.none (same ∙ e))
    (λ e. c.get_flag.ensures.value (same ∙ e)) (λ e. c.get_flag.ensures.other (same ∙ e)) c.requires
