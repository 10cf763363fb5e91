use Rattle.std.proofs.Common.{arith}
use Rattle.std.specs.Str.Parse.{ParsesUnsigned, ExplainsUnsignedError, HasUnsignedDigitsIfOk}
use Rattle.clap.specs.Words.{found_of, one_text, one_of, rows_of}
use Rattle.clap.proofs.WalkLemmas.{one_text-rows}
use Rattle.lotos_command.proofs.EntryReading.{entry_reads}
use Rattle.lotos_command.proofs.request_reading.read_number.Goals as goal

pub returns : goal.returns
returns c =
    let f = found_of c.args.found.now in
    let name = c.args.name.now in
    entry_reads _ (λ bs r. ParsesUnsigned 32 10 bs r × ExplainsUnsignedError 10 bs r × HasUnsignedDigitsIfOk bs r) 32 0 4294967295
    (λ t r read. read.0) (omega arith) (one_text f name) (one_of name (rows_of f)) c.get_one.result
    (one_text-rows f name) c.get_one.ensures.value c.get_one.ensures.none c.requires
