use Rattle.lotos_output.specs.WholeOutput.EndsWhole.{broken_off, done}
use Rattle.lotos_output.proofs.output_flush.write_whole.Goals as goal

pub returns-in-Ok-clause-whole : goal.returns-in-Ok-clause-whole
returns-in-Ok-clause-whole g c = done c.in-Ok.ensures.whole

pub returns-in-Err-clause-whole : goal.returns-in-Err-clause-whole
returns-in-Err-clause-whole g c = broken_off c.in-Err.ensures.beginning
