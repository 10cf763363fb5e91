use Rattle.std.proofs.Common.{arith, rules}
use Rattle.std.proofs.lemmas.Grind.{common_steps}
use Rattle.lotos_device.proofs.Chunks.{written_more, written_part, on_error}
use Rattle.lotos_device.proofs.byte_output.write_bytes.Goals as goal

pub loop-at-preserved : goal.loop-at-preserved
loop-at-preserved g c = record {
  within = search rules;
  written = written_more _ _ _ c.args.bytes.now _ c.loop-at.at c.in_ok-at.field-0 c.loop-at.invariant.written c.in_ok-at.ensures.bytes.1
      (grind (arith, common_steps));
  unfailed = search rules;
}

pub returns-in_err-at-clause-part : goal.returns-in_err-at-clause-part
returns-in_err-at-clause-part g c =
    on_error _ (written_part _ _ _ c.args.bytes.now c.loop-at.at (search rules) c.loop-at.invariant.written c.in_err-at.ensures.bytes)
