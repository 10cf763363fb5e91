use Rattle.std.proofs.Common.{◌≡◌, ◌+◌, ◌≤◌, ◌-◌, false, length}
use Rattle.std.specs.Io.KnownBytes.{Consumes}
use Rattle.lotos_device.proofs.text_input.read_text.Given as goal

-- the text so far is what was taken and all that was given, it is not too long, and no read has failed
abbrev pub invariant-loop-text : goal.invariant-loop-text
invariant-loop-text g l = record {
  taken : Consumes (g.R.Source.state l.fn.reader).remaining (g.R.Source.state l.reader).remaining l.text.items;
  given : (g.R.Source.state l.reader).given ≡ (g.R.Source.state l.fn.reader).given + length l.text.items;
  within : length l.text.items ≤ l.fn.limit;
  unfailed : (g.R.Source.state l.reader).has_failed ≡ false;
}

-- the bytes that may still be taken
abbrev pub decreases-loop-text : goal.decreases-loop-text
decreases-loop-text g l = l.fn.limit + 1 - length l.text.items
