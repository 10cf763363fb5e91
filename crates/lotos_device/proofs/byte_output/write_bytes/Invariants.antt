use Rattle.std.proofs.Common.{◌≡◌, ◌≤◌, ◌-◌, false, length, take}
use Rattle.std.specs.Io.KnownBytes.{Appends}
use Rattle.lotos_device.proofs.byte_output.write_bytes.Given as goal

-- the bytes before the offset were written, and no write has failed
abbrev pub invariant-loop-at : goal.invariant-loop-at
invariant-loop-at g l = record {
  within : l.at ≤ length l.bytes;
  written : Appends (g.W.Sink.state l.fn.writer).written (g.W.Sink.state l.writer).written (take l.at l.bytes);
  unfailed : (g.W.Sink.state l.writer).has_failed ≡ false;
}

-- the bytes that are left
abbrev pub decreases-loop-at : goal.decreases-loop-at
decreases-loop-at g l = length l.bytes - l.at
