use Rattle.std.proofs.Common.{◌<◌, length}
use Rattle.alloc_retries.proofs.compiled_calls.write_ends.Given as goal

-- the place is one of the compiled pattern
abbrev pub invariant-loop-label : goal.invariant-loop-label
invariant-loop-label l = l.place < length l.pattern.places
