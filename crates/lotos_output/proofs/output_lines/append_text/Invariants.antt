use Rattle.std.proofs.Common.{◌≡◌, ◌++◌, take}
use Rattle.lotos_output.proofs.output_lines.append_text.Given as goal

-- the bytes before the index are appended
abbrev pub invariant-loop-byte : goal.invariant-loop-byte
invariant-loop-byte l = l.bytes.items ≡ l.fn.bytes.items ++ take l.byte-index l.text
