-- Bytes that are written chunk by chunk.
use Rattle.std.proofs.Common.{◌≡◌, ℕ, ◌+◌, ◌<◌, List, Option, take, drop, subst, sym, length, length-drop, take-append-drop, arith, Result, Ok, Err, OnErr}
use Rattle.std.proofs.Math.Seq.{take-add}
use Rattle.std.specs.Io.KnownBytes.{Appends, Keeps}
use Rattle.std.proofs.KnownBytes.{Appends-trans, Appends-kept}
use Rattle.lotos_device.specs.ByteOutput.{AppendsPart}

-- after the bytes before the offset, a write took some of the rest
pub written_more : (old mid new : Option (List ℕ)) (bytes rest : List ℕ) (at count : ℕ)
    → Appends old mid (take at bytes) → Appends mid new (take count rest) → rest ≡ drop at bytes
    → Appends old new (take (at + count) bytes)
written_more old mid new bytes rest at count before now e =
    subst (Appends old new) (sym (take-add at count bytes))
    (Appends-trans old mid new (take at bytes) (take count (drop at bytes)) before
    (subst (λ xs. Appends mid new (take count xs)) e now))

-- after the bytes before the offset, a write failed
pub written_part : (old mid new : Option (List ℕ)) (bytes : List ℕ) (at : ℕ)
    → at < length bytes → Appends old mid (take at bytes) → Keeps mid new → AppendsPart old new bytes
written_part old mid new bytes at left before now = record {
  part = take at bytes;
  rest = drop at bytes;
  whole = sym (take-append-drop at bytes);
  proper = simp length-drop (omega arith);
  written = Appends-kept old mid new (take at bytes) before now;
}

-- what holds anyway holds on an error
pub on_error : {T E P : Type 0} (r : Result T E) → P → OnErr r P
on_error (Ok x) p = tt
on_error (Err e) p = p
