use Rattle.std.proofs.Common.{ℕ, List, [], Option, Result, Ok, Err, sym, append-nil}
use Rattle.std.specs.Prelude.{OnOk, OnErr}
use Rattle.std.specs.Io.KnownBytes.{Appends}
use Rattle.std.proofs.KnownBytes.{Appends-kept}
use Rattle.lotos_device.specs.ByteOutput.{AppendsBeginning, AppendsPart}
use Rattle.lotos_output.proofs.output_flush.write_and_flush.Goals as goal

on_ok-always : {T E : Type 0} (r : Result T E) (P : Type 0) → P → OnOk r P
on_ok-always (Ok v) P holds = holds
on_ok-always (Err e) P holds = tt

on_err-always : {T E : Type 0} (r : Result T E) (P : Type 0) → P → OnErr r P
on_err-always (Ok v) P holds = tt
on_err-always (Err e) P holds = holds

-- if a whole text was written, a prefix of it was
whole_begins : (old new : Option (List ℕ)) (text : List ℕ) → Appends old new text → AppendsBeginning old new text
whole_begins old new text h = record { part = text; rest = []; whole = sym (append-nil text); written = h }

part_begins : (old new : Option (List ℕ)) (text : List ℕ) → AppendsPart old new text → AppendsBeginning old new text
part_begins old new text h = record { part = h.part; rest = h.rest; whole = h.whole; written = h.written }

pub returns-clause-whole : goal.returns-clause-whole
returns-clause-whole g c =
    let front = c.in_ok-write_bytes.ensures.whole in
    on_ok-always c.flush.result _ (Appends-kept _ _ _ c.args.bytes.now front c.flush.ensures.bytes)

pub returns-clause-beginning : goal.returns-clause-beginning
returns-clause-beginning g c =
    let front = c.in_ok-write_bytes.ensures.whole in
    on_err-always c.flush.result _ (whole_begins _ _ _ (Appends-kept _ _ _ c.args.bytes.now front c.flush.ensures.bytes))
