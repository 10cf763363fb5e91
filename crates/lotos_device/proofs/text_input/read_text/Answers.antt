use Rattle.std.proofs.Common.{◌++◌, ◌≡◌, ◌+◌, take, length, arith, rules, length-append}
use Rattle.std.proofs.lemmas.List.{length-take}
use Rattle.std.proofs.KnownBytes.{Consumes-kept, Consumes-trans}
use Rattle.lotos_device.proofs.text_input.read_text.Goals as goal

-- the bytes that were read are the text so far and those of the last read, which the text could not grow by
pub returns-in_err-extend_from_slice-clause-memory :
    goal.returns-in_err-extend_from_slice-clause-memory
returns-in_err-extend_from_slice-clause-memory g c =
    let room : length c.read.new.into ≡ c.min-room.result + 1 = search rules in
    λ _. (
      c.loop-text.text.items ++ take c.in-Ok.count c.read.new.into,
      simp (length-append, length-take) (omega (arith, c.min-room.ensures)),
      Consumes-trans _ _ _ _ _ c.loop-text.invariant.taken c.in-Ok.ensures.bytes.1,
    )

-- what was taken is the text so far, and the read that failed took nothing
pub returns-in-Err-clause-device : goal.returns-in-Err-clause-device
returns-in-Err-clause-device g c =
    λ _. (
      c.loop-text.text.items,
      c.loop-text.invariant.within,
      Consumes-kept _ _ _ _ c.loop-text.invariant.taken c.in-Err.ensures.bytes,
    )
