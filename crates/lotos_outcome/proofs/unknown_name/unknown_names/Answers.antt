use Rattle.std.proofs.Common.{◌≡◌, ◌≤◌, ◌∙◌, Some, ap, length, map, string_bytes, sym}
use Rattle.std.specs.Prelude.{slice_get}
use Rattle.std.proofs.lemmas.List.{length-map}
use Rattle.lotos_check.proofs.ListIndices.{map_read}
use Rattle.lotos_outcome.proofs.UnknownNames.{begin_all, begin_more}
use Rattle.lotos_outcome.proofs.unknown_name.unknown_names.Goals as goal

pub loop-number-preserved : goal.loop-number-preserved
loop-number-preserved c =
    let n = c.loop-number.number in
    let text = c.as_str.result.now in
    let at : slice_get (map string_bytes c.args.words.now) n ≡ Some text =
    map_read string_bytes c.args.words.now n _ c.loop-number-test.true c.index-words-number.is ∙ ap Some (sym c.as_str.ensures.value) in
    begin_more c.args.gates.now (map string_bytes c.args.words.now) n text at c.loop-number.unknown.items c.add_unknown.new.unknown.items
    c.in_ok-add_unknown.ensures c.loop-number.invariant

pub returns : goal.returns
returns c =
    let passed : length (map string_bytes c.args.words.now) ≤ c.loop-number.number = simp length-map c.loop-number-test.false in
    begin_all c.args.gates.now (map string_bytes c.args.words.now) c.loop-number.number passed c.loop-number.unknown.items c.loop-number.invariant
