use Rattle.std.proofs.Common.{◌≡◌, ◌≤◌, ◌+◌, Some, [], arith, get_or, length, subst}
use Rattle.std.specs.Prelude.{slice_get}
use Rattle.std.proofs.lemmas.List.{length-map}
use Rattle.lotos_pattern.specs.Spelling.{Text, parts_of, texts_of}
use Rattle.lotos_pattern.proofs.Words.{word_at}
use Rattle.lotos_outcome.specs.UnknownGates.{HasUnknownGate, IsUnknownGate}
use Rattle.lotos_outcome.specs.UnknownNames.{AddsUnknown}
use Rattle.lotos_outcome.proofs.UnknownNames.{HasUnknownBefore, adds_alike, adds_more, known_name, still_unknown, unknown_before}
use Rattle.lotos_outcome.proofs.UnknownNames.{unknown_in}
use Rattle.lotos_outcome.proofs.unknown_name.add_unknown.Goals.{else-branch, then-branch+in_ok-add_name}
use Rattle.lotos_outcome.proofs.unknown_name.add_unknown.Goals as goal

pub loop-name-preserved : goal.loop-name-preserved
loop-name-preserved c =
    let names = texts_of c.deref-name-items.result.now in
    let gates = c.args.gates.now in
    let i = c.loop-name.name-index in
    let name : Text = (get_or c.deref-name-items.result.now i (record { ref_ptr = (0, 0); now = [] })).now in
    let here : slice_get names i ≡ Some name = word_at c.deref-name-items.result.now i _ c.loop-name-test.true in
    elim c.if-branch.branch [
      | then-branch+in_ok-add_name w ↦
          let unknown : IsUnknownGate gates name = rw w.if-branch.true at c.in_ok-is_unknown_gate.ensures in
          let more : HasUnknownBefore (i + 1) gates names = (i, name, omega arith, here, unknown) in
          rw w.unknown-is (adds_more (HasUnknownBefore i gates names) more c.args.number c.args.unknown.now.items c.loop-name.unknown.items
          w.add_name.new.unknown.items c.loop-name.invariant w.in_ok-add_name.ensures)
      | else-branch w ↦
          let known : IsUnknownGate gates name → ⊥ = rw w.if-branch.false at c.in_ok-is_unknown_gate.ensures in
          rw w.unknown-is (adds_alike (still_unknown gates names i) (known_name gates names i name here known) c.args.number c.args.unknown.now.items
          c.loop-name.unknown.items c.loop-name.invariant)
    ]

pub returns : goal.returns
returns c =
    let names = texts_of c.deref-name-items.result.now in
    let gates = c.args.gates.now in
    let long = length-map c.deref-name-items.result.now (λ word. word.now) in
    let all : length names ≤ c.loop-name.name-index = omega arith in
    let same : names ≡ parts_of c.args.word.now = rw c.deref-name-items.ensures.value c.in_ok-names.ensures in
    let done : AddsUnknown (HasUnknownGate gates names) c.args.number c.args.unknown.now.items c.loop-name.unknown.items =
    adds_alike (unknown_in gates names c.loop-name.name-index) (unknown_before gates names c.loop-name.name-index all) c.args.number
    c.args.unknown.now.items c.loop-name.unknown.items c.loop-name.invariant in
    subst (λ ns. AddsUnknown (HasUnknownGate gates ns) c.args.number c.args.unknown.now.items c.loop-name.unknown.items) same done
