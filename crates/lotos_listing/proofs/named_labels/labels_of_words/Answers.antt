use Rattle.std.proofs.Common.{◌≡◌, ◌≤◌, ◌∙◌, Some, [], ap, length, map, string_bytes, subst, sym}
use Rattle.std.specs.Prelude.{slice_get}
use Rattle.std.proofs.lemmas.List.{length-map}
use Rattle.lotos_check.proofs.ListIndices.{get_in, map_read}
use Rattle.lotos_listing.specs.Question.{ArePrinted, none_printed}
use Rattle.lotos_listing.specs.NamedLabels.{HasGate}
use Rattle.lotos_listing.proofs.NamedLabels.{AreLabelsOf, labels_all, labels_more}
use Rattle.lotos_listing.proofs.named_labels.labels_of_words.Goals as goal

pub loop-word-init : goal.loop-word-init
loop-word-init c strong s named = subst (λ ks. ArePrinted c.args.gates.now ks []) (sym c.new-labels.ensures.items) none_printed

pub unreachable-requires : goal.unreachable-requires
unreachable-requires c =
    let n = c.loop-word.word-index in
    let text = c.as_str.result.now in
    let at : slice_get (map string_bytes c.args.words.now) n ≡ Some text =
    map_read string_bytes c.args.words.now n _ c.loop-word-test.true c.word-item.is ∙ ap Some (sym c.as_str.ensures.value) in
    let none : HasGate c.args.gates.now text → ⊥ = rw c.in-None.is at c.in_ok-label.ensures in
    none (c.requires.gates text (get_in (map string_bytes c.args.words.now) n text at))

pub loop-word-preserved : goal.loop-word-preserved
loop-word-preserved c =
    let n = c.loop-word.word-index in
    let text = c.as_str.result.now in
    let at : slice_get (map string_bytes c.args.words.now) n ≡ Some text =
    map_read string_bytes c.args.words.now n _ c.loop-word-test.true c.word-item.is ∙ ap Some (sym c.as_str.ensures.value) in
    let shown = rw c.in-Some.is at c.in_ok-label.ensures in
    subst (AreLabelsOf c.args.gates.now (map string_bytes c.args.words.now) _) (sym c.in_ok-push-in-Some.ensures.items)
    (labels_more c.args.gates.now (map string_bytes c.args.words.now) n c.loop-word.labels.items c.loop-word.invariant text at c.in-Some.label shown)

pub returns : goal.returns
returns c =
    let passed : length (map string_bytes c.args.words.now) ≤ c.loop-word.word-index = simp length-map c.loop-word-test.false in
    labels_all c.args.gates.now (map string_bytes c.args.words.now) c.loop-word.word-index c.loop-word.labels.items c.loop-word.invariant passed
