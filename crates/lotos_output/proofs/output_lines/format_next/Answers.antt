use Rattle.std.proofs.Common.{◌+◌, ◌++◌, ◌∷◌, [], ◌∙◌, ap, append-nil, codes, drop, sym}
use Rattle.std.specs.List.{flat_map}
use Rattle.lotos_output.proofs.FormattedLines.{label_line, left_from, line_behind, line_shown, lines_none}
use Rattle.lotos_output.proofs.output_lines.format_next.Goals as goal
use Rattle.lotos_output.proofs.output_lines.format_next.Goals.{else-dead, then-dead+in_ok-extend_from_slice}

pub loop-label-init : goal.loop-label-init
loop-label-init c = λ next printed. (next, printed, ap (λ b. b ++ flat_map label_line next) c.new-lines.ensures.items)

pub label_text-requires : goal.label_text-requires
label_text-requires c = line_shown _ _ (drop (c.loop-label.label-index + 1) c.args.labels.now) _ _ _
    (left_from c.args.labels.now c.loop-label.label-index c.label-item.result c.loop-label-test.true c.label-item.is)
    (c.loop-label.invariant c.requires.0 c.requires.1)

pub loop-label-preserved : goal.loop-label-preserved
loop-label-preserved c =
    let grown = c.in_ok-push.ensures.items ∙ ap (λ b. b ++ 10 ∷ []) c.in_ok-append_text.ensures in
    λ next printed. line_behind _ _ _ _ _ _ _ next
    (left_from c.args.labels.now c.loop-label.label-index c.label-item.result c.loop-label-test.true c.label-item.is)
    c.label_text.ensures grown (c.loop-label.invariant next printed)

pub returns : goal.returns
returns c = elim c.if-dead.branch [
  | then-dead+in_ok-extend_from_slice w ↦ λ next printed.
      let lines = lines_none _ c.args.labels.now c.loop-label.label-index _ next c.loop-label-test.false (c.loop-label.invariant next printed) in
      rw (w.lines-is, w.if-dead.true) (w.in_ok-extend_from_slice.ensures.items ∙ ap (λ b. b ++ codes "<deadlock>\n") lines)
  | else-dead w ↦ λ next printed.
      let lines = lines_none _ c.args.labels.now c.loop-label.label-index _ next c.loop-label-test.false (c.loop-label.invariant next printed) in
      rw (w.lines-is, w.if-dead.false) (lines ∙ sym (append-nil (flat_map label_line next)))
]
