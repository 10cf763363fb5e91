use Rattle.lotos_output.proofs.SharedTexts.{part_first, part_more, part_shown}
use Rattle.lotos_output.proofs.output_lines.part_of_both.Goals as goal

pub loop-label-init : goal.loop-label-init
loop-label-init c = part_first _ _ _ _ _ _ c.requires.first c.requires.known c.label_text-end.ensures c.label_text-end.utf8

pub label_text-requires : goal.label_text-requires
label_text-requires c = part_shown _ _ _ _ _ _ _ c.in-Some.ensures c.loop-label.invariant

pub loop-label-preserved : goal.loop-label-preserved
loop-label-preserved c = part_more _ _ _ _ _ _ _ _ c.in-Some.ensures c.label_text.ensures c.label_text.utf8 c.loop-label.invariant
