use Rattle.std.proofs.Common.{string_bytes, ◌∙◌}
use Rattle.lotos_pattern.proofs.Copies.{copied_more}
use Rattle.lotos_pattern.proofs.label_set.copied_labels.Goals as goal

pub loop-label-preserved : goal.loop-label-preserved
loop-label-preserved c =
    copied_more string_bytes c.args.labels.now c.loop-label.copy.items c.push.new.self.items c.loop-label.label-index c.label-item.result _
    c.loop-label-test.true c.label-item.is c.loop-label.invariant (c.in_ok-from_str.ensures.ok ∙ c.as_str.ensures.value) c.in_ok-push.ensures.items
