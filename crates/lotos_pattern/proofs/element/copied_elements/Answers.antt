use Rattle.lotos_pattern.specs.ElementView.{element_of}
use Rattle.lotos_pattern.proofs.Copies.{copied_more}
use Rattle.lotos_pattern.proofs.element.copied_elements.Goals as goal

pub loop-element-preserved : goal.loop-element-preserved
loop-element-preserved c =
    copied_more element_of c.args.elements.now c.loop-element.copy.items c.push.new.self.items c.loop-element.element-index c.element-item.result _
    c.loop-element-test.true c.element-item.is c.loop-element.invariant c.in_ok-copied.ensures c.in_ok-push.ensures.items
