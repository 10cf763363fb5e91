use Rattle.lotos_pattern.proofs.Ends.{last_kept}
use Rattle.lotos_pattern.proofs.element.last_refusal.Goals as goal

pub returns : goal.returns
returns c =
    let there = c.in_ok-last.ensures.item.3 in
    last_kept c.args.elements.now _ _ there.0 (there.1 _) c.refusal.ensures
