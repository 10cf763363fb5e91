use Rattle.std.proofs.Common.{List, subst}
use Rattle.lotos_listing.specs.Marks.{IsMarkFault, MarkOf}
use Rattle.lotos_listing.specs.Order.{Label}
use Rattle.uses.proofs.resumed_listing.item_after.Goals as goal

pub returns-in-Err-E46-clause-stopped : goal.returns-in-Err-E46-clause-stopped
returns-in-Err-E46-clause-stopped c =
    let line = c.args.line.now in
    let none = subst (λ f. IsMarkFault c.strong.result line f) c.in-Err-E46.field-0-is c.in-Err-E46.ensures.fault in
    subst (λ b. (mark : List Label) → MarkOf b line mark → ⊥) c.strong.ensures none
