use Rattle.lotos_explain.proofs.Places.{nothing_elsewhere}
use Rattle.lotos_explain.proofs.token_description.describe_elsewhere.Goals as goal

pub returns-else-at-text : goal.returns-else-at-text
returns-else-at-text c =
    nothing_elsewhere c.args.text.now c.args.at c.tokens_are_unique.ensures.offset c.tokens_are_unique.ensures.whole c.requires c.if-at-text.false
