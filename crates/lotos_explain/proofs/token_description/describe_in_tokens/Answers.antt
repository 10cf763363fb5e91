use Rattle.lotos_explain.proofs.Places.{nothing_in_tokens, token_is}
use Rattle.lotos_explain.proofs.token_description.describe_in_tokens.Goals as goal

pub returns-in-Some : goal.returns-in-Some
returns-in-Some c = token_is c.args.text.now c.args.at c.args.found.now c.in-Some.token c.requires c.in-Some.ensures.is

pub returns-in-None-2 : goal.returns-in-None-2
returns-in-None-2 c =
    nothing_in_tokens c.args.text.now c.args.at c.args.found.now c.tokens_are_unique.ensures.lexes c.tokens_are_unique.ensures.whole c.requires
    c.in-None-2.ensures.none c.if-at-text.false
