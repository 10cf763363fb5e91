use Rattle.lotos_text.proofs.OneToken.{lost_one}
use Rattle.lotos_text.proofs.parse_primitives.expect.Goals as goal

pub returns-in-None-clause-fails : goal.returns-in-None-clause-fails
returns-in-None-clause-fails c = lost_one c.args.kind c.args.tokens.now c.in-None.ensures.none
