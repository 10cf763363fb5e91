use Rattle.lotos_text.proofs.LexingUnique.{one_cut, one_offset, sticks_uncut}
use Rattle.lotos_text.proofs.laws.tokens_are_unique.Goals as goal

pub returns-clause-lexes : goal.returns-clause-lexes
returns-clause-lexes c = one_cut

pub returns-clause-offset : goal.returns-clause-offset
returns-clause-offset c = one_offset

pub returns-clause-whole : goal.returns-clause-whole
returns-clause-whole c = sticks_uncut
