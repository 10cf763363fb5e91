use Rattle.std.proofs.Common.{refl}
use Rattle.lotos_suite.proofs.SuiteStart.{empty_is}
use Rattle.lotos_suite.proofs.prefixes.empty_prefix.Goals as goal

pub returns : goal.returns
returns c = λ s extra parts steps sequences set. empty_is s extra parts steps sequences set _ c.new.ensures.items refl refl c.new-2.ensures.items
