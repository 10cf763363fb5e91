use Rattle.lotos_suite.proofs.CutWords.{same_passes, words_agree}
use Rattle.lotos_suite.proofs.SuiteAgreement.{same_sequences}
use Rattle.lotos_suite.proofs.laws.suite_misses_nothing.Goals as goal

pub returns : goal.returns
returns c m implementation parts over over_too suited few = (
  (λ passes. same_sequences m implementation parts over over_too suited (words_agree m implementation parts passes) few),
  same_passes m implementation parts,
)
