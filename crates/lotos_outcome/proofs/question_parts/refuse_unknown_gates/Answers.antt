use Rattle.std.proofs.Common.{rules}
use Rattle.lotos_check.proofs.SameFault.{passed_on}
use Rattle.lotos_check.specs.CheckedView.{system_of}
use Rattle.lotos_outcome.specs.QuestionParts.{words_of}
use Rattle.lotos_outcome.specs.RefusalCauses.{IsGateRefusal}
use Rattle.lotos_outcome.specs.RefusalCauses.IsGateRefusal.{unknown_gate}
use Rattle.lotos_outcome.specs.Rejections.{IsRejectionBy}
use Rattle.lotos_outcome.specs.declared.rejection.Rejection.TheVariants.{Memory}
use Rattle.lotos_outcome.proofs.UnknownNames.{begin_first}
use Rattle.lotos_outcome.proofs.question_parts.refuse_unknown_gates.Goals as goal

pub returns-in_err-names-clause-rejected : goal.returns-in_err-names-clause-rejected
returns-in_err-names-clause-rejected c =
    passed_on (IsRejectionBy (IsGateRefusal (system_of c.args.system.now).formals (words_of c.args.words.now))) c.from_residual.result Memory
    c.from_residual.ensures.1 tt

pub returns-clause-rejected : goal.returns-clause-rejected
returns-clause-rejected c =
    let begins = rw c.gates.ensures at (rw c.as_slice.ensures.value at c.in_ok-names.ensures) in
    unknown_gate c.index.result.now.word (begin_first (system_of c.args.system.now).formals (words_of c.args.words.now) c.in_ok-names.names.items
    c.index.result.now begins (search rules) c.index.ensures)
