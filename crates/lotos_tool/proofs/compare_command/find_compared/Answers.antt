use Rattle.std.proofs.Common.{inl, refl}
use Rattle.std.proofs.lemmas.Result.{IfErr-weaker, IfOk-weaker}
use Rattle.lotos_check.specs.CheckedView.{system_of}
use Rattle.lotos_check.specs.Flat.{System}
use Rattle.lotos_check.proofs.SameFault.{passed_on}
use Rattle.lotos_tool.specs.CompareOutcome.{IsCompareQuestionOf, compare_answering}
use Rattle.lotos_tool.specs.CompareParts.{question_of}
use Rattle.lotos_tool.specs.Halts.{HasHalt, IsHalt}
use Rattle.lotos_tool.proofs.CompareAnswers.{question_is}
use Rattle.lotos_tool.proofs.Halts.{halts_for}
use Rattle.lotos_tool.proofs.compare_command.find_compared.Goals as goal

pub returns-in_err-firsts-clause-halts : goal.returns-in_err-firsts-clause-halts
returns-in_err-firsts-clause-halts g c =
    let systems : System × System = (system_of c.args.first, system_of c.args.second) in
    passed_on (HasHalt compare_answering (IsCompareQuestionOf c.args.request.now systems)) c.from_residual.result _ c.from_residual.ensures.1 (inl refl)

pub returns-in_err-seconds-clause-halts : goal.returns-in_err-seconds-clause-halts
returns-in_err-seconds-clause-halts g c =
    let r = c.from_residual-in_err-seconds in
    let systems : System × System = (system_of c.args.first, system_of c.args.second) in
    passed_on (HasHalt compare_answering (IsCompareQuestionOf c.args.request.now systems)) r.result _ r.ensures.1 (inl refl)

pub returns-clause-found : goal.returns-clause-found
returns-clause-found g c =
    let request = c.args.request.now in
    let systems : System × System = (system_of c.args.first, system_of c.args.second) in
    let v = c.in_ok-firsts.firsts in
    let w = c.in_ok-seconds.seconds in
    let asked = question_is request systems v w c.in_ok-firsts.ensures c.in_ok-seconds.ensures in
    IfOk-weaker c.compared.result _ _ (λ made h. (question_of v w request.within request.states, asked, h)) c.compared.ensures.found

pub returns-clause-halts : goal.returns-clause-halts
returns-clause-halts g c =
    let request = c.args.request.now in
    let systems : System × System = (system_of c.args.first, system_of c.args.second) in
    let v = c.in_ok-firsts.firsts in
    let w = c.in_ok-seconds.seconds in
    let q = question_of v w request.within request.states in
    let asked = question_is request systems v w c.in_ok-firsts.ensures c.in_ok-seconds.ensures in
    let Asked = IsCompareQuestionOf request systems in
    IfErr-weaker c.compared.result (IsHalt compare_answering q) (HasHalt compare_answering Asked)
    (λ h. halts_for compare_answering Asked q h asked) c.compared.ensures.halts
