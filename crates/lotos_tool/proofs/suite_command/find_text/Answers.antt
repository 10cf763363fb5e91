use Rattle.std.proofs.Common.{◌∙◌, inl, refl}
use Rattle.std.proofs.lemmas.Result.{IfErr-weaker, IfOk-weaker}
use Rattle.lotos_check.specs.CheckedView.{system_of}
use Rattle.lotos_check.proofs.SameFault.{passed_on}
use Rattle.lotos_tool.specs.SuiteParts.{HasSuiteHalt, IsSuiteHalt, question_of}
use Rattle.lotos_tool.proofs.SuiteAnswers.{halts_for, question_is}
use Rattle.lotos_tool.proofs.suite_command.find_text.Goals as goal

pub returns-in_err-own-clause-halts : goal.returns-in_err-own-clause-halts
returns-in_err-own-clause-halts g c =
    passed_on (HasSuiteHalt c.args.request.now (system_of c.args.system) c.args.mark.now) c.from_residual.result _ c.from_residual.ensures.1
    (inl (refl, refl))

pub returns-in_err-sets-clause-halts : goal.returns-in_err-sets-clause-halts
returns-in_err-sets-clause-halts g c =
    let r = c.from_residual-in_err-sets in
    passed_on (HasSuiteHalt c.args.request.now (system_of c.args.system) c.args.mark.now) r.result _ r.ensures.1 (inl (refl, refl))

pub returns-clause-made : goal.returns-clause-made
returns-clause-made g c =
    let request = c.args.request.now in
    let v = c.in_ok-sets.sets in
    let own = c.as_slice.result.now in
    let mark = c.args.mark.now in
    let asked = question_is request (system_of c.args.system) v own mark c.in_ok-sets.ensures (c.as_slice.ensures.value ∙ c.in_ok-own.ensures) in
    IfOk-weaker c.explored_text.result _ _ (λ made h. (question_of request v own mark, asked, h)) c.explored_text.ensures.made

pub returns-clause-halts : goal.returns-clause-halts
returns-clause-halts g c =
    let request = c.args.request.now in
    let system = system_of c.args.system in
    let v = c.in_ok-sets.sets in
    let own = c.as_slice.result.now in
    let mark = c.args.mark.now in
    let q = question_of request v own mark in
    let asked = question_is request system v own mark c.in_ok-sets.ensures (c.as_slice.ensures.value ∙ c.in_ok-own.ensures) in
    IfErr-weaker c.explored_text.result (IsSuiteHalt q) (HasSuiteHalt request system mark) (λ h. halts_for request system mark q h asked)
    c.explored_text.ensures.halts
