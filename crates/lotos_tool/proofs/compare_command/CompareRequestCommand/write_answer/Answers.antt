use Rattle.std.proofs.Common.{◌∙◌, refl, sym}
use Rattle.lotos_check.specs.CheckedView.{system_of}
use Rattle.lotos_check.specs.Flat.{System}
use Rattle.lotos_outcome.specs.declared.outcome.Ended.TheVariants.{Stopped}
use Rattle.lotos_tool.specs.CompareOutcome.{IsCompareQuestionOf, ReadsCompare, compare_answering}
use Rattle.lotos_tool.proofs.CallEnds.{ends_more}
use Rattle.lotos_tool.proofs.CompareAnswers.{asks_compare, text_written}
use Rattle.lotos_tool.proofs.Halts.{halted, halts_unwritten}
use Rattle.lotos_tool.proofs.compare_command.CompareRequestCommand.write_answer.Goals as goal

pub returns-in-Ok-clause-ends : goal.returns-in-Ok-clause-ends
returns-in-Ok-clause-ends g c = λ left left' are.
    let systems : System × System = (system_of c.args.parts.0, system_of c.args.parts.1) in
    ends_more compare_answering _ _ _ _ _ c.write_whole.result (asks_compare c.args.self.now left left' systems are)
    (text_written c.args.self.now systems _ c.in-Ok.made _ _ c.write_whole.result c.as_slice-in-Ok.ensures.value c.in-Ok.ensures.found
    c.write_whole.ensures.whole)

pub returns-in-Err-clause-ends : goal.returns-in-Err-clause-ends
returns-in-Err-clause-ends g c = λ left left' are.
    let got = (g.W.Sink.state c.args.writer.now).written in
    let systems : System × System = (system_of c.args.parts.0, system_of c.args.parts.1) in
    let h = c.in-Err.halt in
    let Asked = IsCompareQuestionOf c.args.self.now systems in
    ends_more compare_answering (λ cause. ⊥) Asked (ReadsCompare c.args.self.now left left') got got (Stopped h.cause h.place)
    (asks_compare c.args.self.now left left' systems are) (halted compare_answering Asked got refl h c.in-Err.ensures.halts)

pub returns-in-Err-clause-failed : goal.returns-in-Err-clause-failed
returns-in-Err-clause-failed g c =
    let systems : System × System = (system_of c.args.parts.0, system_of c.args.parts.1) in
    let Asked = IsCompareQuestionOf c.args.self.now systems in
    c.requires.writer ∙ sym (halts_unwritten compare_answering Asked c.in-Err.halt c.in-Err.ensures.halts)
