use Rattle.std.proofs.Common.{◌∙◌, None, sym}
use Rattle.lotos_check.specs.CheckedView.{system_of}
use Rattle.lotos_outcome.specs.declared.outcome.Ended.TheVariants.{Stopped}
use Rattle.lotos_tool.specs.SuiteOutcome.{IsSuiteQuestionOf, ReadsSuite, suite_answering}
use Rattle.lotos_tool.proofs.CallEnds.{ends_more}
use Rattle.lotos_tool.proofs.SuiteAnswers.{asks_suite, halted, halts_unwritten, text_written}
use Rattle.lotos_tool.proofs.suite_command.SuiteRequestCommand.write_answer.Goals as goal

pub returns-in-Ok-clause-ends : goal.returns-in-Ok-clause-ends
returns-in-Ok-clause-ends g c = λ left left' are.
    let request = c.args.self.now in
    let mark = c.args.parts.0 in
    let system = system_of c.args.parts.1 in
    ends_more suite_answering _ _ _ _ _ c.write_suite.result (asks_suite request left left' system mark are)
    (text_written request system mark c.in-Ok.made _ _ c.write_suite.result c.in-Ok.ensures.made c.write_suite.ensures.ends)

pub returns-clause-ends : goal.returns-clause-ends
returns-clause-ends g c = λ left left' are.
    let request = c.args.self.now in
    let mark = c.args.parts.0 in
    let system = system_of c.args.parts.1 in
    let got = (g.W.Sink.state c.args.writer.now).written in
    let h = c.in-Err.halt in
    rw c.stopped.ensures (ends_more suite_answering (λ cause. ⊥) (IsSuiteQuestionOf request system mark) (ReadsSuite request left left') got got
    (Stopped h.cause (record { last = None; prefix = h.place })) (asks_suite request left left' system mark are)
    (halted request system mark got h c.in-Err.ensures.halts))

pub returns-clause-failed : goal.returns-clause-failed
returns-clause-failed g c =
    let request = c.args.self.now in
    rw c.stopped.ensures (c.requires.writer ∙ sym (halts_unwritten request (system_of c.args.parts.1) c.args.parts.0 c.in-Err.halt c.in-Err.ensures.halts))
