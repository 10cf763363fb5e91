use Rattle.std.proofs.Common.{None, refl, subst, sym}
use Rattle.lotos_check.specs.CheckedView.{system_of}
use Rattle.lotos_outcome.specs.Calls.{Answered}
use Rattle.lotos_outcome.specs.declared.outcome.Ended.TheVariants.{Stopped}
use Rattle.lotos_tool.specs.EverOutcome.{ever_answering}
use Rattle.lotos_tool.specs.EverParts.{IsEverQuestionFor}
use Rattle.lotos_tool.proofs.EverAnswers.{halted, line_written, never_written}
use Rattle.lotos_tool.proofs.ever_command.write_match.Goals as goal

pub returns-in-Ok-Some-clause-ends : goal.returns-in-Ok-Some-clause-ends
returns-in-Ok-Some-clause-ends g c =
    line_written c.args.request.now (system_of c.args.system) c.args.pattern.now _ _ c.in-Ok-Some.line _ c.write_found.result c.as_slice.ensures.value
    (rw c.in-Ok-Some.field-0-is at c.in-Ok-Some.ensures.line) c.write_found.ensures.whole

pub returns-in-Ok-None-clause-ends : goal.returns-in-Ok-None-clause-ends
returns-in-Ok-None-clause-ends g c =
    never_written c.args.request.now (system_of c.args.system) c.args.pattern.now _ _ _ c.write_found-in-Ok-None.result refl
    (rw c.in-Ok-None.field-0-is at c.in-Ok-None.ensures.line) c.write_found-in-Ok-None.ensures.whole

pub returns-in-Err-clause-ends : goal.returns-in-Err-clause-ends
returns-in-Err-clause-ends g c =
    let request = c.args.request.now in
    let got = (g.W.Sink.state c.args.writer.now).written in
    subst (λ cause. Answered (ever_answering request) (IsEverQuestionFor (system_of c.args.system) c.args.pattern.now) got got (Stopped cause None))
    (sym c.cause_of_halt.ensures) (halted request (system_of c.args.system) c.args.pattern.now _ c.in-Err.halt c.in-Err.ensures.none)
