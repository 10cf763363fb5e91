use Rattle.lotos_check.specs.CheckedView.{system_of}
use Rattle.lotos_outcome.specs.declared.outcome.Ended.TheVariants.{Done}
use Rattle.lotos_tool.specs.AfterOutcome.{IsAfterQuestionOf, ReadsAfter, after_answering}
use Rattle.lotos_tool.specs.declared.findings.Continuation.TheVariants.{CannotCome}
use Rattle.lotos_tool.proofs.AfterAnswers.{asks_after, label_refused, lines_written, too_many}
use Rattle.lotos_tool.proofs.CallEnds.{ends_more}
use Rattle.lotos_tool.proofs.after_command.AfterRequestCommand.write_answer.Goals as goal

pub find_answer-requires : goal.find_answer-requires
find_answer-requires g c = let (left, left', are) = c.requires.parts in record { sequence = are.named }

pub returns-in-Ok-Lines-clause-ends : goal.returns-in-Ok-Lines-clause-ends
returns-in-Ok-Lines-clause-ends g c = λ left left' are.
    ends_more (after_answering c.args.self.now) _ _ _ _ _ c.write_whole.result (asks_after c.args.self.now left left' (system_of c.args.parts) are)
    (lines_written c.args.self.now (system_of c.args.parts) c.in-Ok-Lines.lines _ _ _ c.write_whole.result c.as_slice.ensures.value
    (rw c.in-Ok-Lines.field-0-is at c.in-Ok-Lines.ensures.answer) c.write_whole.ensures.whole)

pub returns-in-Ok-NoLabel-clause-ends : goal.returns-in-Ok-NoLabel-clause-ends
returns-in-Ok-NoLabel-clause-ends g c = λ left left' are.
    let got = (g.W.Sink.state c.args.writer.now).written in
    ends_more (after_answering c.args.self.now) (λ cause. ⊥) (IsAfterQuestionOf c.args.self.now (system_of c.args.parts))
    (ReadsAfter c.args.self.now left left') got got
    (Done (CannotCome c.in-Ok-NoLabel.number c.in-Ok-NoLabel.instead)) (asks_after c.args.self.now left left' (system_of c.args.parts) are)
    (label_refused c.args.self.now (system_of c.args.parts) c.in-Ok-NoLabel.number c.in-Ok-NoLabel.instead got
    (rw c.in-Ok-NoLabel.field-0-is at c.in-Ok-NoLabel.ensures.answer))

pub returns-in-Err-TooManyTerms-clause-ends : goal.returns-in-Err-TooManyTerms-clause-ends
returns-in-Err-TooManyTerms-clause-ends g c = λ left left' are.
    ends_more (after_answering c.args.self.now) _ _ _ _ _ _ (asks_after c.args.self.now left left' (system_of c.args.parts) are)
    (too_many c.args.self.now (system_of c.args.parts) c.in-Err-TooManyTerms.labels _ c.stopped.result c.stopped.ensures
    (rw c.in-Err-TooManyTerms.field-0-is at c.in-Err-TooManyTerms.ensures.none))
