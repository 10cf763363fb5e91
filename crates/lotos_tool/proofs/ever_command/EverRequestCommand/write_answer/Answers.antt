use Rattle.lotos_check.specs.CheckedView.{system_of}
use Rattle.lotos_tool.specs.EverOutcome.{ever_answering}
use Rattle.lotos_tool.proofs.CallEnds.{ends_more}
use Rattle.lotos_tool.proofs.EverAnswers.{asks_ever}
use Rattle.lotos_tool.proofs.ever_command.EverRequestCommand.write_answer.Goals as goal

pub returns-clause-ends : goal.returns-clause-ends
returns-clause-ends g c = λ left left' are.
    ends_more (ever_answering c.args.self.now) _ _ _ _ _ c.write_match.result
    (asks_ever c.args.self.now left left' (system_of c.args.parts.1) c.args.parts.0 are) c.write_match.ensures.ends
