use Rattle.std.proofs.Common.{◌∙◌, sym}
use Rattle.lotos_check.specs.CheckedView.{system_of}
use Rattle.lotos_outcome.specs.declared.outcome.Ended.TheVariants.{Stopped}
use Rattle.lotos_tool.specs.GraphOutcome.{IsGraphQuestionOf, ReadsGraph, graph_answering}
use Rattle.lotos_tool.proofs.CallEnds.{ends_more}
use Rattle.lotos_tool.proofs.GraphAnswers.{asks_graph, halted, halts_unwritten, text_written}
use Rattle.lotos_tool.proofs.graph_command.GraphRequestCommand.write_answer.Goals as goal

pub returns-in-Ok-clause-ends : goal.returns-in-Ok-clause-ends
returns-in-Ok-clause-ends g c = λ left left' are.
    ends_more graph_answering _ _ _ _ _ c.write_whole.result (asks_graph c.args.self.now left left' (system_of c.args.parts) are)
    (text_written c.args.self.now (system_of c.args.parts) _ c.in-Ok.found _ _ c.write_whole.result c.as_slice.ensures.value c.in-Ok.ensures.automaton
    c.write_whole.ensures.whole)

pub returns-in-Err-clause-ends : goal.returns-in-Err-clause-ends
returns-in-Err-clause-ends g c = λ left left' are.
    let got = (g.W.Sink.state c.args.writer.now).written in
    let system = system_of c.args.parts in
    let h = c.in-Err.halt in
    ends_more graph_answering (λ cause. ⊥) (IsGraphQuestionOf c.args.self.now system) (ReadsGraph c.args.self.now left left') got got
    (Stopped h.cause h.place) (asks_graph c.args.self.now left left' system are) (halted c.args.self.now system got h c.in-Err.ensures.halts)

pub returns-in-Err-clause-failed : goal.returns-in-Err-clause-failed
returns-in-Err-clause-failed g c =
    c.requires.writer ∙ sym (halts_unwritten c.args.self.now (system_of c.args.parts) c.in-Err.halt c.in-Err.ensures.halts)
