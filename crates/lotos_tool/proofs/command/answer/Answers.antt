use Rattle.lotos_tool.proofs.CallEnds.{call_answered, call_rejected}
use Rattle.lotos_tool.proofs.command.answer.Goals as goal

pub write_answer-requires-clause-parts : goal.write_answer-requires-clause-parts
write_answer-requires-clause-parts g c = (_, _, c.in-Ok.ensures.parts)

pub returns-in-Ok : goal.returns-in-Ok
returns-in-Ok g c =
    call_answered (g.C.Command.meaning c.args.command.now) _ _ _ _ _ c.write_answer.result (λ q asked. asked) c.in-Ok.ensures.takes c.in-Ok.ensures.failed
    (c.write_answer.ensures.ends _ _ c.in-Ok.ensures.parts) c.write_answer.ensures.failed

pub returns-in-Err : goal.returns-in-Err
returns-in-Err g c =
    call_rejected (g.C.Command.meaning c.args.command.now) _ _ _ c.in-Err.rejection c.nowhere.result c.end_of.result c.end_of.ensures c.nowhere.ensures
    c.in-Err.ensures.rejected c.in-Err.ensures.takes c.in-Err.ensures.failed c.requires.writer
