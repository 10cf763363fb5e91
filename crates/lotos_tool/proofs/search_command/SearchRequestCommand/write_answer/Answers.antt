use Rattle.lotos_check.specs.CheckedView.{system_of}
use Rattle.lotos_tool.specs.SearchOutcome.{search_answering}
use Rattle.lotos_tool.proofs.CallEnds.{ends_more}
use Rattle.lotos_tool.proofs.search_command.SearchRequestCommand.write_answer.Goals as goal

pub returns-in-Ok-clause-ends : goal.returns-in-Ok-clause-ends
returns-in-Ok-clause-ends g c = λ left left' are.
    let parts = c.args.parts in
    ends_more (search_answering c.args.self.now) _ _ _ _ _ c.list_items.result
    (λ asked is. record { system = system_of parts.system; pattern = parts.pattern; mark = parts.mark; parts = are; asks = is }) c.list_items.ensures.ends
