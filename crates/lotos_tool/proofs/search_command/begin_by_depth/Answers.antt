use Rattle.std.proofs.lemmas.Result.{IfOk-weaker}
use Rattle.lotos_check.specs.CheckedView.{system_of}
use Rattle.lotos_tool.proofs.ListingRequests.{asked_of}
use Rattle.lotos_tool.proofs.search_command.begin_by_depth.Goals as goal

pub returns : goal.returns
returns c =
    let system = system_of c.args.parts.system in
    IfOk-weaker c.begin.result _ _ (λ search begun.
    let question = c.begun_search_has_question.ensures system c.in_ok-table.table _ _ _ _ search c.in_ok-table.ensures c.recall_sound.ensures.sound begun in
    asked_of c.args.request.now system c.in_ok-table.table c.args.parts.pattern c.args.parts.mark c.args.depth search c.requires.extent question begun)
    c.begin.ensures.begun
