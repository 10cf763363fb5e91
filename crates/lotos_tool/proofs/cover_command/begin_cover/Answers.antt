use Rattle.lotos_check.specs.CheckedView.{system_of}
use Rattle.lotos_tool.proofs.ListingRequests.{cover_asked_of}
use Rattle.lotos_tool.proofs.cover_command.begin_cover.Goals as goal

pub returns : goal.returns
returns c =
    let system = system_of c.args.system in
    let search = c.begin-search.result in
    cover_asked_of c.args.request.now system c.in_ok-table.table c.args.mark search
    (c.begun_cover_search_has_question.ensures system c.in_ok-table.table _ _ _ _ search c.in_ok-table.ensures c.recall_sound.ensures.sound
    c.begin-search.ensures.begun)
    c.begin-search.ensures.begun
