use Rattle.lotos_check.specs.CheckedView.{system_of}
use Rattle.lotos_tool.proofs.ListingRequests.{runs_begun}
use Rattle.lotos_tool.proofs.search_command.begin_runs.Goals as goal

pub returns : goal.returns
returns c =
    let parts = c.args.parts.now in
    runs_begun c.match_question_is_unique.ensures c.args.request.now (system_of parts.system) parts.pattern parts.mark c.new.result c.new.ensures.runs
    c.new.ensures.about
