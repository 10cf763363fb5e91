use Rattle.lotos_tool.specs.ListingQuestions.{depth_state, length_state}
use Rattle.lotos_tool.specs.SearchOutcome.{search_answering}
use Rattle.lotos_tool.proofs.CallEnds.{ends_more}
use Rattle.lotos_tool.proofs.ListingRequests.{asked_here}
use Rattle.lotos_tool.proofs.search_command.list_items.Goals as goal

pub write_listing-requires-clause-runs : goal.write_listing-requires-clause-runs
write_listing-requires-clause-runs g c = c.requires.runs (depth_state c.in-Ok.search) c.in-Ok.ensures

pub returns-in-Ok-clause-ends : goal.returns-in-Ok-clause-ends
returns-in-Ok-clause-ends g c =
    ends_more (search_answering c.args.request.now) _ _ _ _ _ c.write_listing.result
    (asked_here c.args.request.now _ _ _ (depth_state c.in-Ok.search) c.in-Ok.ensures) c.write_listing.ensures.ends

pub write_listing-requires-in-Ok-begin_by_length-clause-runs : goal.write_listing-requires-in-Ok-begin_by_length-clause-runs
write_listing-requires-in-Ok-begin_by_length-clause-runs g c =
    c.requires.runs (length_state c.in-Ok-begin_by_length.search) c.in-Ok-begin_by_length.ensures

pub returns-in-Ok-begin_by_length-clause-ends : goal.returns-in-Ok-begin_by_length-clause-ends
returns-in-Ok-begin_by_length-clause-ends g c =
    ends_more (search_answering c.args.request.now) _ _ _ _ _ c.write_listing-in-Ok-begin_by_length.result
    (asked_here c.args.request.now _ _ _ (length_state c.in-Ok-begin_by_length.search) c.in-Ok-begin_by_length.ensures)
    c.write_listing-in-Ok-begin_by_length.ensures.ends
