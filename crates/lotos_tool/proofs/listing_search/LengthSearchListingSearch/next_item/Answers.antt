use Rattle.std.proofs.Common.{◌<◌, Ok, subst, sym}
use Rattle.std.specs.Prelude.{IfSome}
use Rattle.lotos_listing.specs.Remaining.{remaining}
use Rattle.lotos_tool.specs.ListingQuestions.{by_length, most_of, names_of}
use Rattle.lotos_tool.proofs.HaltedSearches.{fewer_remain, returned}
use Rattle.lotos_tool.proofs.listing_search.LengthSearchListingSearch.next_item.Goals as goal

pub returns-clause-next_returns : goal.returns-clause-next_returns
returns-clause-next_returns g c =
    let old = c.args.self.now in
    let new = c.next_with_progress.new.self in
    returned (by_length old.question) (λ r h. h) tt old.cursor old.stage (Ok c.in_ok-next_with_progress.field-0) new.cursor new.stage
    c.in_ok-next_with_progress.ensures.next_returns

pub returns-clause-fewer : goal.returns-clause-fewer
returns-clause-fewer g c =
    let old = c.args.self.now in
    let new = c.next_with_progress.new.self in
    let q = by_length old.question in
    let item = c.in_ok-next_with_progress.field-0 in
    subst (λ k. IfSome item (λ found. remaining (names_of (by_length k)) (most_of (by_length k)) new.cursor < remaining (names_of q) (most_of q) old.cursor))
    (sym c.in_ok-next_with_progress.ensures.same)
    (fewer_remain q old.cursor (λ s run next. c.items_by_length_decrease_remaining.ensures old.question old.cursor s next.member next.after) old.stage (Ok item)
    new.cursor new.stage
    (returned q (λ r h. h) tt old.cursor old.stage (Ok item) new.cursor new.stage c.in_ok-next_with_progress.ensures.next_returns))
