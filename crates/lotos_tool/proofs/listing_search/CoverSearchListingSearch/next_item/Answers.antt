use Rattle.std.proofs.Common.{◌∙◌, ◌<◌, Err, Ok, ap, subst, sym}
use Rattle.std.specs.Prelude.{IfSome}
use Rattle.std.proofs.lemmas.Result.{err_from_is_err_and}
use Rattle.lotos_listing.specs.Remaining.{remaining}
use Rattle.lotos_tool.specs.ListingQuestions.{NextReturns, by_cover, cover_state, most_of, names_of}
use Rattle.lotos_tool.proofs.HaltedSearches.{fewer_remain, line_returned}
use Rattle.lotos_tool.proofs.listing_search.CoverSearchListingSearch.next_item.Goals as goal

pub returns-clause-next_returns : goal.returns-clause-next_returns
returns-clause-next_returns g c =
    let old = c.args.self.now in
    let new = c.next_with_progress.new.self in
    line_returned old.question old.cursor old.stage (Ok c.in_ok-next_with_progress.field-0) new.cursor new.stage
    c.in_ok-next_with_progress.ensures.next_returns

pub returns-clause-fewer : goal.returns-clause-fewer
returns-clause-fewer g c =
    let old = c.args.self.now in
    let new = c.next_with_progress.new.self in
    let q = by_cover old.question in
    let item = c.in_ok-next_with_progress.field-0 in
    subst (λ k. IfSome item (λ found. remaining (names_of (by_cover k)) (most_of (by_cover k)) new.cursor < remaining (names_of q) (most_of q) old.cursor))
    (sym c.in_ok-next_with_progress.ensures.same)
    (fewer_remain q old.cursor (λ s run next. c.lines_decrease_remaining.ensures old.question c.recall_closed.ensures old.cursor s next.member next.after)
    old.stage (Ok item)
    new.cursor new.stage
    (line_returned old.question old.cursor old.stage (Ok item) new.cursor new.stage c.in_ok-next_with_progress.ensures.next_returns))

pub returns-in_err-next_with_progress-clause-next_returns : goal.returns-in_err-next_with_progress-clause-next_returns
returns-in_err-next_with_progress-clause-next_returns g c =
    let old = c.args.self.now in
    let new = c.next_with_progress.new.self in
    let p = err_from_is_err_and c.from_residual.result c.from_residual.ensures.1 in
    let is = p.1 ∙ ap (λ v. Err v) p.2 in
    subst (λ r. NextReturns (cover_state old) r (cover_state new)) (sym is)
    (line_returned old.question old.cursor old.stage (Err c.in_err-next_with_progress.field-0.0) new.cursor new.stage
    c.in_err-next_with_progress.ensures.next_returns)
