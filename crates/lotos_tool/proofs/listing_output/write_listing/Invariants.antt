use Rattle.std.proofs.Common.{◌≡◌, List, length, false}
use Rattle.lotos_listing.specs.ListingSteps.{running}
use Rattle.lotos_tool.specs.ListingQuestions.{names_of, remaining_after}
use Rattle.lotos_tool.specs.ListingOutcome.{IsBelowLimit}
use Rattle.lotos_tool.specs.ListingParts.{HasLastText}
use Rattle.lotos_tool.specs.WrittenItems.{AreRunsFor}
use Rattle.lotos_output.specs.ItemRuns.{runs_view}
use Rattle.lotos_output.specs.OutputLines.{Item}
use Rattle.lotos_tool.proofs.ListingProgress.{Progress}
use Rattle.lotos_tool.proofs.listing_output.write_listing.Given as goal

-- the lines of some items were written, fewer than the limit, and the labels are those of the last; the search goes on,
-- and the writer has not failed
abbrev pub invariant-loop-found : goal.invariant-loop-found
invariant-loop-found g l =
    let begun = g.S.ListingSearch.state l.fn.search in
    let now = g.S.ListingSearch.state l.search in
    record {
      items : List Item;
      progress : Progress l.fn.options begun.question begun.cursor (g.W.Sink.state l.fn.writer).written (g.W.Sink.state l.writer).written
          now.cursor l.lines l.last items;
      last : HasLastText (names_of begun.question) l.labels.items l.last;
      below : IsBelowLimit (length items) l.fn.options.limit;
      runs : AreRunsFor begun.question l.fn.options.runs (runs_view l.runs);
      question : now.question ≡ begun.question;
      stage : now.stage ≡ running;
      unfailed : (g.W.Sink.state l.writer).has_failed ≡ false;
    }

-- how many sequences of at most as many labels as a member may have come after the last item
abbrev pub decreases-loop-found : goal.decreases-loop-found
decreases-loop-found g l = remaining_after (g.S.ListingSearch.state l.search)
