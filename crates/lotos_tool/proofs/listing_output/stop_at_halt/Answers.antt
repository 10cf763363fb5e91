use Rattle.std.proofs.Common.{sym, subst}
use Rattle.lotos_listing.specs.Question.{ArePrinted}
use Rattle.lotos_tool.specs.ListingQuestions.{IsHalt, names_of}
use Rattle.lotos_tool.proofs.Calls.{over_cause, sets_cause}
use Rattle.lotos_tool.proofs.listing_output.stop_at_halt.Goals as goal

pub returns-in-OverTerms-clause-stop : goal.returns-in-OverTerms-clause-stop
returns-in-OverTerms-clause-stop g c = λ cursor h.
    let q = (g.S.ListingSearch.state c.args.search.now).question in
    let (r, printed, first, over) = subst (IsHalt q cursor) c.in-OverTerms.is h in
    let shown = subst (λ names. ArePrinted names c.as_slice.result.now r) (sym c.gates.ensures)
    (subst (λ ks. ArePrinted (names_of q) ks r) (sym c.as_slice.ensures.value) printed) in
    over_cause q cursor r _ c.stop_at_prefix.result.cause c.stop_at_prefix.result.prefix (c.stop_at_prefix.ensures.stop r shown) first over

pub returns-in-OverStates-clause-stop : goal.returns-in-OverStates-clause-stop
returns-in-OverStates-clause-stop g c = λ cursor h.
    let q = (g.S.ListingSearch.state c.args.search.now).question in
    let (r, first, over) = subst (IsHalt q cursor) c.in-OverStates.is h in
    sets_cause q cursor r _ c.flush_stopped.result c.flush_stopped.ensures.returned first over
