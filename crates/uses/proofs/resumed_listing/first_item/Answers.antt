use Rattle.std.proofs.Common.{subst, sym}
use Rattle.std.proofs.lemmas.Result.{err_from_is_err_and}
use Rattle.lotos_search.specs.SearchSteps.{IsBegun}
use Rattle.uses.proofs.Searches.{first_stops}
use Rattle.uses.proofs.resumed_listing.first_item.Goals as goal

pub returns-in_err-found-clause-stopped : goal.returns-in_err-found-clause-stopped
returns-in_err-found-clause-stopped c =
    let a = c.args in
    let p = err_from_is_err_and c.from_residual-in_err-found.result c.from_residual-in_err-found.ensures.1 in
    let begun = subst (IsBegun a.table.value a.pattern a.depth a.mark a.terms) (sym c.deref_mut.ensures.value) c.in_ok-search.ensures.begun in
    rw (p.1, p.2) (first_stops a.table.value a.pattern a.depth a.terms a.mark c.deref_mut.result.now c.next.new.self c.in_err-found.field-0.0 begun
    c.next.ensures.same
    c.in_err-found.ensures.next_returns)
