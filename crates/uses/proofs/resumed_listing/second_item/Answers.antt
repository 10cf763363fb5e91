use Rattle.std.proofs.Common.{Some, subst, sym}
use Rattle.std.specs.Prelude.{None}
use Rattle.std.proofs.lemmas.Result.{err_from_is_err_and}
use Rattle.uses.specs.ResumedListings.{IsFirstItem}
use Rattle.uses.proofs.Searches.{none_found, second_found, second_stops, within_first}
use Rattle.uses.proofs.resumed_listing.second_item.Goals as goal
use Rattle.uses.proofs.resumed_listing.second_item.Goals.{in-Some+in_ok-second-in-Some, in-None}

pub returns-in_err-search-clause-stopped : goal.returns-in_err-search-clause-stopped
returns-in_err-search-clause-stopped c =
    let a = c.args in
    let p = err_from_is_err_and c.from_residual.result c.from_residual.ensures.1 in
    rw (p.1, p.2) (within_first a.table.value a.pattern a.depth a.terms c.in_err-search.field-0.0 c.in_err-search.ensures.stopped)

pub returns-in_err-second-in-Some-clause-stopped : goal.returns-in_err-second-in-Some-clause-stopped
returns-in_err-second-in-Some-clause-stopped c =
    let a = c.args in
    let p = err_from_is_err_and c.from_residual-in_err-second-in-Some.result c.from_residual-in_err-second-in-Some.ensures.1 in
    let item = subst (λ f. IsFirstItem a.table.value a.pattern a.depth a.terms None (c.in_ok-search.search.value, f)) c.in-Some.is
    c.in_ok-search.ensures.found in
    let first = subst (λ s. IsFirstItem a.table.value a.pattern a.depth a.terms None (s, Some c.in-Some.field-0)) (sym c.deref_mut.ensures.value) item in
    rw (p.1, p.2) (second_stops a.table.value a.pattern a.depth a.terms c.deref_mut.result.now c.next.new.self c.in-Some.field-0
    c.in_err-second-in-Some.field-0.0 first c.next.ensures.same
    c.in_err-second-in-Some.ensures.next_returns)

pub returns-clause-stopped : goal.returns-clause-stopped
returns-clause-stopped c =
    elim c.match-first.branch [
      | in-Some+in_ok-second-in-Some w ↦ rw w.result-is tt
      | in-None w ↦ rw w.result-is tt
    ]

pub returns-clause-found : goal.returns-clause-found
returns-clause-found c =
    let a = c.args in
    elim c.match-first.branch [
      | in-Some+in_ok-second-in-Some w ↦
          let item = subst (λ f. IsFirstItem a.table.value a.pattern a.depth a.terms None (c.in_ok-search.search.value, f)) w.in-Some.is
          c.in_ok-search.ensures.found in
          let first = subst (λ s. IsFirstItem a.table.value a.pattern a.depth a.terms None (s, Some w.in-Some.field-0)) (sym w.deref_mut.ensures.value) item in
          rw w.result-is (second_found a.table.value a.pattern a.depth a.terms w.deref_mut.result.now w.next.new.self w.in-Some.field-0
          w.in_ok-second-in-Some.second first w.next.ensures.same
          w.in_ok-second-in-Some.ensures.next_returns)
      | in-None w ↦
          let first = subst (λ f. IsFirstItem a.table.value a.pattern a.depth a.terms None (c.in_ok-search.search.value, f)) w.in-None.is
          c.in_ok-search.ensures.found in
          rw w.result-is (none_found a.table.value a.pattern a.depth a.terms c.in_ok-search.search.value first)
    ]
