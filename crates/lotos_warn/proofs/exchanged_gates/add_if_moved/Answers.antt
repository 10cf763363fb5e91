use Rattle.std.proofs.Common.{◌≡◌, ◌≤◌, ◌<◌, Some, map, slice_get, get_or, length, ap, ◌∙◌, subst, sym, arith}
use Rattle.std.specs.Prelude.{MatchBool}
use Rattle.std.proofs.lemmas.List.{length-map}
use Rattle.std.proofs.lemmas.Option.{slice_get-get_or}
use Rattle.lotos_check.specs.NameLists.{texts}
use Rattle.lotos_check.specs.FlatOf.{process_of}
use Rattle.lotos_warn.specs.CallSites.{IsMovedAt, site_of}
use Rattle.lotos_warn.specs.Warnings.{IsExchanged}
use Rattle.lotos_warn.proofs.Additions.{adds_as, adds_nothing}
use Rattle.lotos_warn.proofs.NameTests.{inserted_number}
use Rattle.lotos_warn.proofs.ExchangedSites.{map_get, moved_one, moved_not, moved_nowhere, moved_past, said, denied}
use Rattle.lotos_warn.proofs.exchanged_gates.add_if_moved.Goals as goal

pub returns-in_ok-insert : goal.returns-in_ok-insert
returns-in_ok-insert c =
    let processes = map process_of c.args.processes.now in
    let sites = map site_of c.args.sites.now in
    let numbers = c.args.numbers.now in
    let k = get_or numbers c.args.index 0 in
    let own = process_of (get_or c.args.processes.now k c.index-processes-process.result) in
    let x = site_of (get_or c.args.sites.now c.args.index c.index-sites-index.result) in
    let moved = IsExchanged (texts x.actuals) own.formals in
    let exchanged = said moved (moved → ⊥) c.in_ok-is_exchanged.field-0
    (subst (λ names. MatchBool c.in_ok-is_exchanged.field-0 (IsExchanged (texts x.actuals) names) (IsExchanged (texts x.actuals) names → ⊥))
    c.as_slice-own.ensures.value c.in_ok-is_exchanged.ensures) c.if-branch.true in
    adds_as c.args.moved.now.keys c.insert.new.self.keys (λ j. k ≡ j) (IsMovedAt processes sites numbers c.args.index)
    (moved_one processes sites numbers c.args.index k (slice_get-get_or numbers c.args.index 0 (omega arith)) own x
    (map_get process_of c.args.processes.now k c.index-processes-process.result (omega arith))
    (map_get site_of c.args.sites.now c.args.index c.index-sites-index.result c.requires) exchanged)
    (inserted_number c.args.moved.now.keys c.insert.new.self.keys k c.in_ok-insert.ensures.keys)

pub returns-else-branch : goal.returns-else-branch
returns-else-branch c =
    let processes = map process_of c.args.processes.now in
    let sites = map site_of c.args.sites.now in
    let numbers = c.args.numbers.now in
    let k = get_or numbers c.args.index 0 in
    let own = process_of (get_or c.args.processes.now k c.index-processes-process.result) in
    let x = site_of (get_or c.args.sites.now c.args.index c.index-sites-index.result) in
    let moved = IsExchanged (texts x.actuals) own.formals in
    let none = denied moved (moved → ⊥) c.in_ok-is_exchanged.field-0
    (subst (λ names. MatchBool c.in_ok-is_exchanged.field-0 (IsExchanged (texts x.actuals) names) (IsExchanged (texts x.actuals) names → ⊥))
    c.as_slice-own.ensures.value c.in_ok-is_exchanged.ensures) c.if-branch.false in
    adds_nothing c.args.moved.now.keys (IsMovedAt processes sites numbers c.args.index)
    (moved_not processes sites numbers c.args.index k (slice_get-get_or numbers c.args.index 0 (omega arith)) own x
    (map_get process_of c.args.processes.now k c.index-processes-process.result (omega arith))
    (map_get site_of c.args.sites.now c.args.index c.index-sites-index.result c.requires) none)

pub returns-else-process-processes : goal.returns-else-process-processes
returns-else-process-processes c =
    let numbers = c.args.numbers.now in
    let counted = length-map c.args.processes.now process_of in
    adds_nothing c.args.moved.now.keys (IsMovedAt (map process_of c.args.processes.now) (map site_of c.args.sites.now) numbers c.args.index)
    (moved_nowhere (map process_of c.args.processes.now) (map site_of c.args.sites.now) numbers c.args.index (get_or numbers c.args.index 0)
    (slice_get-get_or numbers c.args.index 0 (omega arith)) (omega arith))

pub returns-else-index-numbers : goal.returns-else-index-numbers
returns-else-index-numbers c =
    adds_nothing c.args.moved.now.keys (IsMovedAt (map process_of c.args.processes.now) (map site_of c.args.sites.now) c.args.numbers.now c.args.index)
    (moved_past (map process_of c.args.processes.now) (map site_of c.args.sites.now) c.args.numbers.now c.args.index (omega arith))
