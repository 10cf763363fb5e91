use Rattle.std.proofs.Common.{◌≡◌, ℕ, ◌<◌, Some, map, slice_get, get_or, length, arith}
use Rattle.std.proofs.lemmas.Option.{slice_get-get_or, slice_get_within}
use Rattle.lotos_check.specs.NameLists.{In}
use Rattle.lotos_check.proofs.ListIndices.{one_item}
use Rattle.lotos_warn.specs.CallSites.{site_of}
use Rattle.lotos_warn.proofs.ExchangedSites.{map_get, outer_tested}
use Rattle.lotos_warn.proofs.exchanged_gates.is_outer.Goals.{else-index-numbers-via-then-index-numbers+else-numbers-index, else-index-numbers-via-else-index-numbers}
use Rattle.lotos_warn.proofs.exchanged_gates.is_outer.Goals as goal

pub returns-then-numbers-index : goal.returns-then-numbers-index
returns-then-numbers-index c =
    let read = slice_get-get_or c.args.numbers.now c.args.index 0 (omega arith) in
    let numbered : slice_get c.args.numbers.now c.args.index ≡ Some c.args.process = (let e = c.if-numbers-index.true in cc) in
    outer_tested (map site_of c.args.sites.now) c.args.numbers.now (λ k. In k c.args.inside.now.keys) c.args.process c.args.index
    (site_of (get_or c.args.sites.now c.args.index c.index-sites-index.result))
    (map_get site_of c.args.sites.now c.args.index c.index-sites-index.result c.requires)
    c.is_apart.result numbered c.is_apart.ensures

pub returns-else-index-numbers : goal.returns-else-index-numbers
returns-else-index-numbers c = λ site at h.
    let numbers = c.args.numbers.now in
    elim c.else-index-numbers.branch [
      | else-index-numbers-via-then-index-numbers+else-numbers-index w ↦ (
          let within : c.args.index < length numbers = w.if-index-numbers.true in
          let e : get_or numbers c.args.index 0 ≡ c.args.process = one_item numbers c.args.index (get_or numbers c.args.index 0) c.args.process
          (slice_get-get_or numbers c.args.index 0 within) h.numbered in
          let apart = w.if-numbers-index.false in
          omega arith)
      | else-index-numbers-via-else-index-numbers w ↦ (
          let past = w.if-index-numbers.false in
          let within = slice_get_within numbers c.args.index c.args.process h.numbered in
          omega arith)
    ]
