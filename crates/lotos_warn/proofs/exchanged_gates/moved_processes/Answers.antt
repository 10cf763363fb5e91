use Rattle.std.proofs.Common.{◌≡◌, ℕ, ◌<◌, ◌≤◌, length, map, ap, ◌∙◌, arith}
use Rattle.std.proofs.lemmas.List.{length-map}
use Rattle.std.proofs.lemmas.Option.{slice_get_within}
use Rattle.lotos_check.specs.FlatOf.{process_of}
use Rattle.lotos_warn.specs.CallSites.{IsMovedAt, site_of}
use Rattle.lotos_warn.proofs.Additions.{adds_alone, below_start, below_next, below_end}
use Rattle.lotos_warn.proofs.exchanged_gates.moved_processes.Goals as goal

pub loop-index-init : goal.loop-index-init
loop-index-init c = below_start (IsMovedAt (map process_of c.args.processes.now) (map site_of c.args.sites.now) c.args.numbers.now) c.new-moved.result.keys

pub loop-index-preserved : goal.loop-index-preserved
loop-index-preserved c =
    below_next (IsMovedAt (map process_of c.args.processes.now) (map site_of c.args.sites.now) c.args.numbers.now)
    c.new-moved.result.keys c.loop-index.moved.keys c.add_if_moved.new.moved.keys c.loop-index.index c.loop-index.invariant c.in_ok-add_if_moved.ensures

pub returns : goal.returns
returns c =
    let sites = map site_of c.args.sites.now in
    let at = IsMovedAt (map process_of c.args.processes.now) sites c.args.numbers.now in
    let counted = length-map c.args.sites.now site_of in
    adds_alone c.new-moved.result.keys c.loop-index.moved.keys (λ k. (i : ℕ) × at i k) c.new-moved.ensures.empty
    (below_end at c.new-moved.result.keys c.loop-index.moved.keys c.loop-index.index c.loop-index.invariant
    (λ i k m. let within = slice_get_within sites i m.site m.called in omega arith))
