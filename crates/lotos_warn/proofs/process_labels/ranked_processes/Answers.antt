use Rattle.std.proofs.Common.{◌≡◌, length, map, ap, arith}
use Rattle.std.proofs.lemmas.List.{length-map}
use Rattle.lotos_check.specs.CheckedView.{process_of, ranks_of, system_of}
use Rattle.lotos_warn.proofs.RankedLabels.{ranked_start, ranked_next, ranked_all}
use Rattle.lotos_warn.proofs.process_labels.ranked_processes.Goals as goal

pub loop-number-init : goal.loop-number-init
loop-number-init c = ranked_start (ranks_of c.args.system.now) c.new-list.result.items c.new-list.ensures.items

pub loop-number-preserved : goal.loop-number-preserved
loop-number-preserved c =
    ranked_next (ranks_of c.args.system.now) c.loop-number.list.items c.push.new.self.items c.loop-number.number c.rank-rank.result c.rank-rank.ensures.entry
    c.in_ok-push.ensures.items c.loop-number.invariant

pub returns : goal.returns
returns c =
    let system = system_of c.args.system.now in
    let given = c.processes-number-end.result.now in
    let same : length (map process_of given) ≡ length system.processes = ap length c.processes-number-end.ensures in
    let count = length-map given process_of in
    ranked_all system (ranks_of c.args.system.now) c.loop-number.list.items c.loop-number.number c.requires.kept (omega arith) c.loop-number.invariant
