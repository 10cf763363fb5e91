use Rattle.std.proofs.Common.{◌<◌, ◌≤◌, length, map, arith}
use Rattle.std.proofs.lemmas.List.{drop_all}
use Rattle.lotos_check.specs.FlatOf.{flat_of, process_of}
use Rattle.lotos_check.proofs.Pairs.{drop_at}
use Rattle.lotos_warn.specs.Additions.{ContainsCallOf, IsCalledByAny}
use Rattle.lotos_warn.proofs.Additions.{loop_next, loop_end}
use Rattle.lotos_warn.proofs.CallAdditions.{any_split}
use Rattle.lotos_warn.proofs.process_calls.add_calls_of_all.Goals as goal

pub loop-process-preserved : goal.loop-process-preserved
loop-process-preserved c =
    let within : c.loop-process.process-index < length c.args.processes.now = omega arith in
    loop_next (λ ps. IsCalledByAny (map process_of ps)) (λ p. ContainsCallOf (flat_of p.body))
    (λ p ps k. any_split (process_of p) (map process_of ps) k) (λ k h. h.1)
    c.args.called.now.keys c.loop-process.called.keys c.add_calls.new.called.keys
    (IsCalledByAny (map process_of c.args.processes.now)) _ _ c.process-item.result
    (drop_at c.args.processes.now c.loop-process.process-index _ c.process-item.result within c.process-item.is)
    c.loop-process.invariant c.in_ok-add_calls.ensures.adds

pub returns : goal.returns
returns c =
    let done : length c.args.processes.now ≤ c.loop-process.process-index = omega arith in
    loop_end (λ ps. IsCalledByAny (map process_of ps)) (λ p. ContainsCallOf (flat_of p.body))
    (λ p ps k. any_split (process_of p) (map process_of ps) k) (λ k h. h.1)
    c.args.called.now.keys c.loop-process.called.keys
    (IsCalledByAny (map process_of c.args.processes.now)) _ (drop_all c.loop-process.process-index c.args.processes.now done) c.loop-process.invariant
