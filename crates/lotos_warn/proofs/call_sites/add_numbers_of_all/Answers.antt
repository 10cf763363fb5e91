use Rattle.std.proofs.Common.{◌≡◌, ◌++◌, ◌<◌, ◌≤◌, length, map, subst, arith}
use Rattle.std.proofs.lemmas.List.{drop_all}
use Rattle.lotos_check.specs.FlatOf.{flat_of, process_of}
use Rattle.lotos_check.proofs.Pairs.{drop_at}
use Rattle.lotos_warn.specs.CallSites.{numbers_in, numbers_of_all}
use Rattle.lotos_warn.proofs.CallAdditions.{appended_next, appended_end}
use Rattle.lotos_warn.proofs.call_sites.add_numbers_of_all.Goals as goal

pub loop-process-preserved : goal.loop-process-preserved
loop-process-preserved c =
    let within : c.loop-process.process-index < length c.args.processes.now = omega arith in
    let next = drop_at c.args.processes.now c.loop-process.process-index _ c.process-item.result within c.process-item.is in
    let all = c.args.into.now.items ++ numbers_of_all (map process_of c.args.processes.now) in
    appended_next c.loop-process.into.items c.add_numbers.new.into.items (numbers_in (flat_of c.process-item.result.body)) _ all c.in_ok-add_numbers.ensures
    (subst (λ ps. c.loop-process.into.items ++ numbers_of_all (map process_of ps) ≡ all) next c.loop-process.invariant)

pub returns : goal.returns
returns c =
    let done : length c.args.processes.now ≤ c.loop-process.process-index = omega arith in
    let all = c.args.into.now.items ++ numbers_of_all (map process_of c.args.processes.now) in
    appended_end c.loop-process.into.items all
    (subst (λ ps. c.loop-process.into.items ++ numbers_of_all (map process_of ps) ≡ all)
    (drop_all c.loop-process.process-index c.args.processes.now done) c.loop-process.invariant)
