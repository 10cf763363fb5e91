use Rattle.std.proofs.Common.{◌≤◌, [], length, map, arith}
use Rattle.lotos_check.specs.FlatOf.{process_of}
use Rattle.lotos_check.proofs.ListIndices.{get_some}
use Rattle.lotos_warn.specs.CallSites.{from_process}
use Rattle.lotos_warn.proofs.CallAdditions.{calls_call}
use Rattle.lotos_warn.proofs.ReachedNumbers.{expanded_none, expanded_more, expanded_all}
use Rattle.lotos_warn.proofs.process_calls.reached_from.Goals as goal

pub loop-passed-init : goal.loop-passed-init
loop-passed-init c =
    expanded_none (from_process (map process_of c.args.processes.now) c.args.number) c.new-reached.result.keys c.add_number.new.called.keys
    c.new-reached.ensures.empty
    (calls_call c.new-reached.result.keys c.add_number.new.called.keys c.args.number [] c.in_ok-add_number.ensures.adds)

pub loop-passed-preserved : goal.loop-passed-preserved
loop-passed-preserved c =
    let old = c.loop-passed.reached.keys in
    let new = c.add_calls_of_next.new.reached.keys in
    let (caller, at) = get_some old c.loop-passed.passed (let below = c.loop-passed-test.true in let count = c.len.ensures.len in omega arith) in
    expanded_more (from_process (map process_of c.args.processes.now) c.args.number) old new c.loop-passed.passed caller c.loop-passed.invariant at
    (c.in_ok-add_calls_of_next.ensures.adds caller at)
    c.in_ok-add_calls_of_next.ensures.keeps

pub returns : goal.returns
returns c =
    let done : length c.loop-passed.reached.keys ≤ c.loop-passed.passed =
    (let past = c.loop-passed-test.false in let count = c.len.ensures.len in omega arith) in
    expanded_all (from_process (map process_of c.args.processes.now) c.args.number) c.loop-passed.reached.keys c.loop-passed.passed c.loop-passed.invariant done
