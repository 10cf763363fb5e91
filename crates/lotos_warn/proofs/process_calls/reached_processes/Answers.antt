use Rattle.std.proofs.Common.{◌≤◌, length, subst, arith}
use Rattle.lotos_check.specs.CheckedView.{system_of}
use Rattle.lotos_check.proofs.ListIndices.{get_some}
use Rattle.lotos_warn.specs.Additions.{Adds, IsCalledByNumber}
use Rattle.lotos_warn.proofs.ReachedNumbers.{expanded_none, expanded_more, expanded_all}
use Rattle.lotos_warn.proofs.process_calls.reached_processes.Goals as goal

pub loop-index-init : goal.loop-index-init
loop-index-init c =
    expanded_none (system_of c.args.system.now) c.new-reached.result.keys c.add_calls.new.called.keys c.new-reached.ensures.empty
    (rw c.start.ensures.start at c.in_ok-add_calls.ensures.adds)

pub loop-index-preserved : goal.loop-index-preserved
loop-index-preserved c =
    let system = system_of c.args.system.now in
    let old = c.loop-index.reached.keys in
    let new = c.add_calls_of_next.new.reached.keys in
    let (caller, at) = get_some old c.loop-index.index (let below = c.loop-index-test.true in let count = c.len.ensures.len in omega arith) in
    let added = c.in_ok-add_calls_of_next.ensures.adds caller at in
    expanded_more system old new c.loop-index.index caller c.loop-index.invariant at
    (subst (λ ps. Adds old new (IsCalledByNumber ps caller)) c.processes.ensures added)
    c.in_ok-add_calls_of_next.ensures.keeps

pub returns : goal.returns
returns c =
    let done : length c.loop-index.reached.keys ≤ c.loop-index.index = (let past = c.loop-index-test.false in let count = c.len.ensures.len in omega arith) in
    expanded_all (system_of c.args.system.now) c.loop-index.reached.keys c.loop-index.index c.loop-index.invariant done
