use Rattle.lotos_check.specs.Flat.{no_pair}
use Rattle.lotos_check.specs.CheckedView.{process_of}
use Rattle.lotos_check.proofs.CallLists.{next_list, added_alone}
use Rattle.lotos_check.proofs.call_graph.unguarded_calls.Goals as goal

pub loop-process-init : goal.loop-process-init
loop-process-init c = rw c.new-edges.ensures.items no_pair

pub loop-process-preserved : goal.loop-process-preserved
loop-process-preserved c =
    let at_ = c.loop-process.process-index in
    let process = c.process-item.result in
    let calls = c.add_unguarded_calls.new.into in
    let alone = added_alone _ calls.items (process_of process) c.new-calls.ensures.items c.in_ok-add_unguarded_calls.ensures in
    rw c.in_ok-push.ensures.items (next_list (λ v. v.items) process_of c.loop-process.edges.items c.args.processes.now
    at_ calls process c.loop-process-test.true c.process-item.is c.loop-process.invariant alone)
