use Rattle.std.proofs.Common.{arith}
use Rattle.std.specs.List.{length_refill}
use Rattle.lotos_check.proofs.call_graph.callee_first_order.Goals as goal
use Rattle.lotos_check.proofs.call_graph.callee_first_order.Goals.{in-Some+in-Some-get+in_ok-add_ready, in-Some+in_default-get, in_default}

pub loop-index-init : goal.loop-index-init
loop-index-init c = record {
  sized = c.in_ok-left.ensures;
  within = λ p i.
      let within = rw c.as_slice.ensures.value at (c.in_ok-order.ensures p i) in
      let sized = c.in_ok-left.ensures in
      omega arith;
}

pub add_ready-requires : goal.add_ready-requires
add_ready-requires c = λ p i. rw (c.as_mut_slice.ensures.value, c.loop-index.invariant.sized) (c.loop-index.invariant.within p i)

pub loop-index-preserved : goal.loop-index-preserved
loop-index-preserved c =
    let sized = c.loop-index.invariant.sized in
    let within = c.loop-index.invariant.within in
    elim c.match-get.branch [
      | in-Some+in-Some-get+in_ok-add_ready w ↦ record {
        sized =
            let left = c.loop-index.left in
            let count = left.ok.0 in
            let kept = length_refill left.len left.items w.add_ready.new.left left.ok.0 in
            rw w.left-is (omega arith);
        within = λ p i.
            let bound = rw w.as_mut_slice.ensures.value at (w.in_ok-add_ready.ensures p (rw (← w.order-is) i)) in
            omega arith;
      }
      | in-Some+in_default-get w ↦ record { sized = rw w.left-is sized; within = rw w.order-is within }
      | in_default w ↦ record { sized = rw w.left-is sized; within = rw w.order-is within }
    ]
