use Rattle.std.proofs.Common.{◌<◌, ℕ, length, sym}
use Rattle.std.proofs.lemmas.Bool.{ltb-true}
use Rattle.lotos_check.specs.NameLists.{In}
use Rattle.lotos_check.proofs.JoinedLists.{each_added}
use Rattle.lotos_check.proofs.call_graph.add_ready.Goals as goal
use Rattle.lotos_check.proofs.call_graph.add_ready.Goals.{in-Some+then-calls-eq0+in_ok-push, in-Some+else-calls-eq0, in_default}

pub loop-caller-preserved : goal.loop-caller-preserved
loop-caller-preserved c =
    let before : (p : ℕ) → In p c.loop-caller.order.items → p < length c.match-get_mut.left =
    λ p i. rw c.match-get_mut.auto.left (c.loop-caller.invariant p i) in
    elim c.match-get_mut.branch [
      | in-Some+then-calls-eq0+in_ok-push w ↦
          let within = ltb-true _ _ (sym w.in-Some.ensures.lookup.0) in
          rw (w.order-is, w.in_ok-push.ensures.items)
          (each_added (λ p. p < length c.match-get_mut.left) _ _ before (rw c.match-get_mut.auto.left within))
      | in-Some+else-calls-eq0 w ↦ rw w.order-is before
      | in_default w ↦ rw w.order-is before
    ]

pub returns : goal.returns
returns c = λ p i. rw (← c.loop-caller.auto.left) (c.loop-caller.invariant p i)
