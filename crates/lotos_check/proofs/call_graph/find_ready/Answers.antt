use Rattle.std.proofs.Common.{◌<◌, ℕ, ◌+◌, arith}
use Rattle.lotos_check.specs.NameLists.{In}
use Rattle.lotos_check.proofs.JoinedLists.{each_added}
use Rattle.lotos_check.proofs.call_graph.find_ready.Goals as goal
use Rattle.lotos_check.proofs.call_graph.find_ready.Goals.{then-calls-eq0+in_ok-push, else-calls-eq0}

pub loop-process-preserved : goal.loop-process-preserved
loop-process-preserved c =
    let before : (p : ℕ) → In p c.loop-process.ready.items → p < c.loop-process.process + 1 =
    λ p i. let h = c.loop-process.invariant p i in omega arith in
    elim c.if-calls-eq0.branch [
      | then-calls-eq0+in_ok-push w ↦ rw (w.ready-is, w.in_ok-push.ensures.items)
          (each_added (λ p. p < c.loop-process.process + 1) _ _ before (omega arith))
      | else-calls-eq0 w ↦ rw w.ready-is before
    ]

pub returns : goal.returns
returns c = λ p i. let h = c.loop-process.invariant p i in omega (arith, c.loop-process.auto.process-end)
