use Rattle.lotos_explain.specs.UnguardedRings.{itself, under_hide, left_enable}
use Rattle.lotos_explain.proofs.SimilarNames.{some_weaker}
use Rattle.lotos_explain.proofs.UnguardedCalls.{left_unguarded, right_unguarded}
use Rattle.lotos_explain.proofs.unguarded_calls.+call_in.Goals as goal

pub returns-in-Hide : goal.returns-in-Hide
returns-in-Hide t c = λ scope h.
    rw c.in-Hide.is (some_weaker c.call_in.result (λ p x. (under_hide x.0, x.1)) (rw c.deref.ensures at (c.call_in.ensures scope h)))

pub returns-in-Enable : goal.returns-in-Enable
returns-in-Enable t c = λ scope h.
    rw c.in-Enable.is (some_weaker c.call_in-in-Enable.result (λ p x. (left_enable x.0, x.1))
    (rw c.deref-in-Enable.ensures at (c.call_in-in-Enable.ensures scope h)))

pub returns-then-contains : goal.returns-then-contains
returns-then-contains t c = λ scope h. (rw c.in-Call.is itself, c.in_ok-definition-in-Call.ensures scope h)

pub returns-in-Some : goal.returns-in-Some
returns-in-Some t c = λ scope h.
    let found = rw c.in-Some.is at (c.call_in-in-Choice.ensures scope h) in
    let p = c.in-Some.found.0.now in (
      left_unguarded c.args.behaviour.now c.in-Choice.left c.in-Choice.right p c.in-Choice.is (rw c.deref-in-Choice.ensures at found.0),
      found.1,
    )

pub returns-in-None : goal.returns-in-None
returns-in-None t c = λ scope h.
    some_weaker c.call_in-in-None.result
    (λ p x. (right_unguarded c.args.behaviour.now c.in-Choice.left c.in-Choice.right p.0.now c.in-Choice.is x.0, x.1))
    (rw c.deref-in-None.ensures at (c.call_in-in-None.ensures scope h))
