use Rattle.std.proofs.lemmas.Result.{on_ok_weaker}
use Rattle.lotos_check.proofs.UnguardedCalls.{adds_choice, adds_disable, adds_par, adds_hide, adds_enable, adds_call}
use Rattle.lotos_check.proofs.call_graph.+add_unguarded_calls.Goals as goal

pub returns-in_ok-add_unguarded_calls-in-Choice : goal.returns-in_ok-add_unguarded_calls-in-Choice
returns-in_ok-add_unguarded_calls-in-Choice t c =
    let first = rw c.deref.ensures at c.in_ok-add_unguarded_calls-in-Choice.ensures in
    let a = c.add_unguarded_calls-in-Choice in
    rw c.in-Choice.is (on_ok_weaker a.result
    (λ second. adds_choice _ _ _ _ _ first (rw c.deref-in-Choice.ensures at second)) a.ensures)

pub returns-in_ok-add_unguarded_calls-in-Par : goal.returns-in_ok-add_unguarded_calls-in-Par
returns-in_ok-add_unguarded_calls-in-Par t c =
    let first = rw c.deref-in-Par.ensures at c.in_ok-add_unguarded_calls-in-Par.ensures in
    let a = c.add_unguarded_calls-in-Par-2 in
    rw c.in-Par.is (on_ok_weaker a.result
    (λ second. adds_par _ _ _ _ _ _ first (rw c.deref-in-Par-2.ensures at second)) a.ensures)

pub returns-in_ok-add_unguarded_calls-in-Disable : goal.returns-in_ok-add_unguarded_calls-in-Disable
returns-in_ok-add_unguarded_calls-in-Disable t c =
    let first = rw c.deref-in-Disable.ensures at c.in_ok-add_unguarded_calls-in-Disable.ensures in
    let a = c.add_unguarded_calls-in-Disable-2 in
    rw c.in-Disable.is (on_ok_weaker a.result
    (λ second. adds_disable _ _ _ _ _ first (rw c.deref-in-Disable-2.ensures at second)) a.ensures)

pub returns-in-Hide : goal.returns-in-Hide
returns-in-Hide t c =
    let a = c.add_unguarded_calls-in-Hide in
    rw c.in-Hide.is (on_ok_weaker a.result (λ part. adds_hide _ _ _ _ (rw c.deref-in-Hide.ensures at part)) a.ensures)

pub returns-in-Enable : goal.returns-in-Enable
returns-in-Enable t c =
    let a = c.add_unguarded_calls-in-Enable in
    rw c.in-Enable.is (on_ok_weaker a.result (λ part. adds_enable _ _ _ _ (rw c.deref-in-Enable.ensures at part)) a.ensures)

pub returns-in_ok-push-in-Call : goal.returns-in_ok-push-in-Call
returns-in_ok-push-in-Call t c =
    rw (c.in_ok-push-in-Call.ensures.items, c.in-Call.is)
    (adds_call c.args.into.now.items c.in-Call.process c.in-Call.gates.items)
