use Rattle.std.specs.Prelude.{◌++◌}
use Rattle.std.proofs.lemmas.Result.{IfOk-weaker}
use Rattle.lotos_text.specs.AstOf.{behaviour_view}
use Rattle.lotos_check.specs.NameLists.{texts}
use Rattle.lotos_check.specs.Subexpressions.{in_prefix, in_hide}
use Rattle.lotos_explain.proofs.SimilarNames.{some_weaker, at_once, deeper, from_inside, in_left_operand, in_right_operand}
use Rattle.lotos_explain.proofs.similar_gates.+gate_in_behaviour.Goals as goal

pub returns-then-occurs_in : goal.returns-then-occurs_in
returns-then-occurs_in t c = λ around h.
    some_weaker c.args.best
    (λ n. at_once around c.args.place (behaviour_view c.args.behaviour.now) (c.occurs_in.ensures c.if-occurs_in.true) n.now) h

pub returns-in-Prefix : goal.returns-in-Prefix
returns-in-Prefix t c = λ around h.
    rw c.in-Prefix.is (IfOk-weaker c.gate_in_behaviour.result _ _
    (λ found. some_weaker found (λ n. deeper around c.args.place around (behaviour_view c.in-Prefix.body.value) _ (λ there t. in_prefix) n.now))
    (rw c.deref.ensures at (c.gate_in_behaviour.ensures around h)))

pub returns-in_ok-best-in-Hide : goal.returns-in_ok-best-in-Hide
returns-in_ok-best-in-Hide t c = λ around h.
    let names = c.in-Hide.gates.items in
    let best = from_inside (λ k. k.now) c.args.best c.in_ok-best-in-Hide.best names around h
    (rw c.as_slice.ensures.value at c.in_ok-best-in-Hide.ensures) in
    rw c.in-Hide.is (IfOk-weaker c.gate_in_behaviour-in-Hide.result _ _
    (λ found. some_weaker found (λ n. deeper around c.args.place (texts names ++ around) (behaviour_view c.in-Hide.body.value) _
    (λ there t. in_hide) n.now))
    (rw c.deref-in-Hide.ensures at (c.gate_in_behaviour-in-Hide.ensures (texts names ++ around) best)))

pub returns-in-Some : goal.returns-in-Some
returns-in-Some t c = λ around h.
    let left = c.in-Par.left in
    let found = rw c.in-Some.is at (c.in_ok-found-in-Par.ensures around h) in
    deeper around c.args.place around (behaviour_view left.value) (behaviour_view c.args.behaviour.now)
    (λ there t. in_left_operand around there t c.args.behaviour.now left c.in-Par.right c.in-Par.is) c.in-Some.found.now
    (rw c.deref-in-Par.ensures at found)

pub returns-in-None : goal.returns-in-None
returns-in-None t c = λ around h.
    let right = c.in-Par.right in
    IfOk-weaker c.gate_in_behaviour-in-None.result _ _
    (λ found. some_weaker found (λ n. deeper around c.args.place around (behaviour_view right.value) (behaviour_view c.args.behaviour.now)
    (λ there t. in_right_operand around there t c.args.behaviour.now c.in-Par.left right c.in-Par.is) n.now))
    (rw c.deref-in-None.ensures at (c.gate_in_behaviour-in-None.ensures around h))
