use Rattle.std.specs.Prelude.{◌++◌}
use Rattle.lotos_text.specs.AstOf.{behaviour_view}
use Rattle.lotos_check.specs.NameLists.{texts}
use Rattle.lotos_check.specs.Subexpressions.{in_prefix, in_hide}
use Rattle.lotos_explain.proofs.InnerGates.{hides_deeper, hides_itself}
use Rattle.lotos_explain.proofs.SimilarNames.{some_weaker, in_left_operand, in_right_operand}
use Rattle.lotos_explain.proofs.inner_gates.+hidden_in_behaviour.Goals as goal

pub returns-in-Prefix : goal.returns-in-Prefix
returns-in-Prefix t c = λ around.
    rw c.in-Prefix.is (some_weaker c.hidden_in_behaviour.result
    (λ at. hides_deeper around c.args.name.now at around (behaviour_view c.in-Prefix.body.value) _ (λ there t. in_prefix))
    (rw c.deref.ensures at (c.hidden_in_behaviour.ensures around)))

pub returns-in-Some : goal.returns-in-Some
returns-in-Some t c = λ around.
    let listed = rw c.in-Some.is at c.offset_of.ensures in
    rw c.in-Hide.is (hides_itself around c.args.name.now c.in-Some.at c.in-Hide.gates.items (behaviour_view c.in-Hide.body.value)
    (rw c.as_slice.ensures.value at listed))

pub returns-in-None : goal.returns-in-None
returns-in-None t c = λ around.
    let names = c.in-Hide.gates.items in
    rw c.in-Hide.is (some_weaker c.hidden_in_behaviour-in-None.result
    (λ at. hides_deeper around c.args.name.now at (texts names ++ around) (behaviour_view c.in-Hide.body.value) _ (λ there t. in_hide))
    (rw c.deref-in-None.ensures at (c.hidden_in_behaviour-in-None.ensures (texts names ++ around))))

pub returns-in-Some-hidden_in_behaviour : goal.returns-in-Some-hidden_in_behaviour
returns-in-Some-hidden_in_behaviour t c = λ around.
    let left = c.in-Par.left in
    let found = rw c.in-Some-hidden_in_behaviour.is at (c.hidden_in_behaviour-in-Par.ensures around) in
    hides_deeper around c.args.name.now c.in-Some-hidden_in_behaviour.at around (behaviour_view left.value) (behaviour_view c.args.behaviour.now)
    (λ there t. in_left_operand around there t c.args.behaviour.now left c.in-Par.right c.in-Par.is)
    (rw c.deref-in-Par.ensures at found)

pub returns-in-None-hidden_in_behaviour : goal.returns-in-None-hidden_in_behaviour
returns-in-None-hidden_in_behaviour t c = λ around.
    let right = c.in-Par.right in
    some_weaker c.hidden_in_behaviour-in-None-hidden_in_behaviour.result
    (λ at. hides_deeper around c.args.name.now at around (behaviour_view right.value) (behaviour_view c.args.behaviour.now)
    (λ there t. in_right_operand around there t c.args.behaviour.now c.in-Par.left right c.in-Par.is))
    (rw c.deref-in-None-hidden_in_behaviour.ensures at (c.hidden_in_behaviour-in-None-hidden_in_behaviour.ensures around))
