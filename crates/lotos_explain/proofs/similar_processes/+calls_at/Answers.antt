use Rattle.std.specs.Prelude.{◌++◌}
use Rattle.std.proofs.Common.{inl, inr}
use Rattle.std.proofs.lemmas.Bool.{eqb-true}
use Rattle.lotos_text.specs.AstOf.{behaviour_view}
use Rattle.lotos_check.specs.NameLists.{texts}
use Rattle.lotos_check.specs.Subexpressions.{in_prefix, in_hide}
use Rattle.lotos_explain.proofs.SimilarNames.{calls_itself, calls_deeper, in_left_operand, in_right_operand}
use Rattle.lotos_explain.proofs.similar_processes.+calls_at.Goals as goal

pub returns-in-Call : goal.returns-in-Call
returns-in-Call t c = λ around same.
    rw c.in-Call.is (calls_itself around c.args.at c.in-Call.name c.in-Call.gates.items (eqb-true c.in-Call.name.at c.args.at same))

pub returns-then-calls_at : goal.returns-then-calls_at
returns-then-calls_at t c = λ around same.
    calls_deeper around c.args.at around (behaviour_view c.in-Par.left.value) (behaviour_view c.args.behaviour.now)
    (λ there t. in_left_operand around there t c.args.behaviour.now c.in-Par.left c.in-Par.right c.in-Par.is)
    (rw c.deref.ensures at (c.calls_at.ensures around same))

pub returns-else-calls_at : goal.returns-else-calls_at
returns-else-calls_at t c = λ around same.
    calls_deeper around c.args.at around (behaviour_view c.in-Par.right.value) (behaviour_view c.args.behaviour.now)
    (λ there t. in_right_operand around there t c.args.behaviour.now c.in-Par.left c.in-Par.right c.in-Par.is)
    (rw c.deref-else-calls_at.ensures at (c.calls_at-else-calls_at.ensures around same))

pub returns-in-Prefix : goal.returns-in-Prefix
returns-in-Prefix t c = λ around same.
    let body = behaviour_view c.in-Prefix.body.value in
    elim c.in-Prefix.is [
      | inl p ↦ rw p.1 (calls_deeper around c.args.at around body _ (λ there t. in_prefix)
          (rw c.deref-in-Prefix.ensures at (c.calls_at-in-Prefix.ensures around same)))
      | inr p ↦ rw p.1 (calls_deeper around c.args.at (texts p.0.items ++ around) body _ (λ there t. in_hide)
          (rw c.deref-in-Prefix.ensures at (c.calls_at-in-Prefix.ensures (texts p.0.items ++ around) same)))
    ]
