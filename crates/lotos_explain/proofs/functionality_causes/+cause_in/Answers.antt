use Rattle.std.proofs.Common.{inl, inr}
use Rattle.lotos_text.specs.AstOf.{behaviour_view}
use Rattle.lotos_explain.proofs.SimilarNames.{some_weaker}
use Rattle.lotos_explain.proofs.FunctionalityCauses.{stop_caused, exit_caused, prefix_caused, hide_caused, enable_caused}
use Rattle.lotos_explain.proofs.functionality_causes.+cause_in.Goals as goal

pub returns-in-Stop : goal.returns-in-Stop
returns-in-Stop t c = λ scope h. rw c.in-Stop.is (stop_caused scope)

pub returns-in-Exit : goal.returns-in-Exit
returns-in-Exit t c = λ scope h. rw c.in-Exit.is (exit_caused scope)

pub returns-in-Enable : goal.returns-in-Enable
returns-in-Enable t c = λ scope h.
    let right = behaviour_view c.in-Enable.right.value in
    let found = rw c.deref-in-Enable.ensures at (c.cause_in.ensures scope h) in
    rw c.in-Enable.is (some_weaker c.cause_after.result
    (enable_caused scope (behaviour_view c.in-Enable.left.value) c.in-Enable.at right)
    (rw c.deref.ensures at (c.cause_after.ensures scope right found)))

pub returns-in-Prefix : goal.returns-in-Prefix
returns-in-Prefix t c = λ scope h.
    let body = behaviour_view c.in-Prefix.body.value in
    let found = rw c.deref-in-Prefix.ensures at (c.cause_in-in-Prefix.ensures scope h) in
    elim c.in-Prefix.is [
      | inl p ↦ rw p.1 (some_weaker c.cause_in-in-Prefix.result (prefix_caused scope p.0 body) found)
      | inr p ↦ rw p.1 (some_weaker c.cause_in-in-Prefix.result (hide_caused scope p.0.items body) found)
    ]
