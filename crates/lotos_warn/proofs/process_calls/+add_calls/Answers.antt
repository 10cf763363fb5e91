use Rattle.std.proofs.Common.{inl, inr}
use Rattle.std.proofs.lemmas.Result.{on_ok_weaker}
use Rattle.lotos_check.specs.FlatOf.{flat_of}
use Rattle.lotos_warn.proofs.CallAdditions.{calls_prefix, calls_choice, calls_par, calls_hide, calls_enable, calls_disable, calls_call}
use Rattle.lotos_warn.proofs.process_calls.+add_calls.Goals as goal

pub returns-in-Prefix-clause-adds : goal.returns-in-Prefix-clause-adds
returns-in-Prefix-clause-adds t c =
    let a = c.add_calls-in-Prefix in
    let body = flat_of c.in-Prefix.body.value in
    elim c.in-Prefix.is [
      | inl p ↦ rw p.1 (on_ok_weaker a.result (λ h. calls_prefix _ _ _ body (rw c.deref-in-Prefix.ensures at h)) a.ensures.adds)
      | inr p ↦ rw p.1 (on_ok_weaker a.result (λ h. calls_hide _ _ _ body (rw c.deref-in-Prefix.ensures at h)) a.ensures.adds)
    ]

pub returns-in_ok-add_calls-in-Choice-clause-adds : goal.returns-in_ok-add_calls-in-Choice-clause-adds
returns-in_ok-add_calls-in-Choice-clause-adds t c =
    let a = c.add_calls-in-Choice in
    let mid = c.add_calls.new.called.keys in
    let first = rw c.deref.ensures at c.in_ok-add_calls-in-Choice.ensures.adds in
    elim c.in-Choice.is [
      | inl e ↦ rw e (on_ok_weaker a.result (λ h. calls_choice _ mid _ _ _ first (rw c.deref-in-Choice.ensures at h)) a.ensures.adds)
      | inr (inl p) ↦ rw p.1 (on_ok_weaker a.result (λ h. calls_par _ mid _ _ _ first (rw c.deref-in-Choice.ensures at h) _) a.ensures.adds)
      | inr (inr (inl e)) ↦ rw e (on_ok_weaker a.result (λ h. calls_enable _ mid _ _ _ first (rw c.deref-in-Choice.ensures at h)) a.ensures.adds)
      | inr (inr (inr e)) ↦ rw e (on_ok_weaker a.result (λ h. calls_disable _ mid _ _ _ first (rw c.deref-in-Choice.ensures at h)) a.ensures.adds)
    ]

pub returns-in-Call-clause-adds : goal.returns-in-Call-clause-adds
returns-in-Call-clause-adds t c =
    rw c.in-Call.is (on_ok_weaker c.add_number.result (λ h. calls_call _ _ c.in-Call.process c.in-Call.gates.items h) c.add_number.ensures.adds)
