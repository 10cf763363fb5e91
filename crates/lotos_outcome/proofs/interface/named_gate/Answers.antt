use Rattle.std.proofs.Common.{◌∙◌, ◌∷◌, [], subst, sym}
use Rattle.lotos_check.specs.NameLists.{In}
use Rattle.lotos_check.proofs.SameFault.{passed_on}
use Rattle.lotos_outcome.specs.RefusalCauses.{IsNameRefusal}
use Rattle.lotos_outcome.specs.RefusalCauses.IsNameRefusal.{no_gate}
use Rattle.lotos_outcome.specs.Rejections.{IsRejectionBy}
use Rattle.lotos_outcome.specs.declared.rejection.Rejection.TheVariants.{Memory}
use Rattle.lotos_outcome.specs.Interfaces.{IsFirstNoGate}
use Rattle.lotos_outcome.proofs.Interfaces.{no_gate_alone}
use Rattle.lotos_outcome.proofs.interface.named_gate.Goals as goal

pub returns-in_err-upper-clause-rejected : goal.returns-in_err-upper-clause-rejected
returns-in_err-upper-clause-rejected c =
    passed_on (IsRejectionBy (IsNameRefusal c.args.gates.now (c.args.name.now ∷ []))) c.from_residual.result Memory c.from_residual.ensures.1 tt

pub returns-in_err-copy-in-Some-clause-rejected : goal.returns-in_err-copy-in-Some-clause-rejected
returns-in_err-copy-in-Some-clause-rejected c =
    let r = c.from_residual-in_err-copy-in-Some in
    passed_on (IsRejectionBy (IsNameRefusal c.args.gates.now (c.args.name.now ∷ []))) r.result Memory r.ensures.1 tt

pub returns-in_err-from_str-in-None-clause-rejected : goal.returns-in_err-from_str-in-None-clause-rejected
returns-in_err-from_str-in-None-clause-rejected c =
    let r = c.from_residual-in_err-from_str-in-None in
    passed_on (IsRejectionBy (IsNameRefusal c.args.gates.now (c.args.name.now ∷ []))) r.result Memory r.ensures.1 tt

pub returns-clause-rejected : goal.returns-clause-rejected
returns-clause-rejected c =
    let none = rw c.in-None.is at c.find_gate.ensures in
    let upper = c.as_str.ensures.value ∙ c.in_ok-upper.ensures.ok in
    no_gate c.in_ok-from_str-in-None.field-0 (subst (IsFirstNoGate c.args.gates.now (c.args.name.now ∷ [])) (sym c.in_ok-from_str-in-None.ensures.ok)
    (no_gate_alone c.args.gates.now c.args.name.now (λ i. none (subst (λ n. In n c.args.gates.now) (sym upper) i))))
