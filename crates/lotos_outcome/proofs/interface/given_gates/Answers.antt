use Rattle.std.proofs.Common.{◌∙◌, IfErr, OnOk, ap, subst, sym}
use Rattle.lotos_pattern.specs.Spelling.{parts_of}
use Rattle.lotos_outcome.specs.Interfaces.{AreGatesOf, names_given}
use Rattle.lotos_outcome.specs.RefusalCauses.{IsNameRefusal}
use Rattle.lotos_outcome.specs.Rejections.{IsRejectionBy}
use Rattle.lotos_outcome.proofs.interface.given_gates.Goals as goal

pub returns-in-Hide-clause-known : goal.returns-in-Hide-clause-known
returns-in-Hide-clause-known c =
    subst (λ ns. OnOk c.named_gates.result (AreGatesOf c.args.gates.now ns)) (ap parts_of c.as_str.ensures.value ∙ sym (ap names_given c.in-Hide.is))
    c.named_gates.ensures.known

pub returns-in-Hide-clause-rejected : goal.returns-in-Hide-clause-rejected
returns-in-Hide-clause-rejected c =
    subst (λ ns. IfErr c.named_gates.result (IsRejectionBy (IsNameRefusal c.args.gates.now ns)))
    (ap parts_of c.as_str.ensures.value ∙ sym (ap names_given c.in-Hide.is)) c.named_gates.ensures.rejected

pub returns-in-Only-clause-known : goal.returns-in-Only-clause-known
returns-in-Only-clause-known c =
    subst (λ ns. OnOk c.named_gates-in-Only.result (AreGatesOf c.args.gates.now ns))
    (ap parts_of c.as_str-in-Only.ensures.value ∙ sym (ap names_given c.in-Only.is)) c.named_gates-in-Only.ensures.known

pub returns-in-Only-clause-rejected : goal.returns-in-Only-clause-rejected
returns-in-Only-clause-rejected c =
    subst (λ ns. IfErr c.named_gates-in-Only.result (IsRejectionBy (IsNameRefusal c.args.gates.now ns)))
    (ap parts_of c.as_str-in-Only.ensures.value ∙ sym (ap names_given c.in-Only.is)) c.named_gates-in-Only.ensures.rejected
