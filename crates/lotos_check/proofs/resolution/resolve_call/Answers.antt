use Rattle.std.proofs.Common.{refl, sym, ap, ◌∙◌, length}
use Rattle.lotos_text.specs.AstOf.{definition_view}
use Rattle.lotos_check.specs.Flat.{call}
use Rattle.lotos_text.proofs.DefinitionParts.{formals_shown, declared_shown}
use Rattle.lotos_check.proofs.ResolvedForms.{carried}
use Rattle.lotos_check.proofs.OwnFaults.{misnamed_actual, unseen_call, unfit_call, found_call}
use Rattle.lotos_check.proofs.resolution.resolve_call.Goals as goal

pub returns-in_default : goal.returns-in_default
returns-in_default c = λ scope known shows knows.
    unseen_call scope known c.args.name.now c.args.actuals.now c.text.result.now c.in_ok-copy.field-0 c.text.ensures.bytes
    c.in_ok-copy.ensures (c.in_default.ensures scope shows)

pub returns-then-formal-actuals : goal.returns-then-formal-actuals
returns-then-formal-actuals c = λ scope known shows knows.
    let of = c.in-Some.binding.definition.now in
    unfit_call scope known c.args.name.now c.args.actuals.now c.text.result.now c.in_ok-copy-2.field-0
    c.in-Some.binding.process (definition_view of) (length c.as_slice-formals.result.now)
    (length c.args.actuals.now) c.text.ensures.bytes
    c.in_ok-copy-2.ensures (c.in-Some.ensures scope shows) (ap length (c.as_slice-formals.ensures.value ∙ formals_shown of)) refl
    c.if-formal-actuals.true

pub returns-in_err-check_declared : goal.returns-in_err-check_declared
returns-in_err-check_declared c = λ scope known shows knows.
    carried c.from_residual-in_err-check_declared.result _ _ c.in_err-check_declared.field-0.0 c.from_residual-in_err-check_declared.ensures.1
    (misnamed_actual scope known c.args.name.now c.args.actuals.now c.in_err-check_declared.field-0.0
    (c.in_err-check_declared.ensures.undeclared known knows))

pub returns : goal.returns
returns c = λ scope known shows knows.
    let of = c.in-Some.binding.definition.now in
    found_call scope known c.args.name.now c.args.actuals.now c.text.result.now c.in-Some.binding.process (definition_view of) _
    c.text.ensures.bytes (c.in-Some.ensures scope shows)
    (sym (ap length (c.as_slice-formals.ensures.value ∙ formals_shown of)) ∙ c.if-formal-actuals.false)
    (c.in_ok-check_declared.ensures.declared known knows) (rw c.in_ok-code.ensures (ap (call c.in-Some.binding.process) c.in_ok-gates.ensures))
    (declared_shown of) refl
