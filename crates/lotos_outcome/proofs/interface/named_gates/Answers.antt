use Rattle.std.proofs.Common.{◌≡◌, ◌++◌, ◌∷◌, ◌∙◌, [], List, ap, arith, get_or, subst, sym}
use Rattle.std.proofs.lemmas.List.{length-map, take_all}
use Rattle.lotos_check.proofs.SameFault.{passed_on}
use Rattle.lotos_pattern.specs.Spelling.{Text, parts_of, texts_of}
use Rattle.lotos_pattern.proofs.Words.{word_at}
use Rattle.lotos_outcome.specs.Interfaces.{AreGatesOf}
use Rattle.lotos_outcome.specs.RefusalCauses.{IsNameRefusal}
use Rattle.lotos_outcome.specs.Rejections.{IsRejectionBy}
use Rattle.lotos_outcome.specs.declared.rejection.Rejection.TheVariants.{Memory}
use Rattle.lotos_outcome.proofs.Interfaces.{known_more, name_refused, named_more}
use Rattle.lotos_outcome.proofs.Rejections.{rejects_more}
use Rattle.lotos_outcome.proofs.interface.named_gates.Goals as goal

pub returns-in_err-names-clause-rejected : goal.returns-in_err-names-clause-rejected
returns-in_err-names-clause-rejected c =
    passed_on (IsRejectionBy (IsNameRefusal c.args.gates.now (parts_of c.args.list.now))) c.from_residual.result Memory c.from_residual.ensures.1 tt

pub returns-in_err-gate-clause-rejected : goal.returns-in_err-gate-clause-rejected
returns-in_err-gate-clause-rejected c =
    let r = c.from_residual-in_err-gate in
    let u = c.in_err-gate.field-0.0 in
    let items = c.deref-name-items.result.now in
    let i = c.loop-name.name-index in
    let name : Text = (get_or items i (record { ref_ptr = (0, 0); now = [] })).now in
    let same : texts_of items ≡ parts_of c.args.list.now = ap texts_of c.deref-name-items.ensures.value ∙ c.in_ok-names.ensures in
    passed_on (IsRejectionBy (IsNameRefusal c.args.gates.now (parts_of c.args.list.now))) r.result u r.ensures.1
    (subst (λ (names : List Text). IsRejectionBy (IsNameRefusal c.args.gates.now names) u) same
    (rejects_more _ _ u (name_refused c.args.gates.now (texts_of items) i name (word_at items i _ c.loop-name-test.true) c.loop-name.invariant.1)
    c.in_err-gate.ensures.rejected))

pub returns-in-Err-clause-rejected : goal.returns-in-Err-clause-rejected
returns-in-Err-clause-rejected c = tt

pub loop-name-preserved : goal.loop-name-preserved
loop-name-preserved c =
    let items = c.deref-name-items.result.now in
    let i = c.loop-name.name-index in
    let name : Text = (get_or items i (record { ref_ptr = (0, 0); now = [] })).now in
    let at = word_at items i _ c.loop-name-test.true in (
      c.in-Ok.ensures.items ∙ (λ j. c.loop-name.invariant.0 j ++ c.in_ok-gate.ensures.named j ∷ []) ∙ sym (named_more (texts_of items) i name at),
      known_more (texts_of items) i name at c.args.gates.now c.loop-name.invariant.1 c.in_ok-gate.ensures.known,
    )

pub returns-clause-known : goal.returns-clause-known
returns-clause-known c =
    let items = c.deref-name-items.result.now in
    let same : texts_of items ≡ parts_of c.args.list.now = ap texts_of c.deref-name-items.ensures.value ∙ c.in_ok-names.ensures in
    let long = length-map items (λ word. word.now) in
    let all = take_all c.loop-name.name-index (texts_of items) (omega (arith, c.loop-name-test.false)) in
    subst (λ (names : List Text). AreGatesOf c.args.gates.now names) (all ∙ same) c.loop-name.invariant.1
