use Rattle.std.proofs.Common.{◌∙◌, ◌++◌, ◌∷◌, [], ap, inl, inr, length, refl, subst, sym}
use Rattle.lotos_suite.proofs.SuiteRests.{added, front_of_next, not_added, rest_inside, rests_of_next}
use Rattle.lotos_suite.specs.SuitePrefixes.{IsFrontAs}
use Rattle.lotos_suite.proofs.prefixes.add_with_label.Goals as goal

pub rests_after-requires : goal.rests_after-requires
rests_after-requires c =
    let (s, parts, sequences, u, x, ext) = c.requires in
    λ k there. rest_inside s parts sequences c.args.steps.now c.args.extra c.args.prefix.now u c.args.label x c.args.step ext k there

pub returns-then-begins_nothing : goal.returns-then-begins_nothing
returns-then-begins_nothing c = λ s parts sequences u x ext.
    let p = c.args.prefix.now in
    let (past, empty) = c.if-begins_nothing.ensures in
    let front = subst (λ f. IsFrontAs parts f (u ++ x ∷ [])) (sym c.front_after-front.ensures)
    (front_of_next s parts sequences c.args.steps.now c.args.extra p u c.args.label x c.args.step ext c.is_first.result c.is_first.ensures) in
    let rests = rests_of_next s parts sequences c.args.steps.now c.args.extra p u c.args.label x c.args.step ext c.in_ok-rests.rests.items
    c.in_ok-rests.ensures.first c.in_ok-rests.ensures.all in
    inr (
      not_added s parts sequences c.args.steps.now c.args.extra p u c.args.label x c.args.step ext c.front_after-front.result c.in_ok-rests.rests.items
          front rests (past, ap length (sym c.as_slice.ensures.value) ∙ empty),
      refl,
    )

pub returns : goal.returns
returns c = λ s parts sequences u x ext.
    let p = c.args.prefix.now in
    let front = subst (λ f. IsFrontAs parts f (u ++ x ∷ [])) (sym c.front_after-front.ensures)
    (front_of_next s parts sequences c.args.steps.now c.args.extra p u c.args.label x c.args.step ext c.is_first.result c.is_first.ensures) in
    let rests = rests_of_next s parts sequences c.args.steps.now c.args.extra p u c.args.label x c.args.step ext c.in_ok-rests.rests.items
    c.in_ok-rests.ensures.first c.in_ok-rests.ensures.all in
    inl (
      _,
      c.in_ok-push.ensures.items,
      added s parts sequences c.args.steps.now c.args.extra p u c.args.label x c.args.step ext _
          c.in_ok-labels.ensures c.state_of.ensures front rests
          (λ (e, f). c.if-begins_nothing.ensures (e, ap length c.as_slice.ensures.value ∙ f)),
    )
