use Rattle.std.proofs.Common.{◌≡◌, Some, arith, refl, slice_get, subst, sym}
use Rattle.std.proofs.lemmas.Option.{slice_get_read}
use Rattle.lotos_suite.proofs.LabelsOfSuites.{row_next, row_none, row_whole}
use Rattle.lotos_suite.proofs.suite_alphabet.append_row.Goals as goal

pub loop-transition-init : goal.loop-transition-init
loop-transition-init c = row_none c.args.labels.now.items

pub loop-transition-preserved : goal.loop-transition-preserved
loop-transition-preserved c =
    let list = c.args.transitions.now in
    let l = c.loop-transition in
    let there = slice_get_read list _ _ _ refl c.loop-transition-test.true c.transition-item.is in
    let at = subst (λ t. slice_get list l.transition-index ≡ Some t) (sym c.transition.view_is) there in
    row_next list l.transition-index c.transition.inside.label c.transition.inside.state c.args.labels.now.items l.labels.items c.push.new.self.items at
    l.invariant c.in_ok-push.ensures.items

pub returns : goal.returns
returns c =
    let l = c.loop-transition in
    let end = c.loop-transition-test.false in
    row_whole c.args.transitions.now l.transition-index c.args.labels.now.items l.labels.items (omega arith) l.invariant
