use Rattle.std.proofs.Common.{◌≡◌, ◌∙◌, ◌∷◌, [], Some, get_or, length, subst, arith, sym, ap, slice_get, length-append}
use Rattle.std.proofs.lemmas.Option.{slice_get-get_or}
use Rattle.lotos_suite.proofs.StateClasses.{IsPartSplit, class_within, split_all, split_none, split_other, split_stays}
use Rattle.lotos_suite.specs.ApartSearch.{AreAlike}
use Rattle.lotos_suite.proofs.apart_sequences.split.Goals as goal
use Rattle.lotos_suite.proofs.apart_sequences.split.Goals.{else-are_alike+in_ok-push-2, then-are_alike+in_ok-push}

pub are_alike-requires-clause-other : goal.are_alike-requires-clause-other
are_alike-requires-clause-other c =
    let less = class_within c.args.classes.now c.requires.classed c.loop-state.state c.loop-state-test.true in
    let same = c.requires.counted in
    omega arith

pub other_class-requires : goal.other_class-requires
other_class-requires c =
    let less = class_within c.args.classes.now c.requires.classed c.loop-state.state c.loop-state-test.true in
    let wide = (c.loop-state.invariant.part c.requires.counted c.requires.classed).wide in
    omega arith

pub loop-state-init : goal.loop-state-init
loop-state-init c = record {
  counted = ap length c.new-split.ensures.items;
  part = λ counted classed. subst (IsPartSplit c.args.can.now c.args.classes.now counted classed c.in_ok-others.others.items) (sym c.new-split.ensures.items)
      (split_none c.args.can.now c.args.classes.now counted classed c.in_ok-others.others.items c.in_ok-others.ensures.counted c.in_ok-others.ensures.none);
}

pub loop-state-preserved : goal.loop-state-preserved
loop-state-preserved c =
    let l = c.loop-state in
    let class = get_or c.args.classes.now l.state 0 in
    let at = slice_get-get_or c.args.classes.now l.state 0 c.loop-state-test.true in
    let count = l.invariant.counted in
    let here : slice_get c.args.classes.now (length l.split.items) ≡ Some class = subst (λ n. slice_get c.args.classes.now n ≡ Some class) (sym count) at in
    elim c.if-are_alike.branch [
      | then-are_alike+in_ok-push w ↦
          let pushed = ap (λ v. v.items) w.split-is ∙ w.in_ok-push.ensures.items in
          let long = length-append l.split.items (class ∷ []) in
          let same = ap (λ v. v.items) w.others-is in
          record {
            counted = let e = ap length pushed in omega arith;
            part = λ counted classed.
                let alike = subst (λ n. AreAlike c.args.can.now n class) (sym count) w.if-are_alike.ensures in
                let part = l.invariant.part counted classed in
                let next = split_stays c.args.can.now c.args.classes.now counted classed l.others.items l.split.items part class here alike in
                subst (λ os. IsPartSplit c.args.can.now c.args.classes.now counted classed os c.if-are_alike.split.items) (sym same)
                (subst (IsPartSplit c.args.can.now c.args.classes.now counted classed l.others.items) (sym pushed) next);
          }
      | else-are_alike+in_ok-push-2 w ↦
          let pushed = ap (λ v. v.items) w.split-is ∙ w.in_ok-push-2.ensures.items in
          let long = length-append l.split.items (w.other_class.result ∷ []) in
          let same = ap (λ v. v.items) w.others-is in
          record {
            counted = let e = ap length pushed in omega arith;
            part = λ counted classed.
                let unlike = λ (h : AreAlike c.args.can.now (length l.split.items) class). w.if-are_alike.ensures
                (subst (λ n. AreAlike c.args.can.now n class) count h) in
                let part = l.invariant.part counted classed in
                let next = split_other c.args.can.now c.args.classes.now counted classed l.others.items l.split.items part class here unlike
                w.other_class.new.others.items w.other_class.result l.state count w.other_class.ensures in
                subst (λ os. IsPartSplit c.args.can.now c.args.classes.now counted classed os c.if-are_alike.split.items) (sym same)
                (subst (IsPartSplit c.args.can.now c.args.classes.now counted classed w.other_class.new.others.items) (sym pushed) next);
          }
    ]

pub returns : goal.returns
returns c =
    let end = c.loop-state-test.false in
    let stop = c.loop-state.auto.state-end in
    let count = c.loop-state.invariant.counted in
    split_all c.args.can.now c.args.classes.now c.requires.counted c.requires.classed c.loop-state.others.items c.loop-state.split.items
    (c.loop-state.invariant.part c.requires.counted c.requires.classed) (omega arith)
