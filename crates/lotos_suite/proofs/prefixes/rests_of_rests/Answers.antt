use Rattle.std.proofs.Common.{arith, subst, sym}
use Rattle.std.proofs.lemmas.Option.{slice_get-get_or, slice_get_within}
use Rattle.lotos_check.proofs.ListIndices.{get_in, in_get}
use Rattle.lotos_suite.proofs.RestLists.{AreSomeOf, some_more}
use Rattle.lotos_suite.proofs.prefixes.rests_of_rests.Goals as goal

pub loop-number-init : goal.loop-number-init
loop-number-init c = subst (AreSomeOf c.args.steps.now c.args.label c.args.numbers.now 0) (sym c.new-rests.ensures.items)
    (record { sound = λ r i. absurd i; all = λ n k r less at step. absurd (omega arith) })

pub add_rest-requires : goal.add_rest-requires
add_rest-requires c = c.requires _ (get_in c.args.numbers.now c.loop-number.number-index _
    (slice_get-get_or c.args.numbers.now c.loop-number.number-index 0 c.loop-number-test.true))

pub loop-number-preserved : goal.loop-number-preserved
loop-number-preserved c =
    some_more c.args.steps.now c.args.label c.args.numbers.now c.loop-number.number-index c.loop-number.rests.items c.add_rest.new.rests.items
    c.loop-number.invariant _ (slice_get-get_or c.args.numbers.now c.loop-number.number-index 0 c.loop-number-test.true) c.in_ok-add_rest.ensures

pub returns : goal.returns
returns c = record {
  sound = c.loop-number.invariant.sound;
  all = λ k r there at.
      let (n, here) = in_get c.args.numbers.now k there in
      let within = slice_get_within c.args.numbers.now n k here in
      let end = c.loop-number-test.false in
      c.loop-number.invariant.all n k r (omega arith) here at;
}
