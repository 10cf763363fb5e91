use Rattle.std.proofs.Common.{Some, arith, inl}
use Rattle.std.proofs.lemmas.Option.{slice_get_within}
use Rattle.lotos_suite.proofs.RestLists.{and_more}
use Rattle.lotos_suite.specs.SuitePrefixes.{step_of}
use Rattle.lotos_suite.proofs.prefixes.add_rests.Goals as goal

pub loop-number-init : goal.loop-number-init
loop-number-init c = record { sound = λ r i. inl i; all = λ k r less at. absurd (omega arith); kept = λ r i. i }

pub loop-number-preserved : goal.loop-number-preserved
loop-number-preserved c =
    and_more c.args.steps.now c.args.label c.args.rests.now.items c.loop-number.number c.loop-number.rests.items c.add_rest.new.rests.items
    c.loop-number.invariant c.in_ok-add_rest.ensures

pub returns : goal.returns
returns c = record {
  sound = c.loop-number.invariant.sound;
  all = λ k r at.
      let within = slice_get_within c.args.steps.now k (Some (step_of c.args.label r)) at in
      let end = c.loop-number-test.false in
      let stop = c.loop-number.auto.number-end in
      c.loop-number.invariant.all k r (omega arith) at;
  kept = c.loop-number.invariant.kept;
}
