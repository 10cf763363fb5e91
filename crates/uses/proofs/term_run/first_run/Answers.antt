use Rattle.std.proofs.Common.{◌≡◌, ◌<◌, ◌≤◌, ◌+◌, ◌∙◌, ap, arith, length, subst, sym}
use Rattle.std.proofs.lemmas.List.{length_push}
use Rattle.uses.specs.TermRuns.{IsStepIfAny}
use Rattle.uses.proofs.Runs.{leads_below, run_grows, run_push}
use Rattle.uses.proofs.term_run.first_run.Goals as goal

pub loop-init : goal.loop-init
loop-init c = record {
  grows = c.growth_is_transitive.ensures.reflexive _;
  sound = c.start-here.ensures.sound;
  below = c.start-here.ensures.below;
  run = rw c.new-run.ensures.items (sym c.start-here.ensures.start);
  steps = ap length c.new-run.ensures.items;
}

pub first_step-requires : goal.first_step-requires
first_step-requires c = c.loop.invariant.below

pub returns-in_err-next-clause-grows : goal.returns-in_err-next-clause-grows
returns-in_err-next-clause-grows c = c.growth_is_transitive.ensures.transitive _ _ _ c.loop.invariant.grows c.in_err-next.ensures.grows

pub returns-in-None-clause-grows : goal.returns-in-None-clause-grows
returns-in-None-clause-grows c = c.growth_is_transitive.ensures.transitive _ _ _ c.loop.invariant.grows c.in_ok-next.ensures.grows

pub returns-in-None-clause-run : goal.returns-in-None-clause-run
returns-in-None-clause-run c =
    let new = c.first_step.new.table in
    let steps : length c.loop.run.items ≡ c.loop.counter = c.loop.invariant.steps in
    let less = c.loop-test.true in
    record {
      end = c.loop.here;
      run = run_grows c.loop.table new c.in_ok-next.ensures.grows (c.growth_is_transitive.ensures.labels _ _ c.in_ok-next.ensures.grows) c.loop.run.items
          c.loop.here c.loop.invariant.run;
      within = omega (arith, steps, less);
      deadlock = λ _. subst (IsStepIfAny new c.loop.here) c.in-None.is c.in_ok-next.ensures.step;
    }

pub returns-in_err-push-in-Some-clause-grows : goal.returns-in_err-push-in-Some-clause-grows
returns-in_err-push-in-Some-clause-grows c = c.growth_is_transitive.ensures.transitive _ _ _ c.loop.invariant.grows c.in_ok-next.ensures.grows

pub loop-preserved : goal.loop-preserved
loop-preserved c =
    let now = c.loop.table in
    let new = c.first_step.new.table in
    let grows = c.in_ok-next.ensures.grows in
    let items = c.in_ok-push-in-Some.ensures.items in
    let found = subst (IsStepIfAny new c.loop.here) c.in-Some.is c.in_ok-next.ensures.step in
    let step = rw (← c.step.view_is) at found in
    let before = run_grows now new grows (c.growth_is_transitive.ensures.labels _ _ grows) c.loop.run.items c.loop.here c.loop.invariant.run in
    record {
      grows = c.growth_is_transitive.ensures.transitive _ _ _ c.loop.invariant.grows grows;
      sound = c.in_ok-next.ensures.sound;
      below = leads_below new c.loop.here _ step;
      run = rw (items, ← c.step.view_is) (run_push new new.start c.loop.run.items c.loop.here _ before step);
      steps = ap length items ∙ length_push c.loop.run.items _ ∙ ap (λ n. n + 1) c.loop.invariant.steps;
    }

pub returns-clause-grows : goal.returns-clause-grows
returns-clause-grows c = c.loop.invariant.grows

pub returns-clause-sound : goal.returns-clause-sound
returns-clause-sound c = c.loop.invariant.sound

pub returns-clause-run : goal.returns-clause-run
returns-clause-run c =
    let steps : length c.loop.run.items ≡ c.loop.counter = c.loop.invariant.steps in
    let most : c.loop.counter ≤ c.args.depth = c.loop.auto.counter-end in
    let over = c.loop-test.false in
    record {
      end = c.loop.here;
      run = c.loop.invariant.run;
      within = omega (arith, steps, most);
      deadlock = λ (less : length c.loop.run.items < c.args.depth). absurd (omega (arith, steps, over, less));
    }
