use Rattle.std.proofs.Common.{◌≡◌, ◌∙◌, ◌<◌, ◌+◌, ◌-◌, ap, arith, length, sym, take}
use Rattle.std.proofs.Math.Seq.{take-length}
use Rattle.lotos_origins.specs.Contexts.{bare, made_internal, shown}
use Rattle.lotos_origins.specs.Wrappers.{within}
use Rattle.lotos_origins.proofs.WrappedTerms.{innermost_first}
use Rattle.lotos_origins.proofs.wrappers.image.Goals as goal

pub loop-left-init : goal.loop-left-init
loop-left-init c = record {
  below = omega arith;
  shown = ap (λ ws. within c.args.nodes.now bare ws c.args.gate) (sym (take-length c.args.wrappers.now));
}

pub loop-left-preserved : goal.loop-left-preserved
loop-left-preserved c =
    let so_far = c.loop-left.invariant in
    let one_less : c.loop-left.left - 1 + 1 ≡ c.loop-left.left = omega (arith, c.loop-left-test.true) in
    let in_list : c.loop-left.left - 1 < length c.args.wrappers.now = omega (arith, c.loop-left-test.true, so_far.below) in
    record {
      below = omega (arith, so_far.below);
      shown = so_far.shown ∙
          innermost_first c.args.nodes.now c.args.wrappers.now (c.loop-left.left - 1) c.loop-left.left c.index-wrappers-left.result c.loop-left.inner
          (shown c.in-Shown.outer) one_less in_list c.index-wrappers-left.is c.in-Shown.ensures;
    }

pub returns-in-MadeInternal : goal.returns-in-MadeInternal
returns-in-MadeInternal c =
    let so_far = c.loop-left.invariant in
    let one_less : c.loop-left.left - 1 + 1 ≡ c.loop-left.left = omega (arith, c.loop-left-test.true) in
    let in_list : c.loop-left.left - 1 < length c.args.wrappers.now = omega (arith, c.loop-left-test.true, so_far.below) in
    sym (so_far.shown ∙
    innermost_first c.args.nodes.now c.args.wrappers.now (c.loop-left.left - 1) c.loop-left.left c.index-wrappers-left.result c.loop-left.inner
    (made_internal c.in-MadeInternal.hidden) one_less in_list c.index-wrappers-left.is c.in-MadeInternal.ensures)

pub returns : goal.returns
returns c =
    let none : c.loop-left.left ≡ 0 = omega (arith, c.loop-left-test.false) in
    sym (c.loop-left.invariant.shown ∙ ap (λ n. within c.args.nodes.now bare (take n c.args.wrappers.now) c.loop-left.inner) none)
