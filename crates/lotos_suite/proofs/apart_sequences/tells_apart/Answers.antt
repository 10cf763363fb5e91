use Rattle.std.proofs.Common.{get_or, subst, arith, sym, inl, inr}
use Rattle.std.proofs.lemmas.Bool.{cases_eq}
use Rattle.std.proofs.lemmas.Option.{get_or_from_slice_get, slice_get-get_or, slice_get_within}
use Rattle.lotos_suite.proofs.StateClasses.{class_within, unless, unless_not}
use Rattle.lotos_suite.specs.ApartSearch.{AreAlike}
use Rattle.lotos_suite.proofs.apart_sequences.tells_apart.Goals as goal

pub are_alike-requires-clause-other : goal.are_alike-requires-clause-other
are_alike-requires-clause-other c =
    let less = class_within c.args.classes.now c.requires.classed c.loop-state.state c.loop-state-test.true in
    let same = c.requires.counted in
    omega arith

pub returns-then-not-are_alike : goal.returns-then-not-are_alike
returns-then-not-are_alike c = (
  c.loop-state.state,
  get_or c.args.classes.now c.loop-state.state 0,
  slice_get-get_or c.args.classes.now c.loop-state.state 0 c.loop-state-test.true,
  unless c.args.can.now c.loop-state.state (get_or c.args.classes.now c.loop-state.state 0) c.are_alike.result c.are_alike.ensures c.if-not-are_alike.true,
)

pub loop-state-preserved : goal.loop-state-preserved
loop-state-preserved c = λ j e less at. elim (cases_eq j c.loop-state.state) [
  | inr other ↦ c.loop-state.invariant j e (grind arith) at
  | inl same ↦
      let is = get_or_from_slice_get c.args.classes.now j e 0 at in
      let class = get_or c.args.classes.now c.loop-state.state 0 in
      let alike = unless_not c.args.can.now c.loop-state.state class c.are_alike.result c.are_alike.ensures c.if-not-are_alike.false in
      subst (AreAlike c.args.can.now j) is (subst (λ n. AreAlike c.args.can.now n (get_or c.args.classes.now n 0)) (sym same) alike)
]

pub returns : goal.returns
returns c = λ j e at.
    let within = slice_get_within c.args.classes.now j e at in
    let end = c.loop-state-test.false in
    c.loop-state.invariant j e (omega arith) at
