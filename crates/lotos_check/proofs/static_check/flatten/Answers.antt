use Rattle.std.proofs.Common.{map, ◌≡◌, ◌∷◌, [], ◌<◌, length, sym, ap, ◌∙◌, arith, refl, List}
use Rattle.std.proofs.lemmas.List.{length-map}
use Rattle.std.specs.Vec.Iter.{into_iter_items}
use Rattle.lotos_text.specs.AstOf.{definition_view}
use Rattle.lotos_check.proofs.Pairs.{drop_seen}
use Rattle.lotos_check.proofs.Flattening.{flattens_none, flattens_first_step, flattens_more_step, flattens_all}
use Rattle.lotos_check.proofs.static_check.flatten.Goals as goal
use Rattle.lotos_check.proofs.static_check.flatten.Goals.{then-index-eq0, else-index-eq0+in_ok-make_process+in_ok-push}

nothing_left : {X : Type 0} (xs : List X) → length xs ≡ 0 → xs ≡ []
nothing_left [] e = refl
nothing_left (x ∷ xs) e = absurd (omega arith)

pub loop-one-init : goal.loop-one-init
loop-one-init c =
    let definitions = map (λ d. definition_view d.now) c.args.definitions.now in
    let found = into_iter_items c.into_iter-one-iterator.result in
    let gives = c.into_iter-one-iterator.ensures.into_iter_gives in
    record {
      left = gives.1 ∙ c.args.found.ok.0 ∙ ap length (sym gives.0);
      makes = rw c.new-processes.ensures.items
          (flattens_none definitions found _ (simp length-map (c.requires.sized ∙ ap length (sym gives.0))));
    }

pub loop-one-preserved : goal.loop-one-preserved
loop-one-preserved c =
    let definitions = map (λ d. definition_view d.now) c.args.definitions.now in
    let found = into_iter_items c.into_iter-one-iterator.result in
    let i = c.loop-one.index in
    let one = c.in-Some.one in
    let all = into_iter_items c.loop-one.one-iterator in
    let rest = into_iter_items c.next.new.self in
    let steps = c.in-Some.ensures.steps in
    let left = c.loop-one.invariant.left in
    let makes = c.loop-one.invariant.makes in
    record {
      left = (let s = ap length steps.0 in let n = steps.1 in omega arith);
      makes = elim c.if-index-eq0.branch [
        | then-index-eq0 w ↦
            flattens_first_step definitions found i one all rest c.loop-one.start.value c.if-index-eq0.start.value c.loop-one.processes.items
            c.if-index-eq0.processes.items w.if-index-eq0.true steps.0 (ap (λ b. b.value) w.start-is) (ap (λ v. v.items) w.processes-is) makes
        | else-index-eq0+in_ok-make_process+in_ok-push w ↦
            let d = w.index-definitions-index.result in
            let h : i < length c.args.definitions.now =
            (let s = makes.sized in let e = ap length steps.0 in let n = length-map c.args.definitions.now (λ d. definition_view d.now) in omega arith) in
            flattens_more_step definitions found i one all rest c.loop-one.start.value c.if-index-eq0.start.value c.loop-one.processes.items
            c.if-index-eq0.processes.items (definition_view d.now) _ w.if-index-eq0.false steps.0 (ap (λ b. b.value) w.start-is)
            (ap (λ v. v.items) w.processes-is ∙ w.in_ok-push.ensures.items)
            (drop_seen (λ d. definition_view d.now) c.args.definitions.now i d h w.index-definitions-index.is)
            w.in_ok-make_process.ensures makes
      ];
    }

pub returns : goal.returns
returns c =
    let definitions = map (λ d. definition_view d.now) c.args.definitions.now in
    let gives = c.into_iter-one-iterator.ensures.into_iter_gives in
    let none = nothing_left (into_iter_items c.loop-one.one-iterator) (sym c.loop-one.invariant.left ∙ c.in-None.ensures.steps.0) in
    let makes = rw (none, gives.0) at c.loop-one.invariant.makes in
    flattens_all definitions c.args.found.items c.loop-one.index c.loop-one.start.value c.loop-one.processes.items c.requires.some makes
