use Rattle.std.proofs.Common.{ℕ, refl, subst}
use Rattle.lotos_store.specs.StoreView.{term_with}
use Rattle.lotos_origins.specs.Contexts.{bare}
use Rattle.lotos_origins.specs.Wrappers.{AgreeAt, within}
use Rattle.lotos_origins.proofs.Likenesses.{alike_in_contexts, likeness_passed}
use Rattle.lotos_origins.proofs.WrappedTerms.{unwrapped_alike}
use Rattle.lotos_origins.proofs.alike.compare_unwrapped.Goals as goal

pub returns-then-are_alike_calls : goal.returns-then-are_alike_calls
returns-then-are_alike_calls c = λ n m left right.
    unwrapped_alike c.args.nodes.now c.args.table.now.processes n m c.args.first.now c.args.second.now left right (c.if-are_alike_calls.ensures refl)

pub returns-then-make_the_same : goal.returns-then-make_the_same
returns-then-make_the_same c = λ n m left right.
    let store = c.args.nodes.now in
    let system = c.args.table.now.processes in
    let first = c.args.first.now in
    let second = c.args.second.now in
    let agree = subst (λ ws. (g : ℕ) → AgreeAt store ws second.wrappers.items g) c.as_slice.ensures.value
    (subst (λ ws. (g : ℕ) → AgreeAt store c.as_slice.result.now ws g) c.as_slice-2.ensures.value (c.if-make_the_same.ensures refl)) in
    likeness_passed system store.terms first.core second.core n m (λ alike.
    unwrapped_alike store system n m first second left right (alike_in_contexts system (c.alike_steps_have_the_same_origins.ensures.context system)
    (within store bare first.wrappers.items) (within store bare second.wrappers.items) agree (term_with store first.core) (term_with store second.core) alike))
    c.compare_cores.result (c.compare_cores.ensures system)
