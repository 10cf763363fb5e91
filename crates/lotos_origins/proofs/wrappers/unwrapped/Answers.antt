use Rattle.std.proofs.Common.{arith}
use Rattle.lotos_origins.proofs.WrappedTerms.{nothing_off, one_more_off}
use Rattle.lotos_origins.proofs.wrappers.unwrapped.Goals as goal

pub loop-wrapper-init : goal.loop-wrapper-init
loop-wrapper-init c =
    let (wrappers, term) = nothing_off c.args.nodes.now c.args.term c.new-wrappers.result.items c.new-wrappers.ensures.items in
    record { core = c.requires; wrappers = wrappers; term = term }

pub loop-wrapper-preserved : goal.loop-wrapper-preserved
loop-wrapper-preserved c =
    let so_far = c.loop-wrapper.invariant in
    let (less, is, around) = c.in-Some.ensures in
    let (wrappers, term) = one_more_off c.args.nodes.now c.args.term c.loop-wrapper.core c.in-Some.body c.loop-wrapper.wrappers.items c.push.new.self.items
    c.in-Some.wrapper c.in_ok-push.ensures.items so_far.wrappers so_far.term is around in
    record { core = omega (arith, less, so_far.core); wrappers = wrappers; term = term }

pub returns : goal.returns
returns c =
    let so_far = c.loop-wrapper.invariant in
    record { wrapping = record { core = so_far.core; wrappers = so_far.wrappers }; term = so_far.term }
