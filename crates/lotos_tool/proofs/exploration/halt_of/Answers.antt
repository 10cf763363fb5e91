use Rattle.std.proofs.Common.{subst, sym}
use Rattle.lotos_listing.specs.Question.{ArePrinted}
use Rattle.lotos_automaton.specs.Explorations.{IsFirstFault}
use Rattle.lotos_tool.proofs.ExplorationHalts.{oversized_halt, sets_halt}
use Rattle.lotos_tool.proofs.exploration.halt_of.Goals as goal

pub returns-in-OverTerms : goal.returns-in-OverTerms
returns-in-OverTerms c = λ q names first.
    let (s, at) = subst (IsFirstFault q) c.in-OverTerms.is first in
    let shown = subst (λ ns. ArePrinted ns c.as_slice.result.now s) names
    (subst (λ ks. ArePrinted q.behaviour.names ks s) (sym c.as_slice.ensures.value) at.stops.0) in
    oversized_halt q s c.halt_at.result at.stops.1 at.first (c.halt_at.ensures s shown)

pub returns-in-OverStates : goal.returns-in-OverStates
returns-in-OverStates c = λ q names first.
    let (s, at) = subst (IsFirstFault q) c.in-OverStates.is first in
    let shown = subst (λ ns. ArePrinted ns c.as_slice-in-OverStates.result.now s) names
    (subst (λ ks. ArePrinted q.behaviour.names ks s) (sym c.as_slice-in-OverStates.ensures.value) at.stops.0) in
    sets_halt q s c.halt_at-in-OverStates.result at.stops.1 at.first (c.halt_at-in-OverStates.ensures s shown)
