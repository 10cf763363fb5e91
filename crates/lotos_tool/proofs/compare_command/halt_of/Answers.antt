use Rattle.std.proofs.Common.{subst, sym}
use Rattle.lotos_listing.specs.Question.{ArePrinted}
use Rattle.lotos_compare.specs.FoundLines.{IsFirstFault}
use Rattle.lotos_tool.proofs.CompareAnswers.{oversized_halt, pairs_halt}
use Rattle.lotos_tool.proofs.compare_command.halt_of.Goals as goal

pub returns-in-OverTerms : goal.returns-in-OverTerms
returns-in-OverTerms c = λ q names first.
    let (s, at) = subst (IsFirstFault q.pair q.kind) c.in-OverTerms.is first in
    let shown = subst (λ ns. ArePrinted ns c.as_slice.result.now s) names
    (subst (λ ks. ArePrinted q.pair.one.names ks s) (sym c.as_slice.ensures.value) at.stop.stops.0) in
    oversized_halt q _ s _ c.halt_at.result at at.stop.stops.1 (c.halt_at.ensures s shown)

pub returns-in-OverPairs : goal.returns-in-OverPairs
returns-in-OverPairs c = λ q names first.
    let (s, at) = subst (IsFirstFault q.pair q.kind) c.in-OverPairs.is first in
    let shown = subst (λ ns. ArePrinted ns c.as_slice-in-OverPairs.result.now s) names
    (subst (λ ks. ArePrinted q.pair.one.names ks s) (sym c.as_slice-in-OverPairs.ensures.value) at.stop.stops.0) in
    pairs_halt q _ s c.halt_at-in-OverPairs.result at at.stop.stops.1 (c.halt_at-in-OverPairs.ensures s shown)
