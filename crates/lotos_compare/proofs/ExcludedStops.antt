-- Of one question there cannot be both an answer and a stop.
use Rattle.std.proofs.Common.{◌≡◌, List, inl, inr, refl}
use Rattle.lotos_listing.specs.Order.{Label}
use Rattle.lotos_compare.specs.BoundedPairs.{BoundedPair, IsStop}
use Rattle.lotos_compare.specs.Comparisons.{IsLineOf}
use Rattle.lotos_compare.specs.Differences.{ComparisonKind, Line}
use Rattle.lotos_compare.specs.FoundLines.{IsExploredBefore, IsFirstFault, IsFound, side_of}
use Rattle.lotos_compare.specs.declared.compare_fault.CompareFault.{CompareFault}
use Rattle.lotos_compare.specs.declared.compare_fault.CompareFault.TheVariants.{Memory, OverPairs, OverTerms}
use Rattle.lotos_compare.specs.declared.line.Comparison.{Comparison}
use Rattle.lotos_compare.specs.declared.line.Comparison.TheVariants.{Alike, Differs}

-- if there is an answer, the search stops at no sequence that it explores before it looks for any line
stop_not : (q : BoundedPair) (kind : ComparisonKind) (found : Comparison) → IsFound q kind found → (s : List Label) → IsStop q s →
    ((line : Line) → IsLineOf q.one q.other kind line → IsExploredBefore s line.sequence) → ⊥
stop_not q kind (Differs shown) (line, printed, is) s stop no_line = is.clear s stop (no_line line is.first.is_line)
stop_not q kind (Alike count) is s stop no_line = is.clear s stop

-- so a fault can only be that memory ran out
pub stop_excluded : (q : BoundedPair) (kind : ComparisonKind) (found : Comparison) (fault : CompareFault) → IsFound q kind found →
    IsFirstFault q kind fault → fault ≡ Memory
stop_excluded q kind found (OverTerms side labels) is (s, at) = absurd (stop_not q kind found is s (inl (side_of side, at.stop.stops.1)) at.no_line)
stop_excluded q kind found (OverPairs labels) is (s, at) = absurd (stop_not q kind found is s (inr at.stop.stops.1) at.no_line)
stop_excluded q kind found Memory is at = refl
