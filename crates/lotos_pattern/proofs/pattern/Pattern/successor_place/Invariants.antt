use Rattle.std.proofs.Common.{◌-◌, length}
use Rattle.lotos_pattern.specs.NfaStates.{IsPlaceValue}
use Rattle.lotos_pattern.proofs.NfaTransitions.{IsWalked}
use Rattle.lotos_pattern.proofs.PlaceTransitions.{IsPassing}
use Rattle.lotos_pattern.proofs.pattern.Pattern.successor_place.Given as goal

abbrev pub invariant-loop-state : goal.invariant-loop-state
invariant-loop-state l = IsPassing l.self.elements l.place l.label l.state l.next × IsWalked l.self.elements l.place l.label l.state l.next
    × IsPlaceValue l.next

abbrev pub decreases-loop-state : goal.decreases-loop-state
decreases-loop-state l = length l.self.elements - l.state
