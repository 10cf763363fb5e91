-- The suite of a machine: its parts are the first sequences of their kinds, and its lines are in order.
use Rattle.std.specs.Prelude.{◌≡◌, ◌≢◌, ◌↔◌, ◌<◌, ℕ, List, Some, length, slice_get}
use Rattle.lotos_check.specs.NameLists.{In}
use Rattle.lotos_listing.specs.Order.{Before, Label}
use Rattle.lotos_suite.specs.Machines.{Machine, state_after}
use Rattle.lotos_suite.specs.Suites.{IsSuiteLine, Line, SuiteParts, TellsApart, labels_of}

-- the first sequence that leads to the state: shorter ones come first, and then those with smaller labels
pub record IsFirstAccess (m : Machine) (k : ℕ) (r : List Label) : Type 0 where
  pub leads : state_after m 0 r ≡ Some k
  pub first : (s : List Label) → state_after m 0 s ≡ Some k → Before s r → ⊥

-- the first sequence that one of the two states can do and the other cannot
pub record IsFirstApart (m : Machine) (j k : ℕ) (w : List Label) : Type 0 where
  pub apart : TellsApart m j k w
  pub first : (s : List Label) → TellsApart m j k s → Before s w → ⊥

-- for each state the first sequence that leads to it
pub record AreFirstAccesses (m : Machine) (access : List (List Label)) : Type 0 where
  pub counted : length access ≡ m.states
  pub firsts : (k : ℕ) (r : List Label) → slice_get access k ≡ Some r → IsFirstAccess m k r

-- and the states are numbered in the order of these sequences
pub record AreAccesses (m : Machine) (access : List (List Label)) : Type 0 where
  pub firsts : AreFirstAccesses m access
  pub ascending : (j k : ℕ) (r s : List Label) → j < k → slice_get access j ≡ Some r → slice_get access k ≡ Some s →
      Before r s

-- for each two different states the first sequence that tells them apart, and no other sequences
pub record AreFirstsApart (m : Machine) (apart : List (List Label)) : Type 0 where
  pub only : (w : List Label) → In w apart →
      (j k : ℕ) × (j < m.states) × (k < m.states) × IsFirstApart m j k w
  pub all : (j k : ℕ) → j < m.states → k < m.states → j ≢ k → (w : List Label) × In w apart × IsFirstApart m j k w

-- the parts of the suite for the machine with these labels and so many extra states
pub record AreFirstParts (m : Machine) (labels : List Label) (extra : ℕ) (parts : SuiteParts) : Type 0 where
  pub named : parts.labels ≡ labels
  pub more : parts.extra ≡ extra
  pub access : AreFirstAccesses m parts.access
  pub apart : AreFirstsApart m parts.apart

-- the lines are those of the suite, each once: shorter ones come first, and then those with smaller labels
pub record AreSuiteLines (m : Machine) (parts : SuiteParts) (lines : List Line) : Type 0 where
  pub each : (line : Line) → In line lines ↔ IsSuiteLine m parts line
  pub ascending : (j k : ℕ) (a b : Line) → j < k → slice_get lines j ≡ Some a → slice_get lines k ≡ Some b →
      Before (labels_of a) (labels_of b)
