-- Test suites of a machine: lines that say of an implementation what it has to be able to do, and what not.
use Rattle.std.specs.Prelude.{◌≡◌, ◌≢◌, ◌⊎◌, ◌<◌, ◌≤◌, ◌+◌, ℕ, List, [], ◌∷◌, ◌++◌, Some, length, slice_get}
use Rattle.lotos_check.specs.NameLists.{In}
use Rattle.lotos_listing.specs.Order.{Label}
use Rattle.lotos_suite.specs.Machines.{CanDo, CanDoFrom, Machine, state_after}

-- a line of a suite: an implementation has to be able to do the sequence; or it has to be able to do the sequence and
-- then not the label
pub data Line : Type 0 where
  can : (sequence : List Label) → Line
  cannot : (sequence : List Label) (label : Label) → Line

-- all labels of the line
abbrev pub labels_of : Line → List Label
labels_of (can s) = s
labels_of (cannot s l) = s ++ l ∷ []

-- the machine passes the line
abbrev pub Passes : Machine → Line → Type 0
Passes m (can s) = CanDo m s
Passes m (cannot s l) = CanDo m s × (CanDo m (s ++ l ∷ []) → ⊥)

-- of what a suite is made: the labels; for each state, in the order of their numbers, a sequence that leads to it, the
-- first one empty (access sequences); sequences that tell the states apart; and how many states more than the machine
-- of the suite an implementation may have
pub record SuiteParts : Type 0 where
  pub labels : List Label
  pub access : List (List Label)
  pub apart : List (List Label)
  pub extra : ℕ

-- the sequences lead to the states of the machine, each to that with its index, and the first is empty
pub record AreAccessSequences (m : Machine) (access : List (List Label)) : Type 0 where
  pub counted : length access ≡ m.states
  pub leads : (k : ℕ) (r : List Label) → slice_get access k ≡ Some r → state_after m 0 r ≡ Some k
  pub starts : slice_get access 0 ≡ Some []

-- one of the two states can do the sequence, and the other cannot
abbrev pub TellsApart : Machine → ℕ → ℕ → List Label → Type 0
TellsApart m j k w = (CanDoFrom m j w × (CanDoFrom m k w → ⊥)) ⊎ (CanDoFrom m k w × (CanDoFrom m j w → ⊥))

-- each two states are told apart by one of the sequences (a characterization set)
abbrev pub TellAllApart : Machine → List (List Label) → Type 0
TellAllApart m apart = (j k : ℕ) → j < m.states → k < m.states → j ≢ k →
    (w : List Label) × In w apart × TellsApart m j k w

-- the parts are those of a suite for the machine
pub record AreSuiteParts (m : Machine) (parts : SuiteParts) : Type 0 where
  pub access : AreAccessSequences m parts.access
  pub apart : TellAllApart m parts.apart

-- each label of the sequence is in the list
abbrev pub AreOf : List Label → List Label → Type 0
AreOf labels s = (l : Label) → In l s → In l labels

-- an access sequence, and then at most `n` labels
pub record IsFront (parts : SuiteParts) (n : ℕ) (u : List Label) : Type 0 where
  pub access : List Label
  pub labels : List Label
  pub is : u ≡ access ++ labels
  pub leads : In access parts.access
  pub known : AreOf parts.labels labels
  pub short : length labels ≤ n

-- a word of the suite: an access sequence, at most one label more than an implementation may have extra states, and
-- nothing or a sequence that tells states apart
pub record IsWord (parts : SuiteParts) (u : List Label) : Type 0 where
  pub front : List Label
  pub rest : List Label
  pub is : u ≡ front ++ rest
  pub begins : IsFront parts (parts.extra + 1) front
  pub ends : (rest ≡ []) ⊎ In rest parts.apart

-- the line is that of the word: all of it, or up to and with the first label that the machine cannot do
abbrev pub IsLineOfWord : Machine → List Label → Line → Type 0
IsLineOfWord m u (can s) = (u ≡ s) × CanDo m s
IsLineOfWord m u (cannot s l) = ((y : List Label) × (u ≡ s ++ l ∷ y)) × CanDo m s × (CanDo m (s ++ l ∷ []) → ⊥)

-- the line is that of some word
abbrev pub IsCutWord : Machine → SuiteParts → Line → Type 0
IsCutWord m parts line = (u : List Label) × IsWord parts u × IsLineOfWord m u line

-- the other line begins with all labels of this one, and has more
abbrev pub IsContinuedBy : Line → Line → Type 0
IsContinuedBy line other = (l : Label) × (y : List Label) × (labels_of other ≡ labels_of line ++ l ∷ y)

-- a line of the suite: that of a word, which that of no other word continues
pub record IsSuiteLine (m : Machine) (parts : SuiteParts) (line : Line) : Type 0 where
  pub cut : IsCutWord m parts line
  pub longest : (other : Line) → IsCutWord m parts other → IsContinuedBy line other → ⊥

-- the machine passes all lines of the suite
abbrev pub PassesSuite : Machine → SuiteParts → Machine → Type 0
PassesSuite m parts implementation = (line : Line) → IsSuiteLine m parts line → Passes implementation line
