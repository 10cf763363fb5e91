-- Prefixes of the lines of a suite, as the search for the lines keeps them.
use Rattle.std.specs.Prelude.{◌≡◌, ◌≢◌, ◌⊎◌, ◌<◌, ◌+◌, ◌-◌, ℕ, cond, nat_eq, Bool, true, false, List, [], ◌∷◌, ◌++◌, Option, Some, length, map, slice_get}
use Rattle.std.specs.Option.{unwrap_or}
use Rattle.lotos_check.specs.NameLists.{In}
use Rattle.lotos_listing.specs.Order.{Before, Label}
use Rattle.lotos_suite.specs.Machines.{CanDo, Machine, state_after}
use Rattle.lotos_suite.specs.Suites.{IsFront, IsWord, Line, SuiteParts, can, cannot}
use Rattle.lotos_suite.specs.SuiteLines.{AreFirstParts}
use Rattle.lotos_suite.specs.SuiteTables.{IsMove, IsSubject, Subject}
use Rattle.lotos_suite.specs.ApartSearch.{AreBySteps}
use Rattle.lotos_suite.specs.declared.apart_sequences.ApartStep.{ApartStep}
use Rattle.lotos_suite.specs.declared.moves.Move.{Move}
use Rattle.lotos_suite.specs.declared.prefixes.Front.{Front}
use Rattle.lotos_suite.specs.declared.prefixes.Front.TheVariants.{Access, Longer, Past}
use Rattle.lotos_suite.specs.declared.prefixes.Prefix.{Prefix}

-- the labels with these numbers
abbrev pub labels_at : List Label → List ℕ → List Label
labels_at labels = map (λ n. unwrap_or (slice_get labels n) [])

-- ---- prefixes

-- a word begins with the sequence
abbrev pub BeginsWord : SuiteParts → List Label → Type 0
BeginsWord parts u = (y : List Label) × IsWord parts (u ++ y)

-- a word begins with the sequence, and the machine can do it, perhaps but for its last label
pub record IsOpen (m : Machine) (parts : SuiteParts) (u : List Label) : Type 0 where
  pub word : BeginsWord parts u
  pub can : (v : List Label) (x : Label) → u ≡ v ++ x ∷ [] → CanDo m v

-- how the sequence is the front of a word: an access sequence; or one with the least number of labels after it, to
-- which so many are still to come; or none
abbrev pub IsFrontAs : SuiteParts → Front → List Label → Type 0
IsFrontAs parts Access u = IsFront parts 0 u
IsFrontAs parts (Longer left) u =
    (n : ℕ) × (0 < n) × (n + left ≡ parts.extra + 1) × IsFront parts n u × ((k : ℕ) → k < n → IsFront parts k u → ⊥)
IsFrontAs parts Past u = IsFront parts (parts.extra + 1) u → ⊥

-- the sequences with these numbers are those that complete the sequence to a word in which it goes on after a front
pub record AreRests (parts : SuiteParts) (sequences : List (List Label)) (rests : List ℕ) (u : List Label)
    : Type 0 where
  pub sound : (k : ℕ) → In k rests → (front : List Label) × (begun : List Label) × (rest : List Label) ×
      (u ≡ front ++ begun) × IsFront parts (parts.extra + 1) front × (slice_get sequences k ≡ Some rest) ×
      In (begun ++ rest) parts.apart
  pub all : (front begun rest : List Label) → u ≡ front ++ begun → begun ≢ [] →
      IsFront parts (parts.extra + 1) front → In (begun ++ rest) parts.apart →
      (k : ℕ) × In k rests × (slice_get sequences k ≡ Some rest)

-- the parts of the suite for the machine, and the sequences that tell its states apart, by steps
pub record IsSetting (s : Subject) (extra : ℕ) (parts : SuiteParts) (steps : List (Option ApartStep))
    (sequences : List (List Label)) : Type 0 where
  pub subject : IsSubject s
  pub first : AreFirstParts s.machine s.labels extra parts
  pub access : parts.access ≡ s.access
  pub by_steps : AreBySteps s.labels steps sequences
  pub there : (w : List Label) → In w parts.apart → (k : ℕ) × (0 < k) × (slice_get sequences k ≡ Some w)
  pub back : (k : ℕ) (w : List Label) → 0 < k → slice_get sequences k ≡ Some w → In w parts.apart

-- the prefix is this sequence, with which a line of the suite begins
pub record IsPrefix (s : Subject) (parts : SuiteParts) (sequences : List (List Label)) (p : Prefix) (u : List Label)
    : Type 0 where
  pub labels : u ≡ labels_at s.labels p.labels.items
  pub known : (n : ℕ) → In n p.labels.items → n < length s.labels
  pub open_ : IsOpen s.machine parts u
  pub state : state_after s.machine 0 u ≡ p.state
  pub front : IsFrontAs parts p.front u
  pub rests : AreRests parts sequences p.rests.items u

-- ---- prefixes with one label more

-- the prefix with the label was added, if a line begins with it
abbrev pub HasAdded : Subject → SuiteParts → List (List Label) → List Label → Label → (old new : List Prefix) → Type 0
HasAdded s parts sequences u x old new =
    ((p : Prefix) × (new ≡ old ++ p ∷ []) × IsPrefix s parts sequences p (u ++ x ∷ [])) ⊎
    ((IsOpen s.machine parts (u ++ x ∷ []) → ⊥) × (new ≡ old))

-- the prefixes are in the order of their sequences
abbrev pub AreAscending : Subject → SuiteParts → List (List Label) → List Prefix → Type 0
AreAscending s parts sequences nodes = (j k : ℕ) (p q : Prefix) (u v : List Label) → j < k →
    slice_get nodes j ≡ Some p → slice_get nodes k ≡ Some q → IsPrefix s parts sequences p u →
    IsPrefix s parts sequences q v → Before u v

-- the prefixes are the sequence with each of the first so many labels with which a line begins
pub record AreLonger (s : Subject) (parts : SuiteParts) (sequences : List (List Label)) (u : List Label) (count : ℕ)
    (longer : List Prefix) : Type 0 where
  pub each : (k : ℕ) (p : Prefix) → slice_get longer k ≡ Some p → (n : ℕ) × (x : Label) × (n < count) ×
      (slice_get s.labels n ≡ Some x) × IsPrefix s parts sequences p (u ++ x ∷ [])
  pub all : (n : ℕ) (x : Label) → n < count → slice_get s.labels n ≡ Some x → IsOpen s.machine parts (u ++ x ∷ []) →
      (k : ℕ) × (p : Prefix) × (slice_get longer k ≡ Some p) × IsPrefix s parts sequences p (u ++ x ∷ [])
  pub ascending : AreAscending s parts sequences longer

-- ---- the parts of a step

-- the step with this label and rest
abbrev pub step_of : ℕ → ℕ → ApartStep
step_of label rest = record { label = label; rest = rest }

-- the front after one more label, which may end an access sequence
abbrev pub front_then : Front → Bool → ℕ → Front
front_then Access true extra = Access
front_then Access false extra = Longer extra
front_then (Longer left) first extra = cond (nat_eq left 0) Past (Longer (left - 1))
front_then Past first extra = Past

-- the rests of those of these sequences that begin with the label
pub record AreRestsOf (steps : List (Option ApartStep)) (label : ℕ) (numbers rests : List ℕ) : Type 0 where
  pub sound : (r : ℕ) → In r rests → (k : ℕ) × In k numbers × (slice_get steps k ≡ Some (Some (step_of label r)))
  pub all : (k r : ℕ) → In k numbers → slice_get steps k ≡ Some (Some (step_of label r)) → In r rests

-- the rests of all sequences that begin with the label, and others
pub record AreRestsAnd (steps : List (Option ApartStep)) (label : ℕ) (others rests : List ℕ) : Type 0 where
  pub sound : (r : ℕ) → In r rests → In r others ⊎ ((k : ℕ) × (slice_get steps k ≡ Some (Some (step_of label r))))
  pub all : (k r : ℕ) → slice_get steps k ≡ Some (Some (step_of label r)) → In r rests
  pub kept : (r : ℕ) → In r others → In r rests

-- the rest of the sequence was added, if it begins with the label
abbrev pub HasAddedRest : List (Option ApartStep) → ℕ → ℕ → (old new : List ℕ) → Type 0
HasAddedRest steps label k old new =
    ((r : ℕ) × (slice_get steps k ≡ Some (Some (step_of label r))) × (new ≡ old ++ r ∷ [])) ⊎
    (((r : ℕ) → slice_get steps k ≡ Some (Some (step_of label r)) → ⊥) × (new ≡ old))

-- the label after a prefix that the machine can do
pub record IsExtension (s : Subject) (parts : SuiteParts) (sequences : List (List Label))
    (steps : List (Option ApartStep))
    (extra : ℕ) (p : Prefix) (u : List Label) (label : ℕ) (x : Label) (step : Option Move) : Type 0 where
  pub setting : IsSetting s extra parts steps sequences
  pub prefix : IsPrefix s parts sequences p u
  pub label_is : slice_get s.labels label ≡ Some x
  pub state : ℕ
  pub state_is : p.state ≡ Some state
  pub leads : IsMove s state x step

-- ---- lines

-- the line with one label more before it
abbrev pub after : Label → Line → Line
after x (can u) = can (x ∷ u)
after x (cannot u l) = cannot (x ∷ u) l

-- the line of which the last label cannot come
abbrev pub refused_from : Label → List Label → Line
refused_from x [] = cannot [] x
refused_from x (y ∷ u) = after x (refused_from y u)

-- the line with these labels, of which the last one cannot come, or all can
abbrev pub line_of : List Label → Bool → Line
line_of [] refused = can []
line_of (x ∷ u) false = can (x ∷ u)
line_of (x ∷ u) true = refused_from x u
