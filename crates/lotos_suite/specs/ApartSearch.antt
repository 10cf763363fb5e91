-- How far a search for the first sequences that tell states apart has gone.
use Rattle.std.specs.Prelude.{◌≡◌, ◌≢◌, ◌⊎◌, ◌<◌, ◌≤◌, ◌+◌, ℕ, Bool, MatchBool, List, [], ◌∷◌, Option, None, Some, length, slice_get, cond, nat_eq}
use Rattle.lotos_store.specs.Interning.{plain_lists}
use Rattle.lotos_listing.specs.Order.{Before, Label}
use Rattle.lotos_suite.specs.Machines.{CanDoFrom, Machine}
use Rattle.lotos_suite.specs.Suites.{TellsApart}
use Rattle.lotos_suite.specs.SuiteLines.{IsFirstApart}
use Rattle.lotos_suite.specs.SuiteTables.{Subject}
use Rattle.lotos_suite.specs.declared.apart_sequences.ApartStep.{ApartStep}
use Rattle.lotos_suite.specs.declared.apart_sequences.ApartSequences.{ApartSequences}

-- ---- the sequences

-- a label, and one of the first `k` sequences
pub record IsLonger (labels : List Label) (sequences : List (List Label)) (k : ℕ) (step : ApartStep) (w : List Label)
    : Type 0 where
  pub label : Label
  pub rest : List Label
  pub label_is : slice_get labels step.label ≡ Some label
  pub rest_is : slice_get sequences step.rest ≡ Some rest
  pub earlier : step.rest < k
  pub is : w ≡ label ∷ rest

-- the sequence with the number `k`, by its step; empty if there is none
abbrev pub IsByStep : List Label → List (List Label) → ℕ → Option ApartStep → List Label → Type 0
IsByStep labels sequences k None w = w ≡ []
IsByStep labels sequences k (Some step) w = IsLonger labels sequences k step w

-- the sequences have these steps, each is smaller than those after it, and the first is empty
pub record AreBySteps (labels : List Label) (steps : List (Option ApartStep)) (sequences : List (List Label))
    : Type 0 where
  pub counted : length sequences ≡ length steps
  pub starts : slice_get sequences 0 ≡ Some []
  pub each : (k : ℕ) (step : Option ApartStep) (w : List Label) → slice_get steps k ≡ Some step →
      slice_get sequences k ≡ Some w → IsByStep labels sequences k step w
  pub ascending : (j k : ℕ) (v w : List Label) → j < k → slice_get sequences j ≡ Some v →
      slice_get sequences k ≡ Some w → Before v w

-- ---- which states can do them

-- the flags of the states are whether they can do the sequence
pub record AreFlags (m : Machine) (w : List Label) (flags : List Bool) : Type 0 where
  pub counted : length flags ≡ m.states
  pub each : (j : ℕ) (flag : Bool) → slice_get flags j ≡ Some flag →
      MatchBool flag (CanDoFrom m j w) (CanDoFrom m j w → ⊥)

-- each list has the flags of the sequence with its number
pub record AreAllFlags (m : Machine) (sequences : List (List Label)) (lists : List (List Bool)) : Type 0 where
  pub counted : length lists ≡ length sequences
  pub each : (k : ℕ) (w : List Label) (flags : List Bool) → slice_get sequences k ≡ Some w →
      slice_get lists k ≡ Some flags → AreFlags m w flags

-- ---- classes

-- each state has a state of its class, the same for all states of the class
pub record AreClassed (states : ℕ) (classes : List ℕ) : Type 0 where
  pub counted : length classes ≡ states
  pub closed : (j c : ℕ) → slice_get classes j ≡ Some c → slice_get classes c ≡ Some c

-- both states are in one class
pub record AreTogether (classes : List ℕ) (j k : ℕ) : Type 0 where
  pub class : ℕ
  pub first : slice_get classes j ≡ Some class
  pub second : slice_get classes k ≡ Some class

-- the flags of both states are equal
pub record AreAlike (flags : List Bool) (j k : ℕ) : Type 0 where
  pub flag : Bool
  pub first : slice_get flags j ≡ Some flag
  pub second : slice_get flags k ≡ Some flag

-- states are in one class of the new ones exactly if they are in one of the old ones and their flags are equal
pub record AreSplit (flags : List Bool) (old new : List ℕ) : Type 0 where
  pub counted : length new ≡ length old
  pub closed : (j c : ℕ) → slice_get new j ≡ Some c → slice_get new c ≡ Some c
  pub within : (j c : ℕ) → slice_get new j ≡ Some c → AreTogether old j c × AreAlike flags j c
  pub all : (j k : ℕ) → AreTogether old j k → AreAlike flags j k → AreTogether new j k
  pub kept : (j : ℕ) → slice_get old j ≡ Some j → slice_get new j ≡ Some j

-- how many states, from this number on, are not those of their classes
abbrev pub strays : ℕ → List ℕ → ℕ
strays n [] = 0
strays n (c ∷ cs) = cond (nat_eq c n) 0 1 + strays (n + 1) cs

-- ---- the search

-- the label with the number `i`, and the sequence with the number `r`
pub record IsCandidate (labels : List Label) (sequences : List (List Label)) (i r : ℕ) (u : List Label) : Type 0 where
  pub label : Label
  pub rest : List Label
  pub label_is : slice_get labels i ≡ Some label
  pub rest_is : slice_get sequences r ≡ Some rest
  pub is : u ≡ label ∷ rest

-- a label of numbers below `i` with one of the sequences from `from` on and below `to`, or the label `i` with one below
-- `r`
pub record WasTried (labels : List Label) (sequences : List (List Label)) (from to i r : ℕ) (u : List Label)
    : Type 0 where
  pub label : ℕ
  pub rest : ℕ
  pub is : IsCandidate labels sequences label rest u
  pub above : from ≤ rest
  pub below : rest < to
  pub earlier : (label < i) ⊎ ((label ≡ i) × (rest < r))

-- where a sequence is: shorter than `d`, one of the sequences of that length, or one label longer
abbrev pub IsInLayer : List Label → List (List Label) → (d from to i r : ℕ) → ℕ → List Label → Type 0
IsInLayer labels sequences d from to i r n w =
    ((n < from) × (length w < d)) ⊎ (((from ≤ n) × (n < to) × (length w ≡ d)) ⊎
    ((to ≤ n) × (length w ≡ d + 1) × WasTried labels sequences from to i r w))

-- states in one class are told apart by no sequence of at most `d` labels, and by none that was tried; states of two
-- classes are told apart first by one of the sequences; and each sequence but the empty one is the first for some
-- states
pub record HasToldApart (s : Subject) (sequences : List (List Label)) (classes : List ℕ) (d from to i r : ℕ)
    : Type 0 where
  pub short : (j k : ℕ) (w : List Label) → AreTogether classes j k → length w ≤ d → TellsApart s.machine j k w → ⊥
  pub tried : (j k : ℕ) (w : List Label) → AreTogether classes j k →
      WasTried s.labels sequences from to i r w → TellsApart s.machine j k w → ⊥
  pub apart : (j k c e : ℕ) → slice_get classes j ≡ Some c → slice_get classes k ≡ Some e → c ≢ e →
      (n : ℕ) × (w : List Label) × (0 < n) × (slice_get sequences n ≡ Some w) × IsFirstApart s.machine j k w
  pub only : (n : ℕ) (w : List Label) → 0 < n → slice_get sequences n ≡ Some w →
      (j k : ℕ) × (j < s.machine.states) × (k < s.machine.states) × IsFirstApart s.machine j k w

-- the sequences from `from` on and below `to` are those of length `d`; of those with one label more the candidates
-- before the label `i` and the rest `r` were tried
pub record HasSearched (s : Subject) (steps : List (Option ApartStep)) (lists : List (List Bool)) (classes : List ℕ)
    (d from to i r : ℕ) : Type 0 where
  pub sequences : List (List Label)
  pub by_steps : AreBySteps s.labels steps sequences
  pub flags : AreAllFlags s.machine sequences lists
  pub classed : AreClassed s.machine.states classes
  pub ordered : from ≤ to
  pub within : to ≤ length sequences
  pub layer : (n : ℕ) (w : List Label) → slice_get sequences n ≡ Some w →
      IsInLayer s.labels sequences d from to i r n w
  pub told : HasToldApart s sequences classes d from to i r

-- the search that is so far
abbrev pub HasSearchedTo : Subject → ApartSequences → (d from to i r : ℕ) → Type 0
HasSearchedTo s a d from to i r = HasSearched s a.steps.items (plain_lists a.can.items) a.classes.items d from to i r

-- the sequences by steps are, with the empty one before them, the first that tell states apart
pub record AreAllApart (s : Subject) (steps : List (Option ApartStep)) : Type 0 where
  pub sequences : List (List Label)
  pub by_steps : AreBySteps s.labels steps sequences
  pub all : (j k : ℕ) → j < s.machine.states → k < s.machine.states → j ≢ k →
      (n : ℕ) × (w : List Label) × (0 < n) × (slice_get sequences n ≡ Some w) × IsFirstApart s.machine j k w
  pub only : (n : ℕ) (w : List Label) → 0 < n → slice_get sequences n ≡ Some w →
      (j k : ℕ) × (j < s.machine.states) × (k < s.machine.states) × IsFirstApart s.machine j k w
