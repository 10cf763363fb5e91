-- Where two systems differ: what an observer can find out about one of them and not about the other.
use Rattle.std.specs.Prelude.{◌≡◌, ◌≤◌, ◌+◌, ℕ, Bool, true, false, List, [], ◌∷◌, ◌++◌, length}
use Rattle.lotos_check.specs.NameLists.{In}
use Rattle.lotos_listing.specs.Order.{Before, Below, Label}

-- what an observer can find out about a system
pub record Observations : Type 1 where
  -- the sequence of labels can be observed
  pub Observed : List Label → Type 0
  -- after the sequence, the system may be in a state without internal steps that has steps with exactly these labels
  pub MayOffer : List Label → List Label → Type 0
  -- after the sequence, the system may do internal steps for ever
  pub MayLivelock : List Label → Type 0

-- each label of the first list is in the second
abbrev pub AreAmong : List Label → List Label → Type 0
AreAmong some all = (l : Label) → In l some → In l all

-- the set has the label
abbrev pub HasLabel : (Label → Bool) → Label → Type 0
HasLabel set l = set l ≡ true

-- after the sequence, the system may refuse the set: it may be in a state without internal steps that has no step with
-- a label of the set
pub record MayRefuse (o : Observations) (s : List Label) (set : Label → Bool) : Type 0 where
  pub labels : List Label
  pub offers : o.MayOffer s labels
  pub none : (l : Label) → In l labels → HasLabel set l → ⊥

-- in what two systems may differ after a sequence
pub data Difference : Type 0 where
  -- this label can come next
  comes : (label : Label) → Difference
  -- all labels but these may be refused, in a state without internal steps that has exactly these
  refuses_all_but : (labels : List Label) → Difference
  -- internal steps may go on for ever
  livelocks : Difference

-- what one of two systems can do and the other cannot
module _ (one other : Observations) where
  -- the sequence can be observed of both
  abbrev pub IsShared : List Label → Type 0
  IsShared s = one.Observed s × other.Observed s

  -- the sequence can be observed of the one alone
  abbrev pub IsObservedAlone : List Label → Type 0
  IsObservedAlone s = one.Observed s × (other.Observed s → ⊥)

  -- after the sequence, the one alone may refuse the set
  abbrev pub IsRefusedAlone : List Label → (Label → Bool) → Type 0
  IsRefusedAlone s set = MayRefuse one s set × (MayRefuse other s set → ⊥)

  -- after the sequence, the one alone may do internal steps for ever
  abbrev pub LivelocksAlone : List Label → Type 0
  LivelocksAlone s = one.MayLivelock s × (other.MayLivelock s → ⊥)

  -- after the sequence, the one may be in a state without internal steps whose labels are these, and the other in none
  -- whose labels are all among these
  pub record OffersSoFew (s labels : List Label) : Type 0 where
    pub offers : one.MayOffer s labels
    pub none : (fewer : List Label) → other.MayOffer s fewer → AreAmong fewer labels → ⊥

  -- the labels are a least such set
  pub record OffersFewest (s labels : List Label) : Type 0 where
    pub so_few : OffersSoFew s labels
    pub least : (fewer : List Label) → OffersSoFew s fewer → AreAmong fewer labels → AreAmong labels fewer

  -- after the sequence, which both can do, the one differs in this from the other
  abbrev pub Differs : List Label → Difference → Type 0
  Differs s (comes label) = IsShared s × IsObservedAlone (s ++ label ∷ [])
  Differs s (refuses_all_but labels) = IsShared s × OffersFewest s labels
  Differs s livelocks = IsShared s × LivelocksAlone s

-- which of two systems
pub data Side : Type 0 where
  first : Side
  second : Side

-- what a comparison is asked for: whether the first system alone is to be within the second, and whether it is about
-- refusals and livelocks too
pub record ComparisonKind : Type 0 where
  pub within : Bool
  pub refusals : Bool

-- a line of a comparison: which system can do what the other cannot, after which sequence, and what
pub record Line : Type 0 where
  pub side : Side
  pub sequence : List Label
  pub difference : Difference

-- lines of the second system are wanted unless the first is to be within it
abbrev pub IsSideAsked : ComparisonKind → Side → Type 0
IsSideAsked kind first = Unit {0}
IsSideAsked kind second = kind.within ≡ false

-- lines about refusals and livelocks are wanted if the comparison is about these
abbrev pub IsDifferenceAsked : ComparisonKind → Difference → Type 0
IsDifferenceAsked kind (comes label) = Unit {0}
IsDifferenceAsked kind (refuses_all_but labels) = kind.refusals ≡ true
IsDifferenceAsked kind livelocks = kind.refusals ≡ true

-- the system of this side differs from the other in this
abbrev pub DiffersAt : Observations → Observations → Side → List Label → Difference → Type 0
DiffersAt one other first = Differs one other
DiffersAt one other second = Differs other one

-- a line of the comparison of the first system with the second
pub record IsLine (one other : Observations) (kind : ComparisonKind) (line : Line) : Type 0 where
  pub side_asked : IsSideAsked kind line.side
  pub difference_asked : IsDifferenceAsked kind line.difference
  pub differs : DiffersAt one other line.side line.sequence line.difference

-- the number of labels of a line's sequence, with the label in which the systems differ
abbrev pub label_count : List Label → Difference → ℕ
label_count s (comes label) = length s + 1
label_count s (refuses_all_but labels) = length s
label_count s livelocks = length s

-- the line has at most so many labels
abbrev pub IsWithinLength : ℕ → Line → Type 0
IsWithinLength n line = label_count line.sequence line.difference ≤ n

-- the difference of the one side comes before that of the other, after the same sequence: labels, by their texts; then
-- sets of labels, those of the first side first, fewer labels first, then by their texts; then livelocks
pub data IsEarlier : Side → Difference → Side → Difference → Type 0 where
  label_by_text : {a b : Side} {l m : Label} → Below l m → IsEarlier a (comes l) b (comes m)
  label_before_set : {a b : Side} {l : Label} {set : List Label} → IsEarlier a (comes l) b (refuses_all_but set)
  label_before_livelock : {a b : Side} {l : Label} → IsEarlier a (comes l) b livelocks
  set_by_side : {x y : List Label} → IsEarlier first (refuses_all_but x) second (refuses_all_but y)
  set_by_labels : {a b : Side} {x y : List Label} → a ≡ b → Before x y →
      IsEarlier a (refuses_all_but x) b (refuses_all_but y)
  set_before_livelock : {a b : Side} {set : List Label} → IsEarlier a (refuses_all_but set) b livelocks

-- the line comes before the other: its sequence does, shorter ones first and then by labels; or both have the same, and
-- its difference comes first
pub data ComesBefore (l m : Line) : Type 0 where
  by_sequence : Before l.sequence m.sequence → ComesBefore l m
  by_difference : l.sequence ≡ m.sequence → IsEarlier l.side l.difference m.side m.difference → ComesBefore l m

-- the first line of the comparison
pub record IsFirstLine (one other : Observations) (kind : ComparisonKind) (line : Line) : Type 0 where
  pub is_line : IsLine one other kind line
  pub first : (earlier : Line) → IsLine one other kind earlier → ComesBefore earlier line → ⊥

-- the comparison has no line
abbrev pub HasNoLine : Observations → Observations → ComparisonKind → Type 0
HasNoLine one other kind = (line : Line) → IsLine one other kind line → ⊥
