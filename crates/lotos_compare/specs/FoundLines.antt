-- What a comparison returns: its first line, that there is none, or why it stopped.
use Rattle.std.specs.Prelude.{◌≡◌, ◌++◌, ◌∷◌, ℕ, [], Bool, false, List}
use Rattle.lotos_check.specs.NameLists.{Name}
use Rattle.lotos_terms.specs.TableView.{IsPrintedAs}
use Rattle.lotos_listing.specs.Order.{Before, Label}
use Rattle.lotos_listing.specs.Question.{ArePrinted}
use Rattle.lotos_compare.specs.BoundedPairs.{BoundedPair, IsOnePairTooMany, IsOversizedOf, IsPairCount, IsStop}
use Rattle.lotos_compare.specs.Comparisons.{AreAlike, IsFirstLineOf, IsLineOf}
use Rattle.lotos_compare.specs.Differences as d
use Rattle.lotos_compare.specs.Differences.{ComparisonKind, Line, Side, comes}
use Rattle.lotos_compare.specs.declared.compare_fault.CompareFault.{CompareFault}
use Rattle.lotos_compare.specs.declared.compare_fault.CompareFault.TheVariants.{Memory, OverPairs, OverTerms}
use Rattle.lotos_compare.specs.declared.line.Comparison.{Comparison}
use Rattle.lotos_compare.specs.declared.line.Comparison.TheVariants.{Alike, Differs}
use Rattle.lotos_compare.specs.declared.line.DifferenceLine.{DifferenceLine}
use Rattle.lotos_compare.specs.declared.line.Side as declared
use Rattle.lotos_compare.specs.declared.line.Side.TheVariants.{First, Second}

-- the side of a line that is returned
abbrev pub side_of : declared.Side → Side
side_of First = d.first
side_of Second = d.second

-- the kind of a comparison by labels alone
abbrev pub by_labels : (within : Bool) → ComparisonKind
by_labels within = record { within = within; refusals = false }

-- the names of the gates of the behaviour of this side
abbrev pub names_at : BoundedPair → Side → List Name
names_at q d.first = q.one.names
names_at q d.second = q.other.names

-- the line that is returned is this one: its sequence is printed by the gates of the first, and the label after it by
-- those of its side
pub record IsPrintedLine (q : BoundedPair) (found : DifferenceLine) (line : Line) : Type 0 where
  pub side : line.side ≡ side_of found.side
  pub sequence : ArePrinted q.one.names found.sequence.items line.sequence
  pub text : Label
  pub label : IsPrintedAs (names_at q line.side) found.label text
  pub difference : line.difference ≡ comes text

-- the search explores the sequence `s` before it looks for a line of the sequence `r`: `s` is empty, or one that comes
-- before `r`, with a label after it
pub data IsExploredBefore (s r : List Label) : Type 0 where
  empty : s ≡ [] → IsExploredBefore s r
  continued : (p : List Label) (x : Label) → s ≡ p ++ x ∷ [] → Before p r → IsExploredBefore s r

module _ (q : BoundedPair) where
  -- the labels are those of the sequence, at which the search stops for this cause
  abbrev pub IsFaultAt : List Label → CompareFault → Type 0
  IsFaultAt s (OverTerms side labels) =
      ArePrinted q.one.names labels.items s × IsOversizedOf q (side_of side) s
  IsFaultAt s (OverPairs labels) = ArePrinted q.one.names labels.items s × IsOnePairTooMany q s
  IsFaultAt s Memory = Unit {0}

  -- the search stops at the sequence for this cause, and at none before it
  pub record IsFirstStopAt (IsCause : List Label → Type 0) (s : List Label) : Type 0 where
    pub stops : IsCause s
    pub earliest : (w : List Label) → IsStop q w → Before w s → ⊥

  -- and it explores the sequence before it looks for any line
  pub record IsFirstFaultAt (kind : ComparisonKind) (IsCause : List Label → Type 0) (s : List Label) : Type 0 where
    pub stop : IsFirstStopAt IsCause s
    pub no_line : (line : Line) → IsLineOf q.one q.other kind line → IsExploredBefore s line.sequence

  -- the fault is that of the first sequence at which the search stops, if it is for that, and no line comes first
  abbrev pub IsFirstFault : ComparisonKind → CompareFault → Type 0
  IsFirstFault kind Memory = Unit {0}
  IsFirstFault kind fault = (s : List Label) × IsFirstFaultAt kind (λ r. IsFaultAt r fault) s

  -- the first line, and the search stops at no sequence that it explores before it looks for this line
  pub record IsFoundLine (kind : ComparisonKind) (line : Line) : Type 0 where
    pub first : IsFirstLineOf q.one q.other kind line
    pub clear : (s : List Label) → IsStop q s → IsExploredBefore s line.sequence → ⊥

  -- there is no line, the search stops nowhere, and this is the number of pairs of sets
  pub record AreFoundAlike (kind : ComparisonKind) (count : ℕ) : Type 0 where
    pub alike : AreAlike q.one q.other kind
    pub many : IsPairCount q count
    pub clear : (s : List Label) → IsStop q s → ⊥

  -- what is found: the first line, or that there is none
  abbrev pub IsFound : ComparisonKind → Comparison → Type 0
  IsFound kind (Differs found) = (line : Line) × IsPrintedLine q found line × IsFoundLine kind line
  IsFound kind (Alike count) = AreFoundAlike kind count
