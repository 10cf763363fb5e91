-- The suite for an automaton, as the program returns it.
use Rattle.std.specs.Prelude.{◌≡◌, ℕ, MatchBool, List, [], ◌∷◌, ◌++◌, Option, None, Some, length, map, slice_get}
use Rattle.lotos_check.specs.NameLists.{In, Name}
use Rattle.lotos_store.specs.declared.label.Label.{Label as TermLabel}
use Rattle.lotos_listing.specs.Lookups.{text_of}
use Rattle.lotos_listing.specs.Order.{Label}
use Rattle.lotos_automaton.specs.AccessSequences.{sequence_at}
use Rattle.lotos_automaton.specs.Graphs.{Graph}
use Rattle.lotos_suite.specs.GraphMachines.{label_texts, machine_of}
use Rattle.lotos_suite.specs.SuitePrefixes.{line_of}
use Rattle.lotos_suite.specs.Suites.{Line}
use Rattle.lotos_suite.specs.SuiteTables.{Subject}
use Rattle.lotos_suite.specs.declared.moves.Move.{Move}
use Rattle.lotos_suite.specs.declared.suite.SuiteLine.{SuiteLine}
use Rattle.lotos_suite.specs.declared.suite_lines.CutLine.{CutLine}

-- the line that the program returns
abbrev pub returned_line : List Name → SuiteLine → Line
returned_line names l = line_of (map (text_of names) l.labels.items) l.is_refused

-- the lines that the program returns
abbrev pub returned_lines : List Name → List SuiteLine → List Line
returned_lines names = map (returned_line names)

-- the machine of the graph, the labels of the suite, and the access sequences
abbrev pub subject_of : List Name → Graph TermLabel → List TermLabel → List (List Label) → Subject
subject_of names graph labels access =
    record { machine = machine_of names graph; labels = label_texts names labels; access = access }

-- ---- the table of the graph

-- the sequence with the one number is that with the other and the label after it
abbrev pub IsStepBetween : List (List TermLabel) → ℕ → TermLabel → ℕ → Type 0
IsStepBetween sequences j l k = slice_get sequences k ≡ Some (sequence_at sequences j ++ l ∷ [])

-- where the label leads by the transitions of the state
abbrev pub IsMoveBy : List (List TermLabel) → ℕ → List (TermLabel × ℕ) → TermLabel → Option Move → Type 0
IsMoveBy sequences j list l None = (m : ℕ) → In (l, m) list → ⊥
IsMoveBy sequences j list l (Some move) = In (l, move.state) list ×
    MatchBool move.is_first (IsStepBetween sequences j l move.state) (IsStepBetween sequences j l move.state → ⊥)

-- the row has for each label where it leads by the transitions of the state
pub record IsRowBy (sequences : List (List TermLabel)) (j : ℕ) (list : List (TermLabel × ℕ)) (labels : List TermLabel)
    (row : List (Option Move)) : Type 0 where
  pub wide : length row ≡ length labels
  pub moves : (i : ℕ) (l : TermLabel) (entry : Option Move) → slice_get labels i ≡ Some l →
      slice_get row i ≡ Some entry → IsMoveBy sequences j list l entry

-- ---- lines by the numbers of labels

-- the line has the labels that the other has by their numbers
pub record HasLabels (labels : List TermLabel) (line : CutLine) (result : SuiteLine) : Type 0 where
  pub counted : length result.labels.items ≡ length line.labels.items
  pub each : (k n : ℕ) (l : TermLabel) → slice_get line.labels.items k ≡ Some n →
      slice_get result.labels.items k ≡ Some l → slice_get labels n ≡ Some l
  pub refused : result.is_refused ≡ line.is_refused
