-- How far the search for the lines of a suite has gone, length by length.
use Rattle.std.specs.Prelude.{◌≡◌, ◌⊎◌, ◌<◌, ℕ, List, [], ◌∷◌, ◌++◌, Option, Some, length, slice_get}
use Rattle.lotos_check.specs.NameLists.{In}
use Rattle.lotos_listing.specs.Order.{Before, Label}
use Rattle.lotos_suite.specs.Suites.{IsSuiteLine, Line, SuiteParts, labels_of}
use Rattle.lotos_suite.specs.SuitePrefixes.{AreAscending, IsOpen, IsPrefix, labels_at, line_of}
use Rattle.lotos_suite.specs.SuiteTables.{IsMove, Subject}
use Rattle.lotos_suite.specs.declared.moves.Move.{Move}
use Rattle.lotos_suite.specs.declared.prefixes.Prefix.{Prefix}
use Rattle.lotos_suite.specs.declared.suite_lines.CutLine.{CutLine}

-- the line that the program keeps by the numbers of its labels
abbrev pub kept_line : List Label → CutLine → Line
kept_line labels l = line_of (labels_at labels l.labels.items) l.is_refused

-- the prefixes are those with `d` labels, in order
pub record AreLevel (s : Subject) (parts : SuiteParts) (sequences : List (List Label)) (d : ℕ) (nodes : List Prefix)
    : Type 0 where
  pub each : (k : ℕ) (p : Prefix) → slice_get nodes k ≡ Some p →
      (u : List Label) × IsPrefix s parts sequences p u × (length u ≡ d)
  pub all : (u : List Label) → IsOpen s.machine parts u → length u ≡ d →
      (k : ℕ) × (p : Prefix) × (slice_get nodes k ≡ Some p) × IsPrefix s parts sequences p u
  pub ascending : AreAscending s parts sequences nodes

-- the sequence is that of one of the first `i` prefixes
pub record IsEarlyNode (s : Subject) (parts : SuiteParts) (sequences : List (List Label)) (nodes : List Prefix) (i : ℕ)
    (u : List Label) : Type 0 where
  pub index : ℕ
  pub prefix : Prefix
  pub below : index < i
  pub at : slice_get nodes index ≡ Some prefix
  pub is : IsPrefix s parts sequences prefix u

-- the prefixes are those of the first `i` with one more label, in order
pub record AreNext (s : Subject) (parts : SuiteParts) (sequences : List (List Label)) (nodes : List Prefix) (i : ℕ)
    (next : List Prefix) : Type 0 where
  pub each : (k : ℕ) (p : Prefix) → slice_get next k ≡ Some p → (u : List Label) × (x : Label) ×
      IsEarlyNode s parts sequences nodes i u × IsPrefix s parts sequences p (u ++ x ∷ [])
  pub all : (u : List Label) (x : Label) → IsEarlyNode s parts sequences nodes i u → IsOpen s.machine parts
      (u ++ x ∷ []) →
      (k : ℕ) × (p : Prefix) × (slice_get next k ≡ Some p) × IsPrefix s parts sequences p (u ++ x ∷ [])
  pub ascending : AreAscending s parts sequences next

-- the lines are those with fewer than `d` labels, and those of the first `i` prefixes, in order
pub record AreLinesTo (s : Subject) (parts : SuiteParts) (sequences : List (List Label)) (d : ℕ) (nodes : List Prefix)
    (i : ℕ) (lines : List CutLine) : Type 0 where
  pub each : (k : ℕ) (l : CutLine) → slice_get lines k ≡ Some l → IsSuiteLine s.machine parts (kept_line s.labels l) ×
      ((length (labels_at s.labels l.labels.items) < d) ⊎
      IsEarlyNode s parts sequences nodes i (labels_at s.labels l.labels.items))
  pub all : (line : Line) → IsSuiteLine s.machine parts line →
      (length (labels_of line) < d) ⊎ IsEarlyNode s parts sequences nodes i (labels_of line) →
      (k : ℕ) × (l : CutLine) × (slice_get lines k ≡ Some l) × (line ≡ kept_line s.labels l)
  pub known : (k : ℕ) (l : CutLine) → slice_get lines k ≡ Some l → (n : ℕ) → In n l.labels.items → n < length s.labels
  pub ascending : (j k : ℕ) (l m : CutLine) → j < k → slice_get lines j ≡ Some l → slice_get lines k ≡ Some m →
      Before (labels_at s.labels l.labels.items) (labels_at s.labels m.labels.items)

-- the row has where the labels lead from the state
pub record IsRowOf (s : Subject) (j : ℕ) (row : List (Option Move)) : Type 0 where
  pub wide : length row ≡ length s.labels
  pub moves : (i : ℕ) (x : Label) (entry : Option Move) → slice_get row i ≡ Some entry →
      slice_get s.labels i ≡ Some x → IsMove s j x entry
