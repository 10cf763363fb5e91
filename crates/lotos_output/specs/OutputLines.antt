-- The lines of a listing and of a match, and those of the processes of a system.
use Rattle.std.specs.Prelude.{◌≡◌, ℕ, ◌+◌, ◌<◌, Bool, true, false, List, [], ◌∷◌, ◌++◌, Option, None, Some, codes}
use Rattle.std.specs.Prelude.{decimal, drop, length, map}
use Rattle.std.specs.Prelude.{string_bytes}
use Rattle.std.specs.List.{flat_map}
use Rattle.std.specs.declared.string.String.{String}
use Rattle.std.specs.declared.alloc.Global.{Global}
use Rattle.lotos_text.specs.declared.ast.Functionality.{Functionality}
use Rattle.lotos_text.specs.declared.ast.Functionality.TheVariants.{Exit, NoExit}
use Rattle.lotos_check.specs.Flat.{FlatProcess, System}
use Rattle.lotos_check.specs.NameLists.{Name}
use Rattle.lotos_store.specs.declared.label.Label.{Label as TermLabel}
use Rattle.lotos_listing.specs.Order.{Label}
use Rattle.lotos_listing.specs.Question.{ArePrinted}

-- an item of a listing: a sequence, and what is written of its run; or what is observed of a match, and of its run
pub record Item : Type 0 where
  pub sequence : List Label
  pub run : List Label

-- the labels of a sequence and of its run have the printed texts that the item has
pub record IsItemOf (names : List Name) (labels run_labels : List TermLabel) (item : Item) : Type 0 where
  pub sequence : ArePrinted names labels item.sequence
  pub run : ArePrinted names run_labels item.run

-- the sequences of items
abbrev pub sequences : List Item → List (List Label)
sequences items = map (λ item. item.sequence) items

-- a sequence as text: its labels, separated by one blank each; the empty sequence as `<empty>`
abbrev pub sequence_text : List Label → List ℕ
sequence_text [] = codes "<empty>"
sequence_text (l ∷ rest) = l ++ flat_map (λ m. 32 ∷ m) rest

-- the text is that of the sequence of these labels, or any if there are none
pub record HasText (names : List Name) (labels : List TermLabel) (text : List ℕ) : Type 0 where
  pub sequence : List Label
  pub printed : ArePrinted names labels sequence
  pub spelled : 0 < length labels → text ≡ sequence_text sequence

-- both lists have the label at the index
pub record IsLabelOfBoth (known labels : List TermLabel) (index : ℕ) (label : TermLabel) : Type 0 where
  pub before : drop index known ≡ label ∷ drop (index + 1) known
  pub now : drop index labels ≡ label ∷ drop (index + 1) labels

-- the text so far, and a blank and the printed text of each label that is left, make up the whole
abbrev pub IsLeft : List Name → List TermLabel → (text whole : List ℕ) → Type 0
IsLeft names rest text whole =
    (left : List Label) × ArePrinted names rest left × (text ++ flat_map (λ m. 32 ∷ m) left ≡ whole)

-- the text of the labels as that of a sequence, and none if there are no labels
abbrev pub IsTextOf : List Label → Option (String Global) → Type 0
IsTextOf next None = length next ≡ 0
IsTextOf next (Some text) = (0 < length next) × (string_bytes text ≡ sequence_text next)

-- the line of a deadlock, if there can be one
abbrev pub deadlock_line : (dead : Bool) → List ℕ
deadlock_line false = []
deadlock_line true = codes "<deadlock>\n"

-- what follows the sequence in a line: nothing, or with `with_run` ` : ` and the run
abbrev pub run_text : (with_run : Bool) → List Label → List ℕ
run_text false run = []
run_text true run = codes " : " ++ sequence_text run

-- the labels of a row as text, with a blank after it, if there are any
abbrev pub row_text : List Label → List ℕ
row_text [] = []
row_text (l ∷ rest) = sequence_text (l ∷ rest) ++ codes " "

-- steps that go round, as text: ` <forever> `, the labels of a row, and in brackets those of a loop
abbrev pub round_text : (row loop : List Label) → List ℕ
round_text row loop = codes " <forever> " ++ row_text row ++ codes "[" ++ sequence_text loop ++ codes "]"

-- what follows the run in the line of a match: nothing, or with `with_run` steps that go round, if there are such
abbrev pub round_text_if : (with_run : Bool) → Option (List Label × List Label) → List ℕ
round_text_if false round = []
round_text_if true None = []
round_text_if true (Some (row, loop)) = round_text row loop

-- the line of a match, ended by a line feed
abbrev pub match_line : (with_run : Bool) → Item → Option (List Label × List Label) → List ℕ
match_line with_run item round =
    sequence_text item.sequence ++ run_text with_run item.run ++ round_text_if with_run round ++ 10 ∷ []

-- the line of an item, ended by a line feed: its sequence, and, if lines have runs, ` : ` and what is written of its
-- run
abbrev pub line_of : (with_run : Bool) → Item → List ℕ
line_of with_run item = sequence_text item.sequence ++ run_text with_run item.run ++ 10 ∷ []

-- the lines of a list of items
abbrev pub lines_of : (with_run : Bool) → List Item → List ℕ
lines_of with_run items = flat_map (λ item. line_of with_run item) items

-- the line of a sequence of which something is said by the mark before it, ended by a line feed
abbrev pub marked_line : (mark : List ℕ) → List Label → List ℕ
marked_line mark s = mark ++ sequence_text s ++ 10 ∷ []

-- the lines of what can come after a sequence: each label on one, and then `<deadlock>`, if it can end in one
abbrev pub next_lines : List Label → (dead : Bool) → List ℕ
next_lines next dead = flat_map (λ l. l ++ 10 ∷ []) next ++ deadlock_line dead

-- a functionality as text: `exit` or `noexit`
abbrev pub functionality_text : Functionality → List ℕ
functionality_text Exit = codes "exit"
functionality_text NoExit = codes "noexit"

-- the line of a process: its name, how many formal gates it has, and `exit` or `noexit`, separated by one blank each,
-- and a line feed
abbrev pub process_line : FlatProcess → List ℕ
process_line p = p.name ++ codes " " ++ decimal (length p.formals) ++ codes " " ++ functionality_text p.functionality
    ++ codes "\n"

-- the lines of all processes of a system
abbrev pub check_lines : System → List ℕ
check_lines system = flat_map process_line system.processes
