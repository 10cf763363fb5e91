-- Single items of a listing: the first after a line, and the second of all.
use Rattle.std.specs.Prelude.{◌≡◌, ◌⊎◌, ℕ, List, Option, Some, None, Ok, slice_get}
use Rattle.lotos_store.specs.declared.label.Label.{Label as TermLabel}
use Rattle.lotos_terms.specs.TableView.{TableView}
use Rattle.lotos_pattern.specs.Patterns.{Pattern}
use Rattle.lotos_pattern.specs.Spelling.{Text}
use Rattle.lotos_listing.specs.Order.{Label}
use Rattle.lotos_listing.specs.Marks.{MarkOf}
use Rattle.lotos_search.specs.SearchSteps.{RunningReturns, IsEndOfListing, IsFirstOversized, IsNextItem, SearchState, Stage}
use Rattle.lotos_listing.specs.Question.{ArePrinted, Question}
use Rattle.lotos_listing.specs.declared.found.Found.{Found}
use Rattle.lotos_listing.specs.declared.found.Halt.{Halt}
use Rattle.lotos_listing.specs.declared.found.Halt.TheVariants.{OverTerms, Memory, Failed}
use Rattle.uses.specs.declared.resumed_listing.ItemFault.{ItemFault}
use Rattle.uses.specs.declared.resumed_listing.ItemFault.TheVariants as fault

-- no item at all; or a first one, and what the search returns after it
abbrev pub IsSecond : Question → Option Found → Option (List Label) → Stage → Type 0
IsSecond q found cursor stage =
    (IsEndOfListing q None × (found ≡ None)) ⊎ ((s run : List Label) × IsNextItem q None s run
    × RunningReturns q (Some s) (Ok found) cursor stage)

-- the cursor of a search that has returned at most one item: before the listing, or after its first item
pub data IsAtStart (q : Question) : Option (List Label) → Type 0 where
  before : IsAtStart q None
  after_item : {s : List Label} (run : List Label) → IsNextItem q None s run → IsAtStart q (Some s)

module _ (table : TableView) (pattern : Pattern) (depth terms : ℕ) where
  -- the question is about the table from its start, with this pattern, depth and bound
  pub record IsSearchIn (q : Question) : Type 0 where
    pub names : q.names ≡ table.names
    pub processes : q.processes ≡ table.processes
    pub start : slice_get table.terms table.start ≡ Some q.start
    pub pattern_is : q.pattern ≡ pattern
    pub depth_is : q.depth ≡ depth
    pub terms_is : q.terms ≡ terms

  -- the first item after the mark, with its least run, and the search after it; or that there is none
  pub record IsFirstItem (mark : Option (List Label)) (answer : SearchState × Option Found) : Type 0 where
    pub question : IsSearchIn answer.0.question
    pub answers : RunningReturns answer.0.question mark (Ok answer.1) answer.0.cursor answer.0.stage

  -- the first item after the sequence of the line, with its least run, and the search after it; or that there is none
  pub record IsItemAfter (line : Text) (answer : SearchState × Option Found) : Type 0 where
    pub mark : List Label
    pub read : MarkOf pattern.strong line mark
    pub found : IsFirstItem (Some mark) answer

  -- the second item of the whole listing, with its least run, and the search after it; or that there is none
  pub record IsSecondItem (answer : SearchState × Option Found) : Type 0 where
    pub question : IsSearchIn answer.0.question
    pub answers : IsSecond answer.0.question answer.1 answer.0.cursor answer.0.stage

  -- the labels are those of the first oversized prefix, and no item lies between the cursor and it
  pub record IsOversizedAfter (cursor : Option (List Label)) (labels : List TermLabel) : Type 0 where
    pub question : Question
    pub search : IsSearchIn question
    pub prefix : List Label
    pub printed : ArePrinted question.names labels prefix
    pub oversized : IsFirstOversized question cursor prefix

  -- why no item after the mark was returned; running out of memory needs no reason
  abbrev pub IsHaltOf : Option (List Label) → Halt → Type 0
  IsHaltOf mark (OverTerms labels) = IsOversizedAfter mark labels.items
  IsHaltOf mark Memory = Unit {0}
  IsHaltOf mark Failed = ⊥

  -- why a search that begins after the sequence of the line was halted: at the first oversized prefix, with no item
  -- between that sequence and it; running out of memory needs no reason
  abbrev pub IsHaltAfter : Text → Halt → Type 0
  IsHaltAfter line (OverTerms labels) = (mark : List Label) × MarkOf pattern.strong line mark
      × IsOversizedAfter (Some mark) labels.items
  IsHaltAfter line Memory = Unit {0}
  IsHaltAfter line Failed = ⊥

  -- why no item after a line was returned: the line is not one of a listing; or the search halted
  abbrev pub IsItemFault : Text → ItemFault → Type 0
  IsItemFault line fault.Line = (mark : List Label) → MarkOf pattern.strong line mark → ⊥
  IsItemFault line (fault.Halt halt) = IsHaltAfter line halt

  -- why no second item was returned: an oversized prefix, which comes before any second item
  abbrev pub IsSecondHalt : Halt → Type 0
  IsSecondHalt (OverTerms labels) = (q : Question) × IsSearchIn q × (cursor : Option (List Label)) × IsAtStart q cursor
      × (prefix : List Label) ×
      ArePrinted q.names labels.items prefix × IsFirstOversized q cursor prefix
  IsSecondHalt Memory = Unit {0}
  IsSecondHalt Failed = ⊥
