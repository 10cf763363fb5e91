-- What the parts of the command `compare` return.
use Rattle.std.specs.Prelude.{ℕ, Bool}
use Rattle.lotos_check.specs.Flat.{System}
use Rattle.lotos_sets.specs.FormSets.{FormSetsView}
use Rattle.lotos_compare.specs.BoundedPairs.{bounded_pair_of}
use Rattle.lotos_compare.specs.FoundLines.{by_labels}
use Rattle.lotos_tool.specs.CompareOutcome.{CompareQuestion, IsComparedText, IsCompareQuestionOf}
use Rattle.lotos_tool.specs.declared.compare_command.ComparedText.{ComparedText}
use Rattle.lotos_command.specs.declared.command.CompareRequest.{CompareRequest}

-- the question about the behaviours of which the sets are
abbrev pub question_of : FormSetsView → FormSetsView → (within : Bool) → (pairs : ℕ) → CompareQuestion
question_of v w within pairs = record { pair = bounded_pair_of v w pairs; kind = by_labels within }

-- what is written for the question
abbrev pub IsCompared : CompareQuestion → ComparedText → Type 0
IsCompared q made = IsComparedText q made.found made.line.items

-- what is written of the two systems
abbrev pub HasCompared : CompareRequest → System × System → ComparedText → Type 0
HasCompared request systems made = (q : CompareQuestion) × IsCompareQuestionOf request systems q × IsCompared q made
