-- What the command `compare` finds, and where it may stop.
use Rattle.std.specs.Prelude.{◌≡◌, ℕ, List, [], ◌∷◌, ◌++◌, codes, None, Option, Some, string_bytes}
use Rattle.lotos_check.specs.Flat.{System}
use Rattle.lotos_listing.specs.Order.{Label}
use Rattle.lotos_sets.specs.Behaviours.{IsBehaviourOf}
use Rattle.lotos_compare.specs.BoundedPairs.{BoundedPair, IsOnePairTooMany, IsOversizedOf}
use Rattle.lotos_compare.specs.Differences.{ComparisonKind, Line, Side, comes, first, second}
use Rattle.lotos_compare.specs.FoundLines.{AreFoundAlike, IsFirstFaultAt, IsFoundLine, by_labels, side_of}
use Rattle.lotos_compare.specs.declared.line.Side as declared
use Rattle.lotos_device.specs.ByteOutput.{IsBeginningOf}
use Rattle.lotos_outcome.specs.Calls.{Answering, Meaning}
use Rattle.lotos_outcome.specs.QuestionParts.{ReadsAskedPair}
use Rattle.lotos_outcome.specs.RefusalCauses.{IsPairInterfaceRefusal}
use Rattle.lotos_outcome.specs.declared.outcome.Stop.{Stop}
use Rattle.lotos_outcome.specs.declared.outcome.Stop.TheVariants.{States, Terms, Write}
use Rattle.lotos_output.specs.OutputLines.{marked_line, sequence_text}
use Rattle.lotos_tool.specs.declared.findings.Compared.{Compared}
use Rattle.lotos_tool.specs.declared.findings.Compared.TheVariants.{Alike, Differ}
use Rattle.lotos_tool.specs.declared.findings.ComparedPlace.{ComparedPlace}
use Rattle.lotos_command.specs.declared.command.CompareRequest.{CompareRequest}

-- the question of a comparison: the two behaviours with the bounds, and which lines are asked for
pub record CompareQuestion : Type 0 where
  pub pair : BoundedPair
  pub kind : ComparisonKind

-- the question is about the behaviours of these two systems, with internal steps observed if the request says so, and
-- has the request's bounds; with `--within` it asks for lines of the first alone
pub record IsCompareQuestionOf (request : CompareRequest) (systems : System × System) (q : CompareQuestion) : Type 0
  where
    pub one : IsBehaviourOf systems.0 q.pair.one
    pub other : IsBehaviourOf systems.1 q.pair.other
    pub one_strong : q.pair.one.strong ≡ request.strong
    pub other_strong : q.pair.other.strong ≡ request.strong
    pub one_terms : q.pair.one_terms ≡ request.terms
    pub other_terms : q.pair.other_terms ≡ request.terms
    pub pairs : q.pair.pairs ≡ request.states
    pub kind : q.kind ≡ by_labels request.within

-- the question is about the systems that are asked of the text that was read
pub record ReadsCompare (request : CompareRequest) (left left' : Option (List ℕ)) (q : CompareQuestion) : Type 0 where
  pub systems : System × System
  pub read : ReadsAskedPair request.interface left left' systems
  pub asks : IsCompareQuestionOf request systems q

-- what a line has before its sequence
abbrev pub side_mark : Side → List ℕ
side_mark first = codes "< "
side_mark second = codes "> "

-- the bytes are the text of the line: the mark of its side, its sequence, and the label after it
pub record IsLineText (line : Line) (bytes : List ℕ) : Type 0 where
  pub last : Label
  pub difference : line.difference ≡ comes last
  pub text : bytes ≡ marked_line (side_mark line.side) (line.sequence ++ last ∷ [])

-- the place has the text of the sequence, and this side, if any
abbrev pub IsPlaceOf : Option declared.Side → List Label → Option ComparedPlace → Type 0
IsPlaceOf side s None = ⊥
IsPlaceOf side s (Some place) = (place.side ≡ side) × (string_bytes place.sequence ≡ sequence_text s)

module _ (q : CompareQuestion) where
  -- the text of the first line, for which the search looks before it explores a sequence at which it stops; or nothing:
  -- there is no line, the search stops nowhere, and it looked at so many pairs of sets of normal forms
  abbrev pub IsComparedText : Compared → List ℕ → Type 0
  IsComparedText Differ bytes = (line : Line) × IsFoundLine q.pair q.kind line × IsLineText line bytes
  IsComparedText (Alike pairs) bytes = AreFoundAlike q.pair q.kind pairs × (bytes ≡ [])

  -- nothing was written: the search stops at this sequence, whose text is that of the place, at none before it, and
  -- before it looks for any line
  pub record IsCompareStopAt (IsCause : List Label → Type 0) (side : Option declared.Side)
      (place : Option ComparedPlace) (bytes : List ℕ) : Type 0 where
    pub s : List Label
    pub text : IsPlaceOf side s place
    pub first : IsFirstFaultAt q.pair q.kind IsCause s
    pub nothing : bytes ≡ []

  -- a sequence reaches too many normal forms of one side, or leads to one pair of sets too many; or the output failed
  -- after a beginning of the text, perhaps all of it
  abbrev pub IsCompareStop : Stop → Option ComparedPlace → List ℕ → Type 0
  IsCompareStop Terms place bytes =
      (side : declared.Side) × IsCompareStopAt (IsOversizedOf q.pair (side_of side)) (Some side) place bytes
  IsCompareStop States place bytes = IsCompareStopAt (IsOnePairTooMany q.pair) None place bytes
  IsCompareStop Write None bytes =
      (found : Compared) × (whole : List ℕ) × IsComparedText found whole × IsBeginningOf whole bytes
  IsCompareStop _ _ bytes = ⊥

-- what `compare` may find, and where it may stop
abbrev pub compare_answering : Answering Compared (Option ComparedPlace)
compare_answering = record {
  Question = CompareQuestion;
  Answers = IsComparedText;
  Stops = IsCompareStop;
  nowhere = None;
}

-- what `compare` does for the request
abbrev pub compare_meaning : CompareRequest → Meaning Compared (Option ComparedPlace)
compare_meaning request = record {
  answering = compare_answering;
  Refuses = IsPairInterfaceRefusal request.interface;
  Reads = ReadsCompare request;
}
