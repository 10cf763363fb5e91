-- The line of the first difference of two systems, that there is none, or why there is no answer.
use Rattle.std.proofs.Common.{◌≡◌, ℕ, List, None, Option, Some, refl, subst}
use Rattle.lotos_check.specs.Flat.{System}
use Rattle.lotos_listing.specs.Order.{Label}
use Rattle.lotos_sets.specs.FormSets.{FormSetsView}
use Rattle.lotos_compare.specs.BoundedPairs.{IsOnePairTooMany, IsOversizedOf}
use Rattle.lotos_compare.specs.FoundLines.{IsFirstFaultAt, side_of}
use Rattle.lotos_compare.specs.declared.line.Side as declared
use Rattle.lotos_outcome.specs.Calls.{Answered}
use Rattle.lotos_outcome.specs.QuestionParts.{ReadsAskedPair}
use Rattle.lotos_outcome.specs.declared.outcome.Ended.{Ended}
use Rattle.lotos_outcome.specs.declared.outcome.Stop.TheVariants.{States, Terms}
use Rattle.lotos_output.specs.WholeOutput.{EndsWhole}
use Rattle.lotos_tool.specs.CompareOutcome.{CompareQuestion, IsCompareQuestionOf, IsPlaceOf, ReadsCompare, compare_answering}
use Rattle.lotos_tool.specs.CompareParts.{HasCompared, question_of}
use Rattle.lotos_tool.specs.ExplorationParts.{AreSetsOf}
use Rattle.lotos_tool.specs.Halts.{IsHalt, IsHaltAt}
use Rattle.lotos_tool.specs.declared.compare_command.ComparedText.{ComparedText}
use Rattle.lotos_tool.specs.declared.findings.Compared.{Compared}
use Rattle.lotos_tool.specs.declared.findings.ComparedPlace.{ComparedPlace}
use Rattle.lotos_tool.specs.declared.halt.Halt.{Halt}
use Rattle.lotos_command.specs.declared.command.CompareRequest.{CompareRequest}
use Rattle.lotos_tool.proofs.CallEnds.{whole_ends}
use Rattle.lotos_tool.proofs.Halts.{halt_is}

-- the sets of the two systems have the question that the request asks
pub question_is : (request : CompareRequest) (systems : System × System) (v w : FormSetsView) → AreSetsOf systems.0 request.strong request.terms v →
    AreSetsOf systems.1 request.strong request.terms w → IsCompareQuestionOf request systems (question_of v w request.within request.states)
question_is request systems v w firsts seconds = record {
  one = firsts.behaviour;
  other = seconds.behaviour;
  one_strong = firsts.observed;
  other_strong = seconds.observed;
  one_terms = firsts.bound;
  other_terms = seconds.bound;
  pairs = refl;
  kind = refl;
}

-- the first stop for a cause is the first for another one for which the search stops there too
other_cause : (q : CompareQuestion) (IsCause IsOther : List Label → Type 0) (s : List Label) → IsFirstFaultAt q.pair q.kind IsCause s → IsOther s →
    IsFirstFaultAt q.pair q.kind IsOther s
other_cause q IsCause IsOther s at other = record { stop = record { stops = other; earliest = at.stop.earliest }; no_line = at.no_line }

-- the halt at a sequence that reaches too many normal forms of one side
pub oversized_halt : (q : CompareQuestion) (IsCause : List Label → Type 0) (s : List Label) (side : declared.Side) (h : Halt ComparedPlace) →
    IsFirstFaultAt q.pair q.kind IsCause s → IsOversizedOf q.pair (side_of side) s → IsHaltAt Terms (IsPlaceOf (Some side) s) h →
    IsHalt compare_answering q h
oversized_halt q IsCause s side h at over = halt_is compare_answering q Terms (IsPlaceOf (Some side) s) h refl
    (λ place text. (side, record { s = s; text = text; first = other_cause q IsCause (IsOversizedOf q.pair (side_of side)) s at over; nothing = refl }))

-- the halt at a sequence that leads to one pair too many
pub pairs_halt : (q : CompareQuestion) (IsCause : List Label → Type 0) (s : List Label) (h : Halt ComparedPlace) →
    IsFirstFaultAt q.pair q.kind IsCause s → IsOnePairTooMany q.pair s → IsHaltAt States (IsPlaceOf None s) h → IsHalt compare_answering q h
pairs_halt q IsCause s h at over = halt_is compare_answering q States (IsPlaceOf None s) h refl
    (λ place text. record { s = s; text = text; first = other_cause q IsCause (IsOnePairTooMany q.pair) s at over; nothing = refl })

-- a question about the systems that were read is one that the request asks of the text
pub asks_compare : (request : CompareRequest) (left left' : Option (List ℕ)) (systems : System × System) →
    ReadsAskedPair request.interface left left' systems → (q : CompareQuestion) → IsCompareQuestionOf request systems q →
    ReadsCompare request left left' q
asks_compare request left left' systems read q is = record { systems = systems; read = read; asks = is }

module _ (request : CompareRequest) (systems : System × System) (got : Option (List ℕ)) where
  -- the line, if there is one, or a beginning of it, was written
  pub text_written : (made : ComparedText) (bytes : List ℕ) (got' : Option (List ℕ)) (ended : Ended Compared (Option ComparedPlace)) →
      bytes ≡ made.line.items → HasCompared request systems made → EndsWhole bytes made.found None got got' ended →
      Answered compare_answering (IsCompareQuestionOf request systems) got got' ended
  text_written made bytes got' ended same (q, asked, is) h =
      whole_ends compare_answering (IsCompareQuestionOf request systems) q made.line.items made.found None got got' ended asked is
      (λ part begun. (made.found, made.line.items, is, begun)) (subst (λ bs. EndsWhole bs made.found None got got' ended) same h)
