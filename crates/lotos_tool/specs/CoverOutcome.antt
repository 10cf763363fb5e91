-- What a cover is asked.
use Rattle.std.specs.Prelude.{◌≡◌, ℕ, List, Option}
use Rattle.lotos_check.specs.Flat.{System}
use Rattle.lotos_listing.specs.ListingSteps.{running}
use Rattle.lotos_listing.specs.Order.{Label}
use Rattle.lotos_automaton.specs.BoundedBehaviours.{BoundedBehaviour}
use Rattle.lotos_suite.specs.CoverListings.{IsCoverQuestionOf}
use Rattle.lotos_suite.specs.CoverSteps.{CoverState}
use Rattle.lotos_outcome.specs.Calls.{Answering, Meaning}
use Rattle.lotos_tool.specs.ListingOutcome.{listing_answering}
use Rattle.lotos_tool.specs.ListingQuestions.{ListingAsked, asked_by, by_cover, cover_state}
use Rattle.lotos_outcome.specs.QuestionParts.{IsMarkOf, ReadsAsked}
use Rattle.lotos_outcome.specs.RefusalCauses.{IsCoverRefusal}
use Rattle.lotos_tool.specs.declared.findings.Listed.{Listed}
use Rattle.lotos_tool.specs.declared.findings.ListingPlace.{ListingPlace}
use Rattle.lotos_tool.specs.declared.listing_output.ListingOptions.{ListingOptions}
use Rattle.lotos_command.specs.declared.command.Runs.TheVariants.{Omitted}
use Rattle.lotos_command.specs.declared.command.CoverRequest.{CoverRequest}

-- what was read for the request: the system that is asked, and the mark of the line, if one is given
pub record AreCoverParts (request : CoverRequest) (left left' : Option (List ℕ)) (system : System)
    (mark : Option (List Label)) : Type 0 where
  pub read : ReadsAsked request.interface left left' system
  pub marked : IsMarkOf request.strong request.after mark

-- the question is that of a cover of the behaviour of this system, with internal steps observed if the request says so;
-- it has the request's bounds, and the listing begins after this mark
pub record IsCoverAskedOf (request : CoverRequest) (system : System) (mark : Option (List Label)) (asked : ListingAsked)
    : Type 0 where
  pub cover : BoundedBehaviour
  pub question_is : asked.question ≡ by_cover cover
  pub question : IsCoverQuestionOf system cover
  pub strong : cover.behaviour.strong ≡ request.strong
  pub terms : cover.terms ≡ request.terms
  pub states : cover.states ≡ request.states
  pub mark_is : asked.mark ≡ mark

-- the question that the request asks of the text that was read, and the mark after which lines are written
pub record ReadsCover (request : CoverRequest) (left left' : Option (List ℕ)) (asked : ListingAsked) : Type 0 where
  pub system : System
  pub mark : Option (List Label)
  pub parts : AreCoverParts request left left' system mark
  pub asks : IsCoverAskedOf request system mark asked

-- what the request asks of the output: no runs
abbrev pub cover_options_of : CoverRequest → ListingOptions
cover_options_of request = record { runs = Omitted; limit = request.limit }

-- what `cover` may find for the request, and where it may stop
abbrev pub cover_answering : CoverRequest → Answering Listed ListingPlace
cover_answering request = listing_answering (cover_options_of request)

-- what `cover` does for the request
abbrev pub cover_meaning : CoverRequest → Meaning Listed ListingPlace
cover_meaning request = record {
  answering = cover_answering request;
  Refuses = IsCoverRefusal request;
  Reads = ReadsCover request;
}

-- a search that has returned no line yet, for the request's question about this system, after this mark
pub record IsCoverSearchFor (request : CoverRequest) (system : System) (mark : Option (List Label))
    (search : CoverState) : Type 0 where
  pub asks : IsCoverAskedOf request system mark (asked_by (cover_state search))
  pub stage : search.stage ≡ running
