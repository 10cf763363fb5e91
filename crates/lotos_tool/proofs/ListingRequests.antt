-- The question of a listing, from the request and the table that its search begins with.
use Rattle.std.proofs.Common.{◌≡◌, ◌∙◌, ℕ, List, Option, Some, ap, refl, subst, sym}
use Rattle.lotos_check.specs.Flat.{System}
use Rattle.lotos_terms.specs.TableView.{TableView}
use Rattle.lotos_pattern.specs.Patterns.{Pattern}
use Rattle.lotos_listing.specs.Order.{Label}
use Rattle.lotos_search.specs.SearchSteps.{IsBegun, SearchState}
use Rattle.lotos_listing.specs.Question.{IsQuestionOf}
use Rattle.lotos_length.specs.LengthListings.{IsLengthQuestionOf, LengthQuestion}
use Rattle.lotos_length.specs.LengthSteps as length
use Rattle.lotos_length.specs.LengthSteps.{LengthState}
use Rattle.lotos_automaton.specs.BoundedBehaviours.{BoundedBehaviour}
use Rattle.lotos_suite.specs.CoverListings.{IsCoverQuestionOf}
use Rattle.lotos_suite.specs.CoverSteps as cover
use Rattle.lotos_suite.specs.CoverSteps.{CoverState}
use Rattle.lotos_runs.specs.MatchQuestions.{IsMatchQuestionOf, MatchQuestion}
use Rattle.std.specs.Prelude.{Err, IfOk, Ok, Result}
use Rattle.lotos_output.specs.ItemRuns.{IsAboutSystem, RunsView, labels, omitted, origins, runs_of, runs_view}
use Rattle.lotos_output.specs.NamedRuns.{writes_runs}
use Rattle.lotos_output.specs.declared.item_runs.ItemRuns.{ItemRuns}
use Rattle.lotos_tool.specs.CoverOutcome.{IsCoverSearchFor}
use Rattle.lotos_tool.specs.ListingQuestions as listings
use Rattle.lotos_tool.specs.ListingQuestions.{HasBoundsOf, HasPattern, ListingAsked, ListingQuestion, ListingState, asked_by, by_cover, by_depth, by_length}
use Rattle.lotos_tool.specs.ListingQuestions.{depth_state, length_state, match_question}
use Rattle.lotos_tool.specs.SearchOutcome.{IsSearchAskedOf, IsSearchFor}
use Rattle.lotos_tool.specs.WrittenItems.{AreRunsFor, AreRunsWith}
use Rattle.lotos_command.specs.declared.command.CoverRequest.{CoverRequest}
use Rattle.lotos_command.specs.declared.command.Extent.TheVariants.{Depth, Length}
use Rattle.lotos_command.specs.declared.command.SearchRequest.{SearchRequest}

-- a search of the system that began with the request's depth and terms is one for the request
pub asked_of : (request : SearchRequest) (system : System) (held : TableView) (p : Pattern) (mark : Option (List Label)) (depth : ℕ) (search : SearchState) →
    request.extent ≡ Depth depth → IsQuestionOf system search.question → IsBegun held p depth mark request.terms search →
    IsSearchFor request system p mark (depth_state search)
asked_of request system held p mark depth search extent question begun = record {
  asks = record {
    question = question;
    pattern = begun.pattern_is;
    bounds = (extent ∙ ap Depth (sym begun.depth_is), begun.terms_is);
    mark_is = begun.cursor;
  };
  stage = begun.stage;
}

-- and so is one that began with its length, its terms, and whether runs are written
pub length_asked_of : (request : SearchRequest) (system : System) (held : TableView) (p : Pattern) (mark : Option (List Label)) (most : ℕ)
    (search : LengthState) →
    request.extent ≡ Length most → IsLengthQuestionOf system search.question → length.IsBegun held p most request.terms mark (writes_runs request.runs) search →
    IsSearchFor request system p mark (length_state search)
length_asked_of request system held p mark most search extent question begun = record {
  asks = record {
    question = question;
    pattern = ap (λ (q : LengthQuestion). q.matches.pattern) begun.question;
    bounds = (
      extent ∙ ap Length (sym (ap (λ (q : LengthQuestion). q.length) begun.question)),
      ap (λ (q : LengthQuestion). q.terms) begun.question,
      ap (λ (q : LengthQuestion). q.runs) begun.question,
    );
    mark_is = begun.cursor;
  };
  stage = begun.stage;
}

-- a system has one question for each pattern
abbrev pub IsOneQuestion : Type 0
IsOneQuestion = (system : System) (q r : MatchQuestion) → IsMatchQuestionOf system q → IsMatchQuestionOf system r → q.pattern ≡ r.pattern → q ≡ r

-- so runs that are followed in another table of the system are those of the search
pub runs_for : IsOneQuestion → (request : SearchRequest) (system : System) (p : Pattern) (mark : Option (List Label)) (search : ListingState)
    (runs : RunsView) →
    IsSearchFor request system p mark search → runs_of runs ≡ request.runs → IsAboutSystem system p runs → AreRunsFor search.question request.runs runs
runs_for one request system p mark search runs begun wanted about =
    record { wanted_are = wanted; with = with_runs search.question runs begun.asks.question begun.asks.pattern begun.asks.bounds wanted about }
  where
    with_runs : (q : ListingQuestion) (runs : RunsView) → listings.IsQuestionOf system q → HasPattern q p → HasBoundsOf request q →
        runs_of runs ≡ request.runs → IsAboutSystem system p runs → AreRunsWith q runs
    with_runs q omitted asked pattern bounds wanted about = tt
    with_runs q labels asked pattern bounds wanted about = tt
    with_runs (by_depth q) (origins m) asked pattern bounds wanted (is, has) = (
      tt,
      ap (λ x. Some x) (one system (match_question q) m
          (record { named = asked.named; gates = asked.gates; processes = asked.processes; start = asked.start }) is (pattern ∙ sym has)),
      is.named,
    )
    with_runs (by_length q) (origins m) asked pattern bounds wanted (is, has) =
        (bounds.2 ∙ ap writes_runs (sym wanted), ap (λ x. Some x) (one system q.matches m asked is (pattern ∙ sym has)), is.named)
    with_runs (by_cover q) (origins m) asked pattern bounds wanted about = absurd pattern

-- what begins the writing of runs gives those of the search
pub runs_begun : {E : Type 0} → IsOneQuestion → (request : SearchRequest) (system : System) (p : Pattern) (mark : Option (List Label))
    (result : Result ItemRuns E) →
    IfOk result (λ r. runs_of (runs_view r) ≡ request.runs) → IfOk result (λ r. IsAboutSystem system p (runs_view r)) →
    IfOk result (λ r. (search : ListingState) → IsSearchFor request system p mark search → AreRunsFor search.question request.runs (runs_view r))
runs_begun one request system p mark (Ok r) wanted about = λ search begun. runs_for one request system p mark search (runs_view r) begun wanted about
runs_begun one request system p mark (Err e) wanted about = tt

-- what a search for the request is asked is what the request asks of the system
pub asked_here : (request : SearchRequest) (system : System) (p : Pattern) (mark : Option (List Label)) (search : ListingState) →
    IsSearchFor request system p mark search → (asked : ListingAsked) → asked ≡ asked_by search → IsSearchAskedOf request system p mark asked
asked_here request system p mark search begun asked same = subst (IsSearchAskedOf request system p mark) (sym same) begun.asks

-- a search for the lines of a cover that began with the request's bounds is one for the request
pub cover_asked_of : (request : CoverRequest) (system : System) (held : TableView) (mark : Option (List Label)) (search : CoverState) →
    IsCoverQuestionOf system search.question → cover.IsBegun held request.strong request.terms request.states mark search →
    IsCoverSearchFor request system mark search
cover_asked_of request system held mark search question begun = record {
  asks = record {
    cover = search.question;
    question_is = refl;
    question = question;
    strong = ap (λ (q : BoundedBehaviour). q.behaviour.strong) begun.question;
    terms = ap (λ (q : BoundedBehaviour). q.terms) begun.question;
    states = ap (λ (q : BoundedBehaviour). q.states) begun.question;
    mark_is = begun.cursor;
  };
  stage = begun.stage;
}
