-- What `suite` finds and where it stops, from the parts to the question.
use Rattle.std.proofs.Common.{◌≡◌, ◌∙◌, ◌≤◌, ℕ, List, [], MatchOption, None, Option, Some, false, inl, inr, length, refl, subst, sym}
use Rattle.std.specs.Io.KnownBytes.{Appends}
use Rattle.std.proofs.KnownBytes.{Appends-nil, Keeps-refl}
use Rattle.std.specs.declared.string.String.{String}
use Rattle.std.specs.declared.alloc.Global.{Global}
use Rattle.std.specs.declared.vec.Vec.{Vec}
use Rattle.std.proofs.lemmas.List.{length-map}
use Rattle.lotos_check.specs.Flat.{System}
use Rattle.lotos_check.specs.NameLists.{Name}
use Rattle.lotos_store.specs.Interning.{plain_lists}
use Rattle.lotos_store.specs.declared.label.Label.{Label as TermLabel}
use Rattle.lotos_listing.specs.Order.{Label}
use Rattle.lotos_sets.specs.FormSets.{FormSetsView}
use Rattle.lotos_automaton.specs.BoundedBehaviours.{bounded_of}
use Rattle.lotos_suite.specs.SuiteResults.{returned_line, returned_lines}
use Rattle.lotos_suite.specs.Suites.{Line}
use Rattle.lotos_suite.specs.declared.suite.SuiteLine.{SuiteLine}
use Rattle.lotos_device.specs.ByteOutput.{IsBeginningOf}
use Rattle.lotos_outcome.specs.Calls.{Answered}
use Rattle.lotos_outcome.specs.Outcomes.{is_write}
use Rattle.lotos_outcome.specs.declared.outcome.Ended.{Ended}
use Rattle.lotos_outcome.specs.declared.outcome.Ended.TheVariants.{Done, Refused, Stopped}
use Rattle.lotos_outcome.specs.declared.outcome.Stop.{Stop}
use Rattle.lotos_outcome.specs.declared.outcome.Stop.TheVariants.{Limit, Lines, Memory, States, Terms, Write}
use Rattle.lotos_tool.specs.ExplorationParts.{AreSetsOf, IsExplored, IsHalt}
use Rattle.lotos_tool.specs.ExplorationStops.{IsExplorationStop}
use Rattle.lotos_tool.specs.SuiteOutcome.{AreSuiteParts, HasTooManyLines, IsBegunSuite, IsLimitedSuite, IsLimitedText, IsRestText, IsSuiteQuestionOf}
use Rattle.lotos_tool.specs.SuiteOutcome.{IsSuiteText, IsWholeSuite, ReadsSuite, SuiteQuestion, most_lines, suite_answering}
use Rattle.lotos_tool.specs.SuiteOutcome.IsBegunSuite.{of_limited, of_rest}
use Rattle.lotos_tool.specs.SuiteParts.{EndsAsMade, HasMade, HasSuiteHalt, IsGraphFor, IsMade, IsSuiteHalt, IsTextOf, question_of}
use Rattle.lotos_tool.specs.declared.findings.Listed.{Listed}
use Rattle.lotos_tool.specs.declared.findings.ListingPlace.{ListingPlace}
use Rattle.lotos_tool.specs.declared.exploration.ExplorationHalt.{ExplorationHalt}
use Rattle.lotos_tool.specs.declared.suite_command.SuiteText.{SuiteText}
use Rattle.lotos_command.specs.declared.command.SuiteRequest.{SuiteRequest}
use Rattle.lotos_tool.proofs.ExplorationHalts.{stops_unwritten}

-- the sets of the system, and its own list, have the question that the request asks
pub question_is : (request : SuiteRequest) (system : System) (v : FormSetsView) (own : List Name) (mark : Option (List Label)) →
    AreSetsOf system request.strong request.terms v → own ≡ system.formals →
    IsSuiteQuestionOf request system mark (question_of request v own mark)
question_is request system v own mark are own_is = record {
  behaviour = are.behaviour;
  strong = are.observed;
  terms = are.bound;
  states = refl;
  own = own_is;
  extra = refl;
  mark_is = refl;
  limit = refl;
}

-- a question about the system that was read is one that the request asks of the text
pub asks_suite : (request : SuiteRequest) (left left' : Option (List ℕ)) (system : System) (mark : Option (List Label)) →
    AreSuiteParts request left left' system mark → (q : SuiteQuestion) → IsSuiteQuestionOf request system mark q → ReadsSuite request left left' q
asks_suite request left left' system mark parts q asks = record { system = system; mark = mark; parts = parts; asks = asks }

-- the graph that was explored is that of the question
pub graph_for : (request : SuiteRequest) (v w : FormSetsView) (own : List Name) (mark : Option (List Label))
    (graph : Vec (Vec (TermLabel × ℕ) Global) Global) (names : List Name) (rows : List (Vec (TermLabel × ℕ) Global)) →
    IsExplored (bounded_of v request.states) w graph → names ≡ w.table.names → rows ≡ graph.items →
    IsGraphFor names own (plain_lists rows) request.extra (question_of request v own mark)
graph_for request v w own mark graph names rows found named same =
    subst (λ rs. IsGraphFor names own (plain_lists rs) request.extra (question_of request v own mark)) (sym same) (record {
      access = found.access;
      automaton = found.automaton;
      clear = found.clear;
      names_are = sym (named ∙ found.names);
      own_are = refl;
      extra_are = refl;
    })

-- there are as many lines as are returned
pub returned_count : (names : List Name) (lines : List SuiteLine) → length (returned_lines names lines) ≡ length lines
returned_count names lines = length-map lines (returned_line names)

-- the text of what is written of all lines is that of the suite
pub made_for : (q : SuiteQuestion) (all : List Line) (made : SuiteText) → IsWholeSuite q all → length all ≤ most_lines →
    IsTextOf q.mark q.limit all made → IsMade q made
made_for q all made whole few is = go made.last is
  where
    go : (last : Option (String Global)) → MatchOption last (IsRestText q.mark q.limit all made.lines made.text.items)
        (λ text. IsLimitedText q.mark q.limit all (Some text) made.text.items)
        → MatchOption last (IsSuiteText q (record { lines = made.lines }) made.text.items) (λ text. IsLimitedSuite q (Some text) made.text.items)
    go None rest = record { all = all; whole = whole; few = few; holds = rest }
    go (Some text) limited = record { all = all; whole = whole; few = few; holds = limited }

-- why there is no automaton is why there is no suite
pub explored_halt : (q : SuiteQuestion) (h : ExplorationHalt) → IsHalt q.bounded h → IsSuiteHalt q h
explored_halt q h (inl memory) = inl (inl memory)
explored_halt q h (inr stop) = inr stop

-- the halt of a question that the request asks
pub halts_for : (request : SuiteRequest) (system : System) (mark : Option (List Label)) (q : SuiteQuestion) (h : ExplorationHalt) →
    IsSuiteQuestionOf request system mark q → IsSuiteHalt q h → HasSuiteHalt request system mark h
halts_for request system mark q h asked halt = inr (q, asked, halt)

module _ (request : SuiteRequest) (system : System) (mark : Option (List Label)) where
  -- how a suite ends whose question the request asks
  abbrev Ends : (got got' : Option (List ℕ)) → Ended Listed ListingPlace → Type 0
  Ends = Answered suite_answering (IsSuiteQuestionOf request system mark)

  -- ---- the text

  -- the last line at the limit was written with the text
  limit_written : (q : SuiteQuestion) (made : SuiteText) (got got' : Option (List ℕ)) (place : ListingPlace) → IsSuiteQuestionOf request system mark q →
      (last : Option (String Global)) → MatchOption last (IsSuiteText q (record { lines = made.lines }) made.text.items)
      (λ text. IsLimitedSuite q (Some text) made.text.items) →
      MatchOption last ⊥ (λ text. (place ≡ record { last = Some text; prefix = None }) × Appends got got' made.text.items) →
      Ends got got' (Stopped Limit place)
  limit_written q made got got' place asked None is none = absurd none
  limit_written q made got got' place asked (Some text) is (at, written) = subst (λ p. Ends got got' (Stopped Limit p)) (sym at)
      (record { question = q; bytes = made.text.items; asked = asked; said = (refl, is); written = written })

  -- a beginning of the text was written
  begun_suite : (q : SuiteQuestion) (made : SuiteText) (part : List ℕ) → IsBeginningOf made.text.items part → (last : Option (String Global)) →
      MatchOption last (IsSuiteText q (record { lines = made.lines }) made.text.items) (λ text. IsLimitedSuite q (Some text) made.text.items) →
      IsBegunSuite q part
  begun_suite q made part begun None is = of_rest (record { lines = made.lines }) made.text.items is begun
  begun_suite q made part begun (Some text) is = of_limited (Some text) made.text.items is begun

  -- the text, or a beginning of it, was written
  pub text_written : (made : SuiteText) (got got' : Option (List ℕ)) (ended : Ended Listed ListingPlace) → HasMade request system mark made →
      EndsAsMade made got got' ended → Ends got got' ended
  text_written made got got' (Done found) (q, asked, is) (none, count, written) =
      let all : IsSuiteText q (record { lines = made.lines }) made.text.items =
      subst (λ last. MatchOption last (IsSuiteText q (record { lines = made.lines }) made.text.items) (λ text. IsLimitedSuite q (Some text) made.text.items))
      none is in record {
        question = q;
        bytes = made.text.items;
        asked = asked;
        said = subst (λ n. IsSuiteText q (record { lines = n }) made.text.items) (sym count) all;
        written = written;
      }
  text_written made got got' (Refused cause) (q, asked, is) h = absurd h
  text_written made got got' (Stopped Limit place) (q, asked, is) h = limit_written q made got got' place asked made.last is h
  text_written made got got' (Stopped Terms place) (q, asked, is) h = absurd h
  text_written made got got' (Stopped States place) (q, asked, is) h = absurd h
  text_written made got got' (Stopped Lines place) (q, asked, is) h = absurd h
  text_written made got got' (Stopped Memory place) (q, asked, is) h = absurd h
  text_written made got got' (Stopped Write place) (q, asked, is) (nowhere, begun) = record {
    question = q;
    bytes = begun.part;
    asked = asked;
    said = (nowhere, begun_suite q made begun.part (record { rest = begun.rest; whole = begun.whole }) made.last is);
    written = begun.written;
  }

  -- ---- no text

  -- the exploration stopped, and nothing was written
  stop_written : (q : SuiteQuestion) (got : Option (List ℕ)) → IsSuiteQuestionOf request system mark q → (cause : Stop) (prefix : Option (String Global)) →
      IsExplorationStop q.bounded cause prefix [] → Ends got got (Stopped cause (record { last = None; prefix = prefix }))
  stop_written q got asked Terms prefix stop = record { question = q; bytes = []; asked = asked; said = (refl, stop); written = Appends-nil got }
  stop_written q got asked States prefix stop = record { question = q; bytes = []; asked = asked; said = (refl, stop); written = Appends-nil got }
  stop_written q got asked Limit prefix stop = absurd stop
  stop_written q got asked Lines prefix stop = absurd stop
  stop_written q got asked Memory prefix stop = absurd stop
  stop_written q got asked Write prefix stop = absurd stop

  -- this end, for another cause and place that are the same
  same_end : (got : Option (List ℕ)) (cause other : Stop) (prefix : Option (String Global)) → cause ≡ other → prefix ≡ None →
      Ends got got (Stopped other (record { last = None; prefix = None })) → Ends got got (Stopped cause (record { last = None; prefix = prefix }))
  same_end got cause other prefix e none h =
      subst (λ p. Ends got got (Stopped cause (record { last = None; prefix = p }))) (sym none)
      (subst (λ c. Ends got got (Stopped c (record { last = None; prefix = None }))) (sym e) h)

  -- the suite has too many lines, and nothing was written
  lines_written : (q : SuiteQuestion) (got : Option (List ℕ)) → IsSuiteQuestionOf request system mark q → HasTooManyLines q →
      Ends got got (Stopped Lines (record { last = None; prefix = None }))
  lines_written q got asked many =
      record { question = q; bytes = []; asked = asked; said = (refl, many, refl); written = Appends-nil got }

  -- there is no text, and nothing was written
  pub halted : (got : Option (List ℕ)) (h : ExplorationHalt) → HasSuiteHalt request system mark h →
      Ends got got (Stopped h.cause (record { last = None; prefix = h.place }))
  halted got h (inl (cause, place)) = same_end got h.cause Memory h.place cause place (inl (refl, Keeps-refl got))
  halted got h (inr (q, asked, inl (inl (cause, place)))) = same_end got h.cause Memory h.place cause place (inl (refl, Keeps-refl got))
  halted got h (inr (q, asked, inl (inr lines))) =
      same_end got h.cause Lines h.place lines.cause lines.place (lines_written q got asked lines.many)
  halted got h (inr (q, asked, inr stop)) = stop_written q got asked h.cause h.place stop

  -- no text is missing because of the output
  pub halts_unwritten : (h : ExplorationHalt) → HasSuiteHalt request system mark h → is_write h.cause ≡ false
  halts_unwritten h (inl (cause, place)) = subst (λ c. is_write c ≡ false) (sym cause) refl
  halts_unwritten h (inr (q, asked, inl (inl (cause, place)))) = subst (λ c. is_write c ≡ false) (sym cause) refl
  halts_unwritten h (inr (q, asked, inl (inr lines))) = subst (λ c. is_write c ≡ false) (sym lines.cause) refl
  halts_unwritten h (inr (q, asked, inr stop)) = stops_unwritten q.bounded h.cause h.place stop
