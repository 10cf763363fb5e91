-- The state of a search for the lines of a cover, and what its calls return.
use Rattle.std.specs.Prelude.{◌≡◌, ℕ, Bool, List, [], Option, None, Some, Result, Ok, Err}
use Rattle.lotos_terms.specs.TableView.{TableView}
use Rattle.lotos_listing.specs.ListingSteps as steps
use Rattle.lotos_listing.specs.ListingSteps.{Stage, ended, halted, running}
use Rattle.lotos_listing.specs.Lookups.{term_at}
use Rattle.lotos_listing.specs.Order.{Label}
use Rattle.lotos_listing.specs.declared.found.Found.{Found}
use Rattle.lotos_automaton.specs.BoundedBehaviours.{BoundedBehaviour, IsStop}
use Rattle.lotos_automaton.specs.Explorations.{IsFirstFault}
use Rattle.lotos_suite.specs.CoverListings.{IsCovered, IsListedLine}
use Rattle.lotos_suite.specs.declared.cover_halt.CoverHalt.{CoverHalt}
use Rattle.lotos_suite.specs.declared.cover_halt.CoverHalt.TheVariants.{Failed, Fault}

-- the state of a search: its question; the last line returned, or else the mark; and whether it is running, has ended,
-- or was halted
pub record CoverState : Type 0 where
  pub question : BoundedBehaviour
  pub cursor : Option (List Label)
  pub stage : Stage

-- the question of a table: from its start, with these bounds
abbrev pub cover_question_from : TableView → Bool → (terms states : ℕ) → BoundedBehaviour
cover_question_from table strong terms states = record {
  behaviour = record {
    names = table.names;
    processes = table.processes;
    start = term_at table.terms table.start;
    strong = strong;
  };
  terms = terms;
  states = states;
}

-- a search begun with these parts, which has returned no line: its cursor is the mark
pub record IsBegun (table : TableView) (strong : Bool) (terms states : ℕ) (mark : Option (List Label))
    (search : CoverState) : Type 0 where
  pub question : search.question ≡ cover_question_from table strong terms states
  pub cursor : search.cursor ≡ mark
  pub stage : search.stage ≡ running

module _ (q : BoundedBehaviour) where
  -- the returned item is the next line, without a run, and the cursor moves to it
  abbrev pub ReturnsLine : Option (List Label) → Found → Option (List Label) → Type 0
  ReturnsLine = steps.ReturnsItem (IsListedLine q) (λ s run. run ≡ []) (IsStop q) q.behaviour.names

  -- no line comes after the cursor, the exploration stops nowhere, and the lines show everything that can be observed
  pub record IsEndOfCover (cursor : Option (List Label)) : Type 0 where
    pub ends : steps.IsEndOfListing (IsListedLine q) (IsStop q) cursor
    pub whole : IsCovered q.behaviour

  -- what a call returns while the search is running, and the state after it
  abbrev pub RunningReturns : Option (List Label) → Result (Option Found) CoverHalt → Option (List Label) → Stage →
      Type 0
  RunningReturns cursor (Ok (Some found)) cursor' stage' = ReturnsLine cursor found cursor' × (stage' ≡ running)
  RunningReturns cursor (Ok None) cursor' stage' = IsEndOfCover cursor × (cursor' ≡ cursor) × (stage' ≡ ended)
  RunningReturns cursor (Err (Fault fault)) cursor' stage' =
      IsFirstFault q fault × (cursor' ≡ cursor) × (stage' ≡ halted)
  RunningReturns cursor (Err Failed) cursor' stage' = ⊥

  -- what a call returns at each stage: no line after the end, `Failed` after a halt
  abbrev pub NextReturnsAt : Option (List Label) → Stage → Result (Option Found) CoverHalt → Option (List Label) →
      Stage → Type 0
  NextReturnsAt cursor running res cursor' stage' = RunningReturns cursor res cursor' stage'
  NextReturnsAt cursor ended res cursor' stage' = (res ≡ Ok None) × (cursor' ≡ cursor) × (stage' ≡ ended)
  NextReturnsAt cursor halted res cursor' stage' = (res ≡ Err Failed) × (cursor' ≡ cursor) × (stage' ≡ halted)

-- what a call returns, by the states before and after it
abbrev pub NextReturns : CoverState → Result (Option Found) CoverHalt → CoverState → Type 0
NextReturns old res new = NextReturnsAt old.question old.cursor old.stage res new.cursor new.stage
