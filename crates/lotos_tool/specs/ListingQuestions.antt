-- The question of a listing, by depth or by length or of a cover: its members, their runs, and the sequences at which
-- it stops.
use Rattle.std.specs.Prelude.{◌≡◌, ℕ, ◌⊎◌, List, [], MatchOption, Option, None, Some, Result, Ok, Err, ⊤}
use Rattle.lotos_check.specs.Flat.{System}
use Rattle.lotos_check.specs.NameLists.{Name}
use Rattle.lotos_pattern.specs.Patterns.{Pattern}
use Rattle.lotos_pattern.specs.declared.ever_pattern.EndKind.TheVariants as kinds
use Rattle.lotos_listing.specs.ListingSteps as steps
use Rattle.lotos_listing.specs.ListingSteps.{Stage, running, ended, halted}
use Rattle.lotos_listing.specs.Order.{Label}
use Rattle.lotos_listing.specs.Question as depths
use Rattle.lotos_listing.specs.Question.{ArePrinted}
use Rattle.lotos_listing.specs.Remaining.{remaining}
use Rattle.lotos_listing.specs.declared.found.Found.{Found}
use Rattle.lotos_listing.specs.declared.found.Halt.{Halt}
use Rattle.lotos_listing.specs.declared.found.Halt.TheVariants as halt
use Rattle.lotos_search.specs.SearchSteps.{SearchState}
use Rattle.lotos_runs.specs.MatchQuestions.{MatchQuestion, MayEndFor}
use Rattle.lotos_length.specs.LengthListings as lengths
use Rattle.lotos_length.specs.LengthSteps.{LengthState}
use Rattle.lotos_automaton.specs.BoundedBehaviours as bounded
use Rattle.lotos_automaton.specs.declared.automaton_fault.AutomatonFault.TheVariants as fault
use Rattle.lotos_suite.specs.CoverListings as covers
use Rattle.lotos_suite.specs.CoverSteps.{CoverState}
use Rattle.lotos_suite.specs.declared.cover_halt.CoverHalt.{CoverHalt}
use Rattle.lotos_suite.specs.declared.cover_halt.CoverHalt.TheVariants as cover_halt
use Rattle.lotos_output.specs.NamedRuns.{IsNamedRun, writes_runs}
use Rattle.lotos_tool.specs.declared.listing_halt.ListingHalt.{ListingHalt}
use Rattle.lotos_tool.specs.declared.listing_halt.ListingHalt.TheVariants.{Failed, Memory, OverStates, OverTerms}
use Rattle.lotos_command.specs.declared.command.SearchRequest.{SearchRequest}
use Rattle.lotos_command.specs.declared.command.Extent.TheVariants as extent
use Rattle.lotos_command.specs.declared.command.Runs.{Runs}
use Rattle.lotos_command.specs.declared.command.Runs.TheVariants.{Labels, Omitted, Origins}

-- the question of a listing: of the sequences of derivations of at most so many steps, of those of at most so many
-- labels, or of the lines of a cover
pub data ListingQuestion : Type 0 where
  by_depth : depths.Question → ListingQuestion
  by_length : lengths.LengthQuestion → ListingQuestion
  by_cover : bounded.BoundedBehaviour → ListingQuestion

-- the names, processes, start and pattern of a question by depth
abbrev pub match_question : depths.Question → MatchQuestion
match_question q =
    record { names = q.names; processes = q.processes; start = q.start; pattern = q.pattern }

-- the names of the gates
abbrev pub names_of : ListingQuestion → List Name
names_of (by_depth q) = q.names
names_of (by_length q) = q.matches.names
names_of (by_cover q) = q.behaviour.names

-- the question is about the sequences that match the pattern; that of a cover is about none
abbrev pub HasPattern : ListingQuestion → Pattern → Type 0
HasPattern (by_depth q) p = q.pattern ≡ p
HasPattern (by_length q) p = q.matches.pattern ≡ p
HasPattern (by_cover q) p = ⊥

-- the names, processes, start and pattern whose derivations put sequences into the listing; none if it is that of a
-- cover
abbrev pub matches_of : ListingQuestion → Option MatchQuestion
matches_of (by_depth q) = Some (match_question q)
matches_of (by_length q) = Some q.matches
matches_of (by_cover q) = None

-- the greatest number of labels of a member, unless the listing stops before it
abbrev pub most_of : ListingQuestion → ℕ
most_of (by_depth q) = q.depth
most_of (by_length q) = q.length
most_of (by_cover q) = q.states

-- the question is about the derivations of the system
abbrev pub IsQuestionOf : System → ListingQuestion → Type 0
IsQuestionOf system (by_depth q) = depths.IsQuestionOf system q
IsQuestionOf system (by_length q) = lengths.IsLengthQuestionOf system q
IsQuestionOf system (by_cover q) = covers.IsCoverQuestionOf system q

-- the question has the bounds of the request: on the steps of a derivation or on the labels of a sequence, on the terms
-- of a prefix, and by length whether runs are written
abbrev pub HasBoundsOf : SearchRequest → ListingQuestion → Type 0
HasBoundsOf request (by_depth q) = (request.extent ≡ extent.Depth q.depth) × (q.terms ≡ request.terms)
HasBoundsOf request (by_length q) =
    (request.extent ≡ extent.Length q.length) × (q.terms ≡ request.terms) × (q.runs ≡ writes_runs request.runs)
HasBoundsOf request (by_cover q) = ⊥

-- the sequence is in the listing
abbrev pub IsMember : ListingQuestion → List Label → Type 0
IsMember (by_depth q) s = depths.IsMember q s
IsMember (by_length q) s = lengths.IsListed q s
IsMember (by_cover q) s = covers.IsListedLine q s

-- the run is the first of the shortest that put the sequence into the listing; of a listing by length only where it is
-- wanted
abbrev pub IsLeastRunOf : ListingQuestion → List Label → List Label → Type 0
IsLeastRunOf (by_depth q) s run = depths.IsLeastRunOf q s run
IsLeastRunOf (by_length q) s run = lengths.IsWantedRun q s run
IsLeastRunOf (by_cover q) s run = run ≡ []

-- the second texts are those of a derivation by the run that may end as the pattern demands, where those of internal
-- steps say what makes them
abbrev pub IsNamedRunOf : ListingQuestion → (run shown : List Label) → Type 0
IsNamedRunOf q run shown = MatchOption (matches_of q) ⊥
    (λ m. IsNamedRun m.names m.processes m.start (MayEndFor m kinds.Refuses) run shown)

-- what is written of the run of a sequence: its least run, or texts with what makes the internal steps of a derivation
-- by this run. Of the sequence A in `hide s, t in (s; a; stop [] t; stop)` it is `i A`, or `i(S) A`
abbrev pub IsWrittenRunOf : Runs → ListingQuestion → (s written : List Label) → Type 0
IsWrittenRunOf Omitted q s written = IsLeastRunOf q s written
IsWrittenRunOf Labels q s written = IsLeastRunOf q s written
IsWrittenRunOf Origins q s written = (run : List Label) × IsLeastRunOf q s run × IsNamedRunOf q run written

-- the prefix can still match and reaches more terms than the bound, or more normal forms if the listing is by length
abbrev pub IsOversizedPrefix : ListingQuestion → List Label → Type 0
IsOversizedPrefix (by_depth q) r = depths.IsOversizedPrefix q r
IsOversizedPrefix (by_length q) r = lengths.IsOversizedPrefix q r
IsOversizedPrefix (by_cover q) r = bounded.IsOversized q r

-- the sequence leads to one set of normal forms more than the bound: none does if the listing is by depth or by length,
-- which have no such bound
abbrev pub IsOneSetTooMany : ListingQuestion → List Label → Type 0
IsOneSetTooMany (by_depth q) r = ⊥
IsOneSetTooMany (by_length q) r = ⊥
IsOneSetTooMany (by_cover q) r = bounded.IsOneSetTooMany q r

-- what a complete listing is besides: a cover shows everything that can be observed
abbrev pub IsWhole : ListingQuestion → Type 0
IsWhole (by_depth q) = ⊤
IsWhole (by_length q) = ⊤
IsWhole (by_cover q) = covers.IsCovered q.behaviour

-- the listing stops at the sequence, unless it stops at an earlier one
abbrev pub IsStopAt : ListingQuestion → List Label → Type 0
IsStopAt q r = IsOversizedPrefix q r ⊎ IsOneSetTooMany q r

-- the state of a search: its question; the last item returned, or else the mark; and its stage
pub record ListingState : Type 0 where
  pub question : ListingQuestion
  pub cursor : Option (List Label)
  pub stage : Stage

-- how many sequences of at most as many labels as a member may have come after the cursor
abbrev pub remaining_after : ListingState → ℕ
remaining_after s = remaining (names_of s.question) (most_of s.question) s.cursor

-- what a listing is asked: its question, and the mark after which it begins
pub record ListingAsked : Type 0 where
  pub question : ListingQuestion
  pub mark : Option (List Label)

-- what a search is asked that has returned no item yet
abbrev pub asked_by : ListingState → ListingAsked
asked_by search = record { question = search.question; mark = search.cursor }

-- the state of a search by depth, as that of a search for the items of a listing
abbrev pub depth_state : SearchState → ListingState
depth_state s = record { question = by_depth s.question; cursor = s.cursor; stage = s.stage }

-- the state of a search by length, as that of a search for the items of a listing
abbrev pub length_state : LengthState → ListingState
length_state s = record { question = by_length s.question; cursor = s.cursor; stage = s.stage }

-- the state of a search for the lines of a cover, as that of a search for the items of a listing
abbrev pub cover_state : CoverState → ListingState
cover_state s = record { question = by_cover s.question; cursor = s.cursor; stage = s.stage }

-- a halt of the search by depth or by length, as that of a search for the items of a listing
abbrev pub halt_of : Halt → ListingHalt
halt_of (halt.OverTerms labels) = OverTerms labels
halt_of halt.Memory = Memory
halt_of halt.Failed = Failed

-- a halt of the search for the lines of a cover, as that of a search for the items of a listing
abbrev pub cover_halt_of : CoverHalt → ListingHalt
cover_halt_of (cover_halt.Fault (fault.OverTerms labels)) = OverTerms labels
cover_halt_of (cover_halt.Fault (fault.OverStates labels)) = OverStates
cover_halt_of (cover_halt.Fault fault.Memory) = Memory
cover_halt_of cover_halt.Failed = Failed

module _ (q : ListingQuestion) where
  -- the first member after the cursor, with its run; the listing stops at no sequence up to it
  abbrev pub IsNextItem : Option (List Label) → List Label → List Label → Type 0
  IsNextItem = steps.IsNextItem (IsMember q) (IsLeastRunOf q) (IsStopAt q)

  -- no member comes after the cursor, the listing stops at no sequence at all, and it is whole
  pub record IsEndOfListing (cursor : Option (List Label)) : Type 0 where
    pub ends : steps.IsEndOfListing (IsMember q) (IsStopAt q) cursor
    pub whole : IsWhole q

  -- the first sequence at which the listing stops, before or after the cursor; no member lies between the cursor and it
  abbrev pub IsFirstStop : Option (List Label) → List Label → Type 0
  IsFirstStop = steps.IsFirstOversized (IsMember q) (IsStopAt q)

  -- the returned item is the next one, and the cursor moves to it
  abbrev pub ReturnsItem : Option (List Label) → Found → Option (List Label) → Type 0
  ReturnsItem = steps.ReturnsItem (IsMember q) (IsLeastRunOf q) (IsStopAt q) (names_of q)

-- what a halt of a running search means: the first sequence at which the listing stops is an oversized prefix, or leads
-- to one set too many; or memory ran out
abbrev pub IsHalt : ListingQuestion → Option (List Label) → ListingHalt → Type 0
IsHalt q cursor (OverTerms labels) =
    (r : List Label) × ArePrinted (names_of q) labels.items r × IsFirstStop q cursor r × IsOversizedPrefix q r
IsHalt q cursor OverStates = (r : List Label) × IsFirstStop q cursor r × IsOneSetTooMany q r
IsHalt q cursor Memory = ⊤
IsHalt q cursor Failed = ⊥

-- what a call returns while the search is running, and the state after it
abbrev pub RunningReturns : ListingQuestion → Option (List Label) → Result (Option Found) ListingHalt →
    Option (List Label) → Stage → Type 0
RunningReturns q cursor (Ok (Some found)) cursor' stage' = ReturnsItem q cursor found cursor' × (stage' ≡ running)
RunningReturns q cursor (Ok None) cursor' stage' = IsEndOfListing q cursor × (cursor' ≡ cursor) × (stage' ≡ ended)
RunningReturns q cursor (Err cause) cursor' stage' = IsHalt q cursor cause × (cursor' ≡ cursor) × (stage' ≡ halted)

-- what a call returns at each stage: no item after the end, `Failed` after a halt
abbrev pub NextReturnsAt : ListingQuestion → Option (List Label) → Stage → Result (Option Found) ListingHalt →
    Option (List Label) → Stage → Type 0
NextReturnsAt q cursor running res cursor' stage' = RunningReturns q cursor res cursor' stage'
NextReturnsAt q cursor ended res cursor' stage' = (res ≡ Ok None) × (cursor' ≡ cursor) × (stage' ≡ ended)
NextReturnsAt q cursor halted res cursor' stage' = (res ≡ Err Failed) × (cursor' ≡ cursor) × (stage' ≡ halted)

-- what a call returns, by the states before and after it
abbrev pub NextReturns : ListingState → Result (Option Found) ListingHalt → ListingState → Type 0
NextReturns old res new = NextReturnsAt old.question old.cursor old.stage res new.cursor new.stage
