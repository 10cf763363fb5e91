-- What a call of each search returns, as a call of a search for the items of a listing.
use Rattle.std.proofs.Common.{◌<◌, List, Option, None, Some, Result, Ok, Err, ap, subst, sym, inl, inr}
use Rattle.std.specs.Prelude.{IfOk, IfSome}
use Rattle.lotos_listing.specs.ListingSteps as steps
use Rattle.lotos_listing.specs.ListingSteps.{Stage, running, ended, halted}
use Rattle.lotos_listing.specs.Order.{Label}
use Rattle.lotos_listing.specs.declared.found.Found.{Found}
use Rattle.lotos_listing.specs.declared.found.Halt.{Halt}
use Rattle.lotos_listing.specs.declared.found.Halt.TheVariants.{Failed, Memory, OverTerms}
use Rattle.lotos_listing.specs.Remaining.{remaining}
use Rattle.lotos_automaton.specs.BoundedBehaviours.{BoundedBehaviour, IsStop}
use Rattle.lotos_automaton.specs.Explorations.{IsFirstFaultAt}
use Rattle.lotos_automaton.specs.declared.automaton_fault.AutomatonFault.{AutomatonFault}
use Rattle.lotos_automaton.specs.declared.automaton_fault.AutomatonFault.TheVariants as fault
use Rattle.lotos_suite.specs.CoverSteps as lines
use Rattle.lotos_suite.specs.declared.cover_halt.CoverHalt.{CoverHalt}
use Rattle.lotos_suite.specs.declared.cover_halt.CoverHalt.TheVariants as cover
use Rattle.lotos_tool.specs.ListingQuestions.{IsFirstStop, IsLeastRunOf, IsMember, IsNextItem, IsOneSetTooMany, IsOversizedPrefix, IsStopAt, IsWhole}
use Rattle.lotos_tool.specs.ListingQuestions.{ListingQuestion, NextReturnsAt, by_cover, cover_halt_of, halt_of, most_of, names_of}
use Rattle.lotos_tool.specs.declared.listing_halt.ListingHalt.{ListingHalt}

-- a result of the search by depth or by length, with its halt as that of a search for the items of a listing
abbrev pub own_result : {T : Type 0} → Result T Halt → Result T ListingHalt
own_result (Ok value) = Ok value
own_result (Err cause) = Err (halt_of cause)

-- if no sequence leads to one set too many, and each complete listing is whole, a call returns what it says of oversized
-- prefixes alone
module _ (q : ListingQuestion) (never : (r : List Label) → IsOneSetTooMany q r → ⊥) (whole : IsWhole q) where
  -- each sequence at which the listing stops is an oversized prefix
  is_oversized : (r : List Label) → IsStopAt q r → IsOversizedPrefix q r
  is_oversized r (inl over) = over
  is_oversized r (inr sets) = absurd (never r sets)

  -- what a call returns as a search that stops at oversized prefixes alone, it returns as a search for the items of the
  -- listing
  pub returned : (cursor : Option (List Label)) (stage : Stage) (res : Result (Option Found) Halt) (cursor' : Option (List Label)) (stage' : Stage) →
      steps.NextReturnsAt (IsMember q) (IsLeastRunOf q) (IsOversizedPrefix q) (names_of q) cursor stage res cursor' stage' →
      NextReturnsAt q cursor stage (own_result res) cursor' stage'
  returned cursor running (Ok (Some found)) cursor' stage' (g, goes_on) = (
    record {
      s = g.s;
      run = g.run;
      sequence = g.sequence;
      spelled = g.spelled;
      item = record {
        member = g.item.member;
        after = g.item.after;
        first = g.item.first;
        least = g.item.least;
        clear = λ r stop. g.item.clear r (is_oversized r stop);
      };
      moved = g.moved;
    },
    goes_on,
  )
  returned cursor running (Ok None) cursor' stage' (end, kept, ends) =
      (record { ends = record { none = end.none; clear = λ r stop. end.clear r (is_oversized r stop) }; whole = whole }, kept, ends)
  returned cursor running (Err (OverTerms labels)) cursor' stage' ((r, printed, over), kept, ends) = (
    (
      r,
      printed,
      record { oversized = inl over.oversized; first = λ p stop. over.first p (is_oversized p stop); none = over.none },
      over.oversized,
    ),
    kept,
    ends,
  )
  returned cursor running (Err Memory) cursor' stage' (kept, ends) = (tt, kept, ends)
  returned cursor running (Err Failed) cursor' stage' h = absurd h
  returned cursor ended res cursor' stage' (is, kept, ends) = (ap own_result is, kept, ends)
  returned cursor halted res cursor' stage' (is, kept, ends) = (ap own_result is, kept, ends)

-- a result of the search for the lines of a cover, with its halt as that of a search for the items of a listing
abbrev pub own_cover_result : {T : Type 0} → Result T CoverHalt → Result T ListingHalt
own_cover_result (Ok value) = Ok value
own_cover_result (Err cause) = Err (cover_halt_of cause)

module _ (q : BoundedBehaviour) (cursor : Option (List Label)) (r : List Label) (cause : AutomatonFault) (first : IsFirstFaultAt q cause r) where
  -- a stop of the exploration is one of the listing: no line is listed then
  first_stop : IsStop q r → IsFirstStop (by_cover q) cursor r
  first_stop stop = record { oversized = stop; first = first.first; none = λ t listed after before. listed.whole r stop }

-- a call of the search for the lines of a cover returns its items
pub line_returned : (q : BoundedBehaviour) (cursor : Option (List Label)) (stage : Stage) (res : Result (Option Found) CoverHalt)
    (cursor' : Option (List Label)) (stage' : Stage) →
    lines.NextReturnsAt q cursor stage res cursor' stage' → NextReturnsAt (by_cover q) cursor stage (own_cover_result res) cursor' stage'
line_returned q cursor running (Ok (Some found)) cursor' stage' h = h
line_returned q cursor running (Ok None) cursor' stage' (end, kept, ends) = (record { ends = end.ends; whole = end.whole }, kept, ends)
line_returned q cursor running (Err (cover.Fault (fault.OverTerms labels))) cursor' stage' ((r, first), kept, ends) =
    ((r, first.stops.0, first_stop q cursor r (fault.OverTerms labels) first (inl first.stops.1), first.stops.1), kept, ends)
line_returned q cursor running (Err (cover.Fault (fault.OverStates labels))) cursor' stage' ((r, first), kept, ends) =
    ((r, first_stop q cursor r (fault.OverStates labels) first (inr first.stops.1), first.stops.1), kept, ends)
line_returned q cursor running (Err (cover.Fault fault.Memory)) cursor' stage' (none, kept, ends) = (tt, kept, ends)
line_returned q cursor running (Err cover.Failed) cursor' stage' h = absurd h
line_returned q cursor ended res cursor' stage' (is, kept, ends) = (ap own_cover_result is, kept, ends)
line_returned q cursor halted res cursor' stage' (is, kept, ends) = (ap own_cover_result is, kept, ends)

-- ---- what remains

-- after an item fewer sequences remain, if fewer remain after each next item
pub fewer_remain : (q : ListingQuestion) (cursor : Option (List Label)) →
    ((s run : List Label) → IsNextItem q cursor s run → remaining (names_of q) (most_of q) (Some s) < remaining (names_of q) (most_of q) cursor) →
    (stage : Stage) (res : Result (Option Found) ListingHalt) (cursor' : Option (List Label)) (stage' : Stage) →
    NextReturnsAt q cursor stage res cursor' stage' →
    IfOk res (λ o. IfSome o (λ found. remaining (names_of q) (most_of q) cursor' < remaining (names_of q) (most_of q) cursor))
fewer_remain q cursor less running (Ok (Some found)) cursor' stage' (item, goes_on) =
    subst (λ c. remaining (names_of q) (most_of q) c < remaining (names_of q) (most_of q) cursor) (sym item.moved) (less item.s item.run item.item)
fewer_remain q cursor less running (Ok None) cursor' stage' h = tt
fewer_remain q cursor less running (Err cause) cursor' stage' h = tt
fewer_remain q cursor less ended (Ok (Some found)) cursor' stage' (is, kept, ends) = cc
fewer_remain q cursor less ended (Ok None) cursor' stage' h = tt
fewer_remain q cursor less ended (Err cause) cursor' stage' h = tt
fewer_remain q cursor less halted (Ok o) cursor' stage' (is, kept, ends) = cc
fewer_remain q cursor less halted (Err cause) cursor' stage' h = tt
