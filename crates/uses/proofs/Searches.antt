-- What the first calls of a search return.
use Rattle.std.proofs.Common.{◌≡◌, ℕ, List, Option, Some, Result, Ok, Err, inl, inr, refl, sym, subst}
use Rattle.std.specs.Prelude.{None}
use Rattle.lotos_terms.specs.TableView.{TableView}
use Rattle.lotos_pattern.specs.Patterns.{Pattern}
use Rattle.lotos_pattern.specs.Spelling.{Text}
use Rattle.lotos_listing.specs.Marks.{MarkOf}
use Rattle.lotos_listing.specs.Order.{Label}
use Rattle.lotos_search.specs.SearchSteps.{RunningReturns, IsBegun, IsNextItem, NextReturns, NextReturnsAt, SearchState, running}
use Rattle.lotos_listing.specs.declared.found.Found.{Found}
use Rattle.lotos_listing.specs.declared.found.Halt.{Halt}
use Rattle.lotos_listing.specs.declared.found.Halt.TheVariants.{OverTerms, Memory, Failed}
use Rattle.uses.specs.ResumedListings.{IsFirstItem, IsSecondItem, IsSearchIn, IsHaltOf, IsHaltAfter, IsSecondHalt, before, after_item}

module _ (table : TableView) (pattern : Pattern) (depth terms : ℕ) where
  begun_in : (mark : Option (List Label)) (search : SearchState) → IsBegun table pattern depth mark terms search →
      IsSearchIn table pattern depth terms search.question
  begun_in mark search b = record {
    names = b.names;
    processes = b.processes;
    start = b.start;
    pattern_is = b.pattern_is;
    depth_is = b.depth_is;
    terms_is = b.terms_is;
  }

  -- what the first call returns, if the search was begun with this mark
  first_says : (mark : Option (List Label)) (old new : SearchState) (r : Result (Option Found) Halt) → IsBegun table pattern depth mark terms old →
      new.question ≡ old.question → NextReturns old r new → RunningReturns new.question mark r new.cursor new.stage
  first_says mark old new r b same says =
      let at_going : RunningReturns old.question old.cursor r new.cursor new.stage =
      subst (λ s. NextReturnsAt old.question old.cursor s r new.cursor new.stage) b.stage says in
      let at_mark : RunningReturns old.question mark r new.cursor new.stage =
      subst (λ m. RunningReturns old.question m r new.cursor new.stage) b.cursor at_going in
      subst (λ q. RunningReturns q mark r new.cursor new.stage) (sym same) at_mark

  first_in : (mark : Option (List Label)) (old new : SearchState) → IsBegun table pattern depth mark terms old →
      new.question ≡ old.question → IsSearchIn table pattern depth terms new.question
  first_in mark old new b same = subst (IsSearchIn table pattern depth terms) (sym same) (begun_in mark old b)

  pub first_found : (mark : Option (List Label)) (old new : SearchState) (found : Option Found) → IsBegun table pattern depth mark terms old →
      new.question ≡ old.question → NextReturns old (Ok found) new → IsFirstItem table pattern depth terms mark (new, found)
  first_found mark old new found b same says = record {
    question = first_in mark old new b same;
    answers = first_says mark old new (Ok found) b same says;
  }

  pub first_stops : (mark : Option (List Label)) (old new : SearchState) (halt : Halt) → IsBegun table pattern depth mark terms old →
      new.question ≡ old.question → NextReturns old (Err halt) new → IsHaltOf table pattern depth terms mark halt
  first_stops mark old new halt b same says = go halt (first_says mark old new (Err halt) b same says)
    where
      go : (halt : Halt) → RunningReturns new.question mark (Err halt) new.cursor new.stage → IsHaltOf table pattern depth terms mark halt
      go (OverTerms labels) a = record {
        question = new.question;
        search = first_in mark old new b same;
        prefix = a.0.0;
        printed = a.0.1;
        oversized = a.0.2;
      }
      go Memory a = tt
      go Failed a = a

  -- what the second call returns, after an item with the sequence `s`
  second_says : (old new : SearchState) (item : Found) (r : Result (Option Found) Halt) (s : List Label) → old.cursor ≡ Some s → old.stage ≡ running →
      new.question ≡ old.question → NextReturns old r new → RunningReturns new.question (Some s) r new.cursor new.stage
  second_says old new item r s moved goes same says =
      let at_going : RunningReturns old.question old.cursor r new.cursor new.stage =
      subst (λ stage. NextReturnsAt old.question old.cursor stage r new.cursor new.stage) goes says in
      let at_item : RunningReturns old.question (Some s) r new.cursor new.stage =
      subst (λ m. RunningReturns old.question m r new.cursor new.stage) moved at_going in
      subst (λ q. RunningReturns q (Some s) r new.cursor new.stage) (sym same) at_item

  pub second_found : (old new : SearchState) (item : Found) (found : Option Found) → IsFirstItem table pattern depth terms None (old, Some item) →
      new.question ≡ old.question → NextReturns old (Ok found) new → IsSecondItem table pattern depth terms (new, found)
  second_found old new item found first same says =
      let gives = first.answers.0 in record {
        question = subst (IsSearchIn table pattern depth terms) (sym same) first.question;
        answers = inr (
          gives.s,
          gives.run,
          subst (λ q. IsNextItem q None gives.s gives.run) (sym same) gives.item,
          second_says old new item (Ok found) gives.s gives.moved first.answers.1 same says,
        );
      }

  pub none_found : (old : SearchState) → IsFirstItem table pattern depth terms None (old, None) → IsSecondItem table pattern depth terms (old, None)
  none_found old first = record { question = first.question; answers = inl (first.answers.0, refl) }

  pub second_stops : (old new : SearchState) (item : Found) (halt : Halt) → IsFirstItem table pattern depth terms None (old, Some item) →
      new.question ≡ old.question → NextReturns old (Err halt) new → IsSecondHalt table pattern depth terms halt
  second_stops old new item halt first same says = go halt (second_says old new item (Err halt) first.answers.0.s first.answers.0.moved first.answers.1 same
      says)
    where
      go : (halt : Halt) → RunningReturns new.question (Some first.answers.0.s) (Err halt) new.cursor new.stage → IsSecondHalt table pattern depth terms halt
      go (OverTerms labels) a = (
        new.question,
        subst (IsSearchIn table pattern depth terms) (sym same) first.question,
        Some first.answers.0.s,
        after_item first.answers.0.run (subst (λ q. IsNextItem q None first.answers.0.s first.answers.0.run) (sym same) first.answers.0.item),
        a.0.0,
        a.0.1,
        a.0.2,
      )
      go Memory a = tt
      go Failed a = a

  -- a first call that halts is a halt before the second item
  pub within_first : (halt : Halt) → IsHaltOf table pattern depth terms None halt → IsSecondHalt table pattern depth terms halt
  within_first (OverTerms labels) h = (h.question, h.search, None, before, h.prefix, h.printed, h.oversized)
  within_first Memory h = tt
  within_first Failed h = h

  -- a halt of a search after the sequence of a line
  pub after_line : (line : Text) (mark : List Label) (halt : Halt) → MarkOf pattern.strong line mark → IsHaltOf table pattern depth terms (Some mark) halt →
      IsHaltAfter table pattern depth terms line halt
  after_line line mark (OverTerms labels) read h = (mark, read, h)
  after_line line mark Memory read h = tt
  after_line line mark Failed read h = h
