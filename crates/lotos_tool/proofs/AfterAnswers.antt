-- The answer to what can come after a sequence.
use Rattle.std.proofs.Common.{◌≡◌, ℕ, List, [], Err, None, Ok, Option, Result, Some, length, take, refl, sym, subst, arith}
use Rattle.std.proofs.KnownBytes.{Appends-nil}
use Rattle.std.specs.declared.string.String.{String}
use Rattle.std.specs.declared.vec.Vec.{Vec}
use Rattle.std.specs.declared.alloc.Global.{Global}
use Rattle.std.specs.Prelude.{IfErr, MatchBool}
use Rattle.std.proofs.lemmas.List.{take_all}
use Rattle.lotos_check.specs.Flat.{System}
use Rattle.lotos_check.specs.NameLists.{Name}
use Rattle.lotos_pattern.specs.Patterns.{Pattern}
use Rattle.lotos_listing.specs.Lookups.{term_at}
use Rattle.lotos_listing.specs.Order.{Label}
use Rattle.lotos_terms.specs.TableView.{TableView}
use Rattle.lotos_runs.specs.MatchQuestions.{IsMatchQuestionOf, match_question_of}
use Rattle.lotos_sets.specs.FormSets.{FormSetsView}
use Rattle.lotos_sets.specs.Behaviours.{Behaviour, CanBeObserved, CanComeAfter, CanEndInDeadlock, IsBehaviourOf, IsFirstOversized, behaviour_of}
use Rattle.lotos_sets.specs.Following.{IfTooMany, IsFollowed}
use Rattle.lotos_sets.specs.declared.following.Followed.{Followed}
use Rattle.lotos_sets.specs.declared.follow_fault.FollowFault.{FollowFault}
use Rattle.lotos_sets.specs.declared.follow_fault.FollowFault.TheVariants as fault
use Rattle.lotos_outcome.specs.Calls.{Answered}
use Rattle.lotos_outcome.specs.declared.outcome.Ended.{Ended}
use Rattle.lotos_outcome.specs.declared.outcome.Ended.TheVariants.{Done, Stopped}
use Rattle.lotos_outcome.specs.declared.outcome.Stop.TheVariants.{Terms}
use Rattle.lotos_output.specs.WholeOutput.{EndsWhole}
use Rattle.lotos_tool.specs.AfterOutcome.{AfterQuestion, AreAfterParts, IsAfterQuestionOf, ReadsAfter, after_answering}
use Rattle.lotos_tool.specs.AfterParts.{HasAnswer, HasNoAnswer, IsAnswer, IsMadeOf}
use Rattle.lotos_tool.specs.declared.findings.Continuation.{Continuation}
use Rattle.lotos_tool.specs.declared.findings.Continuation.TheVariants.{CannotCome, Followed as Written}
use Rattle.lotos_tool.specs.declared.after_command.Answer.{Answer}
use Rattle.lotos_tool.specs.declared.after_command.Answer.TheVariants.{Lines, NoLabel}
use Rattle.lotos_command.specs.declared.command.AfterRequest.{AfterRequest}
use Rattle.lotos_tool.proofs.CallEnds.{whole_ends}

-- the sets of a table of the system are those of its behaviour
pub behaviour_is : (system : System) (table : TableView) (p : Pattern) (v : FormSetsView) → IsMatchQuestionOf system (match_question_of table p) →
    v.table ≡ table →
    v.start ≡ table.start → IsBehaviourOf system (behaviour_of v)
behaviour_is system table p v is same begins =
    let now : behaviour_of v ≡ record { names = table.names; processes = table.processes; start = term_at table.terms table.start; strong = v.strong } = λ i.
    record { names = (same i).names; processes = (same i).processes; start = term_at ((same i).terms) (begins i); strong = v.strong } in
    subst (IsBehaviourOf system) (sym now) (record { named = is.named; gates = is.gates; processes = is.processes; start = is.start })

-- the answer that is made of what following the sequence returned
pub answered : (b : Behaviour) (s : List Label) (f : Followed) (names : List Name) (count : ℕ) → IsFollowed b s f → names ≡ b.names → count ≡ length s →
    (a : Answer) → IsMadeOf names f count a → IsAnswer (record { behaviour = b; sequence = s }) a
answered b s f names count followed same long (Lines lines) (all, is) =
    let whole : take f.length s ≡ s = take_all f.length s (omega arith) in
    record {
      observed = subst (CanBeObserved b) whole followed.to.observed;
      next = followed.texts;
      dead = f.deadlock;
      comes = subst (λ r. CanComeAfter b r followed.texts) whole followed.next;
      deadlock = subst (λ r. MatchBool f.deadlock (CanEndInDeadlock b r) (CanEndInDeadlock b r → ⊥)) whole followed.deadlock;
      lines = is followed.texts (rw same followed.printed);
    }
answered b s f names count followed same long (NoLabel number instead) (fewer, counted, told) =
    record {
      before = f.length;
      counted = counted;
      there = let within = followed.to.within in let other = fewer in omega arith;
      followed = followed.to;
      next = followed.texts;
      comes = followed.next;
      told = told followed.texts (rw same followed.printed);
    }

-- what is too many for all texts of the labels is so for those of the sequence
pub too_many_here : (f : FollowFault) (P Q : ℕ → Type 0) → ((n : ℕ) → P n → Q n) → IfTooMany f P → IfTooMany f Q
too_many_here (fault.TooManyTerms n) P Q more over = more n over
too_many_here fault.Memory P Q more over = tt

-- why there is no answer
pub no_answer : (request : AfterRequest) (system : System) (b : Behaviour) (s : List Label) (bound : ℕ) →
    IsAfterQuestionOf request system (record { behaviour = b; sequence = s }) → bound ≡ request.terms → (f : FollowFault) →
    IfTooMany f (IsFirstOversized b bound s) → HasNoAnswer request system f
no_answer request system b s bound asked same (fault.TooManyTerms n) over =
    (record { behaviour = b; sequence = s }, asked, subst (λ k. IsFirstOversized b k s n) same over)
no_answer request system b s bound asked same fault.Memory over = tt

-- a result that says why there is no answer
pub err_more : {T : Type 0} (r : Result T FollowFault) (P Q : FollowFault → Type 0) → ((f : FollowFault) → P f → Q f) → IfErr r P → IfErr r Q
err_more (Ok value) P Q more h = tt
err_more (Err f) P Q more h = more f h

module _ (request : AfterRequest) (system : System) where
  -- the lines of what can come, or a beginning of them, were written
  pub lines_written : (lines : Vec ℕ Global) (bytes : List ℕ) (got got' : Option (List ℕ)) (ended : Ended Continuation (Option ℕ)) → bytes ≡ lines.items →
      HasAnswer request system (Lines lines) → EndsWhole bytes Written None got got' ended →
      Answered (after_answering request) (IsAfterQuestionOf request system) got got' ended
  lines_written lines bytes got got' ended same (q, asked, are) h =
      whole_ends (after_answering request) (IsAfterQuestionOf request system) q lines.items Written None got got' ended asked are
      (λ part begun. (lines.items, are, begun)) (subst (λ bs. EndsWhole bs Written None got got' ended) same h)

  -- a label cannot come, and nothing was written
  pub label_refused : (number : ℕ) (instead : Option (String Global)) (got : Option (List ℕ)) → HasAnswer request system (NoLabel number instead) →
      Answered (after_answering request) (IsAfterQuestionOf request system) got got (Done (CannotCome number instead))
  label_refused number instead got (q, asked, at) =
      record { question = q; bytes = []; asked = asked; said = (at, refl); written = Appends-nil got }

  -- a beginning of the sequence reaches too many normal forms, and nothing was written
  pub too_many : (labels : ℕ) (got : Option (List ℕ)) (ended : Ended Continuation (Option ℕ)) → ended ≡ Stopped Terms (Some labels) →
      HasNoAnswer request system (fault.TooManyTerms labels) → Answered (after_answering request) (IsAfterQuestionOf request system) got got ended
  too_many labels got ended is (q, asked, over) =
      subst (Answered (after_answering request) (IsAfterQuestionOf request system) got got) (sym is)
      (record { question = q; bytes = []; asked = asked; said = (over, refl); written = Appends-nil got })

-- a question about the system that was read is one that the request asks of the text
pub asks_after : (request : AfterRequest) (left left' : Option (List ℕ)) (system : System) → AreAfterParts request left left' system →
    (q : AfterQuestion) → IsAfterQuestionOf request system q → ReadsAfter request left left' q
asks_after request left left' system parts q is = record { system = system; read = parts.read; asks = is }
