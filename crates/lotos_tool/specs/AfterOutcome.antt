-- What the command `after` finds, and where it may stop.
use Rattle.std.specs.Prelude.{◌≡◌, ℕ, ◌+◌, ◌<◌, Bool, List, [], MatchBool, None, Option, Some, length, take}
use Rattle.std.specs.declared.string.String.{String}
use Rattle.std.specs.declared.alloc.Global.{Global}
use Rattle.lotos_check.specs.Flat.{System}
use Rattle.lotos_pattern.specs.Spelling.{NamesEach}
use Rattle.lotos_listing.specs.Order.{Label}
use Rattle.lotos_sets.specs.Behaviours.{Behaviour, CanBeObserved, CanComeAfter, CanEndInDeadlock, IsBehaviourOf}
use Rattle.lotos_sets.specs.Behaviours.{IsFirstOversized, IsFollowedTo}
use Rattle.lotos_device.specs.ByteOutput.{IsBeginningOf}
use Rattle.lotos_outcome.specs.Calls.{Answering, Meaning}
use Rattle.lotos_outcome.specs.declared.outcome.Stop.{Stop}
use Rattle.lotos_outcome.specs.declared.outcome.Stop.TheVariants.{Terms, Write}
use Rattle.lotos_output.specs.OutputLines.{IsTextOf, next_lines}
use Rattle.lotos_outcome.specs.QuestionParts.{ReadsAsked, words_of}
use Rattle.lotos_outcome.specs.RefusalCauses.{IsAfterRefusal}
use Rattle.lotos_outcome.specs.UnknownGates.{HasNoUnknownGate}
use Rattle.lotos_tool.specs.declared.findings.Continuation.{Continuation}
use Rattle.lotos_tool.specs.declared.findings.Continuation.TheVariants.{CannotCome, Followed}
use Rattle.lotos_command.specs.declared.command.AfterRequest.{AfterRequest}

-- the question: a behaviour, and the sequence that is followed in it
pub record AfterQuestion : Type 0 where
  pub behaviour : Behaviour
  pub sequence : List Label

-- the request's words name the labels of the sequence, and each gate that they name is one of the system that is asked
pub record IsSequenceOf (request : AfterRequest) (system : System) (s : List Label) : Type 0 where
  pub named : NamesEach request.strong (words_of request.words) s
  pub known_gates : HasNoUnknownGate system.formals (words_of request.words)

-- the question is about the behaviour of this system, with internal steps observed if the request says so, and about
-- the sequence of the request's words
pub record IsAfterQuestionOf (request : AfterRequest) (system : System) (q : AfterQuestion) : Type 0 where
  pub behaviour : IsBehaviourOf system q.behaviour
  pub strong : q.behaviour.strong ≡ request.strong
  pub sequence : IsSequenceOf request system q.sequence

-- what was read for the request: the system that is asked, in which the words name a sequence
pub record AreAfterParts (request : AfterRequest) (left left' : Option (List ℕ)) (system : System) : Type 0 where
  pub read : ReadsAsked request.interface left left' system
  pub named : (s : List Label) × IsSequenceOf request system s

-- the question is about the system that is asked of the text that was read
pub record ReadsAfter (request : AfterRequest) (left left' : Option (List ℕ)) (q : AfterQuestion) : Type 0 where
  pub system : System
  pub read : ReadsAsked request.interface left left' system
  pub asks : IsAfterQuestionOf request system q

module _ (q : AfterQuestion) where
  -- the sequence can be observed, and these are exactly the lines of what can come after it
  pub record AreNextLines (bytes : List ℕ) : Type 0 where
    pub observed : CanBeObserved q.behaviour q.sequence
    pub next : List Label
    pub dead : Bool
    pub comes : CanComeAfter q.behaviour q.sequence next
    pub deadlock : MatchBool dead (CanEndInDeadlock q.behaviour q.sequence)
        (CanEndInDeadlock q.behaviour q.sequence → ⊥)
    pub lines : bytes ≡ next_lines next dead

  -- the labels before the one with this number can be observed, and that one cannot come after them; `instead` is the
  -- text of those that can
  pub record CannotComeAt (number : ℕ) (instead : Option (String Global)) : Type 0 where
    pub before : ℕ
    pub counted : number ≡ before + 1
    pub there : before < length q.sequence
    pub followed : IsFollowedTo q.behaviour q.sequence before
    pub next : List Label
    pub comes : CanComeAfter q.behaviour (take before q.sequence) next
    pub told : IsTextOf next instead

  -- what is found: what can come after the sequence, which is written, or the first of its labels that cannot come, and
  -- then nothing is
  abbrev pub IsContinuation : Continuation → List ℕ → Type 0
  IsContinuation Followed bytes = AreNextLines bytes
  IsContinuation (CannotCome number instead) bytes = CannotComeAt number instead × (bytes ≡ [])

  -- the first so many labels reach more normal forms than the bound, no fewer of them do, and nothing was written; or
  -- the output failed after a beginning of the lines of what can come, perhaps all of them
  abbrev pub IsAfterStop : (bound : ℕ) → Stop → Option ℕ → List ℕ → Type 0
  IsAfterStop bound Terms (Some labels) bytes =
      IsFirstOversized q.behaviour bound q.sequence labels × (bytes ≡ [])
  IsAfterStop bound Write None bytes = (whole : List ℕ) × AreNextLines whole × IsBeginningOf whole bytes
  IsAfterStop bound _ _ bytes = ⊥

-- what `after` may find for the request, and where it may stop, with the request's bound
abbrev pub after_answering : AfterRequest → Answering Continuation (Option ℕ)
after_answering request = record {
  Question = AfterQuestion;
  Answers = IsContinuation;
  Stops = λ q. IsAfterStop q request.terms;
  nowhere = None;
}

-- what `after` does for the request
abbrev pub after_meaning : AfterRequest → Meaning Continuation (Option ℕ)
after_meaning request = record {
  answering = after_answering request;
  Refuses = IsAfterRefusal request;
  Reads = ReadsAfter request;
}
