-- The answer to whether a pattern has a match, for the request and the text.
use Rattle.std.proofs.Common.{◌≡◌, ℕ, List, [], None, Option, Some, inl, refl, subst, sym}
use Rattle.std.proofs.KnownBytes.{Appends-nil, Keeps-refl}
use Rattle.std.specs.declared.vec.Vec.{Vec}
use Rattle.std.specs.declared.alloc.Global.{Global}
use Rattle.lotos_check.specs.Flat.{System}
use Rattle.lotos_pattern.specs.declared.ever_pattern.EverPattern.{EverPattern}
use Rattle.lotos_ever.specs.declared.found.Halt.{Halt}
use Rattle.lotos_ever.specs.declared.found.Halt.TheVariants as halt
use Rattle.lotos_outcome.specs.Calls.{Answered}
use Rattle.lotos_outcome.specs.declared.outcome.Ended.{Ended}
use Rattle.lotos_outcome.specs.declared.outcome.Ended.TheVariants.{Stopped}
use Rattle.lotos_output.specs.WholeOutput.{EndsWhole}
use Rattle.lotos_tool.specs.EverOutcome.{AreEverParts, EverQuestion, ReadsEver, ever_answering}
use Rattle.lotos_tool.specs.EverParts.{HasLine, HasNoLine, IsEverQuestionFor, cause_of_halt}
use Rattle.lotos_tool.specs.declared.findings.Occurrence.{Occurrence}
use Rattle.lotos_tool.specs.declared.findings.Occurrence.TheVariants.{Ever, Never}
use Rattle.lotos_command.specs.declared.command.EverRequest.{EverRequest}
use Rattle.lotos_tool.proofs.CallEnds.{whole_ends}

-- a question about the system and the pattern that were read is one that the request asks of the text
pub asks_ever : (request : EverRequest) (left left' : Option (List ℕ)) (system : System) (p : EverPattern) → AreEverParts request left left' system p →
    (q : EverQuestion) → IsEverQuestionFor system p q → ReadsEver request left left' q
asks_ever request left left' system p parts q asked = record {
  system = system;
  parts = subst (AreEverParts request left left' system) (sym asked.pattern) parts;
  question = asked.question;
}

module _ (request : EverRequest) (system : System) (p : EverPattern) (got got' : Option (List ℕ)) where
  -- the line of a match, or a beginning of it, was written
  pub line_written : (line : Vec ℕ Global) (bytes : List ℕ) (ended : Ended Occurrence (Option Occurrence)) → bytes ≡ line.items →
      HasLine request system p (Some line) → EndsWhole bytes Ever (Some Ever) got got' ended →
      Answered (ever_answering request) (IsEverQuestionFor system p) got got' ended
  line_written line bytes ended same (q, asked, is) h =
      whole_ends (ever_answering request) (IsEverQuestionFor system p) q line.items Ever (Some Ever) got got' ended asked is
      (λ part begun. (line.items, is, begun)) (subst (λ bs. EndsWhole bs Ever (Some Ever) got got' ended) same h)

  -- there is no match, and nothing was written
  pub never_written : (bytes : List ℕ) (ended : Ended Occurrence (Option Occurrence)) → bytes ≡ [] → HasLine request system p None →
      EndsWhole bytes Never (Some Never) got got' ended → Answered (ever_answering request) (IsEverQuestionFor system p) got got' ended
  never_written bytes ended none (q, asked, never) h =
      whole_ends (ever_answering request) (IsEverQuestionFor system p) q bytes Never (Some Never) got got' ended asked (never, none)
      (λ part begun. (bytes, (never, none), begun)) h

-- the search halted, and nothing was written
pub halted : (request : EverRequest) (system : System) (p : EverPattern) (got : Option (List ℕ)) (h : Halt) → HasNoLine request system p h →
    Answered (ever_answering request) (IsEverQuestionFor system p) got got (Stopped (cause_of_halt h) None)
halted request system p got halt.TooManyStates (q, asked, over) =
    record { question = q; bytes = []; asked = asked; said = (over, refl); written = Appends-nil got }
halted request system p got halt.Memory over = inl (refl, Keeps-refl got)
