-- What the parts of the command `after` return.
use Rattle.std.specs.Prelude.{◌≡◌, ◌≢◌, ℕ, ◌+◌, List}
use Rattle.lotos_check.specs.Flat.{System}
use Rattle.lotos_check.specs.NameLists.{Name}
use Rattle.lotos_listing.specs.Order.{Label}
use Rattle.lotos_listing.specs.Question.{ArePrinted}
use Rattle.lotos_sets.specs.Behaviours.{IsFirstOversized}
use Rattle.lotos_sets.specs.declared.following.Followed.{Followed as Reached}
use Rattle.lotos_sets.specs.declared.follow_fault.FollowFault.{FollowFault}
use Rattle.lotos_sets.specs.declared.follow_fault.FollowFault.TheVariants as fault
use Rattle.lotos_output.specs.OutputLines.{IsTextOf, next_lines}
use Rattle.lotos_tool.specs.AfterOutcome.{AfterQuestion, AreNextLines, CannotComeAt, IsAfterQuestionOf}
use Rattle.lotos_command.specs.declared.command.AfterRequest.{AfterRequest}
use Rattle.lotos_tool.specs.declared.after_command.Answer.{Answer}
use Rattle.lotos_tool.specs.declared.after_command.Answer.TheVariants.{Lines, NoLabel}

-- the answer to the question what can come after the sequence
abbrev pub IsAnswer : AfterQuestion → Answer → Type 0
IsAnswer q (Lines lines) = AreNextLines q lines.items
IsAnswer q (NoLabel number instead) = CannotComeAt q number instead

-- the answer for the sequence of the request's words in the system
abbrev pub HasAnswer : AfterRequest → System → Answer → Type 0
HasAnswer request system answer = (q : AfterQuestion) × IsAfterQuestionOf request system q × IsAnswer q answer

-- why there is no answer: a beginning of the sequence reaches more normal forms than the request allows, or memory ran
-- out
abbrev pub HasNoAnswer : AfterRequest → System → FollowFault → Type 0
HasNoAnswer request system (fault.TooManyTerms labels) = (q : AfterQuestion) × IsAfterQuestionOf request system q
    × IsFirstOversized q.behaviour request.terms q.sequence labels
HasNoAnswer request system fault.Memory = Unit {0}

-- the answer is made of what following a sequence of so many labels returned: if all of them can come, the lines of
-- what can come after them, otherwise the number of the next one, and the text of what can come in its place
abbrev pub IsMadeOf : List Name → Reached → ℕ → Answer → Type 0
IsMadeOf names f count (Lines lines) = (f.length ≡ count) ×
    ((next : List Label) → ArePrinted names f.next.items next → lines.items ≡ next_lines next f.deadlock)
IsMadeOf names f count (NoLabel number instead) = (f.length ≢ count) × (number ≡ f.length + 1) ×
    ((next : List Label) → ArePrinted names f.next.items next → IsTextOf next instead)
