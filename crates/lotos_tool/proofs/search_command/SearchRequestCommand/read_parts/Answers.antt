use Rattle.std.proofs.KnownBytes.{Keeps-refl}
use Rattle.lotos_check.specs.CheckedView.{system_of}
use Rattle.lotos_check.proofs.SameFault.{passed_on}
use Rattle.lotos_outcome.specs.RefusalCauses.{IsSearchRefusal}
use Rattle.lotos_outcome.specs.RefusalCauses.IsSearchRefusal.{of_gates, of_input, of_line, of_words}
use Rattle.lotos_outcome.specs.Rejections.{IsRejectionBy}
use Rattle.lotos_outcome.proofs.Rejections.{nothing_taken, rejects_more}
use Rattle.lotos_tool.proofs.search_command.SearchRequestCommand.read_parts.Goals as goal

pub returns-in_err-pattern-clause-rejected : goal.returns-in_err-pattern-clause-rejected
returns-in_err-pattern-clause-rejected g c =
    let r = c.from_residual in
    passed_on (IsRejectionBy (IsSearchRefusal c.args.self.now _ _)) r.result c.in_err-pattern.field-0.0 r.ensures.1
    (rejects_more _ _ c.in_err-pattern.field-0.0 (λ cause. of_words (Keeps-refl _)) c.in_err-pattern.ensures.rejected)

pub returns-in_err-pattern-clause-takes : goal.returns-in_err-pattern-clause-takes
returns-in_err-pattern-clause-takes g c = nothing_taken _

pub returns-in_err-mark-clause-rejected : goal.returns-in_err-mark-clause-rejected
returns-in_err-mark-clause-rejected g c =
    let r = c.from_residual-in_err-mark in
    passed_on (IsRejectionBy (IsSearchRefusal c.args.self.now _ _)) r.result c.in_err-mark.field-0.0 r.ensures.1
    (rejects_more _ _ c.in_err-mark.field-0.0 (λ cause. of_line (Keeps-refl _) c.in_ok-pattern.pattern c.in_ok-pattern.ensures.pattern)
    c.in_err-mark.ensures.rejected)

pub returns-in_err-mark-clause-takes : goal.returns-in_err-mark-clause-takes
returns-in_err-mark-clause-takes g c = nothing_taken _

pub returns-in_err-system-clause-rejected : goal.returns-in_err-system-clause-rejected
returns-in_err-system-clause-rejected g c =
    let r = c.from_residual-in_err-system in
    passed_on (IsRejectionBy (IsSearchRefusal c.args.self.now _ _)) r.result c.in_err-system.field-0.0 r.ensures.1
    (rejects_more _ _ c.in_err-system.field-0.0 (λ cause. of_input) c.in_err-system.ensures.refused)

pub returns-in_err-refuse_unknown_gates-clause-rejected : goal.returns-in_err-refuse_unknown_gates-clause-rejected
returns-in_err-refuse_unknown_gates-clause-rejected g c =
    let r = c.from_residual-in_err-refuse_unknown_gates in
    let refused = c.in_err-refuse_unknown_gates.ensures in
    passed_on (IsRejectionBy (IsSearchRefusal c.args.self.now _ _)) r.result c.in_err-refuse_unknown_gates.field-0.0 r.ensures.1
    (rejects_more _ _ c.in_err-refuse_unknown_gates.field-0.0
    (λ cause. of_gates refused.asked (system_of c.in_ok-system.system) c.in_ok-pattern.pattern c.in_ok-mark.mark
    (record { read = c.in_ok-system.ensures.accepted; spelled = c.in_ok-pattern.ensures.pattern }) c.in_ok-mark.ensures.mark) refused.rejected)

pub returns-clause-parts : goal.returns-clause-parts
returns-clause-parts g c = record {
  read = record { read = c.in_ok-system.ensures.accepted; spelled = c.in_ok-pattern.ensures.pattern };
  marked = c.in_ok-mark.ensures.mark;
  known_gates = c.in_ok-refuse_unknown_gates.ensures.known;
}
