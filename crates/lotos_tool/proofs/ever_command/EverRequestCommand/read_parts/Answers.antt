use Rattle.std.proofs.Common.{refl}
use Rattle.std.proofs.KnownBytes.{Keeps-refl}
use Rattle.lotos_check.specs.CheckedView.{system_of}
use Rattle.lotos_check.proofs.SameFault.{passed_on}
use Rattle.lotos_outcome.specs.RefusalCauses.{IsEverRefusal}
use Rattle.lotos_outcome.specs.RefusalCauses.IsEverRefusal.{of_gates, of_input, of_words}
use Rattle.lotos_outcome.specs.Rejections.{IsRejectionBy}
use Rattle.lotos_outcome.proofs.Rejections.{nothing_taken, rejects_more}
use Rattle.lotos_tool.proofs.ever_command.EverRequestCommand.read_parts.Goals as goal

pub returns-in_err-pattern-clause-rejected : goal.returns-in_err-pattern-clause-rejected
returns-in_err-pattern-clause-rejected g c =
    let r = c.from_residual in
    passed_on (IsRejectionBy (IsEverRefusal c.args.self.now _ _)) r.result c.in_err-pattern.field-0.0 r.ensures.1
    (rejects_more _ _ c.in_err-pattern.field-0.0 (λ cause. of_words (Keeps-refl _)) c.in_err-pattern.ensures.rejected)

pub returns-in_err-pattern-clause-takes : goal.returns-in_err-pattern-clause-takes
returns-in_err-pattern-clause-takes g c = nothing_taken _

pub returns-in_err-system-clause-rejected : goal.returns-in_err-system-clause-rejected
returns-in_err-system-clause-rejected g c =
    let r = c.from_residual-in_err-system in
    passed_on (IsRejectionBy (IsEverRefusal c.args.self.now _ _)) r.result c.in_err-system.field-0.0 r.ensures.1
    (rejects_more _ _ c.in_err-system.field-0.0 (λ cause. of_input) c.in_err-system.ensures.refused)

pub returns-in_err-refuse_unknown_gates-clause-rejected : goal.returns-in_err-refuse_unknown_gates-clause-rejected
returns-in_err-refuse_unknown_gates-clause-rejected g c =
    let r = c.from_residual-in_err-refuse_unknown_gates in
    passed_on (IsRejectionBy (IsEverRefusal c.args.self.now _ _)) r.result c.in_err-refuse_unknown_gates.field-0.0 r.ensures.1
    (rejects_more _ _ c.in_err-refuse_unknown_gates.field-0.0
    (λ cause. of_gates (system_of c.in_ok-system.system) c.in_ok-pattern.pattern.pattern
    (record { read = c.in_ok-system.ensures.accepted; spelled = c.in_ok-pattern.ensures.pattern })) c.in_err-refuse_unknown_gates.ensures.rejected)

pub returns-clause-parts : goal.returns-clause-parts
returns-clause-parts g c = record {
  read = record { read = c.in_ok-system.ensures.accepted; spelled = c.in_ok-pattern.ensures.pattern };
  kind = c.in_ok-pattern.ensures.kind;
  known_gates = c.in_ok-refuse_unknown_gates.ensures.known refl;
}
