use Rattle.std.proofs.Common.{refl}
use Rattle.std.proofs.KnownBytes.{Keeps-refl}
use Rattle.lotos_check.specs.CheckedView.{system_of}
use Rattle.lotos_check.proofs.SameFault.{passed_on}
use Rattle.lotos_outcome.specs.RefusalCauses.{IsAfterRefusal}
use Rattle.lotos_outcome.specs.RefusalCauses.IsAfterRefusal.{of_gates, of_input, of_words}
use Rattle.lotos_outcome.specs.Rejections.{IsRejectionBy, word_rejection}
use Rattle.lotos_outcome.proofs.Rejections.{nothing_taken, rejects_more, word_rejected_for}
use Rattle.lotos_tool.proofs.after_command.AfterRequestCommand.read_parts.Goals as goal

pub returns-in_err-check_label_words-clause-rejected : goal.returns-in_err-check_label_words-clause-rejected
returns-in_err-check_label_words-clause-rejected g c =
    let r = c.from_residual in
    let f = c.in_err-check_label_words.field-0.0 in
    passed_on (IsRejectionBy (IsAfterRefusal c.args.self.now _ _)) r.result (word_rejection f) r.ensures.1
    (rejects_more _ _ (word_rejection f) (λ cause. of_words (Keeps-refl _))
    (word_rejected_for _ _ f (rw c.as_slice.ensures.value at c.in_err-check_label_words.ensures.cause)
    (rw c.as_slice.ensures.value at c.in_err-check_label_words.ensures.nothing)))

pub returns-in_err-check_label_words-clause-takes : goal.returns-in_err-check_label_words-clause-takes
returns-in_err-check_label_words-clause-takes g c = nothing_taken _

pub returns-in_err-system-clause-rejected : goal.returns-in_err-system-clause-rejected
returns-in_err-system-clause-rejected g c =
    let r = c.from_residual-in_err-system in
    passed_on (IsRejectionBy (IsAfterRefusal c.args.self.now _ _)) r.result c.in_err-system.field-0.0 r.ensures.1
    (rejects_more _ _ c.in_err-system.field-0.0 (λ cause. of_input) c.in_err-system.ensures.refused)

pub returns-in_err-refuse_unknown_gates-clause-rejected : goal.returns-in_err-refuse_unknown_gates-clause-rejected
returns-in_err-refuse_unknown_gates-clause-rejected g c =
    let r = c.from_residual-in_err-refuse_unknown_gates in
    let (s, named) = rw c.as_slice.ensures.value at c.in_ok-check_label_words.ensures.named in
    passed_on (IsRejectionBy (IsAfterRefusal c.args.self.now _ _)) r.result c.in_err-refuse_unknown_gates.field-0.0 r.ensures.1
    (rejects_more _ _ c.in_err-refuse_unknown_gates.field-0.0
    (λ cause. of_gates (system_of c.in_ok-system.system) s c.in_ok-system.ensures.accepted named) c.in_err-refuse_unknown_gates.ensures.rejected)

pub returns-clause-parts : goal.returns-clause-parts
returns-clause-parts g c =
    let (s, named) = rw c.as_slice.ensures.value at c.in_ok-check_label_words.ensures.named in record {
      read = c.in_ok-system.ensures.accepted;
      named = (s, record { named = named; known_gates = c.in_ok-refuse_unknown_gates.ensures.known refl });
    }
