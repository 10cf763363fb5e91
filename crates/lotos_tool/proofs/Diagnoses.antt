-- The end of a check with diagnostics, from that of the check of its text.
use Rattle.std.proofs.Common.{◌≡◌, ◌∙◌, ℕ, ◌+◌, List, false, sym}
use Rattle.lotos_text.specs.Limits.{max_text_length}
use Rattle.lotos_check.specs.AcceptedText.{Accepted}
use Rattle.lotos_device.specs.DeviceStates.{SinkState, SourceState}
use Rattle.lotos_device.specs.TextInput.{ReadsAll, TakesWithin}
use Rattle.lotos_outcome.specs.Calls.{Call, EndsAs}
use Rattle.lotos_outcome.specs.Outcomes.{is_unwritten}
use Rattle.lotos_outcome.specs.declared.outcome.Ended.{Ended}
use Rattle.lotos_tool.specs.CheckOutcome.{check_answering, check_meaning}
use Rattle.lotos_outcome.specs.RefusalCauses.{IsTextRefusal}
use Rattle.lotos_outcome.specs.RefusalCauses.IsInputRefusalBy.{of_text}
use Rattle.lotos_tool.specs.declared.findings.Processes.{Processes}
use Rattle.lotos_tool.proofs.CallEnds.{ends_as_more, ends_read}
use Rattle.lotos_outcome.proofs.Rejections.{text_was_read}

-- the text was read, and its check ended so
pub text_called : (from from' : SourceState) (to to' : SinkState) (text : List ℕ) (ended : Ended Processes (Unit {0})) →
    ReadsAll from.remaining from'.remaining max_text_length text → TakesWithin from from' (max_text_length + 1) → from'.has_failed ≡ false →
    EndsAs check_answering (IsTextRefusal text) (Accepted text) to.written to'.written ended → to'.has_failed ≡ is_unwritten ended →
    Call check_meaning from from' to to' ended
text_called from from' to to' text ended read takes unfailed ends output = record {
  ends = ends_as_more check_answering _ _ _ _ _ _ ended (λ cause. of_text text read)
      (λ system accepted. record { text = text; read = read; accepted = accepted }) ends;
  takes = takes;
  input = unfailed ∙ sym (ends_read check_answering _ _ _ _ ended (text_was_read text) ends);
  output = output;
}
