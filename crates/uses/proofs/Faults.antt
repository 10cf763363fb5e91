-- Texts that are not accepted.
use Rattle.std.proofs.Common.{◌≡◌, ℕ, List, Option, None}
use Rattle.std.specs.Prelude.{◌<◌, IsSome, Some, length}
use Rattle.lotos_text.specs.Limits.{max_text_length}
use Rattle.lotos_text.specs.OffsetsInside.{text_offset}
use Rattle.lotos_text.specs.Position.{IsPosition}
use Rattle.lotos_text.specs.declared.fault.TextFault.{TextFault}
use Rattle.lotos_text.specs.declared.fault.TextFault.TheVariants as text_fault
use Rattle.lotos_check.specs.AcceptedText.{IsRejectedFor, IsRejectedSpecification, IsRejectedText, accept_offset}
use Rattle.lotos_check.specs.FaultOffsets.{offset_of}
use Rattle.lotos_check.specs.declared.accepted_text.AcceptFault.{AcceptFault}
use Rattle.lotos_check.specs.declared.accepted_text.AcceptFault.TheVariants.{Check, Memory, Text}
use Rattle.lotos_check.specs.declared.fault.CheckFault.{CheckFault}
use Rattle.uses.specs.FaultPositions.{IsAcceptedText, IsFaultPosition}

-- a text with a fault at an offset is not accepted
not_accepted : (text : List ℕ) (fault : AcceptFault) (at : ℕ) → IsRejectedFor text fault → accept_offset fault ≡ Some at → IsAcceptedText text → ⊥
not_accepted text (Text fault) at h e a = h.never a.0 a.1
not_accepted text (Check fault) at h e a = h.never a.0 a.1
not_accepted text Memory at h e a = absurd cc

-- the fault's position, and that the text is not accepted
pub placed : (text : List ℕ) (fault : AcceptFault) (at line column : ℕ) → IsRejectedFor text fault → accept_offset fault ≡ Some at →
    IsPosition text at line column → IsFaultPosition text line column × (IsAcceptedText text → ⊥)
placed text fault at line column h e place =
    (record { at = at; fault = fault; cause = h; located = e; place = place }, not_accepted text fault at h e)

-- a fault of the text without an offset says that it is too long
pub too_long : (text : List ℕ) (fault : TextFault) → IsRejectedText text fault → text_offset fault ≡ None →
    (max_text_length < length text) × (IsAcceptedText text → ⊥)
too_long text (text_fault.E99 e) h u = absurd (let m = h.no_memory in cc)
too_long text (text_fault.E01 at) h u = absurd cc
too_long text (text_fault.E02 at) h u = absurd cc
too_long text text_fault.E03 h u = (h.cause, λ a. h.never a.0 a.1)
too_long text (text_fault.E04 at) h u = absurd cc
too_long text (text_fault.E05 at) h u = absurd cc
too_long text (text_fault.E06 at) h u = absurd cc
too_long text (text_fault.E07 at) h u = absurd cc

-- a fault of the static check has an offset
pub check_unplaced : (text : List ℕ) (fault : CheckFault) → IsRejectedSpecification text fault → offset_of fault ≡ None → ⊥
check_unplaced text fault h u = none_some (offset_of fault) h.located u
  where
    none_some : (o : Option ℕ) → IsSome o → o ≡ None → ⊥
    none_some None s e = let l = s in cc
    none_some (Some at) s e = cc
