-- The position of a text's fault.
use Rattle.std.specs.Prelude.{◌≡◌, ℕ, ◌<◌, List, Some, length}
use Rattle.lotos_text.specs.Position.{IsPosition}
use Rattle.lotos_text.specs.Limits.{max_text_length}
use Rattle.lotos_check.specs.AcceptedText as check
use Rattle.lotos_check.specs.AcceptedText.{IsRejectedFor, accept_offset}
use Rattle.lotos_check.specs.Flat.{System}
use Rattle.lotos_check.specs.declared.accepted_text.AcceptFault.{AcceptFault}
use Rattle.uses.specs.declared.fault_position.Verdict.{Verdict}
use Rattle.uses.specs.declared.fault_position.Verdict.TheVariants.{Accepted, TooLong, Faulty}

-- the text spells a specification that meets the static rules
abbrev pub IsAcceptedText : List ℕ → Type 0
IsAcceptedText text = (system : System) × check.Accepted text system

-- the line and the column are those of the offset of a fault of the text
pub record IsFaultPosition (text : List ℕ) (line column : ℕ) : Type 0 where
  pub at : ℕ
  pub fault : AcceptFault
  pub cause : IsRejectedFor text fault
  pub located : accept_offset fault ≡ Some at
  pub place : IsPosition text at line column

-- what each verdict means: the text is accepted; or it is not, because it is too long; or it is not, and has a fault at
-- this line and column
abbrev pub IsVerdict : List ℕ → Verdict → Type 0
IsVerdict text Accepted = IsAcceptedText text
IsVerdict text TooLong = (max_text_length < length text) × (IsAcceptedText text → ⊥)
IsVerdict text (Faulty line column) = IsFaultPosition text line column × (IsAcceptedText text → ⊥)
