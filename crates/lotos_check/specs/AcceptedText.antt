-- Which texts are accepted, as one specification or as two, and with which faults others are rejected.
use Rattle.std.specs.Prelude.{◌≡◌, ◌⊎◌, ℕ, Bool, true, false, List, IsSome, None, Option, length}
use Rattle.lotos_text.specs.AstView.{DefinitionView}
use Rattle.lotos_text.specs.Grammar.{SpellsPair, SpellsSpecification, Spelling}
use Rattle.lotos_text.specs.OffsetsInside.{IsInside, text_offset}
use Rattle.lotos_text.specs.Spelled.{IsSpelled, Spelled, SpelledPair}
use Rattle.lotos_text.specs.TextFaults.{IsFault, IsUnspelled}
use Rattle.lotos_text.specs.declared.fault.TextFault.{TextFault}
use Rattle.lotos_text.specs.declared.fault.TextFault.TheVariants.{E01, E02, E03, E04, E05, E06, E07, E99}
use Rattle.lotos_check.specs.Acceptance.{IsAccepted, IsStaticFault}
use Rattle.lotos_check.specs.FaultOffsets.{offset_of}
use Rattle.lotos_check.specs.Flat.{System}
use Rattle.lotos_check.specs.declared.fault.CheckFault.{CheckFault}
use Rattle.lotos_check.specs.declared.fault.CheckFault.TheVariants as static
use Rattle.lotos_check.specs.declared.accepted_text.AcceptFault.{AcceptFault}
use Rattle.lotos_check.specs.declared.accepted_text.AcceptFault.TheVariants.{Text, Check, Memory}

-- the text spells this specification and no other, whose offsets are inside the text
pub record IsParsed (text : List ℕ) (whole : DefinitionView) : Type 0 where
  pub spelled : Spelled text whole
  pub only : (other : DefinitionView) → Spelled text other → other ≡ whole
  pub inside : IsInside (length text) whole

-- the text spells these two specifications and no others, whose offsets are inside the text
pub record ArePairParsed (text : List ℕ) (both : DefinitionView × DefinitionView) : Type 0 where
  pub spelled : SpelledPair text both
  pub only : (others : DefinitionView × DefinitionView) → SpelledPair text others → others ≡ both
  pub first_inside : IsInside (length text) both.0
  pub second_inside : IsInside (length text) both.1

-- the offset of the fault; a text that is too long and out of memory have none
abbrev pub accept_offset : AcceptFault → Option ℕ
accept_offset (Text fault) = text_offset fault
accept_offset (Check fault) = offset_of fault
accept_offset Memory = None

-- the fault is that memory ran out
abbrev pub is_memory_fault : TextFault → Bool
is_memory_fault (E99 e) = true
is_memory_fault (E01 at) = false
is_memory_fault (E02 at) = false
is_memory_fault E03 = false
is_memory_fault (E04 at) = false
is_memory_fault (E05 at) = false
is_memory_fault (E06 at) = false
is_memory_fault (E07 at) = false

-- the fault of a text for one of its parse
abbrev pub for_text_fault : TextFault → AcceptFault
for_text_fault (E99 e) = Memory
for_text_fault (E01 at) = Text (E01 at)
for_text_fault (E02 at) = Text (E02 at)
for_text_fault E03 = Text E03
for_text_fault (E04 at) = Text (E04 at)
for_text_fault (E05 at) = Text (E05 at)
for_text_fault (E06 at) = Text (E06 at)
for_text_fault (E07 at) = Text (E07 at)

-- the fault of a text for one of its static check
abbrev pub for_check_fault : CheckFault → AcceptFault
for_check_fault (static.E99 e) = Memory
for_check_fault (static.E20 gate) = Check (static.E20 gate)
for_check_fault (static.E21 gate) = Check (static.E21 gate)
for_check_fault (static.E22 name) = Check (static.E22 name)
for_check_fault (static.E23 name formal actual) = Check (static.E23 name formal actual)
for_check_fault (static.E24 name) = Check (static.E24 name)
for_check_fault (static.E25 name declared) = Check (static.E25 name declared)
for_check_fault (static.E26 at) = Check (static.E26 at)
for_check_fault (static.E27 name set) = Check (static.E27 name set)

-- the text spells something that meets the static rules, and this is its flat system, or these are
pub record IsAcceptedAs {V S : Type 0} (Spells : List ℕ → Spelling V) (Accepts : V → S → Type 0) (text : List ℕ)
    (system : S) : Type 0 where
  pub whole : V
  pub spelled : IsSpelled Spells text whole
  pub accepted : Accepts whole system

-- the text spells nothing, and the fault says why; it is never E99
pub record IsTextRejection {V S : Type 0} (Spells : List ℕ → Spelling V) (Accepts : V → S → Type 0) (text : List ℕ)
    (fault : TextFault) : Type 0 where
  pub cause : IsFault Spells text fault
  pub no_memory : is_memory_fault fault ≡ false
  pub nothing : IsUnspelled Spells text
  pub never : (system : S) → IsAcceptedAs Spells Accepts text system → ⊥

module _ {V S : Type 0} (Spells : List ℕ → Spelling V) (Accepts : V → S → Type 0) (Breaks : V → CheckFault → Type 0)
    (text : List ℕ) where
  -- the text spells one thing, and the fault is a static rule that it breaks; it is never E99
  pub record IsCheckRejection (fault : CheckFault) : Type 0 where
    pub whole : V
    pub spelled : IsSpelled Spells text whole
    pub only : (other : V) → IsSpelled Spells text other → other ≡ whole
    pub cause : Breaks whole fault
    pub located : IsSome (offset_of fault)
    pub never : (system : S) → IsAcceptedAs Spells Accepts text system → ⊥

  -- why a text is not accepted, or memory ran out
  abbrev pub IsRejection : AcceptFault → Type 0
  IsRejection (Text fault) = IsTextRejection Spells Accepts text fault
  IsRejection (Check fault) = IsCheckRejection fault
  IsRejection Memory = Unit {0}

-- ---- one specification

-- the text spells a specification that meets the static rules, and this is its flat system
abbrev pub Accepted : List ℕ → System → Type 0
Accepted = IsAcceptedAs SpellsSpecification IsAccepted

-- the text spells no specification, and the fault says why; it is never E99
abbrev pub IsRejectedText : List ℕ → TextFault → Type 0
IsRejectedText = IsTextRejection SpellsSpecification IsAccepted

-- the text spells one specification, and the fault is a static rule that it breaks; it is never E99
abbrev pub IsRejectedSpecification : List ℕ → CheckFault → Type 0
IsRejectedSpecification = IsCheckRejection SpellsSpecification IsAccepted IsStaticFault

-- why a text is not accepted as a specification, or memory ran out
abbrev pub IsRejectedFor : List ℕ → AcceptFault → Type 0
IsRejectedFor = IsRejection SpellsSpecification IsAccepted IsStaticFault

-- ---- two specifications

-- both meet the static rules, and these are their flat systems
pub record AreAccepted (both : DefinitionView × DefinitionView) (systems : System × System) : Type 0 where
  pub first : IsAccepted both.0 systems.0
  pub second : IsAccepted both.1 systems.1

-- the fault is a static rule that the first breaks; or the first breaks none, and it is one that the second breaks
abbrev pub IsStaticFaultOfPair : DefinitionView × DefinitionView → CheckFault → Type 0
IsStaticFaultOfPair both fault =
    IsStaticFault both.0 fault ⊎ (((system : System) × IsAccepted both.0 system) × IsStaticFault both.1 fault)

-- the text spells two specifications that meet the static rules, and these are their flat systems
abbrev pub AcceptedPair : List ℕ → System × System → Type 0
AcceptedPair = IsAcceptedAs SpellsPair AreAccepted

-- why a text is not accepted as two specifications, or memory ran out
abbrev pub IsRejectedForPair : List ℕ → AcceptFault → Type 0
IsRejectedForPair = IsRejection SpellsPair AreAccepted IsStaticFaultOfPair
