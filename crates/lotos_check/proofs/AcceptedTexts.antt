-- A fault of a text says that it is not accepted, whatever it is to spell.
use Rattle.std.proofs.Common.{◌≡◌, ◌≤◌, ◌⊎◌, inl, inr, ℕ, List, false, subst, refl}
use Rattle.std.specs.Prelude.{IfSome, IsSome, length}
use Rattle.lotos_text.specs.Grammar.{SpellsPair, SpellsSpecification, Spelling}
use Rattle.lotos_text.specs.OffsetsInside.{IsFaultInside}
use Rattle.lotos_text.specs.TextFaults.{IsFault, SpellsNothing}
use Rattle.lotos_text.specs.declared.fault.TextFault.{TextFault}
use Rattle.lotos_text.specs.declared.fault.TextFault.TheVariants as text_fault
use Rattle.lotos_text.specs.AstView.{DefinitionView}
use Rattle.lotos_text.specs.Spelled.{IsSpelled}
use Rattle.lotos_check.specs.Acceptance.{IsAccepted, IsNotAccepted, IsStaticFault}
use Rattle.lotos_check.specs.AcceptedText.{AreAccepted, ArePairParsed, IsAcceptedAs, IsCheckRejection, IsParsed, IsRejectedFor, IsRejectedForPair, IsRejection, IsStaticFaultOfPair, IsTextRejection, accept_offset, for_check_fault, for_text_fault, is_memory_fault}
use Rattle.lotos_check.specs.FaultOffsets.{IsOffsetWithin, offset_of}
use Rattle.lotos_check.specs.Flat.{System}
use Rattle.lotos_check.specs.declared.fault.CheckFault.{CheckFault}
use Rattle.lotos_check.specs.declared.fault.CheckFault.TheVariants.{E20, E21, E22, E23, E24, E25, E26, E27, E99}

-- the offset of the fault of a text is that of the fault of its parse
pub text_inside : (n : ℕ) (fault : TextFault) → IsFaultInside n fault → IfSome (accept_offset (for_text_fault fault)) (λ at. at ≤ n)
text_inside n (text_fault.E99 e) h = tt
text_inside n (text_fault.E01 at) h = h
text_inside n (text_fault.E02 at) h = h
text_inside n text_fault.E03 h = tt
text_inside n (text_fault.E04 at) h = h
text_inside n (text_fault.E05 at) h = h
text_inside n (text_fault.E06 at) h = h
text_inside n (text_fault.E07 at) h = h

-- the offset of the fault of a text is that of the fault of its static check
pub check_inside : (n : ℕ) (fault : CheckFault) → IsOffsetWithin n fault → IfSome (accept_offset (for_check_fault fault)) (λ at. at ≤ n)
check_inside n (E99 e) h = tt
check_inside n (E20 gate) h = h
check_inside n (E21 gate) h = h
check_inside n (E22 name) h = h
check_inside n (E23 name formal actual) h = h
check_inside n (E24 name) h = h
check_inside n (E25 name declared) h = h
check_inside n (E26 at) h = h
check_inside n (E27 name set) h = h

module _ {V S : Type 0} (Spells : List ℕ → Spelling V) (Accepts : V → S → Type 0) (Breaks : V → CheckFault → Type 0) (text : List ℕ) where
  -- a text that spells nothing, for this cause, is rejected for it
  unspelled : (fault : TextFault) → IsFault Spells text fault → is_memory_fault fault ≡ false →
      ((whole : V) → IsSpelled Spells text whole → ⊥) → IsTextRejection Spells Accepts text fault
  unspelled fault cause no_memory nothing = record {
    cause = cause;
    no_memory = no_memory;
    nothing = nothing;
    never = λ system a. nothing a.whole a.spelled;
  }

  -- the fault of a text for one of its parse says why it is rejected
  pub rejected_text : (fault : TextFault) → IsFault Spells text fault → SpellsNothing Spells text fault →
      IsRejection Spells Accepts Breaks text (for_text_fault fault)
  rejected_text (text_fault.E99 e) cause h = tt
  rejected_text (text_fault.E01 at) cause h = unspelled (text_fault.E01 at) cause refl h
  rejected_text (text_fault.E02 at) cause h = unspelled (text_fault.E02 at) cause refl h
  rejected_text text_fault.E03 cause h = unspelled text_fault.E03 cause refl h
  rejected_text (text_fault.E04 at) cause h = unspelled (text_fault.E04 at) cause refl h
  rejected_text (text_fault.E05 at) cause h = unspelled (text_fault.E05 at) cause refl h
  rejected_text (text_fault.E06 at) cause h = unspelled (text_fault.E06 at) cause refl h
  rejected_text (text_fault.E07 at) cause h = unspelled (text_fault.E07 at) cause refl h

  -- what is found out about the only thing that the text spells, if a static rule is broken
  pub record IsBroken (fault : CheckFault) : Type 0 where
    pub whole : V
    pub spelled : IsSpelled Spells text whole
    pub only : (other : V) → IsSpelled Spells text other → other ≡ whole
    pub cause : Breaks whole fault
    pub refused : IsSome (offset_of fault) → (system : S) → Accepts whole system → ⊥

  -- so the text is rejected for this rule
  broken_rejection : (fault : CheckFault) → IsBroken fault → IsSome (offset_of fault) → IsCheckRejection Spells Accepts Breaks text fault
  broken_rejection fault broken located = record {
    whole = broken.whole;
    spelled = broken.spelled;
    only = broken.only;
    cause = broken.cause;
    located = located;
    never = λ system a. broken.refused located system (subst (λ w. Accepts w system) (broken.only a.whole a.spelled) a.accepted);
  }

  -- the fault of a text for one of its static check says why it is rejected
  pub rejected_check : (fault : CheckFault) → IsBroken fault → IsRejection Spells Accepts Breaks text (for_check_fault fault)
  rejected_check (E99 e) broken = tt
  rejected_check (E20 gate) broken = broken_rejection (E20 gate) broken refl
  rejected_check (E21 gate) broken = broken_rejection (E21 gate) broken refl
  rejected_check (E22 name) broken = broken_rejection (E22 name) broken refl
  rejected_check (E23 name formal actual) broken = broken_rejection (E23 name formal actual) broken refl
  rejected_check (E24 name) broken = broken_rejection (E24 name) broken refl
  rejected_check (E25 name declared) broken = broken_rejection (E25 name declared) broken refl
  rejected_check (E26 at) broken = broken_rejection (E26 at) broken refl
  rejected_check (E27 name set) broken = broken_rejection (E27 name set) broken refl

-- a fault with an offset says that the specification is not accepted
not_accepted : (whole : DefinitionView) (fault : CheckFault) → IsNotAccepted whole fault → IsSome (offset_of fault) → (system : System) →
    IsAccepted whole system → ⊥
not_accepted whole (E99 e) h s system a = absurd (let t = s in cc)
not_accepted whole (E20 gate) h s system a = h system a
not_accepted whole (E21 gate) h s system a = h system a
not_accepted whole (E22 name) h s system a = h system a
not_accepted whole (E23 name formal actual) h s system a = h system a
not_accepted whole (E24 name) h s system a = h system a
not_accepted whole (E25 name declared) h s system a = h system a
not_accepted whole (E26 at) h s system a = h system a
not_accepted whole (E27 name set) h s system a = h system a

module _ (text : List ℕ) where
  -- a text is rejected for the static rule that its specification breaks
  pub rejected_specification : (whole : DefinitionView) (fault : CheckFault) → IsParsed text whole → IsStaticFault whole fault →
      IsNotAccepted whole fault → IsRejectedFor text (for_check_fault fault)
  rejected_specification whole fault parsed cause refused = rejected_check SpellsSpecification IsAccepted IsStaticFault text fault (record {
    whole = whole;
    spelled = parsed.spelled;
    only = parsed.only;
    cause = cause;
    refused = λ located system a. not_accepted whole fault refused located system a;
  })

  -- a text of two specifications is rejected for the static rule that the first breaks
  pub rejected_first : (both : DefinitionView × DefinitionView) (fault : CheckFault) → ArePairParsed text both → IsStaticFault both.0 fault →
      IsNotAccepted both.0 fault → IsRejectedForPair text (for_check_fault fault)
  rejected_first both fault parsed cause refused = rejected_check SpellsPair AreAccepted IsStaticFaultOfPair text fault (record {
    whole = both;
    spelled = parsed.spelled;
    only = parsed.only;
    cause = inl cause;
    refused = λ located systems a. not_accepted both.0 fault refused located systems.0 a.first;
  })

  -- and for the one that the second breaks, if the first is accepted
  pub rejected_second : (both : DefinitionView × DefinitionView) (system : System) (fault : CheckFault) → ArePairParsed text both →
      IsAccepted both.0 system → IsStaticFault both.1 fault → IsNotAccepted both.1 fault → IsRejectedForPair text (for_check_fault fault)
  rejected_second both system fault parsed accepted cause refused = rejected_check SpellsPair AreAccepted IsStaticFaultOfPair text fault (record {
    whole = both;
    spelled = parsed.spelled;
    only = parsed.only;
    cause = inr ((system, accepted), cause);
    refused = λ located systems a. not_accepted both.1 fault refused located systems.1 a.second;
  })
