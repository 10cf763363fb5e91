-- What each refusal means: of a text, of the input, of words, and of each command.
use Rattle.std.specs.Prelude.{◌≡◌, ℕ, ◌+◌, Bool, true, false, List, Option, None, Some, string_bytes}
use Rattle.std.specs.Io.KnownBytes.{Keeps}
use Rattle.std.specs.declared.string.String.{String}
use Rattle.std.specs.declared.alloc.Global.{Global}
use Rattle.lotos_text.specs.Grammar.{SpellsPair, SpellsSpecification, Spelling}
use Rattle.lotos_text.specs.Limits.{max_text_length}
use Rattle.lotos_text.specs.OffsetsInside.{text_offset}
use Rattle.lotos_text.specs.Position.{IsPosition}
use Rattle.lotos_text.specs.TextFaults.{IsFault}
use Rattle.lotos_text.specs.Spelled.{IsSpelled}
use Rattle.lotos_text.specs.declared.fault.TextFault.{TextFault}
use Rattle.lotos_text.specs.declared.fault.TextFault.TheVariants.{E03}
use Rattle.lotos_check.specs.Acceptance.{IsAccepted, IsStaticFault}
use Rattle.lotos_check.specs.AcceptedText.{Accepted, AcceptedPair, AreAccepted, IsAcceptedAs, IsStaticFaultOfPair}
use Rattle.lotos_check.specs.AcceptedText.{is_memory_fault}
use Rattle.lotos_check.specs.Flat.{System}
use Rattle.lotos_check.specs.NameLists.{Name}
use Rattle.lotos_check.specs.FaultOffsets.{offset_of}
use Rattle.lotos_check.specs.declared.fault.CheckFault.{CheckFault}
use Rattle.lotos_pattern.specs.Patterns.{Pattern}
use Rattle.lotos_pattern.specs.Spelling.{NamesEach, PatternOf}
use Rattle.lotos_pattern.specs.PatternFaults.{IsCause}
use Rattle.lotos_pattern.specs.declared.fault.PatternFault.{PatternFault}
use Rattle.lotos_pattern.specs.declared.fault.PatternFault.TheVariants as pattern
use Rattle.lotos_listing.specs.Order.{Label}
use Rattle.lotos_listing.specs.Marks.{MarkOf}
use Rattle.lotos_listing.specs.declared.fault.MarkFault.TheVariants as mark_fault
use Rattle.lotos_device.specs.TextInput.{ReadsAll, TakesAtMost, TakesExactly}
use Rattle.lotos_command.specs.declared.command.AfterRequest.{AfterRequest}
use Rattle.lotos_command.specs.declared.command.CoverRequest.{CoverRequest}
use Rattle.lotos_command.specs.declared.command.EverRequest.{EverRequest}
use Rattle.lotos_command.specs.declared.command.Interface.{Interface}
use Rattle.lotos_command.specs.declared.command.SearchRequest.{SearchRequest}
use Rattle.lotos_command.specs.declared.command.SuiteRequest.{SuiteRequest}
use Rattle.lotos_pattern.specs.LabelWords.{IsWordCause}
use Rattle.lotos_pattern.specs.declared.label_words.WordFault.TheVariants.{Internal, NoLabel}
use Rattle.lotos_outcome.specs.Interfaces.{IsFirstNoGate, gates_of_both, names_given}
use Rattle.lotos_outcome.specs.QuestionParts.{IsMarkOf, ReadsAs, ReadsAsked, ReadsQuestion, SignedMarkOf, ever_words_of, words_of}
use Rattle.lotos_outcome.specs.UnknownGates.{IsFirstUnknownGate}
use Rattle.lotos_outcome.specs.declared.refusal.Refusal.{Refusal}
use Rattle.lotos_outcome.specs.declared.refusal.Refusal.TheVariants as refusal

-- the position of an offset, if there is one
abbrev pub IsPositionOf : List ℕ → Option ℕ → Option (ℕ × ℕ) → Type 0
IsPositionOf text None position = position ≡ None
IsPositionOf text (Some at) position = (line column : ℕ) × (position ≡ Some (line, column))
    × IsPosition text at line column

module _ {V S : Type 0} (Spells : List ℕ → Spelling V) (Accepts : V → S → Type 0) (Breaks : V → CheckFault → Type 0)
    (text : List ℕ) where
  -- the text spells nothing, and this fault at this position says why; it is never that memory ran out
  pub record IsTextFault (fault : TextFault) (position : Option (ℕ × ℕ)) : Type 0 where
    pub cause : IsFault Spells text fault
    pub no_memory : is_memory_fault fault ≡ false
    pub placed : IsPositionOf text (text_offset fault) position
    pub never : (system : S) → IsAcceptedAs Spells Accepts text system → ⊥

  -- the text spells what breaks this static rule at this position, and is not accepted
  pub record IsCheckFault (fault : CheckFault) (line column : ℕ) : Type 0 where
    pub whole : V
    pub at : ℕ
    pub spells : IsSpelled Spells text whole
    pub cause : Breaks whole fault
    pub located : offset_of fault ≡ Some at
    pub placed : IsPosition text at line column
    pub never : (system : S) → IsAcceptedAs Spells Accepts text system → ⊥

  -- the text spells nothing, or what breaks a static rule
  pub data IsRefusalOf : Refusal → Type 0 where
    spells_none : (fault : TextFault) (position : Option (ℕ × ℕ)) → IsTextFault fault position →
        IsRefusalOf (refusal.Text fault position)
    breaks_rule : (fault : CheckFault) (line column : ℕ) → IsCheckFault fault line column →
        IsRefusalOf (refusal.Check fault line column)

-- ---- what is refused of a text

-- the text spells no specification, or one that breaks a static rule
abbrev pub IsTextRefusal : List ℕ → Refusal → Type 0
IsTextRefusal = IsRefusalOf SpellsSpecification IsAccepted IsStaticFault

-- the text spells no two specifications, or one of the two breaks a static rule
abbrev pub IsPairRefusal : List ℕ → Refusal → Type 0
IsPairRefusal = IsRefusalOf SpellsPair AreAccepted IsStaticFaultOfPair

-- this is the first of the names that is no gate of the list
pub data IsNameRefusal (gates : List Name) (names : List (List ℕ)) : Refusal → Type 0 where
  no_gate : (name : String Global) → IsFirstNoGate gates names (string_bytes name) →
      IsNameRefusal gates names (refusal.E52 name)

-- ---- what is refused of the input

-- the input is longer than a text may be, or it cannot be read
pub data IsUnreadInput (left left' : Option (List ℕ)) : Refusal → Type 0 where
  too_long : TakesExactly left left' (max_text_length + 1) → IsUnreadInput left left' (refusal.Text E03 None)
  unreadable : TakesAtMost left left' max_text_length → IsUnreadInput left left' refusal.E47

-- all that the reader had left was read, and refused as a text; or it was not read as one
pub data IsInputRefusalBy (Refuses : List ℕ → Refusal → Type 0) (left left' : Option (List ℕ)) (cause : Refusal)
    : Type 0 where
  of_text : (text : List ℕ) → ReadsAll left left' max_text_length text → Refuses text cause →
      IsInputRefusalBy Refuses left left' cause
  unread : IsUnreadInput left left' cause → IsInputRefusalBy Refuses left left' cause

-- the same, for a text that is to be one specification
abbrev pub IsInputRefusal : (left left' : Option (List ℕ)) → Refusal → Type 0
IsInputRefusal = IsInputRefusalBy IsTextRefusal

module _ {S : Type 0} (Refuses : List ℕ → Refusal → Type 0) (Accepts : List ℕ → S → Type 0) (gates : S → List Name)
    (interface : Interface) where
  -- the text is refused, or accepted with an interface that names no gate of its own lists
  pub data IsAskedRefusalBy (text : List ℕ) (cause : Refusal) : Type 0 where
    of_text : Refuses text cause → IsAskedRefusalBy text cause
    of_interface : (own : S) → Accepts text own → IsNameRefusal (gates own) (names_given interface) cause →
        IsAskedRefusalBy text cause

  -- the input is refused, or accepted with an interface that names no gate of its own lists
  pub data IsInterfaceRefusalBy (left left' : Option (List ℕ)) (cause : Refusal) : Type 0 where
    of_input : IsInputRefusalBy Refuses left left' cause → IsInterfaceRefusalBy left left' cause
    of_interface : (own : S) → ReadsAs Accepts left left' own →
        IsNameRefusal (gates own) (names_given interface) cause → IsInterfaceRefusalBy left left' cause

-- what is refused of a text that is to be one specification, and of an interface that names no gate of its own list
abbrev pub IsAskedRefusal : Interface → (text : List ℕ) → Refusal → Type 0
IsAskedRefusal = IsAskedRefusalBy IsTextRefusal Accepted (λ own. own.formals)

-- the same of the input
abbrev pub IsInterfaceRefusal : Interface → (left left' : Option (List ℕ)) → Refusal → Type 0
IsInterfaceRefusal = IsInterfaceRefusalBy IsTextRefusal Accepted (λ own. own.formals)

-- what is refused of a text that is to be two specifications, and of an interface that names a gate of neither list
abbrev pub IsAskedPairRefusal : Interface → (text : List ℕ) → Refusal → Type 0
IsAskedPairRefusal = IsAskedRefusalBy IsPairRefusal AcceptedPair gates_of_both

-- the same of the input
abbrev pub IsPairInterfaceRefusal : Interface → (left left' : Option (List ℕ)) → Refusal → Type 0
IsPairInterfaceRefusal = IsInterfaceRefusalBy IsPairRefusal AcceptedPair gates_of_both

-- ---- what is refused of words

-- the fault is that memory ran out
abbrev pub is_memory : PatternFault → Bool
is_memory (pattern.E99 e) = true
is_memory _ = false

-- the words spell no pattern, for this cause, which is never that memory ran out
pub data IsPatternRefusal (strong : Bool) (words : List (List ℕ)) : Refusal → Type 0 where
  spells_no_pattern : (fault : PatternFault) → IsCause strong words fault → is_memory fault ≡ false →
      ((p : Pattern) → PatternOf strong words p → ⊥) → IsPatternRefusal strong words (refusal.Pattern fault)

-- the line has no sequence, where `Is` says of a line which it has
pub data IsMarkRefusalBy (Is : List ℕ → List Label → Type 0) (line : Option (String Global)) : Refusal → Type 0 where
  no_line : (text : String Global) → line ≡ Some text → ((s : List Label) → Is (string_bytes text) s → ⊥) →
      IsMarkRefusalBy Is line (refusal.Mark mark_fault.E46)

-- the line is not one of a listing
abbrev pub IsMarkRefusal : (strong : Bool) → Option (String Global) → Refusal → Type 0
IsMarkRefusal strong = IsMarkRefusalBy (MarkOf strong)

-- the line is not one of a suite
abbrev pub IsSignedMarkRefusal : (strong : Bool) → Option (String Global) → Refusal → Type 0
IsSignedMarkRefusal strong = IsMarkRefusalBy (SignedMarkOf strong)

-- the words do not each name a label, for this cause
pub data IsWordRefusal (strong : Bool) (words : List (List ℕ)) : Refusal → Type 0 where
  no_label : (n : ℕ) → IsWordCause strong words (NoLabel n) → ((s : List Label) → NamesEach strong words s → ⊥) →
      IsWordRefusal strong words (refusal.E41 n)
  internal : (n : ℕ) → IsWordCause strong words (Internal n) → ((s : List Label) → NamesEach strong words s → ⊥) →
      IsWordRefusal strong words (refusal.E45 n)

-- the word with this number, counted from 1, is the first that names a gate other than these
pub data IsGateRefusal (gates : List Name) (words : List (List ℕ)) : Refusal → Type 0 where
  unknown_gate : (n : ℕ) → IsFirstUnknownGate gates words n → IsGateRefusal gates words (refusal.E49 n)

-- ---- what each command refuses, in the order in which it looks; nothing was read where words or a line are refused

-- `search`: words that spell no pattern, a line that is none of a listing, the text and the interface, and words that
-- name a gate that the system that is asked has not, if the request refuses that
pub data IsSearchRefusal (request : SearchRequest) (left left' : Option (List ℕ)) (cause : Refusal) : Type 0 where
  of_words : Keeps left left' → IsPatternRefusal request.strong (words_of request.words) cause →
      IsSearchRefusal request left left' cause
  of_line : Keeps left left' → (p : Pattern) → PatternOf request.strong (words_of request.words) p →
      IsMarkRefusal request.strong request.after cause → IsSearchRefusal request left left' cause
  of_input : IsInterfaceRefusal request.interface left left' cause → IsSearchRefusal request left left' cause
  of_gates : request.known ≡ true → (system : System) (p : Pattern) (mark : Option (List Label)) →
      ReadsQuestion request.interface request.strong (words_of request.words) left left' system p →
      IsMarkOf request.strong request.after mark → IsGateRefusal system.formals (words_of request.words) cause →
      IsSearchRefusal request left left' cause

-- `ever`: words that spell no pattern, the text and the interface, and words that name a gate that the system that is
-- asked has not
pub data IsEverRefusal (request : EverRequest) (left left' : Option (List ℕ)) (cause : Refusal) : Type 0 where
  of_words : Keeps left left' → IsPatternRefusal request.strong (ever_words_of request.words) cause →
      IsEverRefusal request left left' cause
  of_input : IsInterfaceRefusal request.interface left left' cause → IsEverRefusal request left left' cause
  of_gates : (system : System) (p : Pattern) →
      ReadsQuestion request.interface request.strong (ever_words_of request.words) left left' system p →
      IsGateRefusal system.formals (words_of request.words) cause → IsEverRefusal request left left' cause

-- `after`: words that do not each name a label, the text and the interface, and words that name a gate that the system
-- that is asked has not
pub data IsAfterRefusal (request : AfterRequest) (left left' : Option (List ℕ)) (cause : Refusal) : Type 0 where
  of_words : Keeps left left' → IsWordRefusal request.strong (words_of request.words) cause →
      IsAfterRefusal request left left' cause
  of_input : IsInterfaceRefusal request.interface left left' cause → IsAfterRefusal request left left' cause
  of_gates : (system : System) (s : List Label) → ReadsAsked request.interface left left' system →
      NamesEach request.strong (words_of request.words) s → IsGateRefusal system.formals (words_of request.words) cause
      → IsAfterRefusal request left left' cause

-- `cover`: a line that is none of a listing, and the text and the interface
pub data IsCoverRefusal (request : CoverRequest) (left left' : Option (List ℕ)) (cause : Refusal) : Type 0 where
  of_line : Keeps left left' → IsMarkRefusal request.strong request.after cause →
      IsCoverRefusal request left left' cause
  of_input : IsInterfaceRefusal request.interface left left' cause → IsCoverRefusal request left left' cause

-- `suite`: a line that is none of a suite, and the text and the interface
pub data IsSuiteRefusal (request : SuiteRequest) (left left' : Option (List ℕ)) (cause : Refusal) : Type 0 where
  of_line : Keeps left left' → IsSignedMarkRefusal request.strong request.after cause →
      IsSuiteRefusal request left left' cause
  of_input : IsInterfaceRefusal request.interface left left' cause → IsSuiteRefusal request left left' cause
