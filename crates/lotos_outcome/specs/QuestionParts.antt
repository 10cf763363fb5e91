-- What a command reads of its words and its text, and the question that they make.
use Rattle.std.specs.Prelude.{◌≡◌, ◌||◌, ℕ, Bool, List, codes, drop, if◌then◌else◌, map, take, Option, None, Some, string_bytes}
use Rattle.std.specs.Str.{bytes_eq}
use Rattle.std.specs.declared.string.String.{String}
use Rattle.std.specs.declared.vec.Vec.{Vec}
use Rattle.std.specs.declared.alloc.Global.{Global}
use Rattle.lotos_text.specs.Limits.{max_text_length}
use Rattle.lotos_check.specs.AcceptedText.{Accepted, AcceptedPair}
use Rattle.lotos_check.specs.Flat.{System}
use Rattle.lotos_pattern.specs.EverPatterns.{word_for_refusal}
use Rattle.lotos_pattern.specs.Patterns.{Pattern}
use Rattle.lotos_pattern.specs.Spelling.{PatternOf}
use Rattle.lotos_listing.specs.Order.{Label}
use Rattle.lotos_listing.specs.Marks.{MarkOf}
use Rattle.lotos_device.specs.TextInput.{ReadsAll}
use Rattle.lotos_command.specs.declared.command.Interface.{Interface}
use Rattle.lotos_outcome.specs.Interfaces.{AreInterfacesOf, IsInterfaceOf}

-- the words of a pattern
abbrev pub words_of : Vec (String Global) Global → List (List ℕ)
words_of words = map string_bytes words.items

-- the words of a pattern of `ever`, each as it would be where the end must refuse a set
abbrev pub ever_words_of : Vec (String Global) Global → List (List ℕ)
ever_words_of words = map word_for_refusal (words_of words)

-- the mark of a line, if one is given, where `Is` says of a line which sequence it has
abbrev pub IsMarkBy : (Is : List ℕ → List Label → Type 0) → Option (String Global) → Option (List Label) → Type 0
IsMarkBy Is None mark = mark ≡ None
IsMarkBy Is (Some line) mark = (s : List Label) × (mark ≡ Some s) × Is (string_bytes line) s

-- the mark of a line of a listing
abbrev pub IsMarkOf : (strong : Bool) → Option (String Global) → Option (List Label) → Type 0
IsMarkOf strong = IsMarkBy (MarkOf strong)

-- the line begins with a sign, `+` or `-`, and a blank
abbrev pub has_sign : List ℕ → Bool
has_sign line = bytes_eq (take 2 line) (codes "+ ") || bytes_eq (take 2 line) (codes "- ")

-- the line without its sign and the blank after it, if it begins with them
abbrev pub without_sign : List ℕ → List ℕ
without_sign line = if has_sign line then drop 2 line else line

-- the sequence of a line of a suite: that of the line without its sign
abbrev pub SignedMarkOf : (strong : Bool) → List ℕ → List Label → Type 0
SignedMarkOf strong line s = MarkOf strong (without_sign line) s

-- the mark of a line of a suite
abbrev pub IsSignedMarkOf : (strong : Bool) → Option (String Global) → Option (List Label) → Type 0
IsSignedMarkOf strong = IsMarkBy (SignedMarkOf strong)

-- all that the reader had left was read, and is a text that is accepted as this
pub record ReadsAs {S : Type 0} (Accepts : List ℕ → S → Type 0) (left left' : Option (List ℕ)) (system : S) : Type 0
  where
    pub text : List ℕ
    pub read : ReadsAll left left' max_text_length text
    pub accepted : Accepts text system

-- all that the reader had left was read, and is accepted as something of which the interface leaves this
pub record ReadsAskedAs {S : Type 0} (Accepts : List ℕ → S → Type 0) (Leaves : Interface → S → S → Type 0)
    (interface : Interface) (left left' : Option (List ℕ)) (system : S) : Type 0 where
  pub own : S
  pub read : ReadsAs Accepts left left' own
  pub asked : Leaves interface own system

-- all that the reader had left was read, and is the text of an accepted specification
abbrev pub ReadsAccepted : (left left' : Option (List ℕ)) → System → Type 0
ReadsAccepted = ReadsAs Accepted

-- and the interface leaves this system of it
abbrev pub ReadsAsked : Interface → (left left' : Option (List ℕ)) → System → Type 0
ReadsAsked = ReadsAskedAs Accepted IsInterfaceOf

-- all that the reader had left was read, and is the text of two accepted specifications, of which the interface leaves
-- these two systems
abbrev pub ReadsAskedPair : Interface → (left left' : Option (List ℕ)) → System × System → Type 0
ReadsAskedPair = ReadsAskedAs AcceptedPair AreInterfacesOf

-- the question is about this system, which is that of the text or what the interface leaves of it, and the words spell
-- this pattern
pub record ReadsQuestion (interface : Interface) (strong : Bool) (words : List (List ℕ)) (left left' : Option (List ℕ))
    (system : System) (p : Pattern) : Type 0 where
  pub read : ReadsAsked interface left left' system
  pub spelled : PatternOf strong words p
