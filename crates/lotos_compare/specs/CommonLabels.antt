-- The labels of two tables that have the same texts.
use Rattle.std.specs.Prelude.{◌≡◌, ◌<◌, ℕ, Bool, true, false, List, MatchOption, Option, None, Some, length, slice_get}
use Rattle.lotos_check.specs.NameLists.{In, Name}
use Rattle.lotos_store.specs.declared.label.Label.{Label as TermLabel}
use Rattle.lotos_store.specs.declared.label.Label.TheVariants as l
use Rattle.lotos_terms.specs.TableView.{IsPrintedAs}
use Rattle.lotos_listing.specs.Lookups.{text_of}

-- the gate is that with this name among the names, or there is none
abbrev pub IsGateNamed : List Name → Name → Option ℕ → Type 0
IsGateNamed names n gate = MatchOption gate (In n names → ⊥) (λ g. slice_get names g ≡ Some n)

-- each gate of the one table has its gate of the other table with the same name, or none
pub record ArePartners (own other : List Name) (partners : List (Option ℕ)) : Type 0 where
  pub each : length partners ≡ length own
  pub named : (g : ℕ) (n : Name) (gate : Option ℕ) → slice_get own g ≡ Some n → slice_get partners g ≡ Some gate →
      IsGateNamed other n gate

-- a label of some gates: termination, the internal action, or one of the gates
abbrev pub IsLabelOver : List Name → TermLabel → Type 0
IsLabelOver names l.Exit = Unit {0}
IsLabelOver names l.Internal = Unit {0}
IsLabelOver names (l.Gate g) = g < length names

-- the label of the other table has the text of this one, or none has
abbrev pub IsPartnerLabel : (own other : List Name) → TermLabel → Option TermLabel → Type 0
IsPartnerLabel own other label found =
    MatchOption found ((m : TermLabel) → IsPrintedAs other m (text_of own label) → ⊥)
    (λ m. IsPrintedAs other m (text_of own label))

-- the label of the gate, if there is one
abbrev pub IsGateLabel : Option ℕ → Option TermLabel → Type 0
IsGateLabel None label = label ≡ None
IsGateLabel (Some g) label = label ≡ Some (l.Gate g)

-- a label of the other list has the text of this one
abbrev pub HasPartner : (own other : List Name) → TermLabel → List TermLabel → Type 0
HasPartner own other label others = (m : TermLabel) × In m others × IsPrintedAs other m (text_of own label)

-- no label of the other list has the text of this one, and one has that of each before it
pub record IsFirstAlone (own other : List Name) (labels others : List TermLabel) (label : TermLabel) : Type 0 where
  pub index : ℕ
  pub here : slice_get labels index ≡ Some label
  pub alone : HasPartner own other label others → ⊥
  pub before : (k : ℕ) (m : TermLabel) → k < index → slice_get labels k ≡ Some m → HasPartner own other m others

-- it is the first label that the other list does not have; if there is none, the other list has each
abbrev pub IsAloneIfAny : (own other : List Name) → (labels others : List TermLabel) → Option TermLabel → Type 0
IsAloneIfAny own other labels others found =
    MatchOption found ((m : TermLabel) → In m labels → HasPartner own other m others)
    (IsFirstAlone own other labels others)

-- the same if it is asked for, and else none
abbrev pub IsAloneIfAsked : (within : Bool) → (own other : List Name) → (labels others : List TermLabel) →
    Option TermLabel → Type 0
IsAloneIfAsked true own other labels others found = found ≡ None
IsAloneIfAsked false own other labels others found = IsAloneIfAny own other labels others found
