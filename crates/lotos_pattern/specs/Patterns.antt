-- What a pattern is, and which sequences of labels it matches.
use Rattle.std.specs.Prelude.{◌≡◌, ◌≢◌, Bool, true, false, List, [], ◌∷◌, ◌++◌, Option, None, Some, MatchOption, All}
use Rattle.std.specs.Prelude.{Contains}
use Rattle.lotos_pattern.specs.PatternLabels.{Label, internal}

-- the list is the concatenation of one part for each of the items, in turn
abbrev pub IsJoin : {E X : Type 0} → (E → List X → Type 0) → List E → List X → Type 0
IsJoin Part [] xs = xs ≡ []
IsJoin {E} {X} Part (e ∷ es) xs = (front : List X) × (rest : List X) × Part e front × IsJoin Part es rest
    × (xs ≡ front ++ rest)

-- a set of labels: these labels, or all labels but these
pub data LabelSet : Type 0 where
  these : List Label → LabelSet
  others : List Label → LabelSet

-- the label is in the set
abbrev pub IsIn : Label → LabelSet → Type 0
IsIn l (these labels) = Contains labels l
IsIn l (others labels) = Contains labels l → ⊥

-- an element of a pattern, by the labels that it matches: one label of the set; any number of labels outside of it, and
-- then one of it; any number, all of it; none, and the end must refuse the set; any number, and the end must refuse it
pub data Element : Type 0 where
  one : LabelSet → Element
  until : LabelSet → Element
  while : LabelSet → Element
  refuses : LabelSet → Element
  until_refuses : LabelSet → Element

-- the sequence is a segment of the element: labels that it matches
abbrev pub Segment : Element → List Label → Type 0
Segment (one set) s = (l : Label) × IsIn l set × (s ≡ l ∷ [])
Segment (until set) s = (before : List Label) × (l : Label) × All (λ x. IsIn x set → ⊥) before × IsIn l set ×
    (s ≡ before ++ l ∷ [])
Segment (while set) s = All (λ x. IsIn x set) s
Segment (refuses set) s = s ≡ []
Segment (until_refuses set) s = Unit {0}

-- the label can be observed: any label if internal steps are observed (`--strong`), otherwise any but the internal
-- action (ISO; the flag is own)
abbrev pub IsObservable : (strong : Bool) → Label → Type 0
IsObservable true l = Unit {0}
IsObservable false l = l ≢ internal

-- a pattern: its elements in order, and whether internal steps are observed
pub record Pattern : Type 0 where
  pub elements : List Element
  pub strong : Bool

-- the sequence is one segment for each of the pattern's elements in turn, and all its labels can be observed
pub record Matches (p : Pattern) (s : List Label) : Type 0 where
  pub joined : IsJoin Segment p.elements s
  pub observable : All (IsObservable p.strong) s

-- some sequence that the pattern matches starts with `r`
abbrev pub Viable : Pattern → List Label → Type 0
Viable p r = (s : List Label) × Matches p (r ++ s)

-- the set that the end must refuse, if the element demands that
abbrev pub refusal_of : Element → Option LabelSet
refusal_of (one set) = None
refusal_of (until set) = None
refusal_of (while set) = None
refusal_of (refuses set) = Some set
refusal_of (until_refuses set) = Some set

-- the set that the end must refuse, if the last of the elements demands that
abbrev pub last_refusal : List Element → Option LabelSet
last_refusal [] = None
last_refusal (e ∷ []) = refusal_of e
last_refusal (e ∷ f ∷ p) = last_refusal (f ∷ p)

-- the set that the end of a matched sequence must refuse, if the pattern demands that
abbrev pub refusal : Pattern → Option LabelSet
refusal p = last_refusal p.elements

-- there is a set that the end must refuse
abbrev pub IsDemanded : Option LabelSet → Type 0
IsDemanded demanded = MatchOption demanded ⊥ (λ set. Unit {0})

-- the end of a matched sequence must refuse a set
abbrev pub DemandsRefusal : Pattern → Type 0
DemandsRefusal p = IsDemanded (refusal p)

-- no element but the last demands that the end refuses a set
abbrev pub OnlyLastDemandsRefusal : List Element → Type 0
OnlyLastDemandsRefusal [] = Unit {0}
OnlyLastDemandsRefusal (e ∷ []) = Unit {0}
OnlyLastDemandsRefusal (e ∷ f ∷ p) = (IsDemanded (refusal_of e) → ⊥) × OnlyLastDemandsRefusal (f ∷ p)
