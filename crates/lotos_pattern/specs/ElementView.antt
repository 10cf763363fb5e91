-- The views of the program's elements and patterns, and the invariant of patterns.
use Rattle.std.specs.Prelude.{◌≤◌, Bool, List, All, length, map}
use Rattle.std.specs.Borrow.{Bor}
use Rattle.std.specs.String.{string_bytes}
use Rattle.lotos_pattern.specs.PatternLabels.{Label}
use Rattle.lotos_pattern.specs.Patterns.{Element, LabelSet, OnlyLastDemandsRefusal, IsObservable, Pattern, Segment, one, others, refuses, these, until, until_refuses, while}
use Rattle.lotos_pattern.specs.declared.element.Element.{Element as CodeElement}
use Rattle.lotos_pattern.specs.declared.element.Element.TheVariants as code
use Rattle.lotos_pattern.specs.declared.label_set.LabelSet.{LabelSet as CodeLabelSet}
use Rattle.lotos_pattern.specs.declared.label_set.LabelSet.TheVariants as code_set

-- the set of labels that a value of the program is
abbrev pub set_of : CodeLabelSet → LabelSet
set_of (code_set.These labels) = these (map string_bytes labels.items)
set_of (code_set.Others labels) = others (map string_bytes labels.items)

-- the set of labels that a lent value of the program is
abbrev pub lent_set_of : Bor CodeLabelSet → LabelSet
lent_set_of set = set_of set.now

-- the view of an element
abbrev pub element_of : CodeElement → Element
element_of (code.One set) = one (set_of set)
element_of (code.Until set) = until (set_of set)
element_of (code.While set) = while (set_of set)
element_of (code.Refuses set) = refuses (set_of set)
element_of (code.UntilRefuses set) = until_refuses (set_of set)

-- the views of elements
abbrev pub elements_of : List CodeElement → List Element
elements_of = map element_of

-- the pattern of these elements
abbrev pub pattern_of : (strong : Bool) → List Element → Pattern
pattern_of strong elements = record { elements = elements; strong = strong }

-- some segment of the element can be observed
abbrev pub CanOccur : (strong : Bool) → Element → Type 0
CanOccur strong e = (s : List Label) × Segment e s × All (IsObservable strong) s

-- the invariant of patterns
pub record IsPattern (p : Pattern) : Type 0 where
  pub ends_last : OnlyLastDemandsRefusal p.elements
  pub observable : All (CanOccur p.strong) p.elements
  pub short : length p.elements ≤ 256
