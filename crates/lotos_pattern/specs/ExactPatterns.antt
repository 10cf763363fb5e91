-- The elements of a pattern that matches one sequence alone.
use Rattle.std.specs.Prelude.{List, [], ◌∷◌, ◌++◌, Option, None, Some, map}
use Rattle.lotos_pattern.specs.PatternLabels.{Label}
use Rattle.lotos_pattern.specs.Patterns.{Element, LabelSet, one, refuses, these}

-- one label, which is this one
abbrev pub label_element : Label → Element
label_element l = one (these (l ∷ []))

-- the elements after the last label: the demand, if there is one, that the end refuses a set
abbrev pub end_elements : Option LabelSet → List Element
end_elements None = []
end_elements (Some set) = refuses set ∷ []

-- the elements that match the sequence alone, and demand that the end refuses the set, if there is one
abbrev pub exact_elements : Option LabelSet → List Label → List Element
exact_elements refused s = map label_element s ++ end_elements refused
