use Rattle.std.proofs.Common.{◌≡◌, map, take}
use Rattle.lotos_pattern.specs.Spelling.{texts_of}
use Rattle.lotos_pattern.specs.ExactPatterns.{label_element}
use Rattle.lotos_pattern.specs.ElementView.{elements_of}
use Rattle.lotos_pattern.proofs.element.label_elements.Given as goal

-- there is an element for each label before the index
abbrev pub invariant-loop-label : goal.invariant-loop-label
invariant-loop-label l = elements_of l.elements.items ≡ map label_element (take l.label-index (texts_of l.labels))
