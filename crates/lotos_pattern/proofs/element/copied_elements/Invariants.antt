use Rattle.std.proofs.Common.{◌≡◌, take}
use Rattle.lotos_pattern.specs.ElementView.{elements_of}
use Rattle.lotos_pattern.proofs.element.copied_elements.Given as goal

-- the elements before the index are copied
abbrev pub invariant-loop-element : goal.invariant-loop-element
invariant-loop-element l = elements_of l.copy.items ≡ take l.element-index (elements_of l.elements)
