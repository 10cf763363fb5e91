-- Which findings are what was asked for.
use Rattle.std.specs.Prelude.{◌==◌, Bool, true, false, not}
use Rattle.lotos_tool.specs.declared.findings.Compared.{Compared}
use Rattle.lotos_tool.specs.declared.findings.Compared.TheVariants.{Alike, Differ}
use Rattle.lotos_tool.specs.declared.findings.Continuation.{Continuation}
use Rattle.lotos_tool.specs.declared.findings.Continuation.TheVariants.{CannotCome, Followed}
use Rattle.lotos_tool.specs.declared.findings.Listed.{Listed}
use Rattle.lotos_tool.specs.declared.findings.Occurrence.{Occurrence}
use Rattle.lotos_tool.specs.declared.findings.Occurrence.TheVariants.{Ever, Never}

-- the listing has lines
abbrev pub has_lines : Listed → Bool
has_lines found = not (found.lines == 0)

-- what is found is what was asked for, whatever it is: a specification that is accepted, or an automaton
abbrev pub always : {F : Type 0} → F → Bool
always found = true

-- there is a match
abbrev pub happens : Occurrence → Bool
happens Ever = true
happens Never = false

-- each label of the sequence can come
abbrev pub can_come : Continuation → Bool
can_come Followed = true
can_come (CannotCome number instead) = false

-- the two specifications do not differ
abbrev pub are_alike : Compared → Bool
are_alike Differ = false
are_alike (Alike pairs) = true
