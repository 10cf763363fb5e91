-- The program's order of labels.
use Rattle.std.specs.declared.cmp.Ordering.{Ordering}
use Rattle.lotos_store.specs.declared.label.Label.{Label as TermLabel}
use Rattle.lotos_store.specs.contracts.label.LabelOrd.TheImpl.{ghosts}

abbrev pub CmpOf : TermLabel → TermLabel → Ordering
CmpOf = denote.Param.read (Rattle.std.specs.declared.cmp.Ord.Ghosts.cmp {X-1 = TermLabel}) ghosts
