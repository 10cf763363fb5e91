-- The order of warnings: by their offsets; at one offset by their kinds, the left side before the right one; then by
-- their names.
use Rattle.std.specs.Prelude.{ℕ}
use Rattle.std.specs.Ordering.{nat_cmp, on, then_cmp}
use Rattle.std.specs.declared.cmp.Ordering.{Ordering}
use Rattle.std.specs.Cmp.{IsTotalOrder, then_total, on_total, nat_cmp_total}
use Rattle.std.specs.Cmp.Lexicographic.{slice_cmp, nat_list_cmp_total}
use Rattle.lotos_check.specs.NameLists.{Name}
use Rattle.lotos_warn.specs.declared.warning.Side.{Side}
use Rattle.lotos_warn.specs.declared.warning.Side.TheVariants.{Left, Right}
use Rattle.lotos_warn.specs.declared.warning.Warning.{Warning}
use Rattle.lotos_warn.specs.declared.warning.Warning.TheVariants.{UncalledProcess, UnreachedProcess, NeverExits, DeadStart, UnusedGate, UnofferedGate, UnusedHidden, UnsynchronizedHidden, ExchangedGates}

-- the offset of a warning: that of its process, its specification or its gate
abbrev pub offset_of : Warning → ℕ
offset_of (UncalledProcess process) = process.at
offset_of (UnreachedProcess process) = process.at
offset_of (NeverExits name) = name.at
offset_of (DeadStart name) = name.at
offset_of (UnusedGate gate definition) = gate.at
offset_of (UnofferedGate gate side) = gate.at
offset_of (UnusedHidden gate) = gate.at
offset_of (UnsynchronizedHidden gate) = gate.at
offset_of (ExchangedGates process own) = process.at

-- a number for each side: the left one is before the right one
abbrev pub side_rank : Side → ℕ
side_rank Left = 5
side_rank Right = 6

-- a number for each kind, and for each side
abbrev pub rank_of : Warning → ℕ
rank_of (UncalledProcess process) = 0
rank_of (UnreachedProcess process) = 1
rank_of (NeverExits name) = 2
rank_of (DeadStart name) = 3
rank_of (UnusedGate gate definition) = 4
rank_of (UnofferedGate gate side) = side_rank side
rank_of (UnusedHidden gate) = 7
rank_of (UnsynchronizedHidden gate) = 8
rank_of (ExchangedGates process own) = 9

-- the name that a warning is about: that of its process, its specification or its gate
abbrev pub subject_of : Warning → Name
subject_of (UncalledProcess process) = process.name
subject_of (UnreachedProcess process) = process.name
subject_of (NeverExits name) = name.name
subject_of (DeadStart name) = name.name
subject_of (UnusedGate gate definition) = gate.name
subject_of (UnofferedGate gate side) = gate.name
subject_of (UnusedHidden gate) = gate.name
subject_of (UnsynchronizedHidden gate) = gate.name
subject_of (ExchangedGates process own) = process.name

-- the name of a warning's definition or the formal gates of its process as they are shown, or again the name that it is
-- about
abbrev pub context_of : Warning → Name
context_of (UncalledProcess process) = process.name
context_of (UnreachedProcess process) = process.name
context_of (NeverExits name) = name.name
context_of (DeadStart name) = name.name
context_of (UnusedGate gate definition) = definition
context_of (UnofferedGate gate side) = gate.name
context_of (UnusedHidden gate) = gate.name
context_of (UnsynchronizedHidden gate) = gate.name
context_of (ExchangedGates process own) = own

-- the order of warnings: by their offsets, then by their kinds and sides, then by the names that they are about, then
-- by those of their definitions
abbrev pub warning_cmp : Warning → Warning → Ordering
warning_cmp = then_cmp (on offset_of nat_cmp) (then_cmp (on rank_of nat_cmp)
    (then_cmp (on subject_of (slice_cmp nat_cmp)) (on context_of (slice_cmp nat_cmp))))

-- it is total
pub warning_total : IsTotalOrder warning_cmp
warning_total = then_total (on_total offset_of nat_cmp_total) (then_total (on_total rank_of nat_cmp_total)
    (then_total (on_total subject_of nat_list_cmp_total) (on_total context_of nat_list_cmp_total)))
