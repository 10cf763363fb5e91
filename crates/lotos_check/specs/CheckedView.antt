-- The view of a checked specification: its flat system, and the ranks of its processes.
use Rattle.std.specs.Prelude.{ℕ, List, map}
pub use Rattle.lotos_check.specs.FlatOf.{flat_of, process_of}
use Rattle.lotos_check.specs.Flat.{System}
use Rattle.lotos_check.specs.declared.checked.Checked.{Checked}

-- the flat system of a checked specification
abbrev pub system_of : Checked → System
system_of c = record {
  formals = c.gates.items;
  start = flat_of c.start.value;
  processes = map process_of c.processes.items;
}

-- the ranks of the processes, by their numbers
abbrev pub ranks_of : Checked → List ℕ
ranks_of c = c.ranks.items
