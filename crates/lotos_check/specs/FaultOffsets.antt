-- The offsets of faults.
use Rattle.std.specs.Prelude.{ℕ, ◌≤◌, Option, Some, None, IfSome}
use Rattle.lotos_check.specs.declared.fault.CheckFault.{CheckFault}
use Rattle.lotos_check.specs.declared.fault.CheckFault.TheVariants.{E20, E21, E22, E23, E24, E25, E26, E27, E99}

-- the offset of the fault's name or of its `>>`; E99 has none
abbrev pub offset_of : CheckFault → Option ℕ
offset_of (E20 gate) = Some gate.at
offset_of (E21 gate) = Some gate.at
offset_of (E22 name) = Some name.at
offset_of (E23 name formal actual) = Some name.at
offset_of (E24 name) = Some name.at
offset_of (E25 name declared) = Some name.at
offset_of (E26 at) = Some at
offset_of (E27 name set) = Some name.at
offset_of (E99 e) = None

-- the offset of the fault is inside a text of this length, or at its end
abbrev pub IsOffsetWithin : ℕ → CheckFault → Type 0
IsOffsetWithin n fault = IfSome (offset_of fault) (λ at. at ≤ n)
