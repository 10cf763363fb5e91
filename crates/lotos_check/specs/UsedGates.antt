-- The gates that a behaviour of a flat system uses.
use Rattle.std.specs.Prelude.{List, ◌++◌, Option, Some, None}
use Rattle.lotos_check.specs.NameLists.{Name, In}
use Rattle.lotos_check.specs.Flat.{Flat, stop, exit, prefix, choice, par, hide, enable, disable, call}

-- each name of the second list is in the first
abbrev pub AreNamesOf : List Name → List Name → Type 0
AreNamesOf gates names = (n : Name) → In n names → In n gates

-- the gate of a prefix is in the list, unless it is one of the internal action
abbrev pub IsActionOf : List Name → Option Name → Type 0
IsActionOf gates None = Unit {0}
IsActionOf gates (Some n) = In n gates

-- the gates of a parallel expression are in the list, if it is not on all gates
abbrev pub IsSyncOf : List Name → Option (List Name) → Type 0
IsSyncOf gates None = Unit {0}
IsSyncOf gates (Some names) = AreNamesOf gates names

-- each gate that a part of the behaviour uses, in a prefix, a parallel expression or a call, is in the list, or is
-- hidden around the part
abbrev pub UsesOnly : List Name → Flat → Type 0
UsesOnly gates stop = Unit {0}
UsesOnly gates exit = Unit {0}
UsesOnly gates (prefix a b) = IsActionOf gates a × UsesOnly gates b
UsesOnly gates (choice l r) = UsesOnly gates l × UsesOnly gates r
UsesOnly gates (par l s r) = UsesOnly gates l × IsSyncOf gates s × UsesOnly gates r
UsesOnly gates (hide hidden b) = UsesOnly (hidden ++ gates) b
UsesOnly gates (enable l r) = UsesOnly gates l × UsesOnly gates r
UsesOnly gates (disable l r) = UsesOnly gates l × UsesOnly gates r
UsesOnly gates (call k actuals) = AreNamesOf gates actuals
