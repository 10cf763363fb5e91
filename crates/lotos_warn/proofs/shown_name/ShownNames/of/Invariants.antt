use Rattle.std.proofs.Common.{◌≡◌, take}
use Rattle.std.specs.Prelude.{string_bytes}
use Rattle.lotos_warn.specs.ShownNames.{shown_names}
use Rattle.lotos_warn.proofs.shown_name.ShownNames.of.Given as goal

abbrev pub invariant-loop-index : goal.invariant-loop-index
invariant-loop-index l = string_bytes l.text ≡ shown_names (take l.index l.names)
