use Rattle.std.proofs.Common.{map, drop}
use Rattle.lotos_check.specs.NameLists.{In}
use Rattle.lotos_warn.proofs.Additions.{AddsRest}
use Rattle.lotos_warn.proofs.exchanged_gates.insert_each.Given as goal

abbrev pub invariant-loop-name : goal.invariant-loop-name
invariant-loop-name l =
    AddsRest (map (λ k. k.now) l.fn.into.keys) (map (λ k. k.now) l.into.keys)
    (λ n. In n (drop l.name-index l.names)) (λ n. In n l.names)
