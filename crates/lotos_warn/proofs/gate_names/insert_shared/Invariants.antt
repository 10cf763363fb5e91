use Rattle.std.proofs.Common.{map, drop}
use Rattle.lotos_check.specs.NameLists.{In}
use Rattle.lotos_warn.proofs.Additions.{AddsRest}
use Rattle.lotos_warn.proofs.gate_names.insert_shared.Given as goal

abbrev pub invariant-loop-name : goal.invariant-loop-name
invariant-loop-name l =
    AddsRest (map (λ k. k.now) l.fn.into.keys) (map (λ k. k.now) l.into.keys)
    (λ n. In n (map (λ k. k.now) l.others.keys) × In n (map (λ k. k.now) (drop l.name-index l.from)))
    (λ n. In n (map (λ k. k.now) l.others.keys) × In n (map (λ k. k.now) l.from))
