use Rattle.std.proofs.Common.{map, drop}
use Rattle.lotos_warn.proofs.SharedNames.{KeepsRest}
use Rattle.lotos_warn.proofs.gate_names.remove_unshared.Given as goal

abbrev pub invariant-loop-name : goal.invariant-loop-name
invariant-loop-name l = record {
  first : KeepsRest (map (λ k. k.now) l.fn.first.keys) (map (λ k. k.now) l.first.keys) (map (λ k. k.now) l.fn.second.keys) (map (λ k. k.now) l.second.keys)
      (drop l.name-index l.list) l.list;
  second : KeepsRest (map (λ k. k.now) l.fn.second.keys) (map (λ k. k.now) l.second.keys) (map (λ k. k.now) l.fn.first.keys) (map (λ k. k.now) l.first.keys)
      (drop l.name-index l.list) l.list;
}
