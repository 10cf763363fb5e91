use Rattle.std.proofs.Common.{[], map, drop}
use Rattle.lotos_warn.proofs.Additions.{AddsRest}
use Rattle.lotos_warn.proofs.RenamedNames.{IsLeftToRename}
use Rattle.lotos_warn.proofs.gate_names.renamed_names.Given as goal

abbrev pub invariant-loop-index : goal.invariant-loop-index
invariant-loop-index l =
    AddsRest [] (map (λ k. k.now) l.renamed.keys)
    (IsLeftToRename (drop l.index l.formals) (drop l.index l.actuals) (map (λ k. k.now) l.seen.keys) (map (λ k. k.now) l.names.keys))
    (IsLeftToRename l.formals l.actuals [] (map (λ k. k.now) l.names.keys))
