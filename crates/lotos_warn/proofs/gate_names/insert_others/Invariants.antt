use Rattle.std.proofs.Common.{map, drop}
use Rattle.lotos_warn.specs.Additions.{IsVisible}
use Rattle.lotos_warn.proofs.Additions.{AddsRest}
use Rattle.lotos_warn.proofs.gate_names.insert_others.Given as goal

abbrev pub invariant-loop-name : goal.invariant-loop-name
invariant-loop-name l =
    AddsRest (map (λ k. k.now) l.fn.into.keys) (map (λ k. k.now) l.into.keys)
    (λ n. IsVisible (map (λ k. k.now) l.hidden.keys) (map (λ k. k.now) (drop l.name-index l.from)) n)
    (λ n. IsVisible (map (λ k. k.now) l.hidden.keys) (map (λ k. k.now) l.from) n)
