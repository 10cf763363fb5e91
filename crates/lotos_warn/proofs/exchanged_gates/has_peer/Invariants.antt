use Rattle.std.proofs.Common.{ℕ, ◌<◌, map}
use Rattle.lotos_check.specs.NameLists.{In}
use Rattle.lotos_warn.specs.CallSites.{IsPeerAt, site_of}
use Rattle.lotos_warn.proofs.exchanged_gates.has_peer.Given as goal

abbrev pub invariant-loop-index : goal.invariant-loop-index
invariant-loop-index l = (i : ℕ) → i < l.index → IsPeerAt (map site_of l.sites) l.numbers (λ k. In k l.inside.keys) l.process l.own i → ⊥
