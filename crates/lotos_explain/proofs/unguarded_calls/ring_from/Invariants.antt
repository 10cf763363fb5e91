use Rattle.std.specs.List.{AllByRecursion}
use Rattle.lotos_text.specs.AstOf.{definition_view}
use Rattle.lotos_explain.specs.UnguardedRings.{IsUnguardedCall}
use Rattle.lotos_explain.proofs.unguarded_calls.ring_from.Given as goal

-- each call so far is an unguarded one
abbrev pub invariant-loop : goal.invariant-loop
invariant-loop l = AllByRecursion (IsUnguardedCall (definition_view l.fn.specification.whole)) l.calls.items
