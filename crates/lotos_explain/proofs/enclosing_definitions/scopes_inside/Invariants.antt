use Rattle.std.proofs.Common.{◌≡◌, ◌∷◌, ◌++◌, map, drop}
use Rattle.lotos_text.specs.AstOf.{definition_view}
use Rattle.lotos_explain.proofs.enclosing_definitions.scopes_inside.Given as goal

abbrev pub invariant-loop-one : goal.invariant-loop-one
invariant-loop-one l =
    map (λ d. definition_view d.now) l.scopes.items ++ map (λ d. definition_view d.now) (drop l.one-index l.outer)
    ≡ definition_view l.fn.definition ∷ map (λ d. definition_view d.now) l.fn.outer
