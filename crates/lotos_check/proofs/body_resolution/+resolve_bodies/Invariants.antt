use Rattle.std.specs.Prelude.{◌≡◌, ◌+◌, List, drop}
use Rattle.lotos_text.specs.AstView.{inner_of}
use Rattle.lotos_text.specs.AstOf.{definition_view, definitions_view}
use Rattle.lotos_check.specs.Scope.{Scope, count, definitions_in_scope}
use Rattle.lotos_check.specs.ProcessScopes.{IsScopeStack}
use Rattle.lotos_check.specs.Resolution.{AddsBodies, IsNameFaultIn}
use Rattle.lotos_check.specs.declared.resolved_body.ResolvedBody.{ResolvedBody}
use Rattle.lotos_check.specs.declared.fault.CheckFault.{CheckFault}
use Rattle.lotos_check.proofs.body_resolution.+resolve_bodies.Given as goal

abbrev pub decreases-resolve_bodies : goal.decreases-resolve_bodies
decreases-resolve_bodies l = goal.size-resolve_bodies l

-- whatever is found of the definitions that are left, or is a fault in one of them, is so of all
abbrev pub invariant-loop-inner : goal.invariant-loop-inner
invariant-loop-inner l = record {
  number : l.number + count (definitions_view (drop l.inner-index l.inner-items))
      ≡ l.first + count (inner_of (definition_view l.definition));
  stack : l.scopes.items ≡ l.initial.scopes.items;
  adds : (scope : Scope) → IsScopeStack (λ k. k.now) l.initial.scopes.items scope →
      (new : List ResolvedBody) →
      AddsBodies (definitions_in_scope scope l.number (definitions_view (drop l.inner-index l.inner-items)))
      l.into.items new →
      AddsBodies (definitions_in_scope scope l.first (inner_of (definition_view l.definition)))
      l.initial.into.items new;
  misnamed : (scope : Scope) → IsScopeStack (λ k. k.now) l.initial.scopes.items scope → (fault : CheckFault) →
      IsNameFaultIn
      (definitions_in_scope scope l.number (definitions_view (drop l.inner-index l.inner-items)))
      fault →
      IsNameFaultIn (definitions_in_scope scope l.first (inner_of (definition_view l.definition))) fault;
}
