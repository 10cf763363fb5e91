-- A definition with those around it.
use Rattle.std.specs.Prelude.{◌≡◌, ℕ, List, [], ◌∷◌}
use Rattle.std.proofs.Common.{inl, inr, refl}
use Rattle.lotos_text.specs.AstView.{DefinitionView, inner_of}
use Rattle.lotos_check.specs.NameLists.{In}
use Rattle.lotos_check.specs.Scope.{Scope, ScopedDefinition, within, definitions_in_scope, definition_in_scope}
use Rattle.lotos_explain.specs.EnclosingDefinitions.{AreScopesInAny, AreScopesOf}
use Rattle.lotos_explain.specs.FunctionalityCauses.{IsEnclosing}

-- the scope inside a definition is that of it and those around it
pub enclosing_inside : (scopes outer : List DefinitionView) (d : DefinitionView) (first : ℕ) (scope : Scope) → scopes ≡ d ∷ outer → IsEnclosing outer scope →
    IsEnclosing scopes (within d first scope)
enclosing_inside scopes outer d first scope e h = rw e (refl, h)

-- a definition and those around it, or one inside it
pub scopes_here : (scopes outer : List DefinitionView) (d : DefinitionView) (first : ℕ) (scope : Scope) → scopes ≡ d ∷ outer → IsEnclosing outer scope →
    AreScopesInAny (definition_in_scope scope first d) scopes
scopes_here scopes outer d first scope e h = record {
  scoped = record { scope = within d first scope; definition = d };
  located = inl refl;
  outer = outer;
  is = e;
  around = enclosing_inside scopes outer d first scope e h;
}

-- a list of scopes in an inner definition is one in the definition around it
pub scopes_deeper : (scope : Scope) (first k : ℕ) (d one : DefinitionView) (scopes : List DefinitionView) →
    ((v : ScopedDefinition) → In v (definition_in_scope (within d first scope) k one) → In v (definitions_in_scope (within d first scope) first (inner_of d))) →
    AreScopesInAny (definition_in_scope (within d first scope) k one) scopes → AreScopesInAny (definition_in_scope scope first d) scopes
scopes_deeper scope first k d one scopes f h =
    record { scoped = h.scoped; located = inr (f h.scoped h.located); outer = h.outer; is = h.is; around = h.around }

-- those of the whole specification
pub scopes_in_whole : (whole : DefinitionView) (scopes : List DefinitionView) → AreScopesInAny (definition_in_scope [] 0 whole) scopes →
    AreScopesOf whole scopes
scopes_in_whole whole scopes h =
    record { scope = h.scoped.scope; definition = h.scoped.definition; located = h.located; outer = h.outer; is = h.is; around = h.around }
