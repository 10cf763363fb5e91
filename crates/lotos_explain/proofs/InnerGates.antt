-- Gates that a behaviour hides, and formal gates.
use Rattle.std.specs.Prelude.{◌≡◌, ℕ, ◌<◌, List, [], length, get_or}
use Rattle.std.proofs.Common.{inl, inr, sym, refl, subst}
use Rattle.lotos_text.specs.AstView.{BehaviourView, DefinitionView, hide, name_of, body_of, formals_of, inner_of}
use Rattle.lotos_text.specs.declared.ast.Placed.{Placed}
use Rattle.lotos_check.specs.NameLists.{Name, In, texts}
use Rattle.lotos_check.specs.Scope.{Scope, ScopedDefinition, within, definitions_in_scope, definition_in_scope}
use Rattle.lotos_check.specs.Subexpressions.{IsSubexpression, whole}
use Rattle.lotos_check.proofs.ListIndices.{contains_in}
use Rattle.lotos_check.proofs.MappedLists.{in_map}
use Rattle.lotos_explain.specs.InnerGates.{IsNamedAt, HidesAt, HidesInAny, IsHiddenAt, HasFormalInAny, IsFormalGateOf}

-- if a gate at an index of a list has the name, one of the gates has the name and the offset of that one
pub named_item : (gs : List Placed) (i : ℕ) (g : Placed) (n : Name) → i < length gs → g ≡ get_or gs i g → g.name ≡ n → IsNamedAt gs n g.at
named_item gs i g n below is named =
    record { gate = g; located = contains_in gs g (i, below, sym is); named = named; offset = refl }

module _ (around : List Name) (n : Name) (at : ℕ) where
  -- what an operand hides is hidden in the whole
  pub hides_deeper : (inside : List Name) (b c : BehaviourView) → ((there : List Name) (t : BehaviourView) → IsSubexpression inside b there t →
      IsSubexpression around c there t) → HidesAt inside b n at → HidesAt around c n at
  hides_deeper inside b c f h = record {
    there = h.there;
    gates = h.gates;
    part = h.part;
    inside = f h.there (hide h.gates h.part) h.inside;
    listed = h.listed;
  }

  -- a hiding hides each gate of its list
  pub hides_itself : (gs : List Placed) (b : BehaviourView) → IsNamedAt gs n at → HidesAt around (hide gs b) n at
  hides_itself gs b h = record { there = around; gates = gs; part = b; inside = whole; listed = h }

-- what is hidden in the body of a definition, or of one inside it
pub hides_here : (scope : Scope) (first : ℕ) (d : DefinitionView) (n : Name) (at : ℕ) →
    HidesAt (texts (formals_of d)) (body_of d) n at → HidesInAny (definition_in_scope scope first d) n at
hides_here scope first d n at h = record { scoped = record { scope = within d first scope; definition = d }; located = inl refl; inside = h }

-- a gate that is hidden in an inner definition is hidden in the definition around it
pub hides_inside : (scope : Scope) (first k : ℕ) (d one : DefinitionView) (n : Name) (at : ℕ) →
    ((v : ScopedDefinition) → In v (definition_in_scope (within d first scope) k one) → In v (definitions_in_scope (within d first scope) first (inner_of d))) →
    HidesInAny (definition_in_scope (within d first scope) k one) n at → HidesInAny (definition_in_scope scope first d) n at
hides_inside scope first k d one n at f h = record { scoped = h.scoped; located = inr (f h.scoped h.located); inside = h.inside }

-- what is hidden in the whole specification
pub hidden_in_whole : (all : DefinitionView) (n : Name) (at : ℕ) → HidesInAny (definition_in_scope [] 0 all) n at → IsHiddenAt all n at
hidden_in_whole all n at h = record {
  scope = h.scoped.scope;
  in_scope = h.inside.there;
  gates = h.inside.gates;
  part = h.inside.part;
  occurs = record { definition = h.scoped.definition; located = h.located; inside = h.inside.inside };
  listed = h.inside.listed;
}

-- a gate at an offset has its name among the names
pub named_text : (gs : List Placed) (n : Name) (at : ℕ) → IsNamedAt gs n at → In n (texts gs)
named_text gs n at h = subst (λ m. In m (texts gs)) h.named (in_map (λ (p : Placed). p.name) h.gate gs h.located)

-- a formal gate of a definition, or of one inside it
pub formal_here : (scope : Scope) (first : ℕ) (d : DefinitionView) (n process : Name) → In n (texts (formals_of d)) → process ≡ (name_of d).name →
    HasFormalInAny (definition_in_scope scope first d) n process
formal_here scope first d n process h e =
    record { scoped = record { scope = within d first scope; definition = d }; located = inl refl; formal = h; named = e }

-- a formal gate in an inner definition is one in the definition around it, of a process of the same name
pub formal_inside : (scope : Scope) (first k : ℕ) (d one : DefinitionView) (n process : Name) →
    ((v : ScopedDefinition) → In v (definition_in_scope (within d first scope) k one) → In v (definitions_in_scope (within d first scope) first (inner_of d))) →
    HasFormalInAny (definition_in_scope (within d first scope) k one) n process → HasFormalInAny (definition_in_scope scope first d) n process
formal_inside scope first k d one n process f h =
    record { scoped = h.scoped; located = inr (f h.scoped h.located); formal = h.formal; named = h.named }

-- a formal gate in the whole specification
pub formal_in_whole : (all : DefinitionView) (n process : Name) → HasFormalInAny (definition_in_scope [] 0 all) n process → IsFormalGateOf all n process
formal_in_whole all n process h = record {
  scope = h.scoped.scope;
  definition = h.scoped.definition;
  located = h.located;
  formal = h.formal;
  named = h.named;
}
