-- Definitions with their scopes, and the names that a scope binds.
use Rattle.std.specs.Prelude.{◌≡◌, ℕ, ◌<◌, ◌+◌, List, [], ◌∷◌, length, get_or, drop, Option, IfSome, option_map}
use Rattle.std.proofs.Common.{zero, suc, inl, inr, refl, sym, subst, arith, ap, ◌∙◌}
use Rattle.lotos_text.specs.AstView.{DefinitionView, DefinitionListView, no_defs, more_defs, name_of, formals_of, body_of, inner_of}
use Rattle.lotos_text.specs.AstOf.{definition_view, definitions_view}
use Rattle.lotos_text.specs.declared.ast.Definition.{Definition, out-Definition}
use Rattle.lotos_check.specs.NameLists.{Name, In, texts}
use Rattle.lotos_check.specs.Scope.{Scope, ScopedDefinition, Declares, here, later, nearest, outward, count, within, declared_names, definitions_in_scope, definition_in_scope}
use Rattle.lotos_check.proofs.BindingUnique.{declared_in}
use Rattle.lotos_check.proofs.JoinedLists.{in_back, in_front}
use Rattle.lotos_check.proofs.NameTests.{in_or_not}
use Rattle.lotos_check.proofs.Pairs.{drop_at}
use Rattle.lotos_check.proofs.ScopedDefinitions.{listed_more}
use Rattle.lotos_explain.specs.SimilarNames.{IsFrom, IsBound, IsInScopeAt, IsInScopeInAny, IsGateInScopeAt, IsGateInScopeAtCall, CallsAt, IsBoundInAny, IsProcessVisibleAt}
use Rattle.lotos_explain.specs.declared.similar_gates.Occurrence.{Occurrence}
use Rattle.lotos_explain.specs.declared.similar_gates.Occurrence.TheVariants as occurrence
use Rattle.lotos_text.proofs.DefinitionParts.{name_shown}
use Rattle.lotos_explain.proofs.SimilarNames.{some_weaker, of_some}

-- the definitions of the rest, numbered from some number on, are among those of the whole
abbrev pub Continues : Scope → ℕ → DefinitionListView → DefinitionListView → Type 0
Continues scope first all rest =
    (k : ℕ) × ((v : ScopedDefinition) → In v (definitions_in_scope scope k rest) → In v (definitions_in_scope scope first all))

-- if the rest is all the definitions, those of the rest are among those of the whole
pub continues_all : (scope : Scope) (first : ℕ) (all rest : DefinitionListView) → rest ≡ all → Continues scope first all rest
continues_all scope first all rest e = (first, λ v h. subst (λ ds. In v (definitions_in_scope scope first ds)) e h)

module _ (items : List Definition) (index : ℕ) (item : Definition) (below : index < length items) (is : item ≡ get_or items index item) where
  -- the definitions from the index on are the one at the index, and then those from the next index on
  pub rest_at : definitions_view (drop index items) ≡ more_defs (definition_view item) (definitions_view (drop (index + 1) items))
  rest_at = ap definitions_view (drop_at items index item item below is)

  module _ (scope : Scope) (first : ℕ) (all : DefinitionListView) (h : Continues scope first all (definitions_view (drop index items))) where
    pub continues_next : Continues scope first all (definitions_view (drop (index + 1) items))
    continues_next =
        let one = definition_view item in
        let rest = definitions_view (drop (index + 1) items) in
        let (k, f) = h in (
          k + 1 + count (inner_of one),
          λ v i. f v (rw (rest_at, listed_more scope k one rest)
              (in_back v (definition_in_scope scope (k + 1) one) (definitions_in_scope scope (k + 1 + count (inner_of one)) rest) i)),
        )

    pub continues_here : (k : ℕ) × ((v : ScopedDefinition) → In v (definition_in_scope scope k (definition_view item)) →
        In v (definitions_in_scope scope first all))
    continues_here =
        let one = definition_view item in
        let rest = definitions_view (drop (index + 1) items) in
        let (k, f) = h in (
          k + 1,
          λ v i. f v (rw (rest_at, listed_more scope k one rest)
              (in_front v (definition_in_scope scope (k + 1) one) (definitions_in_scope scope (k + 1 + count (inner_of one)) rest) i)),
        )

-- what is in scope in the body of a definition, or of one inside it
pub gate_here : (scope : Scope) (first : ℕ) (d : DefinitionView) (place : Occurrence) (n : Name) →
    IsInScopeAt (texts (formals_of d)) (body_of d) place n → IsInScopeInAny (definition_in_scope scope first d) place n
gate_here scope first d place n h = record { scoped = record { scope = within d first scope; definition = d }; located = inl refl; inside = h }

-- a name that is in scope at an occurrence in an inner definition is so in the definition around it
pub gate_inside : (scope : Scope) (first k : ℕ) (d one : DefinitionView) (place : Occurrence) (n : Name) →
    ((v : ScopedDefinition) → In v (definition_in_scope (within d first scope) k one) → In v (definitions_in_scope (within d first scope) first (inner_of d))) →
    IsInScopeInAny (definition_in_scope (within d first scope) k one) place n → IsInScopeInAny (definition_in_scope scope first d) place n
gate_inside scope first k d one place n f h = record { scoped = h.scoped; located = inr (f h.scoped h.located); inside = h.inside }

-- a name that is bound inside a definition is bound at a call in its body
pub process_here : (scope : Scope) (first : ℕ) (d : DefinitionView) (at : ℕ) (n : Name) →
    CallsAt (texts (formals_of d)) (body_of d) at → IsBound (within d first scope) n → IsBoundInAny (definition_in_scope scope first d) at n
process_here scope first d at n h b = record {
  scoped = record { scope = within d first scope; definition = d };
  located = inl refl;
  calls = h;
  visible = b;
}

-- a name that is bound at a call in an inner definition is so in the definition around it
pub process_inside : (scope : Scope) (first k : ℕ) (d one : DefinitionView) (at : ℕ) (n : Name) →
    ((v : ScopedDefinition) → In v (definition_in_scope (within d first scope) k one) → In v (definitions_in_scope (within d first scope) first (inner_of d))) →
    IsBoundInAny (definition_in_scope (within d first scope) k one) at n → IsBoundInAny (definition_in_scope scope first d) at n
process_inside scope first k d one at n f h =
    record { scoped = h.scoped; located = inr (f h.scoped h.located); calls = h.calls; visible = h.visible }

-- the name of a definition of a list is declared
pub declared_item : (items : List Definition) (i : ℕ) (item : Definition) → i < length items → item ≡ get_or items i item →
    In (out-Definition item).name.name (texts (declared_names (definitions_view items)))
declared_item [] i item below is = absurd (omega (arith, below))
declared_item (d ∷ ds) zero item below is = inl (subst (λ x. (name_of (definition_view d)).name ≡ x.name) (sym (name_shown item))
    (ap (λ x. (name_of (definition_view x)).name) (sym is)))
declared_item (d ∷ ds) (suc i) item below is = inr (declared_item ds i item (omega (arith, below)) is)

-- the same of the name with its offset
pub declared_placed : (items : List Definition) (i : ℕ) (item : Definition) → i < length items → item ≡ get_or items i item →
    In (out-Definition item).name (declared_names (definitions_view items))
declared_placed [] i item below is = absurd (omega (arith, below))
declared_placed (d ∷ ds) zero item below is = inl (ap (λ x. name_of (definition_view x)) (sym is) ∙ sym (name_shown item))
declared_placed (d ∷ ds) (suc i) item below is = inr (declared_placed ds i item (omega (arith, below)) is)

-- a name that is declared has a definition
declares_some : (ds : DefinitionListView) (first : ℕ) (n : Name) → In n (texts (declared_names ds)) → (k : ℕ) × (d : DefinitionView) × Declares ds first n k d
declares_some no_defs first n i = absurd i
declares_some (more_defs d ds) first n (inl e) = (first, d, subst (λ m. Declares (more_defs d ds) first m first d) e here)
declares_some (more_defs d ds) first n (inr i) = let (k, e, h) = declares_some ds (first + 1 + count (inner_of d)) n i in (k, e, later h)

-- a name that the nearest `where` declares is bound
pub bound_nearest : (ds : DefinitionListView) (first : ℕ) (scope : Scope) (n : Name) → In n (texts (declared_names ds)) →
    IsBound (record { defs = ds; first = first } ∷ scope) n
bound_nearest ds first scope n i =
    let (k, d, h) = declares_some ds first n i in
    record { process = k; definition = d; means = nearest h }

-- a name that is bound around a `where` is bound inside it
pub bound_outward : (ds : DefinitionListView) (first : ℕ) (scope : Scope) (n : Name) → IsBound scope n → IsBound (record { defs = ds; first = first } ∷ scope) n
bound_outward ds first scope n b =
    elim (in_or_not n (texts (declared_names ds))) [
      | inl i ↦ bound_nearest ds first scope n i
      | inr out ↦ record {
        process = b.process;
        definition = b.definition;
        means = outward (λ j e h. out (declared_in ds first n j e h)) b.means;
      }
    ]

-- a name that is bound around a definition, or that its own `where` declares, is bound inside it
pub bound_inside : {A : Type 0} (now : A → Name) (best found : Option A) (d : DefinitionView) (ds : DefinitionListView) (first : ℕ) (scope : Scope) →
    ds ≡ inner_of d → IfSome best (λ n. IsBound scope (now n)) →
    IfSome found (λ n. IsFrom (option_map now best) (texts (declared_names ds)) (now n)) →
    IfSome found (λ n. IsBound (within d first scope) (now n))
bound_inside now best found d ds first scope same outer more =
    some_weaker found (λ n h. elim h [
      | inl e ↦ bound_outward (inner_of d) first scope (now n) (of_some now (IsBound scope) best (now n) e outer)
      | inr i ↦ bound_nearest (inner_of d) first scope (now n) (subst (λ x. In (now n) (texts (declared_names x))) same i)
    ]) more

-- what is found in the whole specification
pub gate_in_whole : (whole : DefinitionView) (at : ℕ) (n : Name) → IsInScopeInAny (definition_in_scope [] 0 whole) (occurrence.Gate at) n →
    IsGateInScopeAt whole at n
gate_in_whole whole at n h = record {
  scope = h.scoped.scope;
  in_scope = h.inside.there;
  part = h.inside.part;
  occurs = record { definition = h.scoped.definition; located = h.located; inside = h.inside.inside };
  uses = h.inside.uses;
  visible = h.inside.visible;
}

-- a name in scope at a call in a definition of the specification is a gate in scope at a call there
pub gate_at_call_in_whole : (whole : DefinitionView) (at : ℕ) (n : Name) → IsInScopeInAny (definition_in_scope [] 0 whole) (occurrence.Call at) n →
    IsGateInScopeAtCall whole at n
gate_at_call_in_whole whole at n h = record {
  scope = h.scoped.scope;
  in_scope = h.inside.there;
  part = h.inside.part;
  occurs = record { definition = h.scoped.definition; located = h.located; inside = h.inside.inside };
  calls = h.inside.uses;
  visible = h.inside.visible;
}

-- a name bound at a call in a definition of the specification is a process visible at a call there
pub process_in_whole : (whole : DefinitionView) (at : ℕ) (n : Name) → IsBoundInAny (definition_in_scope [] 0 whole) at n → IsProcessVisibleAt whole at n
process_in_whole whole at n h = record {
  scope = h.scoped.scope;
  in_scope = h.calls.there;
  called = h.calls.called;
  actuals = h.calls.actuals;
  occurs = record { definition = h.scoped.definition; located = h.located; inside = h.calls.inside };
  offset = h.calls.offset;
  visible = h.visible;
}
