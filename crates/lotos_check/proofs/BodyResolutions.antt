-- The resolution of many bodies, one by one.
use Rattle.std.specs.Prelude.{◌≡◌, ℕ, List, [], ◌∷◌, ◌++◌}
use Rattle.std.specs.HashMap.{HashMap}
use Rattle.std.proofs.Common.{refl, sym, subst, append_assoc, append-nil, ap, ◌∙◌, inl, inr}
use Rattle.lotos_text.specs.AstView.{DefinitionView, formals_of, body_of, inner_of}
use Rattle.lotos_text.specs.AstOf.{definition_view, definitions_view}
use Rattle.lotos_text.specs.declared.ast.Definition.{Definition, out-Definition}
use Rattle.lotos_text.specs.declared.ast.Placed.{Placed}
use Rattle.lotos_check.specs.NameLists.{Name, texts}
use Rattle.lotos_check.specs.Scope.{Scope, ScopedDefinition, within, definitions_in_scope, definition_in_scope}
use Rattle.lotos_check.specs.ProcessScopes.{HasNames, IsScopeStack, BindsAll}
use Rattle.lotos_check.specs.Flat.{no_pair, one_pair}
use Rattle.lotos_check.specs.Resolution.{IsResolved, IsNameFault, AddsBodies, IsNameFaultIn}
use Rattle.lotos_check.specs.declared.resolved_body.ResolvedBody.{ResolvedBody}
use Rattle.lotos_check.specs.declared.process_scope.Binding.{Binding}
use Rattle.lotos_check.specs.declared.fault.CheckFault.{CheckFault}
use Rattle.lotos_check.specs.declared.fault.CheckFault.TheVariants.{E99}
use Rattle.std.specs.declared.alloc.AllocError.{AllocError}
use Rattle.lotos_check.proofs.JoinedLists.{in_back, in_front}
use Rattle.lotos_text.proofs.DefinitionParts.{formals_shown, inner_shown}
use Rattle.lotos_check.proofs.Pairs.{pairs_joined}

-- what is found of these and then of those is found of both
pub adds_append : (these those : List ScopedDefinition) (old between new : List ResolvedBody) → AddsBodies these old between →
    AddsBodies those between new →
    AddsBodies (these ++ those) old new
adds_append these those old between new h k = record {
  more = h.more ++ k.more;
  joined = rw (k.joined, h.joined) (append_assoc old h.more k.more);
  found = pairs_joined these those h.more k.more h.found k.found;
}

-- of no definitions nothing is found
pub adds_none : (old : List ResolvedBody) → AddsBodies [] old old
adds_none old = record { more = []; joined = sym (append-nil old); found = no_pair }

-- what is found of a definition, and then of its inner ones
pub adds_first : (scope : Scope) (first : ℕ) (d : DefinitionView) (old between new : List ResolvedBody) (found : ResolvedBody) →
    between ≡ old ++ found ∷ [] → IsResolved (within d first scope) (texts (formals_of d)) (body_of d) found →
    AddsBodies (definitions_in_scope (within d first scope) first (inner_of d)) between new → AddsBodies (definition_in_scope scope first d) old new
adds_first scope first d old between new found pushed body h = record {
  more = found ∷ h.more;
  joined = rw (h.joined, pushed) (append_assoc old (found ∷ []) h.more);
  found = one_pair body h.found;
}

-- a fault in one of these
pub misnamed_left : (these those : List ScopedDefinition) (fault : CheckFault) → IsNameFaultIn these fault →
    IsNameFaultIn (these ++ those) fault
misnamed_left these those fault h = record {
  scoped = h.scoped;
  located = in_front h.scoped these those h.located;
  misnamed = h.misnamed;
}

-- a fault in one of those
pub misnamed_right : (these those : List ScopedDefinition) (fault : CheckFault) → IsNameFaultIn those fault →
    IsNameFaultIn (these ++ those) fault
misnamed_right these those fault h = record {
  scoped = h.scoped;
  located = in_back h.scoped these those h.located;
  misnamed = h.misnamed;
}

-- a fault in the definition's own body
pub misnamed_here : (scope : Scope) (first : ℕ) (d : DefinitionView) (fault : CheckFault) →
    IsNameFault (within d first scope) (texts (formals_of d)) (body_of d) fault → IsNameFaultIn (definition_in_scope scope first d) fault
misnamed_here scope first d fault h = record {
  scoped = record { scope = within d first scope; definition = d };
  located = inl refl;
  misnamed = h;
}

-- a fault in one of its inner definitions
pub misnamed_inside : (scope : Scope) (first : ℕ) (d : DefinitionView) (fault : CheckFault) →
    IsNameFaultIn (definitions_in_scope (within d first scope) first (inner_of d)) fault → IsNameFaultIn (definition_in_scope scope first d) fault
misnamed_inside scope first d fault h = record { scoped = h.scoped; located = inr h.located; misnamed = h.misnamed }

-- out of memory
pub no_memory : (scope : Scope) (first : ℕ) (d : DefinitionView) (error : AllocError) → IsNameFaultIn (definition_in_scope scope first d) (E99 error)
no_memory scope first d error = misnamed_here scope first d (E99 error) tt

-- what a stack has on which the scope of the definition's own `where` was pushed
pub shows_inside : {K S : Type 0} (now : K → Name) (of : Definition) (list : List Definition) (first : ℕ)
    (own : HashMap K Binding S) (outer all : List (HashMap K Binding S)) →
    list ≡ (out-Definition of).inner.items → BindsAll now (definitions_view list) first own → all ≡ outer ++ own ∷ [] →
    (scope : Scope) → IsScopeStack now outer scope → IsScopeStack now all (within (definition_view of) first scope)
shows_inside now of list first own outer all same tabulates pushed scope shows =
    let inner : definitions_view list ≡ inner_of (definition_view of) = ap definitions_view same ∙ inner_shown of in
    (outer, own, pushed, subst (λ ds. BindsAll now ds first own) inner tabulates, shows)

module _ {K : Type 0} (now : K → Name) where
  -- if there are no keys, they have no names
  knows_none : (keys : List K) → keys ≡ [] → HasNames now keys []
  knows_none keys e = rw e (λ n. (λ h. h, λ h. h))

  -- the formal gates are in scope if they were added to an empty scope
  pub knows_formals : (of : Definition) (list : List Placed) (before after : List K) →
      list ≡ (out-Definition of).formals.items → before ≡ [] →
      ((names : List Name) → HasNames now before names → HasNames now after (texts list ++ names)) →
      HasNames now after (texts (formals_of (definition_view of)))
  knows_formals of list before after same empty added =
      let formals : list ≡ formals_of (definition_view of) = same ∙ formals_shown of in
      let all = added [] (knows_none before empty) in
      subst (λ gates. HasNames now after (texts gates)) formals (subst (λ names. HasNames now after names) (append-nil (texts list)) all)
