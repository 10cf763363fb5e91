-- What the program's sets and maps have: the gates in scope, and the names that each `where` declares.
use Rattle.std.specs.Prelude.{◌≡◌, ◌↔◌, ℕ, List, [], ◌∷◌, ◌++◌, map, Some, None}
use Rattle.std.specs.HashMap.{HashMap, get_by}
use Rattle.std.specs.Str.{bytes_eq}
use Rattle.lotos_text.specs.AstView.{DefinitionView, DefinitionListView}
use Rattle.lotos_text.specs.AstOf.{definition_view}
use Rattle.lotos_check.specs.NameLists.{Name, In}
use Rattle.lotos_check.specs.Scope.{Scope, Declares}
use Rattle.lotos_check.specs.declared.process_scope.Binding.{Binding}

-- the keys are these names, in any order
abbrev pub HasNames : {K : Type 0} → (K → Name) → List K → List Name → Type 0
HasNames now keys names = (n : Name) → In n (map now keys) ↔ In n names

-- the map has each name that the `where` declares with its binding, and no other
pub record BindsAll {K S : Type 0} (now : K → Name) (ds : DefinitionListView) (first : ℕ)
    (t : HashMap K Binding S) : Type 0 where
  pub found : (n : Name) (m : Binding) → get_by (λ k. bytes_eq n (now k)) t ≡ Some m →
      Declares ds first n m.process (definition_view m.definition.now)
  pub none : (n : Name) → get_by (λ k. bytes_eq n (now k)) t ≡ None → (j : ℕ) (d : DefinitionView) →
      Declares ds first n j d → ⊥

-- the maps are those of the scope's `where`s, the nearest last
abbrev pub IsScopeStack : {K S : Type 0} → (K → Name) → List (HashMap K Binding S) → Scope → Type 0
IsScopeStack now ts [] = ts ≡ []
IsScopeStack {K} {S} now ts (w ∷ ws) =
    (front : List (HashMap K Binding S)) × (t : HashMap K Binding S) × (ts ≡ front ++ t ∷ [])
    × BindsAll now w.defs w.first t × IsScopeStack now front ws
