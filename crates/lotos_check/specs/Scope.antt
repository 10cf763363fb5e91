-- What a process name is bound to: the definition of that name in the nearest enclosing `where`.
use Rattle.std.specs.Prelude.{ℕ, ◌+◌, List, [], ◌∷◌, ◌++◌}
use Rattle.lotos_text.specs.AstView.{DefinitionView, def, DefinitionListView, no_defs, more_defs, name_of, inner_of}
use Rattle.lotos_text.specs.declared.ast.Placed.{Placed}
use Rattle.lotos_check.specs.NameLists.{Name, In, AreDistinct}

-- the names of the definitions of one `where`
abbrev pub declared_names : DefinitionListView → List Placed
declared_names no_defs = []
declared_names (more_defs d ds) = name_of d ∷ declared_names ds

-- how many definitions there are, inner ones included
abbrev pub count : DefinitionListView → ℕ
count no_defs = 0
count (more_defs (def name formals declared body inner) ds) = 1 + count inner + count ds

-- a `where`, and the number of its first definition
pub record Where : Type 0 where
  pub defs : DefinitionListView
  pub first : ℕ

-- the enclosing `where`s, the nearest first
abbrev pub Scope : Type 0
Scope = List Where

-- of the definitions, which are numbered from the first number on, each followed at once by its inner ones, this one
-- has the name and the second number
pub data Declares : DefinitionListView → ℕ → Name → ℕ → DefinitionView → Type 0 where
  here : {d : DefinitionView} {ds : DefinitionListView} {k : ℕ} → Declares (more_defs d ds) k (name_of d).name k d
  later : {d e : DefinitionView} {ds : DefinitionListView} {k j : ℕ} {n : Name} →
      Declares ds (k + 1 + count (inner_of d)) n j e → Declares (more_defs d ds) k n j e

-- the name is bound to the process with this number and definition, which is the one in the nearest enclosing `where`
-- that declares it
pub data Binds : Scope → Name → ℕ → DefinitionView → Type 0 where
  nearest : {w : Where} {ws : Scope} {n : Name} {k : ℕ} {d : DefinitionView} → Declares w.defs w.first n k d →
      Binds (w ∷ ws) n k d
  outward : {w : Where} {ws : Scope} {n : Name} {k : ℕ} {d : DefinitionView} →
      ((j : ℕ) (e : DefinitionView) → Declares w.defs w.first n j e → ⊥) → Binds ws n k d → Binds (w ∷ ws) n k d

-- the scope inside a definition, whose own definitions are numbered from `first` on
abbrev pub within : DefinitionView → ℕ → Scope → Scope
within d first scope = record { defs = inner_of d; first = first } ∷ scope

-- a definition with the scope inside it, whose nearest `where` is its own
pub record ScopedDefinition : Type 0 where
  pub scope : Scope
  pub definition : DefinitionView

-- the definitions of a `where`, numbered from `first` on, each followed at once by its inner ones, in an enclosing
-- scope
abbrev pub definitions_in_scope : Scope → ℕ → DefinitionListView → List ScopedDefinition
definitions_in_scope scope first no_defs = []
definitions_in_scope scope first (more_defs (def name formals declared body inner) ds) =
    record {
      scope = record { defs = inner; first = first + 1 } ∷ scope;
      definition = def name formals declared body inner;
    }
    ∷ definitions_in_scope (record { defs = inner; first = first + 1 } ∷ scope) (first + 1) inner
    ++ definitions_in_scope scope (first + 1 + count inner) ds

-- a definition and then its inner ones, which are numbered from `first` on
abbrev pub definition_in_scope : Scope → ℕ → DefinitionView → List ScopedDefinition
definition_in_scope scope first d =
    record { scope = within d first scope; definition = d }
    ∷ definitions_in_scope (within d first scope) first (inner_of d)

-- the processes of a specification, by number
abbrev pub processes_of : DefinitionView → List ScopedDefinition
processes_of whole = definitions_in_scope (within whole 0 []) 0 (inner_of whole)

-- the specification and then its processes
abbrev pub all_definitions : DefinitionView → List ScopedDefinition
all_definitions whole = definition_in_scope [] 0 whole

-- the definition is one of the specification, and has this scope
abbrev pub IsDefinition : DefinitionView → Scope → DefinitionView → Type 0
IsDefinition whole scope d = In {X = ScopedDefinition} (record { scope = scope; definition = d })
    (all_definitions whole)

-- no `where` of the scope declares a name twice
abbrev pub IsDistinctScope : Scope → Type 0
IsDistinctScope scope = (w : Where) → In w scope → AreDistinct (declared_names w.defs)

abbrev mutual
  -- a definition and all definitions inside it, each followed at once by its inner ones
  pub definitions_in : DefinitionView → List DefinitionView
  definitions_in (def name formals declared body inner) = def name formals declared body inner
      ∷ definitions_in_list inner

  -- all definitions of a list and those inside them, each followed at once by its inner ones
  pub definitions_in_list : DefinitionListView → List DefinitionView
  definitions_in_list no_defs = []
  definitions_in_list (more_defs d ds) = definitions_in d ++ definitions_in_list ds
