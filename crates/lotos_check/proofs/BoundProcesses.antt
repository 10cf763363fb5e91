-- The number that a name is bound to is that of the process with its definition.
use Rattle.std.proofs.Common.{◌≡◌, ℕ, ◌+◌, List, [], ◌∷◌, ◌++◌, Some, length, slice_get, refl, subst, inl, inr, arith, zero, suc}
use Rattle.lotos_text.specs.AstView.{DefinitionView, def, DefinitionListView, no_defs, more_defs, inner_of}
use Rattle.lotos_check.specs.NameLists.{Name, In}
use Rattle.lotos_check.specs.Scope.{Scope, Where, ScopedDefinition, Declares, here, later, Binds, nearest, outward, count, within, definitions_in_scope, processes_of, all_definitions}
use Rattle.lotos_check.proofs.JoinedLists.{in_either}
use Rattle.lotos_check.proofs.ListIndices.{get_front}
use Rattle.lotos_check.proofs.ScopedDefinitions.{listed_count}

-- the second list is in the first from that index on
abbrev StandsFrom : List ScopedDefinition → ℕ → List ScopedDefinition → Type 0
StandsFrom all k some = (i j : ℕ) (v : ScopedDefinition) → j ≡ k + i → slice_get some i ≡ Some v → slice_get all j ≡ Some v

-- an item of the second of two joined lists is in the whole, at its index plus the length of the first
get_back : (xs ys : List ScopedDefinition) (i j : ℕ) (v : ScopedDefinition) → j ≡ length xs + i → slice_get ys i ≡ Some v →
    slice_get (xs ++ ys) j ≡ Some v
get_back [] ys i j v at e = let same : i ≡ j = omega arith in subst (λ n. slice_get ys n ≡ Some v) same e
get_back (x ∷ xs) ys i zero v at e = absurd (omega arith)
get_back (x ∷ xs) ys i (suc j) v at e = get_back xs ys i j v (omega arith) e

-- a list of an item and two lists after it, at an index: the item is there, the one list follows it, and the other follows that
module _ (all : List ScopedDefinition) (k : ℕ) (first : ScopedDefinition) (xs ys : List ScopedDefinition) (stands : StandsFrom all k (first ∷ xs ++ ys)) where
  -- the item is in the whole list at the index
  stands_first : slice_get all k ≡ Some first
  stands_first = stands 0 k first (omega arith) refl

  -- the first of the two lists is in the whole list from the next index on
  stands_front : StandsFrom all (k + 1) xs
  stands_front i j v at e = stands (suc i) j v (omega arith) (get_front xs ys i v e)

  -- the second of the two lists is in the whole list from the index after the end of the first on
  stands_back : (n : ℕ) → n ≡ k + 1 + length xs → StandsFrom all n ys
  stands_back n after i j v at e = stands (suc (length xs + i)) j v (omega arith) (get_back xs ys i (length xs + i) v refl e)

-- the definition of that number in the list of all definitions
record IsAt (all : List ScopedDefinition) (q : ℕ) (d : DefinitionView) : Type 0 where
  scoped : ScopedDefinition
  located : slice_get all q ≡ Some scoped
  same : scoped.definition ≡ d

-- the `where` is numbered in the order of its definitions in the list
record IsNumbered (all : List ScopedDefinition) (w : Where) : Type 0 where
  scope : Scope
  located : StandsFrom all w.first (definitions_in_scope scope w.first w.defs)

-- a definition that a `where` declares is at its number in a list that has the `where` from its first number on
declared_at : (all : List ScopedDefinition) (scope : Scope) (k : ℕ) (ds : DefinitionListView) → StandsFrom all k (definitions_in_scope scope k ds) →
    (n : Name) (q : ℕ) (d : DefinitionView) → Declares ds k n q d → IsAt all q d
declared_at all scope k (more_defs (def name formals declared body inner) ds) stands n q d here =
    let own : Scope = record { defs = inner; first = k + 1 } ∷ scope in
    let this : ScopedDefinition = record { scope = own; definition = def name formals declared body inner } in
    let at = stands_first all k this (definitions_in_scope own (k + 1) inner) (definitions_in_scope scope (k + 1 + count inner) ds) stands in
    record { scoped = this; located = at; same = refl }
declared_at all scope k (more_defs (def name formals declared body inner) ds) stands n q d (later x) =
    let own : Scope = record { defs = inner; first = k + 1 } ∷ scope in
    let this : ScopedDefinition = record { scope = own; definition = def name formals declared body inner } in
    let deep = definitions_in_scope own (k + 1) inner in
    let c = listed_count own (k + 1) inner in
    let after = stands_back all k this deep (definitions_in_scope scope (k + 1 + count inner) ds) stands (k + 1 + count inner) (omega arith) in
    declared_at all scope (k + 1 + count inner) ds after n q d x
declared_at all scope k no_defs stands n q d x = elim x [ ]

abbrev AllNumbered : List ScopedDefinition → Scope → Type 0
AllNumbered all scope = (w : Where) → In w scope → IsNumbered all w

-- each `where` of a scope is numbered in the order of the list if the nearest one and each of the others are
more_numbered : (all : List ScopedDefinition) (w : Where) (scope : Scope) → IsNumbered all w → AllNumbered all scope → AllNumbered all (w ∷ scope)
more_numbered all w scope h numbered x (inl e) = subst (IsNumbered all) e h
more_numbered all w scope h numbered x (inr i) = numbered x i

-- of definitions that the list has from their first number on, each has a scope whose `where`s are numbered in the
-- order of the list, if those of the scope around them are
listed_numbered : (all : List ScopedDefinition) (scope : Scope) (k : ℕ) (ds : DefinitionListView) →
    StandsFrom all k (definitions_in_scope scope k ds) → AllNumbered all scope → (v : ScopedDefinition) → In v (definitions_in_scope scope k ds) →
    AllNumbered all v.scope
listed_numbered all scope k no_defs stands numbered v i = absurd i
listed_numbered all scope k (more_defs (def name formals declared body inner) ds) stands numbered v i =
    let w : Where = record { defs = inner; first = k + 1 } in
    let own : Scope = w ∷ scope in
    let this : ScopedDefinition = record { scope = own; definition = def name formals declared body inner } in
    let deep = definitions_in_scope own (k + 1) inner in
    let rest = definitions_in_scope scope (k + 1 + count inner) ds in
    let c = listed_count own (k + 1) inner in
    let front = stands_front all k this deep rest stands in
    let after = stands_back all k this deep rest stands (k + 1 + count inner) (omega arith) in
    let with_own = more_numbered all w scope (record { scope = own; located = front }) numbered in
    elim i [
      | inl e ↦ subst (λ t. AllNumbered all t.scope) e with_own
      | inr j ↦ elim (in_either v deep rest j) [
        | inl d ↦ listed_numbered all own (k + 1) inner front with_own v d
        | inr r ↦ listed_numbered all scope (k + 1 + count inner) ds after numbered v r
      ]
    ]

-- each `where` in the scope of a definition of the specification is numbered in the order of the processes
visible_numbered : (whole : DefinitionView) (v : ScopedDefinition) → In v (all_definitions whole) → AllNumbered (processes_of whole) v.scope
visible_numbered whole v i =
    let all = processes_of whole in
    let w : Where = record { defs = inner_of whole; first = 0 } in
    let stands : StandsFrom all 0 all = λ i j v at e. let same : i ≡ j = omega arith in subst (λ n. slice_get all n ≡ Some v) same e in
    let top = more_numbered all w [] (record { scope = within whole 0 []; located = stands }) (λ x y. absurd y) in
    elim i [
      | inl e ↦ subst (λ t. AllNumbered all t.scope) e top
      | inr j ↦ listed_numbered all (within whole 0 []) 0 (inner_of whole) stands top v j
    ]

-- a name is bound to the definition at its number in the list, if the `where`s of the scope are numbered in that order
meant_at : (all : List ScopedDefinition) (scope : Scope) → AllNumbered all scope → (n : Name) (q : ℕ) (d : DefinitionView) → Binds scope n q d → IsAt all q d
meant_at all (w ∷ ws) numbered n q d (nearest x) =
    let h = numbered w (inl refl) in declared_at all h.scope w.first w.defs h.located n q d x
meant_at all (w ∷ ws) numbered n q d (outward none x) = meant_at all ws (λ v i. numbered v (inr i)) n q d x
meant_at all [] numbered n q d x = elim x [ ]

-- the process with the number that a name is bound to has its definition
pub bound_process : (whole : DefinitionView) (v : ScopedDefinition) → In v (all_definitions whole) → (n : Name) (k : ℕ) (d : DefinitionView) →
    Binds v.scope n k d → (u : ScopedDefinition) × (slice_get (processes_of whole) k ≡ Some u) × (u.definition ≡ d)
bound_process whole v i n k d m =
    let at = meant_at (processes_of whole) v.scope (visible_numbered whole v i) n k d m in (at.scoped, at.located, at.same)
