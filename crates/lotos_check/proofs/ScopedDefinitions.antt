-- All definitions with their scopes: how many, in which order, and which definitions enclose them.
use Rattle.std.proofs.Common.{◌≡◌, ℕ, ◌+◌, ◌<◌, ◌≤◌, List, [], ◌∷◌, ◌++◌, length, map, refl, sym, ap, subst, inl, inr, arith, length-append}
use Rattle.std.proofs.lemmas.List.{map-append, length-map}
use Rattle.lotos_text.specs.AstView.{DefinitionView, def, DefinitionListView, no_defs, more_defs, inner_of}
use Rattle.lotos_check.specs.NameLists.{Name, In}
use Rattle.lotos_check.specs.Scope.{Scope, Where, ScopedDefinition, Declares, here, later, Binds, nearest, outward, count, within, definitions_in_scope, definition_in_scope, processes_of, all_definitions, definitions_in, definitions_in_list, IsDistinctScope}
use Rattle.lotos_check.specs.StaticFaults.{IsDistinct}
use Rattle.lotos_check.proofs.JoinedLists.{in_back, in_either, in_front}

-- a list has its first definition, those inside it and the others
pub count_more : (d : DefinitionView) (ds : DefinitionListView) → count (more_defs d ds) ≡ 1 + count (inner_of d) + count ds
count_more (def name formals declared body inner) ds = refl

-- they are listed in this order
pub listed_more : (scope : Scope) (first : ℕ) (d : DefinitionView) (ds : DefinitionListView) →
    definitions_in_scope scope first (more_defs d ds)
    ≡ definition_in_scope scope (first + 1) d ++ definitions_in_scope scope (first + 1 + count (inner_of d)) ds
listed_more scope first (def name formals declared body inner) ds = refl

-- how many definitions are listed
pub listed_count : (scope : Scope) (k : ℕ) (ds : DefinitionListView) → length (definitions_in_scope scope k ds) ≡ count ds
listed_count scope k no_defs = refl
listed_count scope k (more_defs (def name formals declared body inner) ds) =
    let own = record { defs = inner; first = k + 1 } ∷ scope in
    let i = listed_count own (k + 1) inner in
    let r = listed_count scope (k + 1 + count inner) ds in
    let j = length-append (definitions_in_scope own (k + 1) inner) (definitions_in_scope scope (k + 1 + count inner) ds) in
    omega arith

-- which definitions are listed does not depend on the scope
pub listed_row : (scope : Scope) (k : ℕ) (ds : DefinitionListView) → definitions_in_list ds ≡ map (λ v. v.definition) (definitions_in_scope scope k ds)
listed_row scope k no_defs = refl
listed_row scope k (more_defs (def name formals declared body inner) ds) =
    let own = record { defs = inner; first = k + 1 } ∷ scope in
    let i = listed_row own (k + 1) inner in
    let r = listed_row scope (k + 1 + count inner) ds in
    let j = map-append (λ v. v.definition) (definitions_in_scope own (k + 1) inner) (definitions_in_scope scope (k + 1 + count inner) ds) in
    let both : definitions_in_list inner ++ definitions_in_list ds ≡ map (λ v. v.definition)
    (definitions_in_scope own (k + 1) inner ++ definitions_in_scope scope (k + 1 + count inner) ds) =
    rw (i, r) (sym j) in
    ap (λ t. def name formals declared body inner ∷ t) both

-- the definitions of a specification in order are those with what is visible in them
pub everywhere_in_order : (whole : DefinitionView) → definitions_in whole ≡ map (λ v. v.definition) (all_definitions whole)
everywhere_in_order (def name formals declared body inner) =
    ap (λ t. def name formals declared body inner ∷ t) (listed_row (within (def name formals declared body inner) 0 []) 0 inner)

-- a definition of a list has a scope there
pub scope_of : (d : DefinitionView) (vs : List ScopedDefinition) → In d (map (λ v. v.definition) vs) →
    (scope : Scope) × In {X = ScopedDefinition} (record { scope = scope; definition = d }) vs
scope_of d [] i = absurd i
scope_of d (v ∷ vs) (inl e) = (v.scope, inl (ap (λ x. record { scope = v.scope; definition = x }) e))
scope_of d (v ∷ vs) (inr i) = let r = scope_of d vs i in (r.0, inr r.1)

-- a definition that a list has with a scope is one of the list
pub without_scope : (scope : Scope) (d : DefinitionView) (vs : List ScopedDefinition) →
    In {X = ScopedDefinition} (record { scope = scope; definition = d }) vs → In d (map (λ v. v.definition) vs)
without_scope scope d [] i = absurd i
without_scope scope d (v ∷ vs) (inl e) = inl (ap (λ x. x.definition) e)
without_scope scope d (v ∷ vs) (inr i) = inr (without_scope scope d vs i)

-- how many definitions a specification has
pub definitions_count : (whole : DefinitionView) → length (definitions_in whole) ≡ 1 + count (inner_of whole)
definitions_count (def name formals declared body inner) =
    let e = ap length (listed_row [] 0 inner) in
    let c = listed_count [] 0 inner in
    let m = length-map (definitions_in_scope [] 0 inner) (λ v. v.definition) in
    omega arith

-- the `where` is that of a definition of the specification, and its processes are among those of the specification
pub record IsWhereOf (whole : DefinitionView) (w : Where) : Type 0 where
  pub scoped : ScopedDefinition
  pub located : In scoped (all_definitions whole)
  pub same : w.defs ≡ inner_of scoped.definition
  pub fits : w.first + count w.defs ≤ count (inner_of whole)

abbrev AllWheres : DefinitionView → Scope → Type 0
AllWheres whole scope = (w : Where) → In w scope → IsWhereOf whole w

-- each `where` of a scope is one of the specification if the nearest one and each of the others are
more_wheres : (whole : DefinitionView) (w : Where) (scope : Scope) → IsWhereOf whole w → AllWheres whole scope → AllWheres whole (w ∷ scope)
more_wheres whole w scope h all x (inl e) = subst (IsWhereOf whole) e h
more_wheres whole w scope h all x (inr i) = all x i

-- if listed definitions are among those of the specification, their numbers among its numbers, and the `where`s around
-- them those of definitions of it, so are the `where`s of their scopes
listed_wheres : (whole : DefinitionView) (scope : Scope) (k : ℕ) (ds : DefinitionListView) →
    ((v : ScopedDefinition) → In v (definitions_in_scope scope k ds) → In v (all_definitions whole)) →
    k + count ds ≤ count (inner_of whole) → AllWheres whole scope → (v : ScopedDefinition) → In v (definitions_in_scope scope k ds) → AllWheres whole v.scope
listed_wheres whole scope k no_defs sub fits all v i = absurd i
listed_wheres whole scope k (more_defs (def name formals declared body inner) ds) sub fits all v i =
    let own = record { defs = inner; first = k + 1 } ∷ scope in
    let this : ScopedDefinition = record { scope = own; definition = def name formals declared body inner } in
    let deep = definitions_in_scope own (k + 1) inner in
    let rest = definitions_in_scope scope (k + 1 + count inner) ds in
    let here_fits : (k + 1) + count inner ≤ count (inner_of whole) = omega arith in
    let here : IsWhereOf whole (record { defs = inner; first = k + 1 }) =
    record { scoped = this; located = sub this (inl refl); same = refl; fits = here_fits } in
    let within_own = more_wheres whole (record { defs = inner; first = k + 1 }) scope here all in
    elim i [
      | inl e ↦ subst (λ t. AllWheres whole t.scope) e within_own
      | inr j ↦ elim (in_either v deep rest j) [
        | inl d ↦ listed_wheres whole own (k + 1) inner (λ x y. sub x (inr (in_front x deep rest y))) here_fits within_own v d
        | inr r ↦ listed_wheres whole scope (k + 1 + count inner) ds (λ x y. sub x (inr (in_back x deep rest y))) (omega arith) all v r
      ]
    ]

-- each `where` that is visible in a definition of the specification is that of one
pub visible_wheres : (whole : DefinitionView) (v : ScopedDefinition) → In v (all_definitions whole) → (w : Where) → In w v.scope → IsWhereOf whole w
visible_wheres whole v i =
    let own : Where = record { defs = inner_of whole; first = 0 } in
    let top : ScopedDefinition = record { scope = own ∷ []; definition = whole } in
    let here : IsWhereOf whole own = record { scoped = top; located = inl refl; same = refl; fits = omega arith } in
    let all = more_wheres whole own [] here (λ w x. absurd x) in
    elim i [
      | inl e ↦ subst (λ t. AllWheres whole t.scope) e all
      | inr j ↦ listed_wheres whole (own ∷ []) 0 (inner_of whole) (λ x y. inr y) (omega arith) all v j
    ]

-- where names are distinct, no visible `where` declares one twice
pub visible_distinct : (whole : DefinitionView) → IsDistinct whole → (v : ScopedDefinition) → In v (all_definitions whole) → IsDistinctScope v.scope
visible_distinct whole distinct v i w j p s =
    let h = visible_wheres whole v i w j in
    let e = h.same in
    distinct.processes p (record { scope = h.scoped.scope; definition = h.scoped.definition; located = h.located; second = rw e at s })

-- the number of a definition that a `where` declares is less than the first one plus how many definitions it has
declares_below : (ds : DefinitionListView) (k : ℕ) (n : Name) (q : ℕ) (d : DefinitionView) → Declares ds k n q d → q < k + count ds
declares_below (more_defs (def name formals declared body inner) ds) k n q d here = omega arith
declares_below (more_defs (def name formals declared body inner) ds) k n q d (later x) =
    let r = declares_below ds (k + 1 + count inner) n q d x in omega arith
declares_below no_defs k n q d x = elim x [ ]

-- if each `where` of a scope is one of the specification, a name is bound to a number below the count of processes
means_below : (whole : DefinitionView) (scope : Scope) → AllWheres whole scope → (n : Name) (q : ℕ) (d : DefinitionView) → Binds scope n q d →
    q < count (inner_of whole)
means_below whole (w ∷ ws) all n q d (nearest x) =
    let r = declares_below w.defs w.first n q d x in let f = (all w (inl refl)).fits in omega arith
means_below whole (w ∷ ws) all n q d (outward none x) = means_below whole ws (λ v i. all v (inr i)) n q d x
means_below whole [] all n q d x = elim x [ ]

-- the number that a name means anywhere in the specification is that of one of its processes
pub meant_below : (whole : DefinitionView) (v : ScopedDefinition) → In v (all_definitions whole) → (n : Name) (q : ℕ) (d : DefinitionView) →
    Binds v.scope n q d → q < length (processes_of whole)
meant_below whole v i n q d m =
    let r = means_below whole v.scope (visible_wheres whole v i) n q d m in
    let c = listed_count (within whole 0 []) 0 (inner_of whole) in
    omega arith
