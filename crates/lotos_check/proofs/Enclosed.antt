-- A duplicate in a definition: in its formals, in its `where`, or in one of its inner definitions.
use Rattle.std.proofs.Common.{◌≡◌, ◌⊎◌, ℕ, ◌+◌, List, [], ◌∷◌, refl, sym, ap, subst, ◌∙◌, inl, inr}
use Rattle.lotos_text.specs.AstView.{DefinitionView, def, DefinitionListView, no_defs, more_defs, formals_of, inner_of}
use Rattle.lotos_text.specs.declared.ast.Placed.{Placed}
use Rattle.lotos_check.specs.NameLists.{In, IsDuplicate, AreDistinct}
use Rattle.lotos_check.specs.Scope.{Scope, ScopedDefinition, IsDefinition, within, definitions_in_scope, definition_in_scope, all_definitions, count, declared_names}
use Rattle.lotos_check.specs.StaticFaults.{IsE20, IsE24, IsDistinct}
use Rattle.lotos_check.specs.Acceptance.{IsDuplicateFault}
use Rattle.lotos_check.specs.declared.fault.CheckFault.{CheckFault}
use Rattle.lotos_check.specs.declared.fault.CheckFault.TheVariants.{E20, E21, E22, E23, E24, E25, E26, E27, E99}
use Rattle.lotos_check.proofs.JoinedLists.{in_front, in_back, in_either}
use Rattle.lotos_check.proofs.ScopedDefinitions.{listed_row, scope_of, without_scope}

-- the definition is one of the list, not an inner one
abbrev pub Among : DefinitionView → DefinitionListView → Type 0
Among e no_defs = ⊥
Among e (more_defs d ds) = (d ≡ e) ⊎ Among e ds

-- the definition is in the list, whatever is visible in it
abbrev Lists : List ScopedDefinition → DefinitionView → Type 0
Lists vs d = (scope : Scope) × In {X = ScopedDefinition} (record { scope = scope; definition = d }) vs

-- which definitions are listed does not depend on the scope around them, nor on their numbers
relisted : (s t : Scope) (k j : ℕ) (ds : DefinitionListView) (e : DefinitionView) →
    Lists (definitions_in_scope s k ds) e → Lists (definitions_in_scope t j ds) e
relisted s t k j ds e (u, i) =
    scope_of e (definitions_in_scope t j ds)
    (subst (In e) (sym (listed_row s k ds) ∙ listed_row t j ds) (without_scope u e (definitions_in_scope s k ds) i))

-- what is listed of an inner definition is listed of the list
listed_among : (s t : Scope) (k j : ℕ) (ds : DefinitionListView) (x e : DefinitionView) → Among x ds → Lists (definition_in_scope t j x) e →
    Lists (definitions_in_scope s k ds) e
listed_among s t k j no_defs x e a l = absurd a
listed_among s t k j (more_defs (def n fs c b inner) ds) x e (inl h) (u, inl i) = (
  record { defs = inner; first = k + 1 } ∷ s,
  inl
      (ap (λ d. record { scope = record { defs = inner; first = k + 1 } ∷ s; definition = d }) (h ∙ ap (λ v. v.definition) i)),
)
listed_among s t k j (more_defs (def n fs c b inner) ds) x e (inl h) (u, inr i) =
    let s' = record { defs = inner; first = k + 1 } ∷ s in
    let old = subst (λ d. In {X = ScopedDefinition} (record { scope = u; definition = e }) (definitions_in_scope (within d j t) j (inner_of d))) (sym h)
    i in
    let r = relisted (record { defs = inner; first = j } ∷ t) s' j (k + 1) inner e (u, old) in
    (r.0, inr (in_front _ (definitions_in_scope s' (k + 1) inner) (definitions_in_scope s (k + 1 + count inner) ds) r.1))
listed_among s t k j (more_defs (def n fs c b inner) ds) x e (inr a) l =
    let s' = record { defs = inner; first = k + 1 } ∷ s in
    let r = listed_among s t (k + 1 + count inner) j ds x e a l in
    (r.0, inr (in_back _ (definitions_in_scope s' (k + 1) inner) (definitions_in_scope s (k + 1 + count inner) ds) r.1))

-- what is listed of a list is one of its definitions or listed of one
among_listed : (s : Scope) (k : ℕ) (ds : DefinitionListView) (e : DefinitionView) → Lists (definitions_in_scope s k ds) e →
    (x : DefinitionView) × Among x ds × Lists (all_definitions x) e
among_listed s k no_defs e (u, i) = absurd i
among_listed s k (more_defs (def n fs c b inner) ds) e (u, inl h) = (
  def n fs c b inner,
  inl refl,
  (
    within (def n fs c b inner) 0 [],
    inl
        (ap (λ v. record { scope = within (def n fs c b inner) 0 []; definition = v.definition }) h),
  ),
)
among_listed s k (more_defs (def n fs c b inner) ds) e (u, inr i) =
    let s' = record { defs = inner; first = k + 1 } ∷ s in
    let d = def n fs c b inner in
    let others = among_listed s (k + 1 + count inner) ds e in
    elim (in_either _ (definitions_in_scope s' (k + 1) inner) (definitions_in_scope s (k + 1 + count inner) ds) i) [
      | inl h ↦ (let r = relisted s' (within d 0 []) (k + 1) 0 inner e (u, h) in (d, inl refl, (r.0, inr r.1)))
      | inr h ↦ (let r = others (u, h) in (r.0, inr r.1, r.2))
    ]

-- what is in an inner definition is in the whole
stands_inside : (whole x e : DefinitionView) (s : Scope) → Among x (inner_of whole) → IsDefinition x s e → Lists (all_definitions whole) e
stands_inside whole x e s a i =
    let r = listed_among (within whole 0 []) [] 0 0 (inner_of whole) x e a (s, i) in
    (r.0, inr r.1)

-- a fault of an inner definition is one of the whole
pub repeat_inside : (whole x : DefinitionView) → Among x (inner_of whole) → (fault : CheckFault) → IsDuplicateFault x fault → IsDuplicateFault whole fault
repeat_inside whole x a (E20 gate) h =
    let r = stands_inside whole x h.definition h.scope a h.located in
    record { scope = r.0; definition = h.definition; located = r.1; second = h.second }
repeat_inside whole x a (E21 gate) h = h
repeat_inside whole x a (E22 name) h = h
repeat_inside whole x a (E23 name formal actual) h = h
repeat_inside whole x a (E24 name) h =
    let r = stands_inside whole x h.definition h.scope a h.located in
    record { scope = r.0; definition = h.definition; located = r.1; second = h.second }
repeat_inside whole x a (E25 name declared) h = h
repeat_inside whole x a (E26 at) h = h
repeat_inside whole x a (E27 name set) h = h
repeat_inside whole x a (E99 e) h = h

-- a duplicate formal gate is a fault of the definition
pub repeats_gate : (whole : DefinitionView) (gate : Placed) → IsDuplicate gate (formals_of whole) → IsDuplicateFault whole (E20 gate)
repeats_gate whole gate second = record { scope = within whole 0 []; definition = whole; located = inl refl; second = second }

-- a duplicate process name is a fault of the definition
pub repeats_process : (whole : DefinitionView) (name : Placed) → IsDuplicate name (declared_names (inner_of whole)) → IsDuplicateFault whole (E24 name)
repeats_process whole name second = record { scope = within whole 0 []; definition = whole; located = inl refl; second = second }

-- a definition that repeats nothing itself, and whose inner definitions repeat nothing, repeats nothing
pub distinct_whole : (whole : DefinitionView) → AreDistinct (formals_of whole) → AreDistinct (declared_names (inner_of whole)) →
    ((x : DefinitionView) → Among x (inner_of whole) → IsDistinct x) → IsDistinct whole
distinct_whole whole gates names inside = record { gates = no_gate; processes = no_process }
  where
    no_gate : (p : Placed) → IsE20 whole p → ⊥
    no_gate p h = elim h.located [
      | inl e ↦ gates p (subst (λ v. IsDuplicate p (formals_of v.definition)) (sym e) h.second)
      | inr i ↦ (let r = among_listed (within whole 0 []) 0 (inner_of whole) h.definition (h.scope, i) in
          (inside r.0 r.1).gates p (record { scope = r.2.0; definition = h.definition; located = r.2.1; second = h.second }))
    ]

    no_process : (p : Placed) → IsE24 whole p → ⊥
    no_process p h = elim h.located [
      | inl e ↦ names p (subst (λ v. IsDuplicate p (declared_names (inner_of v.definition))) (sym e) h.second)
      | inr i ↦ (let r = among_listed (within whole 0 []) 0 (inner_of whole) h.definition (h.scope, i) in
          (inside r.0 r.1).processes p (record { scope = r.2.0; definition = h.definition; located = r.2.1; second = h.second }))
    ]
