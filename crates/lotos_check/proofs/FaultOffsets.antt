-- The offsets of faults are inside every text that the AST is inside.
use Rattle.std.proofs.Common.{ℕ, ◌+◌, ◌≤◌, List, [], ◌∷◌, refl, sym, subst, inl, inr}
use Rattle.lotos_text.specs.AstView.{BehaviourView, enable, call, DefinitionView, def, DefinitionListView, no_defs, more_defs, name_of, formals_of, body_of, inner_of}
use Rattle.lotos_text.specs.OffsetsInside.{AreNamesInside, IsBehaviourInside, IsInside, AreInside}
use Rattle.lotos_text.specs.declared.ast.Placed.{Placed}
use Rattle.lotos_text.specs.declared.ast.Action.TheVariants.{Internal, Gate}
use Rattle.lotos_check.specs.NameLists.{Name, In, IsDuplicate}
use Rattle.lotos_check.specs.Scope.{Scope, ScopedDefinition, declared_names, count, definitions_in_scope, within, processes_of, all_definitions}
use Rattle.lotos_check.specs.Subexpressions.{IsSubexpression, whole, in_prefix, in_choice_left, in_choice_right, in_par_left, in_par_right, in_hide}
use Rattle.lotos_check.specs.Subexpressions.{in_enable_left, in_enable_right, in_disable_left, in_disable_right, UsesGate, acts, synchronizes, passes}
use Rattle.lotos_check.specs.StaticFaults.{Occurs}
use Rattle.lotos_check.specs.Acceptance.{IsStaticFault}
use Rattle.lotos_check.specs.FaultOffsets.{IsOffsetWithin}
use Rattle.lotos_check.specs.declared.fault.CheckFault.{CheckFault}
use Rattle.lotos_check.specs.declared.fault.CheckFault.TheVariants.{E20, E21, E22, E23, E24, E25, E26, E27, E99}
use Rattle.lotos_check.proofs.JoinedLists.{in_back, in_either}
use Rattle.lotos_check.proofs.ListIndices.{get_in}

-- a name of a list inside the text is inside it
named_inside : (n : ℕ) (names : List Placed) → AreNamesInside n names → (p : Placed) → In p names → p.at ≤ n
named_inside n [] h p i = absurd i
named_inside n (x ∷ names) h p (inl e) = subst (λ t. t.at ≤ n) e h.0
named_inside n (x ∷ names) h p (inr i) = named_inside n names h.1 p i

-- the second item of a list is in it
second_in : (p : Placed) (names : List Placed) → IsDuplicate p names → In p names
second_in p names h = subst (In p) (sym h.located) (in_back p h.before (p ∷ h.after) (inl refl))

-- a part of a behaviour inside the text is inside it
part_inside : (n : ℕ) (known : List Name) (t : BehaviourView) (there : List Name) (part : BehaviourView) → IsSubexpression known t there part →
    IsBehaviourInside n t → IsBehaviourInside n part
part_inside n known t there part whole h = h
part_inside n known t there part (in_prefix {a = Internal} p) h = part_inside n _ _ there part p h
part_inside n known t there part (in_prefix {a = Gate g} p) h = part_inside n _ _ there part p h.1
part_inside n known t there part (in_choice_left p) h = part_inside n _ _ there part p h.0
part_inside n known t there part (in_choice_right p) h = part_inside n _ _ there part p h.1
part_inside n known t there part (in_par_left p) h = part_inside n _ _ there part p h.0
part_inside n known t there part (in_par_right p) h = part_inside n _ _ there part p h.2
part_inside n known t there part (in_hide p) h = part_inside n _ _ there part p h.1
part_inside n known t there part (in_enable_left p) h = part_inside n _ _ there part p h.0
part_inside n known t there part (in_enable_right p) h = part_inside n _ _ there part p h.2
part_inside n known t there part (in_disable_left p) h = part_inside n _ _ there part p h.0
part_inside n known t there part (in_disable_right p) h = part_inside n _ _ there part p h.1

-- a gate that a behaviour inside the text uses is inside it
used_inside : (n : ℕ) (t : BehaviourView) (g : Placed) → UsesGate t g → IsBehaviourInside n t → g.at ≤ n
used_inside n t g acts h = h.0
used_inside n t g (synchronizes {gs = gs} i) h = named_inside n gs h.1 g i
used_inside n t g (passes {gs = gs} i) h = named_inside n gs h.1 g i

-- the parts of a definition inside the text are inside it
name_inside : (n : ℕ) (d : DefinitionView) → IsInside n d → (name_of d).at ≤ n
name_inside n (def name formals declared body inner) h = h.0

-- the formal gates of a definition inside the text are inside it
formals_inside : (n : ℕ) (d : DefinitionView) → IsInside n d → AreNamesInside n (formals_of d)
formals_inside n (def name formals declared body inner) h = h.1

-- the body of a definition inside the text is inside it
body_inside : (n : ℕ) (d : DefinitionView) → IsInside n d → IsBehaviourInside n (body_of d)
body_inside n (def name formals declared body inner) h = h.2

-- the inner definitions of a definition inside the text are inside it
inner_inside : (n : ℕ) (d : DefinitionView) → IsInside n d → AreInside n (inner_of d)
inner_inside n (def name formals declared body inner) h = h.3

-- a name that definitions inside the text declare is inside it
declared_inside : (n : ℕ) (ds : DefinitionListView) → AreInside n ds → (p : Placed) → In p (declared_names ds) → p.at ≤ n
declared_inside n no_defs h p i = absurd i
declared_inside n (more_defs d ds) h p (inl e) = subst (λ t. t.at ≤ n) e (name_inside n d h.0)
declared_inside n (more_defs d ds) h p (inr i) = declared_inside n ds h.1 p i

-- of definitions inside the text all that are listed are inside it
listed_inside : (n : ℕ) (scope : Scope) (k : ℕ) (ds : DefinitionListView) → AreInside n ds → (v : ScopedDefinition) → In v (definitions_in_scope scope k ds) →
    IsInside n v.definition
listed_inside n scope k no_defs h v i = absurd i
listed_inside n scope k (more_defs (def name formals declared body inner) ds) h v (inl e) = subst (λ t. IsInside n t.definition) e h.0
listed_inside n scope k (more_defs (def name formals declared body inner) ds) h v (inr i) =
    let own = record { defs = inner; first = k + 1 } ∷ scope in
    elim (in_either v (definitions_in_scope own (k + 1) inner) (definitions_in_scope scope (k + 1 + count inner) ds) i) [
      | inl j ↦ listed_inside n own (k + 1) inner h.0.3 v j
      | inr j ↦ listed_inside n scope (k + 1 + count inner) ds h.1 v j
    ]

module _ (spec : DefinitionView) (n : ℕ) (inside : IsInside n spec) where
  -- so is each definition in a specification inside the text
  stands_inside : (v : ScopedDefinition) → In v (all_definitions spec) → IsInside n v.definition
  stands_inside v (inl e) = subst (λ t. IsInside n t.definition) e inside
  stands_inside v (inr i) = listed_inside n (within spec 0 []) 0 (inner_of spec) (inner_inside n spec inside) v i

  -- and each part of one's body
  occurs_inside : (scope : Scope) (known : List Name) (part : BehaviourView) → Occurs spec scope known part → IsBehaviourInside n part
  occurs_inside scope known part h =
      let body = body_inside n h.definition (stands_inside (record { scope = scope; definition = h.definition }) h.located) in
      part_inside n _ (body_of h.definition) known part h.inside body

-- a fault of a specification inside the text is inside it
pub faulty_inside : (spec : DefinitionView) (fault : CheckFault) (n : ℕ) → IsStaticFault spec fault → IsInside n spec → IsOffsetWithin n fault
faulty_inside spec (E20 gate) n h inside =
    let d = stands_inside spec n inside (record { scope = h.scope; definition = h.definition }) h.located in
    named_inside n (formals_of h.definition) (formals_inside n h.definition d) gate (second_in gate (formals_of h.definition) h.second)
faulty_inside spec (E21 gate) n h inside =
    used_inside n h.part gate h.uses (occurs_inside spec n inside h.scope h.in_scope h.part h.occurs)
faulty_inside spec (E22 name) n h inside = (occurs_inside spec n inside h.scope h.in_scope (call name h.actuals) h.occurs).0
faulty_inside spec (E23 name formal actual) n h inside = (occurs_inside spec n inside h.scope h.in_scope (call name h.actuals) h.occurs).0
faulty_inside spec (E24 name) n h inside =
    let d = stands_inside spec n inside (record { scope = h.scope; definition = h.definition }) h.located in
    let row = inner_of h.definition in
    declared_inside n row (inner_inside n h.definition d) name (second_in name (declared_names row) h.second)
faulty_inside spec (E25 name declared) n h inside =
    let d = stands_inside spec n inside (record { scope = h.scope; definition = h.definition }) h.located in
    subst (λ p. p.at ≤ n) (sym h.named) (name_inside n h.definition d)
faulty_inside spec (E26 at) n h inside = (occurs_inside spec n inside h.scope h.in_scope (enable h.left at h.right) h.occurs).1
faulty_inside spec (E27 name set) n h inside =
    let d = stands_inside spec n inside h.scoped (inr (get_in (processes_of spec) h.first h.scoped h.located)) in
    subst (λ p. p.at ≤ n) (sym h.named) (name_inside n h.scoped.definition d)
faulty_inside spec (E99 e) n h inside = tt
