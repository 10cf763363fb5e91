-- From the results of the passes to the static rules and the flat system.
use Rattle.std.proofs.Common.{◌≡◌, ℕ, List, [], ◌∷◌, length, map, refl, sym, ap, ◌∙◌, subst, inl, inr, Option, Some, None}
use Rattle.std.specs.Prelude.{MatchOption}
use Rattle.lotos_text.specs.AstView.{BehaviourView, DefinitionView, formals_of, declared_of, body_of, inner_of}
use Rattle.lotos_text.specs.declared.ast.Placed.{Placed}
use Rattle.lotos_text.specs.declared.ast.Functionality.{Functionality}
use Rattle.lotos_text.specs.declared.ast.Functionality.TheVariants.{Exit, NoExit}
use Rattle.lotos_check.specs.NameLists.{Name, In, texts}
use Rattle.lotos_check.specs.Scope.{Scope, ScopedDefinition, IsDistinctScope, IsDefinition, within, processes_of, all_definitions, definitions_in, definitions_in_list}
use Rattle.lotos_check.specs.Functionality.{Func, of_stop, of_exit, of_prefix, of_hide, of_choice, of_disable, of_par, of_enable, of_call}
use Rattle.lotos_check.specs.Flat.{Pairwise, no_pair, one_pair, IsProcess, IsFlat, Resolves}
use Rattle.lotos_check.specs.CheckedView.{flat_of, process_of}
use Rattle.lotos_check.specs.StaticFaults.{IsDistinct, WellTyped, IsE21, IsE22, IsE23, IsE25, IsE26}
use Rattle.lotos_check.specs.Resolution.{IsResolvedBody, AddsBodies, LeftsExit, NeverExits}
use Rattle.lotos_check.specs.FunctionalityRules.{HasDeclaredFunctionality}
use Rattle.lotos_check.specs.Acceptance.{AreProcessesOfBodies, no_processes, one_process, IsFlattened, flattens}
use Rattle.lotos_check.specs.declared.resolved_body.ResolvedBody.{ResolvedBody}
use Rattle.lotos_check.specs.declared.resolved.Code.{Code}
use Rattle.lotos_check.specs.declared.resolved.Process.{Process}
use Rattle.lotos_check.proofs.BindingUnique.{one_meant}
use Rattle.lotos_check.proofs.ScopedDefinitions.{everywhere_in_order, visible_distinct, listed_row}

-- a behaviour has one functionality where names have one meaning
pub one_functionality : (scope : Scope) → IsDistinctScope scope → (t : BehaviourView) (f g : Functionality) → Func scope t f → Func scope t g → f ≡ g
one_functionality scope distinct t f g of_stop of_stop = refl
one_functionality scope distinct t f g of_exit of_exit = refl
one_functionality scope distinct t f g (of_prefix x) (of_prefix y) = one_functionality scope distinct _ f g x y
one_functionality scope distinct t f g (of_hide x) (of_hide y) = one_functionality scope distinct _ f g x y
one_functionality scope distinct t f g (of_choice x u) (of_choice y v) =
    let a = one_functionality scope distinct _ _ _ x y in let b = one_functionality scope distinct _ _ _ u v in cc
one_functionality scope distinct t f g (of_disable x u) (of_disable y v) =
    let a = one_functionality scope distinct _ _ _ x y in let b = one_functionality scope distinct _ _ _ u v in cc
one_functionality scope distinct t f g (of_par x u) (of_par y v) =
    let a = one_functionality scope distinct _ _ _ x y in let b = one_functionality scope distinct _ _ _ u v in cc
one_functionality scope distinct t f g (of_enable x) (of_enable y) = one_functionality scope distinct _ f g x y
one_functionality scope distinct t f g (of_call {p = p} {k = i} {d = d} x) (of_call {k = j} {d = e} y) =
    ap declared_of (one_meant scope distinct p.name i j d e x y).1

-- what is in the first of two lists has its pair
pub paired : {X Y : Type 0} {P : X → Y → Type 0} {xs : List X} {ys : List Y} → Pairwise P xs ys → (x : X) → In x xs → (y : Y) × P x y
paired no_pair x i = absurd i
paired {P = P} (one_pair {y = y} p more) x (inl e) = (y, subst (λ t. P t y) e p)
paired (one_pair p more) x (inr i) = paired more x i

-- two pairings of the same lists are one of both
pub paired_twice : {X Y Z : Type 0} {P : X → Y → Type 0} {Q : Z → Y → Type 0} (view : X → Z) (xs : List X) (ys : List Y) →
    Pairwise P xs ys → Pairwise Q (map view xs) ys → Pairwise (λ x y. P x y × Q (view x) y) xs ys
paired_twice view [] [] no_pair q = no_pair
paired_twice view [] (y ∷ ys) p q = elim p [ ]
paired_twice view (x ∷ xs) [] p q = elim p [ ]
paired_twice view (x ∷ xs) (y ∷ ys) (one_pair a p) (one_pair b q) = one_pair (a, b) (paired_twice view xs ys p q)

-- the results of the pass, by the definitions with their scopes
pub walked : (whole : DefinitionView) (found : List ResolvedBody) → AddsBodies (all_definitions whole) [] found →
    Pairwise IsResolvedBody (all_definitions whole) found
walked whole found adds = subst (λ t. Pairwise IsResolvedBody (all_definitions whole) t) (sym adds.joined) adds.found

module _ (whole : DefinitionView) (found : List ResolvedBody) (distinct : IsDistinct whole) (bodies : Pairwise IsResolvedBody (all_definitions whole) found)
    (typed : Pairwise HasDeclaredFunctionality (definitions_in whole) found) where
  -- each definition of the specification has a body that is resolved in its scope, with its declared functionality
  one_found : (scope : Scope) (d : DefinitionView) → IsDefinition whole scope d →
      (r : ResolvedBody) × (IsResolvedBody (record { scope = scope; definition = d }) r × HasDeclaredFunctionality d r)
  one_found scope d stands =
      let both = paired_twice (λ v. v.definition) (all_definitions whole) found bodies
      (subst (λ t. Pairwise HasDeclaredFunctionality t found) (everywhere_in_order whole) typed) in
      paired both (record { scope = scope; definition = d }) stands

  -- no gate is used where it is not in scope
  no_unknown_gate : (p : Placed) → IsE21 whole p → ⊥
  no_unknown_gate p h =
      let r = one_found h.scope h.occurs.definition h.occurs.located in
      h.unknown (r.1.0.gates h.in_scope h.part p h.occurs.inside h.uses)

  -- no call names a process that is not visible
  no_unseen_process : (p : Placed) → IsE22 whole p → ⊥
  no_unseen_process p h =
      let r = one_found h.scope h.occurs.definition h.occurs.located in
      let c = r.1.0.calls h.in_scope p h.actuals h.occurs.inside in
      h.unknown c.0 c.1 c.2

  -- no call has another number of gates than the definition that its name is bound to
  no_unfit_call : (p : Placed) (formal actual : ℕ) → IsE23 whole p formal actual → ⊥
  no_unfit_call p formal actual h =
      let r = one_found h.scope h.occurs.definition h.occurs.located in
      let c = r.1.0.calls h.in_scope p h.actuals h.occurs.inside in
      let scoped = visible_distinct whole distinct (record { scope = h.scope; definition = h.occurs.definition }) h.occurs.located in
      let same = one_meant h.scope scoped p.name h.process c.0 h.definition c.1 h.means c.2 in
      h.differ (h.declared ∙ ap (λ d. length (formals_of d)) same.1 ∙ c.3 ∙ sym h.given)

  -- no body has another functionality than its definition declares
  no_other_functionality : (p : Placed) (f : Functionality) → IsE25 whole p f → ⊥
  no_other_functionality p f h =
      let r = one_found h.scope h.definition h.located in
      let scoped = visible_distinct whole distinct (record { scope = h.scope; definition = h.definition }) h.located in
      h.differ (one_functionality h.scope scoped (body_of h.definition) h.other r.0.functionality h.has r.1.0.has ∙ r.1.1.same ∙ sym h.declares)

  -- if no `>>` was found whose left operand has noexit, each left operand of `>>` has exit
  all_exit : (scope : Scope) (known : List Name) (body : BehaviourView) (at : Option ℕ) → at ≡ None →
      MatchOption at (LeftsExit scope known body) (NeverExits scope known body) → LeftsExit scope known body
  all_exit scope known body None e h = h
  all_exit scope known body (Some at) e h = cc

  -- no left operand of a `>>` has noexit
  no_stuck_enabling : (at : ℕ) → IsE26 whole at → ⊥
  no_stuck_enabling at h =
      let d = h.occurs.definition in
      let r = one_found h.scope d h.occurs.located in
      let scoped = visible_distinct whole distinct (record { scope = h.scope; definition = d }) h.occurs.located in
      let exits = all_exit h.scope (texts (formals_of d)) (body_of d) r.0.never_exits r.1.1.exits r.1.0.lefts h.in_scope h.left h.right at h.occurs.inside in
      let e : Exit ≡ NoExit = one_functionality h.scope scoped h.left Exit NoExit exits h.never_exits in
      cc

  -- what the passes find without a fault is well typed
  pub well_typed : WellTyped whole
  well_typed = record {
    distinct = distinct;
    known_gates = no_unknown_gate;
    known_processes = no_unseen_process;
    same_counts = no_unfit_call;
    as_declared = no_other_functionality;
    left_exits = no_stuck_enabling;
  }

-- processes made of definitions and their resolved bodies are the definitions with calls by number, one by one
flat_processes : (vs : List ScopedDefinition) (found : List ResolvedBody) (processes : List Process) → Pairwise IsResolvedBody vs found →
    AreProcessesOfBodies (map (λ v. v.definition) vs) found processes → Pairwise IsProcess vs (map process_of processes)
flat_processes [] [] [] no_pair no_processes = no_pair
flat_processes (v ∷ vs) (r ∷ found) (p ∷ processes) (one_pair b bodies) (one_process m all) =
    one_pair
    (record {
      name = m.name;
      formals = m.formals;
      functionality = m.functionality;
      body = subst (λ t. Resolves v.scope (body_of v.definition) t) (sym m.body) b.code;
    })
    (flat_processes vs found processes bodies all)
flat_processes [] (r ∷ found) processes b a = elim b [ ]
flat_processes (v ∷ vs) [] processes b a = elim b [ ]
flat_processes [] [] (p ∷ processes) b a = elim a [ ]
flat_processes (v ∷ vs) (r ∷ found) [] b a = elim a [ ]

-- if resolved bodies are flattened, the behaviour is the first definition's body with calls by number, and the
-- processes are the other definitions with calls by number
flat_all : (v : ScopedDefinition) (vs : List ScopedDefinition) (ds : List DefinitionView) (found : List ResolvedBody) (start : Code)
    (processes : List Process) →
    ds ≡ map (λ v. v.definition) vs → Pairwise IsResolvedBody (v ∷ vs) found → IsFlattened (v.definition ∷ ds) found start processes →
    Resolves v.scope (body_of v.definition) (flat_of start) × Pairwise IsProcess vs (map process_of processes)
flat_all v vs ds (r ∷ found) start processes e (one_pair b bodies) (flattens s all) = (
  subst (λ t. Resolves v.scope (body_of v.definition) t) (sym s) b.code,
  flat_processes vs found processes bodies (subst (λ t. AreProcessesOfBodies t found processes) e all),
)
flat_all v vs ds [] start processes e b m = elim b [ ]

-- the code of all definitions is the flat system
pub flat_system : (whole : DefinitionView) (found : List ResolvedBody) (formals : List Name) (start : Code) (processes : List Process) →
    Pairwise IsResolvedBody (all_definitions whole) found → IsFlattened (whole ∷ definitions_in_list (inner_of whole)) found start processes →
    formals ≡ texts (formals_of whole) →
    IsFlat whole (record { formals = formals; start = flat_of start; processes = map process_of processes })
flat_system whole found formals start processes bodies flattened named =
    let both = flat_all (record { scope = within whole 0 []; definition = whole }) (processes_of whole) (definitions_in_list (inner_of whole)) found start
    processes
    (listed_row (within whole 0 []) 0 (inner_of whole)) bodies flattened in
    record { formals = named; start = both.0; processes = both.1 }
