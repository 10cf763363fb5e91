-- The warnings about a specification are those about its definitions.
use Rattle.std.proofs.Common.{◌≡◌, ◌↔◌, ◌⊎◌, ℕ, ◌+◌, ◌-◌, ◌≤◌, length, take, drop, zero, suc, List, [], ◌∷◌, Some, slice_get, map, refl, sym, ◌∙◌, ap, subst, inl, inr, Bool, true, false, arith}
use Rattle.std.proofs.lemmas.List.{take_all}
use Rattle.lotos_text.specs.AstView.{BehaviourView, gates, par, hide, DefinitionView, name_of, formals_of, declared_of, body_of, inner_of}
use Rattle.lotos_text.specs.declared.ast.Placed.{Placed}
use Rattle.lotos_check.specs.NameLists.{Name, In, texts}
use Rattle.lotos_check.specs.Scope.{Scope, ScopedDefinition, IsDefinition, within, processes_of, all_definitions, definitions_in, definitions_in_list}
use Rattle.lotos_check.specs.Flat.{System}
use Rattle.lotos_check.specs.StaticFaults.{Occurs}
use Rattle.lotos_check.proofs.DefinitionOrder.{in_order}
use Rattle.lotos_check.proofs.ScopedDefinitions.{everywhere_in_order, listed_row, scope_of, without_scope}
use Rattle.lotos_warn.specs.declared.warning.Side.{Side}
use Rattle.lotos_warn.specs.declared.warning.Warning.{Warning}
use Rattle.lotos_warn.specs.declared.warning.Warning.TheVariants.{UncalledProcess, UnreachedProcess, NeverExits, DeadStart, UnusedGate, UnofferedGate, UnusedHidden, UnsynchronizedHidden, ExchangedGates}
use Rattle.lotos_warn.specs.Warnings.{IsUnusedGate, IsUnofferedGate, IsUnusedHidden, IsUnsynchronizedHidden, IsUncalledProcess, IsUnreachedProcess, IsNeverExit, IsCalled, IsReached}
use Rattle.lotos_text.specs.declared.ast.Functionality.TheVariants.{Exit}
use Rattle.lotos_check.proofs.ListIndices.{get_in, in_get}
use Rattle.lotos_warn.specs.Termination.{MayTerminate}
use Rattle.lotos_warn.specs.FirstLabels.{IsDeadStart}
use Rattle.lotos_warn.specs.CallSites.{IsOtherWarning}
use Rattle.lotos_warn.specs.Additions.{IsDeadIn, IsEndlessWhole, IsGateWarningOfAny, IsProcessWarning, IsProcessWarningOfAny}
use Rattle.lotos_warn.proofs.PartWarnings.{WarnsFrom, elsewhere}
use Rattle.lotos_warn.proofs.ListWarnings.{IsOwnListWarning, lacking, apart_inside, lists_by_part}
use Rattle.lotos_warn.proofs.HidingWarnings.{HidesUnused, unused_inside, hidings_by_part}

-- the definitions after the first are those inside it
pub after_first : {K : Type 0} (view : K → DefinitionView) (xs : List K) (whole : DefinitionView) → map view xs ≡ definitions_in whole →
    map view (take (length xs - 1) (drop 1 xs)) ≡ definitions_in_list (inner_of whole)
after_first view [] whole e = let f = e ∙ in_order whole in cc
after_first view (x ∷ xs) whole e =
    let within : length xs ≤ length (x ∷ xs) - 1 = omega arith in
    let f : view x ∷ map view xs ≡ whole ∷ definitions_in_list (inner_of whole) = e ∙ in_order whole in
    let others : map view xs ≡ definitions_in_list (inner_of whole) = cc in
    ap (map view) (take_all (length (x ∷ xs) - 1) xs within) ∙ others

module _ (whole : DefinitionView) where
  -- each definition in the list of those of the specification has a scope in the specification
  scoped : (d : DefinitionView) → In d (definitions_in whole) → (scope : Scope) × IsDefinition whole scope d
  scoped d i = scope_of d (all_definitions whole) (subst (In d) (everywhere_in_order whole) i)

  -- a definition of the specification, with whatever scope, is in the list of its definitions
  unscoped : (scope : Scope) (d : DefinitionView) → IsDefinition whole scope d → In d (definitions_in whole)
  unscoped scope d i = subst (In d) (sym (everywhere_in_order whole)) (without_scope scope d (all_definitions whole) i)

  -- one of the definitions has a warning about an unused gate exactly if the specification has it
  unused : (gate : Placed) (name : Name) → IsGateWarningOfAny (definitions_in whole) (UnusedGate gate name) ↔ IsUnusedGate whole gate name
  unused gate name = (
    (λ (d, i, h). elim h [
      | inl (inr u) ↦ (let at = scoped d i in record { scope = at.0; definition = d; located = at.1; formal = u.0; named = u.1; unused = u.2 })
      | inl (inl none) ↦ absurd none
      | inr none ↦ absurd none
    ]),
    (λ h. (h.definition, unscoped h.scope h.definition h.located, inl (inr (h.formal, h.named, h.unused)))),
  )

  -- `Own` says which warnings a behaviour has itself; a part that occurs in the specification has this one
  record IsOwned (Own : BehaviourView → Warning → Type 0) (w : Warning) : Type 0 where
    scope : Scope
    in_scope : List Name
    part : BehaviourView
    occurs : Occurs whole scope in_scope part
    own : Own part w

  -- a part of the body of one of the definitions that has a warning itself occurs in the specification
  occurring : (Own : BehaviourView → Warning → Type 0) (w : Warning) (d : DefinitionView) → In d (definitions_in whole) →
      WarnsFrom Own [] (body_of d) w → IsOwned Own w
  occurring Own w d i h =
      let at = scoped d i in
      let from = elsewhere Own [] (texts (formals_of d)) (body_of d) w h in
      record {
        scope = at.0;
        in_scope = from.hidden;
        part = from.part;
        occurs = record { definition = d; located = at.1; inside = from.inside };
        own = from.own;
      }

  -- a part that occurs in the specification and has a warning itself is a part of the body of its definition
  in_body : (Own : BehaviourView → Warning → Type 0) (w : Warning) (scope : Scope) (in_scope : List Name) (part : BehaviourView)
      (o : Occurs whole scope in_scope part) → Own part w → WarnsFrom Own [] (body_of o.definition) w
  in_body Own w scope in_scope part o own =
      elsewhere Own (texts (formals_of o.definition)) [] (body_of o.definition) w
      (record { hidden = in_scope; part = part; inside = o.inside; own = own })

  module _ (gate : Placed) (side : Side) where
    -- a part that occurs in the specification, and that has the warning about the gate of a list itself, is one with
    -- that list
    unoffered_at : (scope : Scope) (in_scope : List Name) (part : BehaviourView) → Occurs whole scope in_scope part →
        IsOwnListWarning part (UnofferedGate gate side) → IsUnofferedGate whole gate side
    unoffered_at scope in_scope part o (lacking {l = l} {r = r} {gs = gs} first none) =
        record { scope = scope; in_scope = in_scope; left = l; list = gs; right = r; occurs = o; listed = first; unoffered = none }

    -- one of the definitions has a warning about a list exactly if the specification has it
    unoffered : IsGateWarningOfAny (definitions_in whole) (UnofferedGate gate side) ↔ IsUnofferedGate whole gate side
    unoffered = (
      (λ (d, i, h). elim h [
        | inl (inl none) ↦ absurd none
        | inl (inr none) ↦ absurd none
        | inr u ↦ (let o = occurring IsOwnListWarning (UnofferedGate gate side) d i ((lists_by_part (body_of d) (UnofferedGate gate side)).0 u) in
            unoffered_at o.scope o.in_scope o.part o.occurs o.own)
      ]),
      (λ h. (
        h.occurs.definition,
        unscoped h.scope h.occurs.definition h.occurs.located,
        inr ((lists_by_part (body_of h.occurs.definition) (UnofferedGate gate side)).1
            (in_body IsOwnListWarning (UnofferedGate gate side) h.scope h.in_scope (par h.left (gates h.list) h.right) h.occurs
            (lacking h.listed h.unoffered))),
      )),
    )

  module _ (gate : Placed) where
    -- a part that occurs in the specification, and that has the warning about a gate that it hides itself, is a hiding
    -- of the gate
    hidden_at : (scope : Scope) (in_scope : List Name) (part : BehaviourView) → Occurs whole scope in_scope part →
        HidesUnused part (UnusedHidden gate) → IsUnusedHidden whole gate
    hidden_at scope in_scope part o (unused_inside {gs = gs} {b = b} listed none) =
        record { scope = scope; in_scope = in_scope; list = gs; body = b; occurs = o; listed = listed; unused = none }

    -- one of the definitions has a warning about a hiding exactly if the specification has it
    unused_hidden : IsGateWarningOfAny (definitions_in whole) (UnusedHidden gate) ↔ IsUnusedHidden whole gate
    unused_hidden = (
      (λ (d, i, h). elim h [
        | inl (inl u) ↦ (let o = occurring HidesUnused (UnusedHidden gate) d i ((hidings_by_part (body_of d) (UnusedHidden gate)).0 u) in
            hidden_at o.scope o.in_scope o.part o.occurs o.own)
        | inl (inr none) ↦ absurd none
        | inr none ↦ absurd none
      ]),
      (λ h. (
        h.occurs.definition,
        unscoped h.scope h.occurs.definition h.occurs.located,
        inl (inl ((hidings_by_part (body_of h.occurs.definition) (UnusedHidden gate)).1
            (in_body HidesUnused (UnusedHidden gate) h.scope h.in_scope (hide h.list h.body) h.occurs (unused_inside h.listed h.unused)))),
      )),
    )

    -- a part that occurs in the specification, and that has the warning about a gate that both sides of a composition
    -- offer without synchronization itself, is a hiding of the gate
    apart_at : (scope : Scope) (in_scope : List Name) (part : BehaviourView) → Occurs whole scope in_scope part →
        IsOwnListWarning part (UnsynchronizedHidden gate) → IsUnsynchronizedHidden whole gate
    apart_at scope in_scope part o (apart_inside {gs = gs} {b = b} listed apart) =
        record { scope = scope; in_scope = in_scope; list = gs; body = b; occurs = o; listed = listed; apart = apart }

    -- one of the definitions has such a warning exactly if the specification has it
    unsynchronized : IsGateWarningOfAny (definitions_in whole) (UnsynchronizedHidden gate) ↔ IsUnsynchronizedHidden whole gate
    unsynchronized = (
      (λ (d, i, h). elim h [
        | inl (inl none) ↦ absurd none
        | inl (inr none) ↦ absurd none
        | inr u ↦ (let o = occurring IsOwnListWarning (UnsynchronizedHidden gate) d i ((lists_by_part (body_of d) (UnsynchronizedHidden gate)).0 u) in
            apart_at o.scope o.in_scope o.part o.occurs o.own)
      ]),
      (λ h. (
        h.occurs.definition,
        unscoped h.scope h.occurs.definition h.occurs.located,
        inr ((lists_by_part (body_of h.occurs.definition) (UnsynchronizedHidden gate)).1
            (in_body IsOwnListWarning (UnsynchronizedHidden gate) h.scope h.in_scope (hide h.list h.body) h.occurs (apart_inside h.listed h.apart))),
      )),
    )

-- of the processes one has the warning
record IsWarnedFrom (called reached exiting : List ℕ) (first : ℕ) (vs : List ScopedDefinition) (w : Warning) : Type 0 where
  index : ℕ
  scoped : ScopedDefinition
  located : slice_get vs index ≡ Some scoped
  number : ℕ
  counted : number ≡ first + index
  warned : IsProcessWarning called reached exiting number scoped.definition w

-- a warning of any of the processes is one of that at some index, whose number is the first number plus the index
warned_at : (called reached exiting : List ℕ) (w : Warning) (vs : List ScopedDefinition) (first : ℕ) →
    IsProcessWarningOfAny called reached exiting first (map (λ v. v.definition) vs) w → IsWarnedFrom called reached exiting first vs w
warned_at called reached exiting w [] first h = absurd h
warned_at called reached exiting w (v ∷ vs) first (inl h) =
    record { index = 0; scoped = v; located = refl; number = first; counted = omega arith; warned = h }
warned_at called reached exiting w (v ∷ vs) first (inr h) =
    let r = warned_at called reached exiting w vs (suc first) h in
    let e = r.counted in
    record { index = suc r.index; scoped = r.scoped; located = r.located; number = r.number; counted = omega arith; warned = r.warned }

-- a warning of the process at an index, whose number is the first number plus the index, is one of some process
warned_from : (called reached exiting : List ℕ) (w : Warning) (vs : List ScopedDefinition) (first index : ℕ) (v : ScopedDefinition) (number : ℕ) →
    slice_get vs index ≡ Some v → number ≡ first + index → IsProcessWarning called reached exiting number v.definition w →
    IsProcessWarningOfAny called reached exiting first (map (λ v. v.definition) vs) w
warned_from called reached exiting w [] first index v number e counted h = cc
warned_from called reached exiting w (u ∷ vs) first zero v number e counted h =
    let same : v ≡ u = cc in
    let n : number ≡ first = omega arith in
    inl (subst (λ x. IsProcessWarning called reached exiting first x.definition w) same
    (subst (λ k. IsProcessWarning called reached exiting k v.definition w) n h))
warned_from called reached exiting w (u ∷ vs) first (suc index) v number e counted h =
    inr (warned_from called reached exiting w vs (suc first) index v number e (omega arith) h)

-- a process of the specification has the warning
record IsWarned (whole : DefinitionView) (called reached exiting : List ℕ) (w : Warning) : Type 0 where
  process : ℕ
  scoped : ScopedDefinition
  located : slice_get (processes_of whole) process ≡ Some scoped
  warned : IsProcessWarning called reached exiting process scoped.definition w

module _ (whole : DefinitionView) (called reached exiting : List ℕ) (by_name : (k : ℕ) → In k called ↔ IsCalled whole k)
    (by_reach : (k : ℕ) → In k reached ↔ IsReached whole k)
    (by_exit : (k : ℕ) (v : ScopedDefinition) → slice_get (processes_of whole) k ≡ Some v →
    In k exiting ↔ MayTerminate whole v.scope (body_of v.definition))
    (exits : Bool) (by_start : (exits ≡ true) ↔ MayTerminate whole (within whole 0 []) (body_of whole)) where
  -- the definitions inside the specification are those of its processes, in the same order
  inner_row : definitions_in_list (inner_of whole) ≡ map (λ v. v.definition) (processes_of whole)
  inner_row = listed_row (within whole 0 []) 0 (inner_of whole)

  -- if one of the definitions inside the specification has a warning, one of its processes has it
  found : (w : Warning) → IsProcessWarningOfAny called reached exiting 0 (definitions_in_list (inner_of whole)) w → IsWarned whole called reached exiting w
  found w h =
      let r = warned_at called reached exiting w (processes_of whole) 0 (subst (λ ds. IsProcessWarningOfAny called reached exiting 0 ds w) inner_row h) in
      let counted = r.counted in
      let n : r.number ≡ r.index = omega arith in
      record {
        process = r.index;
        scoped = r.scoped;
        located = r.located;
        warned = subst (λ k. IsProcessWarning called reached exiting k r.scoped.definition w) n r.warned;
      }

  -- if a process of the specification has a warning, one of the definitions inside the specification has it
  lost : (w : Warning) (process : ℕ) (v : ScopedDefinition) → slice_get (processes_of whole) process ≡ Some v →
      IsProcessWarning called reached exiting process v.definition w → IsProcessWarningOfAny called reached exiting 0 (definitions_in_list (inner_of whole)) w
  lost w process v at h = subst (λ ds. IsProcessWarningOfAny called reached exiting 0 ds w) (sym inner_row)
      (warned_from called reached exiting w (processes_of whole) 0 process v process at (omega arith) h)

  -- one of the definitions inside has the warning that a process is not called exactly if the specification has it
  uncalled : (name : Placed) → IsProcessWarningOfAny called reached exiting 0 (definitions_in_list (inner_of whole)) (UncalledProcess name) ↔
      IsUncalledProcess whole name
  uncalled name = (
    (λ h. let r = found (UncalledProcess name) h in elim r.warned [
      | inl u ↦ record {
        process = r.process;
        scoped = r.scoped;
        located = r.located;
        named = u.0;
        uncalled = λ scope in_scope callee actuals d occurs means. u.1 ((by_name r.process).1 (record {
          scope = scope;
          in_scope = in_scope;
          callee = callee;
          actuals = actuals;
          definition = d;
          occurs = occurs;
          means = means;
        }));
      }
      | inr (inl none) ↦ absurd none
      | inr (inr none) ↦ absurd none
    ]),
    (λ h. lost (UncalledProcess name) h.process h.scoped h.located (inl (
      h.named,
      (λ i. let c = (by_name h.process).0 i in h.uncalled c.scope c.in_scope c.callee c.actuals c.definition c.occurs c.means),
    ))),
  )

  -- one of the definitions inside has the warning that a process is not reached exactly if the specification has it
  unreached : (name : Placed) → IsProcessWarningOfAny called reached exiting 0 (definitions_in_list (inner_of whole)) (UnreachedProcess name) ↔
      IsUnreachedProcess whole name
  unreached name = (
    (λ h. let r = found (UnreachedProcess name) h in elim r.warned [
      | inl none ↦ absurd none
      | inr (inr none) ↦ absurd none
      | inr (inl u) ↦ record {
        process = r.process;
        scoped = r.scoped;
        located = r.located;
        named = u.0;
        called = (by_name r.process).0 u.1;
        unreached = λ i. u.2 ((by_reach r.process).1 i);
      }
    ]),
    (λ h. lost (UnreachedProcess name) h.process h.scoped h.located (inr (inl (
      h.named,
      (by_name h.process).1 h.called,
      (λ i. h.unreached ((by_reach h.process).0 i)),
    )))),
  )

  -- a truth value that is not true is false
  not_true : (b : Bool) → (b ≡ true → ⊥) → b ≡ false
  not_true true h = absurd (h refl)
  not_true false h = refl

  -- if a definition is declared exit and can never terminate, a process or the specification itself has the warning
  -- that it never exits
  placed : (name : Placed) (v : ScopedDefinition) → In v (all_definitions whole) → name ≡ name_of v.definition → declared_of v.definition ≡ Exit →
      (MayTerminate whole v.scope (body_of v.definition) → ⊥) →
      IsProcessWarningOfAny called reached exiting 0 (definitions_in_list (inner_of whole)) (NeverExits name) ⊎ IsEndlessWhole exits whole (NeverExits name)
  placed name v i named declared never =
      let of_process = (λ (k : ℕ) (at : slice_get (processes_of whole) k ≡ Some v). lost (NeverExits name) k v at
      (inr (inr (named, declared, (λ j. never ((by_exit k v at).0 j)))))) in
      elim i [
        | inl e ↦ (
            let own = sym e in
            let here = subst (λ (u : ScopedDefinition). name ≡ name_of u.definition) own named in
            let exit = subst (λ (u : ScopedDefinition). declared_of u.definition ≡ Exit) own declared in
            let none = subst (λ (u : ScopedDefinition). MayTerminate whole u.scope (body_of u.definition) → ⊥) own never in
            inr (here, exit, not_true exits (λ t. none (by_start.0 t))))
        | inr j ↦ (let at = in_get (processes_of whole) v j in inl (of_process at.0 at.1))
      ]

  -- a process or the specification itself has the warning that it never exits exactly if a definition of that name is
  -- declared exit and can never terminate
  endless : (name : Placed) →
      (IsProcessWarningOfAny called reached exiting 0 (definitions_in_list (inner_of whole)) (NeverExits name) ⊎ IsEndlessWhole exits whole (NeverExits name))
      ↔ IsNeverExit whole name
  endless name = (
    (λ h. elim h [
      | inl p ↦ (let r = found (NeverExits name) p in elim r.warned [
        | inl none ↦ absurd none
        | inr (inl none) ↦ absurd none
        | inr (inr u) ↦ record {
          scope = r.scoped.scope;
          definition = r.scoped.definition;
          located = inr (get_in (processes_of whole) r.process r.scoped r.located);
          named = u.0;
          declared = u.1;
          never = λ t. u.2 ((by_exit r.process r.scoped r.located).1 t);
        }
      ])
      | inr u ↦ record {
        scope = within whole 0 [];
        definition = whole;
        located = inl refl;
        named = u.0;
        declared = u.1;
        never = λ t. (let e : true ≡ false = sym (by_start.1 t) ∙ u.2 in cc);
      }
    ]),
    (λ h. placed name (record { scope = h.scope; definition = h.definition }) h.located h.named h.declared h.never),
  )

  -- no process has a warning that a gate is not used
  not_gate : (gate : Placed) (name : Name) → IsProcessWarningOfAny called reached exiting 0 (definitions_in_list (inner_of whole)) (UnusedGate gate name) → ⊥
  not_gate gate name h = elim (found (UnusedGate gate name) h).warned [ inl none ↦ none | inr (inl none) ↦ none | inr (inr none) ↦ none ]

  -- no process has a warning that the specification can do nothing
  not_dead : (name : Placed) → IsProcessWarningOfAny called reached exiting 0 (definitions_in_list (inner_of whole)) (DeadStart name) → ⊥
  not_dead name h = elim (found (DeadStart name) h).warned [ inl none ↦ none | inr (inl none) ↦ none | inr (inr none) ↦ none ]

  -- no process has a warning that a side does not offer a gate
  not_side : (gate : Placed) (side : Side) → IsProcessWarningOfAny called reached exiting 0 (definitions_in_list (inner_of whole)) (UnofferedGate gate side) → ⊥
  not_side gate side h = elim (found (UnofferedGate gate side) h).warned [ inl none ↦ none | inr (inl none) ↦ none | inr (inr none) ↦ none ]

  -- no process has a warning that a gate that is hidden is not used
  not_hidden : (gate : Placed) → IsProcessWarningOfAny called reached exiting 0 (definitions_in_list (inner_of whole)) (UnusedHidden gate) → ⊥
  not_hidden gate h = elim (found (UnusedHidden gate) h).warned [ inl none ↦ none | inr (inl none) ↦ none | inr (inr none) ↦ none ]

  -- no process has a warning that two sides do not synchronize on a gate that is hidden
  not_apart : (gate : Placed) → IsProcessWarningOfAny called reached exiting 0 (definitions_in_list (inner_of whole)) (UnsynchronizedHidden gate) → ⊥
  not_apart gate h = elim (found (UnsynchronizedHidden gate) h).warned [ inl none ↦ none | inr (inl none) ↦ none | inr (inr none) ↦ none ]

  -- no process has a warning about a call
  not_call : (name : Placed) (own : Name) → IsProcessWarningOfAny called reached exiting 0 (definitions_in_list (inner_of whole)) (ExchangedGates name own) → ⊥
  not_call name own h = elim (found (ExchangedGates name own) h).warned [ inl none ↦ none | inr (inl none) ↦ none | inr (inr none) ↦ none ]

  -- the warnings about the gates of all definitions, those about the processes, and those about the specification are all
  -- but those about calls
  pub all_warnings : (system : System) → ((name : Placed) → IsDeadIn system whole (DeadStart name) ↔ IsDeadStart whole name) → (w : Warning) →
      (IsGateWarningOfAny (definitions_in whole) w
      ⊎ (IsProcessWarningOfAny called reached exiting 0 (definitions_in_list (inner_of whole)) w ⊎ (IsEndlessWhole exits whole w ⊎ IsDeadIn system whole w)))
      ↔ IsOtherWarning whole w
  all_warnings system dead (UncalledProcess name) = (
    (λ h. elim h [
      | inl (d, i, g) ↦ elim g [ inl (inl none) ↦ absurd none | inl (inr none) ↦ absurd none | inr none ↦ absurd none ]
      | inr (inl u) ↦ (uncalled name).0 u
      | inr (inr (inl none)) ↦ absurd none
      | inr (inr (inr none)) ↦ absurd none
    ]),
    (λ h. inr (inl ((uncalled name).1 h))),
  )
  all_warnings system dead (UnreachedProcess name) = (
    (λ h. elim h [
      | inl (d, i, g) ↦ elim g [ inl (inl none) ↦ absurd none | inl (inr none) ↦ absurd none | inr none ↦ absurd none ]
      | inr (inl u) ↦ (unreached name).0 u
      | inr (inr (inl none)) ↦ absurd none
      | inr (inr (inr none)) ↦ absurd none
    ]),
    (λ h. inr (inl ((unreached name).1 h))),
  )
  all_warnings system dead (NeverExits name) = (
    (λ h. elim h [
      | inl (d, i, g) ↦ elim g [ inl (inl none) ↦ absurd none | inl (inr none) ↦ absurd none | inr none ↦ absurd none ]
      | inr (inl u) ↦ (endless name).0 (inl u)
      | inr (inr (inl u)) ↦ (endless name).0 (inr u)
      | inr (inr (inr none)) ↦ absurd none
    ]),
    (λ h. inr (elim ((endless name).1 h) [ inl u ↦ inl u | inr u ↦ inr (inl u) ])),
  )
  all_warnings system dead (DeadStart name) = (
    (λ h. elim h [
      | inl (d, i, g) ↦ elim g [ inl (inl none) ↦ absurd none | inl (inr none) ↦ absurd none | inr none ↦ absurd none ]
      | inr (inl u) ↦ absurd (not_dead name u)
      | inr (inr (inl none)) ↦ absurd none
      | inr (inr (inr u)) ↦ (dead name).0 u
    ]),
    (λ h. inr (inr (inr ((dead name).1 h)))),
  )
  all_warnings system dead (UnusedGate gate name) = (
    (λ h. elim h [
      | inl g ↦ (unused whole gate name).0 g
      | inr (inl u) ↦ absurd (not_gate gate name u)
      | inr (inr (inl none)) ↦ absurd none
      | inr (inr (inr none)) ↦ absurd none
    ]),
    (λ h. inl ((unused whole gate name).1 h)),
  )
  all_warnings system dead (UnofferedGate gate side) = (
    (λ h. elim h [
      | inl g ↦ (unoffered whole gate side).0 g
      | inr (inl u) ↦ absurd (not_side gate side u)
      | inr (inr (inl none)) ↦ absurd none
      | inr (inr (inr none)) ↦ absurd none
    ]),
    (λ h. inl ((unoffered whole gate side).1 h)),
  )
  all_warnings system dead (UnusedHidden gate) = (
    (λ h. elim h [
      | inl g ↦ (unused_hidden whole gate).0 g
      | inr (inl u) ↦ absurd (not_hidden gate u)
      | inr (inr (inl none)) ↦ absurd none
      | inr (inr (inr none)) ↦ absurd none
    ]),
    (λ h. inl ((unused_hidden whole gate).1 h)),
  )
  all_warnings system dead (UnsynchronizedHidden gate) = (
    (λ h. elim h [
      | inl g ↦ (unsynchronized whole gate).0 g
      | inr (inl u) ↦ absurd (not_apart gate u)
      | inr (inr (inl none)) ↦ absurd none
      | inr (inr (inr none)) ↦ absurd none
    ]),
    (λ h. inl ((unsynchronized whole gate).1 h)),
  )
  all_warnings system dead (ExchangedGates name own) = (
    (λ h. elim h [
      | inl (d, i, g) ↦ elim g [ inl (inl none) ↦ none | inl (inr none) ↦ none | inr none ↦ none ]
      | inr (inl u) ↦ not_call name own u
      | inr (inr (inl none)) ↦ none
      | inr (inr (inr none)) ↦ none
    ]),
    (λ h. absurd h),
  )
