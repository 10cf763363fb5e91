-- What a pass rejects breaks a static rule, and what breaks a static rule is not accepted.
use Rattle.std.proofs.Common.{◌≡◌, ℕ, List, ◌∷◌, map, refl, sym, ap, ◌∙◌, subst, inl, Option, Some, None, suc}
use Rattle.std.specs.Prelude.{MatchOption, slice_get}
use Rattle.lotos_text.specs.AstView.{DefinitionView, name_of, formals_of, body_of}
use Rattle.lotos_text.specs.declared.ast.Placed.{Placed}
use Rattle.lotos_check.specs.NameLists.{In, texts}
use Rattle.lotos_check.specs.Scope.{ScopedDefinition, all_definitions, processes_of, definitions_in}
use Rattle.lotos_check.specs.Flat.{Pairwise, System, IsFlat}
use Rattle.lotos_check.specs.Guard.{IsE27, IsLargestUnguardedSet, IsUnguardedSet}
use Rattle.lotos_check.specs.Acceptance.{IsAccepted, IsDuplicateFault, IsStaticFault, IsNotAccepted}
use Rattle.lotos_check.specs.Resolution.{IsResolvedBody, IsNameFaultIn, LeftsExit, NeverExits}
use Rattle.lotos_check.specs.FunctionalityRules.{IsFunctionalityFaultIn, IsFunctionalityFault}
use Rattle.lotos_check.specs.declared.resolved_body.ResolvedBody.{ResolvedBody}
use Rattle.lotos_check.specs.declared.fault.CheckFault.{CheckFault}
use Rattle.lotos_check.specs.declared.fault.CheckFault.TheVariants.{E20, E21, E22, E23, E24, E25, E26, E27, E99}
use Rattle.lotos_check.proofs.UnguardedSets.{unguarded_has_no_ranking}
use Rattle.lotos_check.proofs.ScopedDefinitions.{everywhere_in_order}
use Rattle.lotos_check.proofs.FlatSystemUnique.{same_processes}
use Rattle.lotos_check.proofs.Pairs.{pair_of_second}
use Rattle.lotos_check.proofs.ListIndices.{get_in, get_map, one_item}

-- a name that is declared twice breaks a rule
pub repeat_faulty : (whole : DefinitionView) (fault : CheckFault) → IsDuplicateFault whole fault → IsStaticFault whole fault
repeat_faulty whole (E20 gate) h = h
repeat_faulty whole (E21 gate) h = absurd h
repeat_faulty whole (E22 name) h = absurd h
repeat_faulty whole (E23 name formal actual) h = absurd h
repeat_faulty whole (E24 name) h = h
repeat_faulty whole (E25 name declared) h = absurd h
repeat_faulty whole (E26 at) h = absurd h
repeat_faulty whole (E27 name set) h = absurd h
repeat_faulty whole (E99 e) h = h

-- a body with a fault in its names breaks a rule
pub misnamed_faulty : (whole : DefinitionView) (fault : CheckFault) → IsNameFaultIn (all_definitions whole) fault → IsStaticFault whole fault
misnamed_faulty whole (E20 gate) h = absurd h.misnamed
misnamed_faulty whole (E21 gate) h =
    let m = h.misnamed in
    record {
      scope = h.scoped.scope;
      in_scope = m.there;
      part = m.part;
      occurs = record { definition = h.scoped.definition; located = h.located; inside = m.located };
      uses = m.uses;
      unknown = m.unknown;
    }
misnamed_faulty whole (E22 name) h =
    let m = h.misnamed in
    record {
      scope = h.scoped.scope;
      in_scope = m.there;
      actuals = m.actuals;
      occurs = record { definition = h.scoped.definition; located = h.located; inside = m.located };
      unknown = m.unseen;
    }
misnamed_faulty whole (E23 name formal actual) h =
    let m = h.misnamed in
    record {
      scope = h.scoped.scope;
      in_scope = m.there;
      actuals = m.actuals;
      process = m.process;
      definition = m.definition;
      occurs = record { definition = h.scoped.definition; located = h.located; inside = m.located };
      means = m.means;
      declared = m.declared;
      given = m.given;
      differ = m.differ;
    }
misnamed_faulty whole (E24 name) h = absurd h.misnamed
misnamed_faulty whole (E25 name declared) h = absurd h.misnamed
misnamed_faulty whole (E26 at) h = absurd h.misnamed
misnamed_faulty whole (E27 name set) h = absurd h.misnamed
misnamed_faulty whole (E99 e) h = tt

-- if definitions and bodies are paired, the body at the index of a definition is its resolved one, in its scope
found_at : (vs : List ScopedDefinition) (found : List ResolvedBody) → Pairwise IsResolvedBody vs found → (i : ℕ) (d : DefinitionView) (r : ResolvedBody) →
    slice_get (map (λ v. v.definition) vs) i ≡ Some d → slice_get found i ≡ Some r → (v : ScopedDefinition) × In v vs × (v.definition ≡ d) × IsResolvedBody v r
found_at vs found pairs i d r e f =
    let n = pair_of_second vs found pairs i r f in
    let m = get_map (λ (v : ScopedDefinition). v.definition) vs i d e in
    let same = ap (λ (v : ScopedDefinition). v.definition) (one_item vs i n.0 m.0 n.1 m.1) in
    (n.0, get_in vs i n.0 n.1, same ∙ m.2, n.2)

-- the offset that was found in a body is that of a `>>` in it whose left operand has noexit
never_at : (v : ScopedDefinition) (never : Option ℕ) (at : ℕ) → never ≡ Some at →
    MatchOption never (LeftsExit v.scope (texts (formals_of v.definition)) (body_of v.definition))
    (NeverExits v.scope (texts (formals_of v.definition)) (body_of v.definition)) →
    NeverExits v.scope (texts (formals_of v.definition)) (body_of v.definition) at
never_at v None at e h = cc
never_at v (Some x) at e h = let f : x ≡ at = cc in subst (NeverExits v.scope (texts (formals_of v.definition)) (body_of v.definition)) f h

-- a definition of the specification whose resolved body does not fit it breaks a rule
untyped_one : (whole : DefinitionView) (v : ScopedDefinition) (r : ResolvedBody) (fault : CheckFault) → In v (all_definitions whole) → IsResolvedBody v r →
    IsFunctionalityFault v.definition r fault → IsStaticFault whole fault
untyped_one whole v r (E20 gate) i b h = absurd h
untyped_one whole v r (E21 gate) i b h = absurd h
untyped_one whole v r (E22 name) i b h = absurd h
untyped_one whole v r (E23 name formal actual) i b h = absurd h
untyped_one whole v r (E24 name) i b h = absurd h
untyped_one whole v r (E25 name declared) i b h = record {
  scope = v.scope;
  definition = v.definition;
  other = r.functionality;
  located = i;
  named = h.0;
  declares = h.1;
  has = b.has;
  differ = h.2;
}
untyped_one whole v r (E26 at) i b h =
    let n = never_at v r.never_exits at h b.lefts in
    record {
      scope = v.scope;
      in_scope = n.there;
      left = n.left;
      right = n.right;
      occurs = record { definition = v.definition; located = i; inside = n.located };
      never_exits = n.never_exits;
    }
untyped_one whole v r (E27 name set) i b h = absurd h
untyped_one whole v r (E99 e) i b h = tt

-- a body that does not fit its definition breaks a rule
pub untyped_faulty : (whole : DefinitionView) (found : List ResolvedBody) (fault : CheckFault) → Pairwise IsResolvedBody (all_definitions whole) found →
    IsFunctionalityFaultIn (definitions_in whole) found fault → IsStaticFault whole fault
untyped_faulty whole found fault bodies h =
    let e = everywhere_in_order whole in
    let n = found_at (all_definitions whole) found bodies h.index h.definition h.body (rw e at h.defined) h.located in
    untyped_one whole n.0 h.body fault n.1 n.3 (subst (λ d. IsFunctionalityFault d h.body fault) (sym n.2) h.untyped)

-- a specification with an unguarded set is not accepted
unguarded_refused : (whole : DefinitionView) (name : Placed) (set : List ℕ) → IsE27 whole name set → (system : System) → IsAccepted whole system → ⊥
unguarded_refused whole name set h system a =
    let e = same_processes whole h.system system a.typed.distinct h.flat a.flat in
    let unguarded = subst (λ ps. IsUnguardedSet ps set) e h.unguarded.unguarded in
    let stands : In h.first set = subst (In h.first) (sym h.begins) (inl refl) in
    unguarded_has_no_ranking system.processes set a.guarded.rank h.first unguarded stands a.guarded.falls

-- what breaks a rule is not accepted
pub faulty_refused : (whole : DefinitionView) (fault : CheckFault) → IsStaticFault whole fault → IsNotAccepted whole fault
faulty_refused whole (E20 gate) h = λ system a. a.typed.distinct.gates gate h
faulty_refused whole (E21 gate) h = λ system a. a.typed.known_gates gate h
faulty_refused whole (E22 name) h = λ system a. a.typed.known_processes name h
faulty_refused whole (E23 name formal actual) h = λ system a. a.typed.same_counts name formal actual h
faulty_refused whole (E24 name) h = λ system a. a.typed.distinct.processes name h
faulty_refused whole (E25 name declared) h = λ system a. a.typed.as_declared name declared h
faulty_refused whole (E26 at) h = λ system a. a.typed.left_exits at h
faulty_refused whole (E27 name set) h = unguarded_refused whole name set.items h
faulty_refused whole (E99 e) h = tt

-- the definition of a process is in the list of all, after the specification
-- an unguarded set that is not empty breaks the rule of guarded recursion, by the name of its first process
pub unguarded_faulty : (whole : DefinitionView) (system : System) (set : List ℕ) (first : ℕ) (others : List ℕ) (name : Placed) (d : DefinitionView) →
    IsFlat whole system → IsLargestUnguardedSet system.processes set → set ≡ first ∷ others →
    slice_get (definitions_in whole) (suc first) ≡ Some d → name ≡ name_of d → IsE27 whole name set
unguarded_faulty whole system set first others name d flat unguarded begins stands named =
    let e = everywhere_in_order whole in
    let at = get_map (λ (v : ScopedDefinition). v.definition) (processes_of whole) first d (rw e at stands) in
    record {
      system = system;
      flat = flat;
      unguarded = unguarded;
      first = first;
      others = others;
      begins = begins;
      scoped = at.0;
      located = at.1;
      named = named ∙ ap name_of (sym at.2);
    }
