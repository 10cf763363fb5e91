-- What may terminate in a flat system is what may by name.
use Rattle.std.proofs.Common.{◌≡◌, ◌↔◌, ℕ, [], Some, slice_get, refl, sym, subst, inl, inr}
use Rattle.lotos_text.specs.AstView.{BehaviourView, DefinitionView, body_of}
use Rattle.lotos_check.specs.Scope.{Scope, ScopedDefinition, IsDistinctScope, within, processes_of}
use Rattle.lotos_check.specs.Flat.{Flat, System, Resolves, of_stop, of_exit, of_prefix, of_choice, of_par, of_par_all, of_hide, of_enable, of_disable, of_call}
use Rattle.lotos_check.specs.Acceptance.{IsAccepted}
use Rattle.lotos_check.proofs.ListIndices.{get_in, one_item}
use Rattle.lotos_check.proofs.Pairs.{pair_of_first, pair_of_second}
use Rattle.lotos_check.proofs.ScopedDefinitions.{visible_distinct}
use Rattle.lotos_warn.specs.Termination as x
use Rattle.lotos_warn.specs.Termination.{MayTerminate, MayExit, IsExiting, by_exit, by_prefix, by_choice_left, by_choice_right, by_par, by_hide, by_enable, by_disable_left, by_disable_right, by_call}
use Rattle.lotos_warn.specs.Warnings.{scoped_whole}
use Rattle.lotos_warn.proofs.CalledNames.{BindsOnce}

module _ (one : (scope : Scope) → IsDistinctScope scope → BindsOnce scope) (spec : DefinitionView) (s : System) (a : IsAccepted spec s) where
  -- a behaviour that may terminate by name may terminate with calls by number
  number : (scope : Scope) → BindsOnce scope → (b : BehaviourView) (c : Flat) → Resolves scope b c → MayTerminate spec scope b → MayExit s.processes c
  number scope once b c of_stop h = elim h [ ]
  number scope once b c of_exit by_exit = x.of_exit
  number scope once b c (of_prefix r) (by_prefix h) = x.of_prefix (number scope once _ _ r h)
  number scope once b c (of_choice l r) (by_choice_left h) = x.of_choice_left (number scope once _ _ l h)
  number scope once b c (of_choice l r) (by_choice_right h) = x.of_choice_right (number scope once _ _ r h)
  number scope once b c (of_par l g r) (by_par h k) = x.of_par (number scope once _ _ l h) (number scope once _ _ r k)
  number scope once b c (of_par_all l r) (by_par h k) = x.of_par (number scope once _ _ l h) (number scope once _ _ r k)
  number scope once b c (of_hide g r) (by_hide h) = x.of_hide (number scope once _ _ r h)
  number scope once b c (of_enable l r) (by_enable h k) = x.of_enable (number scope once _ _ l h) (number scope once _ _ r k)
  number scope once b c (of_disable l r) (by_disable_left h) = x.of_disable_left (number scope once _ _ l h)
  number scope once b c (of_disable l r) (by_disable_right h) = x.of_disable_right (number scope once _ _ r h)
  number scope once b c (of_call {p = p} {k = j} {d = e} m) (by_call {k = k} {d = d} {callee = v} bound at h) =
      let same : j ≡ k = (once p.name j k e d m bound).0 in
      let (q, there, is) = pair_of_first (processes_of spec) s.processes a.flat.processes k v at in
      let own = one v.scope (visible_distinct spec a.typed.distinct v (inr (get_in (processes_of spec) k v at))) in
      x.of_call (subst (λ i. slice_get s.processes i ≡ Some q) (sym same) there) (number v.scope own (body_of v.definition) q.body is.body h)

  -- a behaviour that may terminate with calls by number may terminate by name
  pub name : (scope : Scope) (b : BehaviourView) (c : Flat) → Resolves scope b c → MayExit s.processes c → MayTerminate spec scope b
  name scope b c of_stop h = elim h [ ]
  name scope b c of_exit x.of_exit = by_exit
  name scope b c (of_prefix r) (x.of_prefix h) = by_prefix (name scope _ _ r h)
  name scope b c (of_choice l r) (x.of_choice_left h) = by_choice_left (name scope _ _ l h)
  name scope b c (of_choice l r) (x.of_choice_right h) = by_choice_right (name scope _ _ r h)
  name scope b c (of_par l g r) (x.of_par h k) = by_par (name scope _ _ l h) (name scope _ _ r k)
  name scope b c (of_par_all l r) (x.of_par h k) = by_par (name scope _ _ l h) (name scope _ _ r k)
  name scope b c (of_hide g r) (x.of_hide h) = by_hide (name scope _ _ r h)
  name scope b c (of_enable l r) (x.of_enable h k) = by_enable (name scope _ _ l h) (name scope _ _ r k)
  name scope b c (of_disable l r) (x.of_disable_left h) = by_disable_left (name scope _ _ l h)
  name scope b c (of_disable l r) (x.of_disable_right h) = by_disable_right (name scope _ _ r h)
  name scope b c (of_call {k = k} m) (x.of_call {process = q} at h) =
      let (v, there, is) = pair_of_second (processes_of spec) s.processes a.flat.processes k q at in
      by_call m there (name v.scope (body_of v.definition) q.body is.body h)

  -- the behaviour of the specification may terminate exactly if it may by name
  pub whole_by_name : MayExit s.processes s.start ↔ MayTerminate spec (within spec 0 []) (body_of spec)
  whole_by_name = (
    name (within spec 0 []) (body_of spec) s.start a.flat.start,
    number (within spec 0 []) (one (within spec 0 []) (visible_distinct spec a.typed.distinct (scoped_whole spec) (inl refl)))
        (body_of spec) s.start a.flat.start,
  )

  -- and so may a process
  pub process_by_name : (k : ℕ) (v : ScopedDefinition) → slice_get (processes_of spec) k ≡ Some v →
      IsExiting s.processes k ↔ MayTerminate spec v.scope (body_of v.definition)
  process_by_name k v at =
      let (q, there, is) = pair_of_first (processes_of spec) s.processes a.flat.processes k v at in
      let own = one v.scope (visible_distinct spec a.typed.distinct v (inr (get_in (processes_of spec) k v at))) in (
        (λ e. name v.scope (body_of v.definition) q.body is.body
            (subst (λ p. MayExit s.processes p.body) (one_item s.processes k e.process q e.located there) e.exits)),
        (λ h. record { process = q; located = there; exits = number v.scope own (body_of v.definition) q.body is.body h }),
      )
