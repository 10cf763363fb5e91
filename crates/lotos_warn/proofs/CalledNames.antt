-- The calls of a flat system are those of the specification by name.
use Rattle.std.proofs.Common.{◌≡◌, ◌↔◌, ◌⊎◌, ℕ, List, ◌++◌, refl, subst, inl, inr}
use Rattle.lotos_text.specs.AstView as t
use Rattle.lotos_text.specs.AstView.{BehaviourView, DefinitionView, formals_of, body_of}
use Rattle.lotos_text.specs.declared.ast.Placed.{Placed}
use Rattle.lotos_check.specs.NameLists.{Name, In, texts}
use Rattle.lotos_check.specs.Scope.{Scope, ScopedDefinition, Binds, IsDistinctScope, processes_of, all_definitions}
use Rattle.lotos_check.specs.Subexpressions as parts
use Rattle.lotos_check.specs.Subexpressions.{IsSubexpression, in_prefix, in_choice_left, in_choice_right, in_par_left, in_par_right, in_hide, in_enable_left, in_enable_right, in_disable_left, in_disable_right}
use Rattle.lotos_check.specs.Flat.{Flat, FlatProcess, System, Pairwise, IsProcess, Resolves, of_stop, of_exit, of_prefix, of_choice, of_par, of_par_all, of_hide, of_enable, of_disable, of_call}
use Rattle.lotos_check.specs.Bodies.{ContainsCall, itself, under_prefix, left_choice, right_choice, left_par, right_par, under_hide, left_enable, right_enable, left_disable, right_disable, IsBodyOf, of_whole, of_process, GoesToNamed}
use Rattle.lotos_check.specs.Acceptance.{IsAccepted}
use Rattle.lotos_check.proofs.FlatSystemUnique.{paired_at}
use Rattle.lotos_check.proofs.ListIndices.{get_in, in_get}
use Rattle.lotos_check.proofs.Pairs.{pair_of_first, pair_of_second}
use Rattle.lotos_check.proofs.ScopedDefinitions.{visible_distinct}
use Rattle.lotos_warn.specs.Warnings.{IsCalled, IsCalledIn, IsReached, at_once, later, scoped_whole}
use Rattle.lotos_warn.specs.Additions.{ContainsCallOf, IsCalledByAny, IsCalledByBody, IsReachedIn, by_start, by_process}

-- each process that a body of the system calls is called in the system's behaviour or by one of its processes
body_called : (system : System) (k : ℕ) (b : Flat) → IsBodyOf system b → ContainsCallOf b k → ContainsCallOf system.start k ⊎ IsCalledByAny system.processes k
body_called system k b of_whole c = inl c
body_called system k b (of_process p process e) c = inr (process, get_in system.processes p process e, c)

-- each process that one of the system's processes calls is called by a body of the system
any_called : (system : System) (k : ℕ) → IsCalledByAny system.processes k → IsCalledByBody system k
any_called system k (process, i, c) =
    let p = in_get system.processes process i in
    record { body = process.body; located = of_process p.0 process p.1; calls = c }

-- a process is called in the behaviour or by one of the processes
pub called_in : (system : System) (k : ℕ) → (ContainsCallOf system.start k ⊎ IsCalledByAny system.processes k) ↔ IsCalledByBody system k
called_in system k = (
  (λ h. elim h [ inl c ↦ record { body = system.start; located = of_whole; calls = c } | inr c ↦ any_called system k c ]),
  (λ h. body_called system k h.body h.located h.calls),
)

-- each name of the scope has one binding
abbrev pub BindsOnce : Scope → Type 0
BindsOnce scope = (n : Name) (i j : ℕ) (d e : DefinitionView) → Binds scope n i d → Binds scope n j e → (i ≡ j) × (d ≡ e)

-- a call by name is one by number
number_called : (scope : Scope) → BindsOnce scope → (start : List Name) (b : BehaviourView) (c : Flat) (there : List Name) (callee : Placed)
    (actuals : List Placed) (k : ℕ) (d : DefinitionView) →
    Resolves scope b c → IsSubexpression start b there (t.call callee actuals) → Binds scope callee.name k d → ContainsCallOf c k
number_called scope one start b c there callee actuals k d (of_call {p = p} {gs = gs} {k = j} {d = e} m) parts.whole h =
    subst (ContainsCallOf _) (one callee.name j k e d m h).0 (texts actuals, itself)
number_called scope one start b c there callee actuals k d (of_prefix x) (in_prefix i) h =
    let r = number_called scope one start _ _ there callee actuals k d x i h in (r.0, under_prefix r.1)
number_called scope one start b c there callee actuals k d (of_choice x y) (in_choice_left i) h =
    let r = number_called scope one start _ _ there callee actuals k d x i h in (r.0, left_choice r.1)
number_called scope one start b c there callee actuals k d (of_choice x y) (in_choice_right i) h =
    let r = number_called scope one start _ _ there callee actuals k d y i h in (r.0, right_choice r.1)
number_called scope one start b c there callee actuals k d (of_par x s y) (in_par_left i) h =
    let r = number_called scope one start _ _ there callee actuals k d x i h in (r.0, left_par r.1)
number_called scope one start b c there callee actuals k d (of_par x s y) (in_par_right i) h =
    let r = number_called scope one start _ _ there callee actuals k d y i h in (r.0, right_par r.1)
number_called scope one start b c there callee actuals k d (of_par_all x y) (in_par_left i) h =
    let r = number_called scope one start _ _ there callee actuals k d x i h in (r.0, left_par r.1)
number_called scope one start b c there callee actuals k d (of_par_all x y) (in_par_right i) h =
    let r = number_called scope one start _ _ there callee actuals k d y i h in (r.0, right_par r.1)
number_called scope one start b c there callee actuals k d (of_hide {gs = gs} s x) (in_hide i) h =
    let r = number_called scope one (texts gs ++ start) _ _ there callee actuals k d x i h in (r.0, under_hide r.1)
number_called scope one start b c there callee actuals k d (of_enable x y) (in_enable_left i) h =
    let r = number_called scope one start _ _ there callee actuals k d x i h in (r.0, left_enable r.1)
number_called scope one start b c there callee actuals k d (of_enable x y) (in_enable_right i) h =
    let r = number_called scope one start _ _ there callee actuals k d y i h in (r.0, right_enable r.1)
number_called scope one start b c there callee actuals k d (of_disable x y) (in_disable_left i) h =
    let r = number_called scope one start _ _ there callee actuals k d x i h in (r.0, left_disable r.1)
number_called scope one start b c there callee actuals k d (of_disable x y) (in_disable_right i) h =
    let r = number_called scope one start _ _ there callee actuals k d y i h in (r.0, right_disable r.1)
number_called scope one start b c there callee actuals k d of_stop i h = elim i [ ]
number_called scope one start b c there callee actuals k d of_exit i h = elim i [ ]

-- if definitions and processes are paired, each definition has its process among them
process_at : (vs : List ScopedDefinition) (ps : List FlatProcess) → Pairwise IsProcess vs ps → (v : ScopedDefinition) → In v vs →
    (p : FlatProcess) × In p ps × IsProcess v p
process_at vs ps pairs v i =
    let at = in_get vs v i in
    let r = pair_of_first vs ps pairs at.0 v at.1 in
    (r.0, get_in ps at.0 r.0 r.1, r.2)

-- the laws of the static check
module _ (one : (scope : Scope) → IsDistinctScope scope → BindsOnce scope)
    (named : (spec : DefinitionView) (s : System) → IsAccepted spec s → (v : ScopedDefinition) → In v (all_definitions spec) →
    (b : Flat) → Resolves v.scope (body_of v.definition) b → (k : ℕ) (gates : List Name) → ContainsCall b k gates → GoesToNamed s v k gates)
    (spec : DefinitionView) (s : System) (a : IsAccepted spec s) where
  -- a call by number in the body of a definition comes from one by name
  pub named_call : (k : ℕ) (v : ScopedDefinition) → In v (all_definitions spec) → (b : Flat) → Resolves v.scope (body_of v.definition) b →
      ContainsCallOf b k → IsCalledIn v k
  named_call k v i b r c =
      let n = (named spec s a v i b r k c.0 c.1).named in
      record {
        in_scope = n.there;
        callee = n.called;
        actuals = n.actuals;
        definition = n.definition;
        inside = n.inside;
        means = n.means;
      }

  -- and a call by name is one by number
  pub numbered_call : (k : ℕ) (v : ScopedDefinition) → In v (all_definitions spec) → (b : Flat) → Resolves v.scope (body_of v.definition) b →
      IsCalledIn v k → ContainsCallOf b k
  numbered_call k v i b r h =
      number_called v.scope (one v.scope (visible_distinct spec a.typed.distinct v i)) (texts (formals_of v.definition)) (body_of v.definition) b
      h.in_scope h.callee h.actuals k h.definition r h.inside h.means

  -- if a call in the body of a definition is bound to a process, the process is called by name
  occurrence : (k : ℕ) (v : ScopedDefinition) → In v (all_definitions spec) → IsCalledIn v k → IsCalled spec k
  occurrence k v i h = record {
    scope = v.scope;
    in_scope = h.in_scope;
    callee = h.callee;
    actuals = h.actuals;
    definition = h.definition;
    occurs = record { definition = v.definition; located = i; inside = h.inside };
    means = h.means;
  }

  -- if a behaviour of the system contains a call of a process, the process is called by name
  process_by_name : (k : ℕ) (b : Flat) → IsBodyOf s b → ContainsCallOf b k → IsCalled spec k
  process_by_name k b of_whole c = occurrence k (scoped_whole spec) (inl refl) (named_call k (scoped_whole spec) (inl refl) s.start a.flat.start c)
  process_by_name k b (of_process p process e) c =
      let at = paired_at (processes_of spec) s.processes a.flat.processes p process e in
      occurrence k at.0 (inr at.1) (named_call k at.0 (inr at.1) process.body at.2.body c)

  -- if a call in the body of a definition is bound to a process, some behaviour of the system calls the process
  by_number : (k : ℕ) (v : ScopedDefinition) → In v (all_definitions spec) → IsCalledIn v k → ContainsCallOf s.start k ⊎ IsCalledByAny s.processes k
  by_number k v i h =
      let numbered = (λ (b : Flat) (r : Resolves v.scope (body_of v.definition) b). numbered_call k v i b r h) in
      elim i [
        | inl e ↦ inl (numbered s.start (subst (λ u. Resolves u.scope (body_of u.definition) s.start) e a.flat.start))
        | inr j ↦ (let at = process_at (processes_of spec) s.processes a.flat.processes v j in inr (at.0, at.1, numbered at.0.body at.2.body))
      ]

  -- a process is called in the system exactly if a call anywhere is bound to it
  pub called_by_name : (k : ℕ) → IsCalledByBody s k ↔ IsCalled spec k
  called_by_name k = (
    (λ h. process_by_name k h.body h.located h.calls),
    (λ h. (called_in s k).0 (by_number k (record { scope = h.scope; definition = h.occurs.definition }) h.occurs.located (record {
      in_scope = h.in_scope;
      callee = h.callee;
      actuals = h.actuals;
      definition = h.definition;
      inside = h.occurs.inside;
      means = h.means;
    }))),
  )

  -- a process that is reached in the system is reached by calls by name
  reached_name : (k : ℕ) → IsReachedIn s k → IsReached spec k
  reached_name k (by_start c) = at_once (named_call k (scoped_whole spec) (inl refl) s.start a.flat.start c)
  reached_name k (by_process {caller = p} r h) =
      let at = pair_of_second (processes_of spec) s.processes a.flat.processes p h.process h.located in
      later (reached_name p r) at.1 (named_call k at.0 (inr (get_in (processes_of spec) p at.0 at.1)) h.process.body at.2.body h.calls)

  -- a process that is reached by calls by name is reached in the system
  reached_number : (k : ℕ) → IsReached spec k → IsReachedIn s k
  reached_number k (at_once h) = by_start (numbered_call k (scoped_whole spec) (inl refl) s.start a.flat.start h)
  reached_number k (later {caller = p} {scoped = v} r e h) =
      let at = pair_of_first (processes_of spec) s.processes a.flat.processes p v e in
      by_process (reached_number p r) (record {
        process = at.0;
        located = at.1;
        calls = numbered_call k v (inr (get_in (processes_of spec) p v e)) at.0.body at.2.body h;
      })

  -- a process is reached in the system exactly if it is reached by calls by name
  pub reached_by_name : (k : ℕ) → IsReachedIn s k ↔ IsReached spec k
  reached_by_name k = (reached_name k, reached_number k)
