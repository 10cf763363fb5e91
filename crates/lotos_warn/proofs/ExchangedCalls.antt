-- The warnings about the gates of calls, by number and by name.
use Rattle.std.proofs.Common.{◌≡◌, ◌↔◌, ◌⊎◌, ℕ, zero, suc, List, [], ◌∷◌, Some, slice_get, refl, sym, ap, ◌∙◌, subst, inl, inr}
use Rattle.lotos_text.specs.AstView.{DefinitionView, formals_of, body_of}
use Rattle.lotos_check.specs.NameLists.{Name, In, texts}
use Rattle.lotos_check.specs.Scope.{Scope, ScopedDefinition, Binds, IsDistinctScope, processes_of, all_definitions, definitions_in}
use Rattle.lotos_check.specs.Flat.{Flat, FlatProcess, System, IsProcess, Resolves, call}
use Rattle.lotos_check.specs.Bodies as bodies
use Rattle.lotos_check.specs.Bodies.{ContainsCall, GoesToNamed}
use Rattle.lotos_check.specs.Acceptance.{IsAccepted}
use Rattle.lotos_check.proofs.ListIndices.{get_in}
use Rattle.lotos_check.proofs.Pairs.{pair_of_first, pair_of_second}
use Rattle.lotos_warn.specs.declared.warning.Warning.{Warning}
use Rattle.lotos_warn.specs.declared.warning.Warning.TheVariants.{UncalledProcess, UnreachedProcess, NeverExits, DeadStart, UnusedGate, UnofferedGate, UnusedHidden, UnsynchronizedHidden, ExchangedGates}
use Rattle.lotos_warn.specs.ShownNames.{shown_names}
use Rattle.lotos_warn.specs.Warnings.{IsCalledIn, IsReachedFrom, itself, onward, IsOutside, the_whole, another, IsExchanged, IsExchangedCall, IsWarning, own_gates, scoped_whole}
use Rattle.lotos_warn.specs.Additions.{IsReachedIn, by_start, by_process}
use Rattle.lotos_warn.specs.CallSites.{Site, IsApart, IsOuterAt, IsPeerAt, IsExchangeAt, IsExchangeOf, IsExchangeOfAny, IsExchangeWarning, IsOtherWarning, from_process, numbers_of}
use Rattle.lotos_warn.proofs.CallAdditions.{called_number}
use Rattle.lotos_warn.proofs.CalledNames.{BindsOnce, named_call, numbered_call}
use Rattle.lotos_warn.proofs.CalledSites.{IsSiteIn, all_sites, site_named, site_numbered, the_site}

-- all warnings are those of the other kinds and those about calls
pub every_kind : (whole : DefinitionView) (w : Warning) → (IsOtherWarning whole w ⊎ IsExchangeWarning whole w) ↔ IsWarning whole w
every_kind whole (UncalledProcess p) = ((λ h. elim h [ inl o ↦ o | inr (n, g, e, x) ↦ cc ]), (λ h. inl h))
every_kind whole (UnreachedProcess p) = ((λ h. elim h [ inl o ↦ o | inr (n, g, e, x) ↦ cc ]), (λ h. inl h))
every_kind whole (NeverExits p) = ((λ h. elim h [ inl o ↦ o | inr (n, g, e, x) ↦ cc ]), (λ h. inl h))
every_kind whole (DeadStart p) = ((λ h. elim h [ inl o ↦ o | inr (n, g, e, x) ↦ cc ]), (λ h. inl h))
every_kind whole (UnusedGate g d) = ((λ h. elim h [ inl o ↦ o | inr (n, m, e, x) ↦ cc ]), (λ h. inl h))
every_kind whole (UnofferedGate g t) = ((λ h. elim h [ inl o ↦ o | inr (n, m, e, x) ↦ cc ]), (λ h. inl h))
every_kind whole (UnusedHidden g) = ((λ h. elim h [ inl o ↦ o | inr (n, m, e, x) ↦ cc ]), (λ h. inl h))
every_kind whole (UnsynchronizedHidden g) = ((λ h. elim h [ inl o ↦ o | inr (n, m, e, x) ↦ cc ]), (λ h. inl h))
every_kind whole (ExchangedGates p own) = (
  (λ h. elim h [
    | inl o ↦ absurd o
    | inr (n, g, e, x) ↦ (let named : n ≡ p = cc in let shown : g ≡ own = cc in
        subst (λ q. IsExchangedCall whole q own) named (subst (IsExchangedCall whole n) shown x))
  ]),
  (λ h. inr (p, own, refl, h)),
)

-- the laws of the static check
module _ (one : (scope : Scope) → IsDistinctScope scope → BindsOnce scope)
    (named : (spec : DefinitionView) (s : System) → IsAccepted spec s → (v : ScopedDefinition) → In v (all_definitions spec) →
    (b : Flat) → Resolves v.scope (body_of v.definition) b → (k : ℕ) (gates : List Name) → ContainsCall b k gates → GoesToNamed s v k gates)
    (spec : DefinitionView) (s : System) (a : IsAccepted spec s) where
  module _ (process : ℕ) where
    -- a process that is reached from this one in the system is so by calls by name
    from_number : (k : ℕ) → IsReachedIn (from_process s.processes process) k → IsReachedFrom spec process k
    from_number k (by_start c) = subst (IsReachedFrom spec process) (called_number c.1) itself
    from_number k (by_process {caller = p} r h) =
        let at = pair_of_second (processes_of spec) s.processes a.flat.processes p h.process h.located in
        onward (from_number p r) at.1
        (named_call one named spec s a k at.0 (inr (get_in (processes_of spec) p at.0 at.1)) h.process.body at.2.body h.calls)

    -- and the other way round
    from_name : (k : ℕ) → IsReachedFrom spec process k → IsReachedIn (from_process s.processes process) k
    from_name k itself = by_start ([], bodies.itself)
    from_name k (onward {caller = p} {scoped = v} r e h) =
        let at = pair_of_first (processes_of spec) s.processes a.flat.processes p v e in
        by_process (from_name p r) (record {
          process = at.0;
          located = at.1;
          calls = numbered_call one named spec s a k v (inr (get_in (processes_of spec) p v e)) at.0.body at.2.body h;
        })

    -- a definition with an index is outside of the process if that is
    outside_named : (index : ℕ) (v : ScopedDefinition) → slice_get (all_definitions spec) index ≡ Some v →
        IsApart (IsReachedIn (from_process s.processes process)) index → IsOutside spec process v
    outside_named zero v at apart = let same : scoped_whole spec ≡ v = cc in subst (IsOutside spec process) same the_whole
    outside_named (suc k) v at apart = another at (λ r. apart (from_name k r))

    -- and a definition that is outside has such an index
    outside_numbered : (v : ScopedDefinition) → IsOutside spec process v →
        (index : ℕ) × (slice_get (all_definitions spec) index ≡ Some v) × IsApart (IsReachedIn (from_process s.processes process)) index
    outside_numbered v the_whole = (0, refl, tt)
    outside_numbered v (another {number = k} at apart) = (suc k, at, (λ r. apart (from_number k r)))

  -- a call at an index is one by name in its definition
  abbrev called_at : (site : Site) (k : ℕ) (h : IsSiteIn spec site k) → IsCalledIn h.scoped k
  called_at site k h = record {
    in_scope = h.there;
    callee = site.callee;
    actuals = site.actuals;
    definition = h.definition;
    inside = h.inside;
    means = h.means;
  }

  -- a warning by number is one by name
  by_name : (w : Warning) → IsExchangeOfAny s.processes (all_sites one spec s a) (numbers_of s) w → IsExchangeWarning spec w
  by_name w (k, h) =
      let (site, outer, exchanged, shown) = h.exchange in
      let at = pair_of_second (processes_of spec) s.processes a.flat.processes k h.own h.located in
      let own : h.own.formals ≡ own_gates at.0 = at.2.formals in
      let site_in = site_named one spec s a h.index k site outer.located outer.numbered in (
        site.callee,
        shown_names h.own.formals,
        shown,
        record {
          process = k;
          scoped = at.0;
          located = at.1;
          caller = site_in.scoped;
          outside = outside_named k site.caller site_in.scoped site_in.located outer.outside;
          call = called_at site k site_in;
          named = refl;
          exchanged = subst (IsExchanged (texts site.actuals)) own exchanged;
          alone = λ other apart peer same. (
              let (index, there, out) = outside_numbered k other apart in
              let (i, called, number) = site_numbered one spec s a index k other there peer in
              h.alone i (the_site index peer.callee peer.actuals, record { located = called; numbered = number; outside = out }, same ∙ sym own));
          shown = ap shown_names own;
        },
      )

  -- a warning by name is one by number
  by_number : (w : Warning) → IsExchangeWarning spec w → IsExchangeOfAny s.processes (all_sites one spec s a) (numbers_of s) w
  by_number w (name, own, warning, h) =
      let at = pair_of_first (processes_of spec) s.processes a.flat.processes h.process h.scoped h.located in
      let formals : at.0.formals ≡ own_gates h.scoped = at.2.formals in
      let (index, there, out) = outside_numbered h.process h.caller h.outside in
      let (i, called, number) = site_numbered one spec s a index h.process h.caller there h.call in (
        h.process,
        record {
          own = at.0;
          located = at.1;
          index = i;
          exchange = (
            the_site index h.call.callee h.call.actuals,
            record { located = called; numbered = number; outside = out },
            subst (IsExchanged (texts h.call.actuals)) (sym formals) h.exchanged,
            (let all = h.shown ∙ ap shown_names (sym formals) in let callee = h.named in cc),
          );
          alone = λ other (site, outer, same). (
              let site_in = site_named one spec s a other h.process site outer.located outer.numbered in
              h.alone site_in.scoped (outside_named h.process site.caller site_in.scoped site_in.located outer.outside)
              (called_at site h.process site_in) (same ∙ formals));
        },
      )

  -- the warnings about calls in the system are those of the specification
  pub exchanges : (w : Warning) → IsExchangeOfAny s.processes (all_sites one spec s a) (numbers_of s) w ↔ IsExchangeWarning spec w
  exchanges w = (by_name w, by_number w)
