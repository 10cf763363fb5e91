-- The calls in the order of the text are those of the specification by name, each with the number of its process.
use Rattle.std.proofs.Common.{◌≡◌, ◌↔◌, ◌⊎◌, ℕ, ◌+◌, zero, suc, List, [], ◌∷◌, ◌++◌, Some, slice_get, map, refl, sym, ap, ◌∙◌, subst, inl, inr, arith}
use Rattle.lotos_text.specs.AstView as t
use Rattle.lotos_text.specs.AstView.{BehaviourView, DefinitionView, formals_of, body_of}
use Rattle.lotos_text.specs.declared.ast.Placed.{Placed}
use Rattle.lotos_check.specs.NameLists.{Name, In, texts}
use Rattle.lotos_check.specs.Scope.{Scope, ScopedDefinition, Binds, IsDistinctScope, processes_of, all_definitions, definitions_in}
use Rattle.lotos_check.specs.Subexpressions as parts
use Rattle.lotos_check.specs.Subexpressions.{IsSubexpression, in_prefix, in_choice_left, in_choice_right, in_par_left, in_par_right, in_hide, in_enable_left, in_enable_right, in_disable_left, in_disable_right}
use Rattle.lotos_check.specs.Flat.{Flat, FlatProcess, System, Pairwise, no_pair, one_pair, IsProcess, Resolves, of_stop, of_exit, of_prefix, of_choice, of_par, of_par_all, of_hide, of_enable, of_disable, of_call}
use Rattle.lotos_check.specs.Acceptance.{IsAccepted}
use Rattle.lotos_check.proofs.JoinedLists.{in_back, in_front}
use Rattle.lotos_check.proofs.ListIndices.{get_in, in_get, one_item}
use Rattle.lotos_check.proofs.Pairs.{pair_of_first, pair_of_second, pairs_joined}
use Rattle.lotos_check.proofs.ScopedDefinitions.{everywhere_in_order, visible_distinct}
use Rattle.lotos_warn.specs.Warnings.{IsCalledIn, scoped_whole}
use Rattle.lotos_warn.specs.CallSites.{Site, sites_in, sites_from, numbers_in, numbers_of, numbers_of_all}
use Rattle.lotos_warn.proofs.CalledNames.{BindsOnce}

-- a call by name
abbrev pub the_site : ℕ → Placed → List Placed → Site
the_site index p gs = record { caller = index; callee = p; actuals = gs }

-- what holds of each call in a behaviour
abbrev HoldsIn : (Site → ℕ → Type 0) → Scope → ℕ → List Name → BehaviourView → Type 0
HoldsIn P scope index start b = (there : List Name) (p : Placed) (gs : List Placed) (k : ℕ) (d : DefinitionView) →
    IsSubexpression start b there (t.call p gs) → Binds scope p.name k d → P (the_site index p gs) k

-- the calls of a behaviour are paired with the numbers of their processes
paired : (P : Site → ℕ → Type 0) (scope : Scope) (index : ℕ) (start : List Name) (b : BehaviourView) (c : Flat) → Resolves scope b c →
    HoldsIn P scope index start b → Pairwise P (sites_in index b) (numbers_in c)
paired P scope index start b c of_stop all = no_pair
paired P scope index start b c of_exit all = no_pair
paired P scope index start b c (of_prefix x) all = paired P scope index start _ _ x (λ there p gs k d i m. all there p gs k d (in_prefix i) m)
paired P scope index start b c (of_choice x y) all = pairs_joined _ _ _ _
    (paired P scope index start _ _ x (λ there p gs k d i m. all there p gs k d (in_choice_left i) m))
    (paired P scope index start _ _ y (λ there p gs k d i m. all there p gs k d (in_choice_right i) m))
paired P scope index start b c (of_par x s y) all = pairs_joined _ _ _ _
    (paired P scope index start _ _ x (λ there p gs k d i m. all there p gs k d (in_par_left i) m))
    (paired P scope index start _ _ y (λ there p gs k d i m. all there p gs k d (in_par_right i) m))
paired P scope index start b c (of_par_all x y) all = pairs_joined _ _ _ _
    (paired P scope index start _ _ x (λ there p gs k d i m. all there p gs k d (in_par_left i) m))
    (paired P scope index start _ _ y (λ there p gs k d i m. all there p gs k d (in_par_right i) m))
paired P scope index start b c (of_hide {gs = list} s x) all =
    paired P scope index (texts list ++ start) _ _ x (λ there p gs k d i m. all there p gs k d (in_hide i) m)
paired P scope index start b c (of_enable x y) all = pairs_joined _ _ _ _
    (paired P scope index start _ _ x (λ there p gs k d i m. all there p gs k d (in_enable_left i) m))
    (paired P scope index start _ _ y (λ there p gs k d i m. all there p gs k d (in_enable_right i) m))
paired P scope index start b c (of_disable x y) all = pairs_joined _ _ _ _
    (paired P scope index start _ _ x (λ there p gs k d i m. all there p gs k d (in_disable_left i) m))
    (paired P scope index start _ _ y (λ there p gs k d i m. all there p gs k d (in_disable_right i) m))
paired P scope index start b c (of_call {p = p} {gs = gs} {k = k} {d = d} m) all = one_pair (all start p gs k d parts.whole m) no_pair

-- the same of definitions, the first of which has this index
paired_all : (P : Site → ℕ → Type 0) (vs : List ScopedDefinition) (ps : List FlatProcess) → Pairwise IsProcess vs ps → (first : ℕ) →
    ((j index : ℕ) (v : ScopedDefinition) → slice_get vs j ≡ Some v → index ≡ first + j →
    HoldsIn P v.scope index (texts (formals_of v.definition)) (body_of v.definition)) →
    Pairwise P (sites_from first (map (λ v. v.definition) vs)) (numbers_of_all ps)
paired_all P [] [] no_pair first all = no_pair
paired_all P (v ∷ vs) (p ∷ ps) (one_pair h hs) first all = pairs_joined _ _ _ _
    (paired P v.scope first (texts (formals_of v.definition)) (body_of v.definition) p.body h.body (all 0 first v refl (omega arith)))
    (paired_all P vs ps hs (suc first) (λ j index u at counted. all (suc j) index u at (omega arith)))
paired_all P [] (p ∷ ps) h first all = elim h [ ]
paired_all P (v ∷ vs) [] h first all = elim h [ ]

-- a call in a behaviour is one of its calls in the order of the text
listed : (index : ℕ) (start : List Name) (b : BehaviourView) (there : List Name) (p : Placed) (gs : List Placed) →
    IsSubexpression start b there (t.call p gs) → In (the_site index p gs) (sites_in index b)
listed index start b there p gs parts.whole = inl refl
listed index start b there p gs (in_prefix i) = listed index start _ there p gs i
listed index start b there p gs (in_choice_left {l = l} {r = r} i) =
    in_front (the_site index p gs) (sites_in index l) (sites_in index r) (listed index start l there p gs i)
listed index start b there p gs (in_choice_right {l = l} {r = r} i) =
    in_back (the_site index p gs) (sites_in index l) (sites_in index r) (listed index start r there p gs i)
listed index start b there p gs (in_par_left {l = l} {r = r} i) =
    in_front (the_site index p gs) (sites_in index l) (sites_in index r) (listed index start l there p gs i)
listed index start b there p gs (in_par_right {l = l} {r = r} i) =
    in_back (the_site index p gs) (sites_in index l) (sites_in index r) (listed index start r there p gs i)
listed index start b there p gs (in_hide {gs = list} i) = listed index (texts list ++ start) _ there p gs i
listed index start b there p gs (in_enable_left {l = l} {r = r} i) =
    in_front (the_site index p gs) (sites_in index l) (sites_in index r) (listed index start l there p gs i)
listed index start b there p gs (in_enable_right {l = l} {r = r} i) =
    in_back (the_site index p gs) (sites_in index l) (sites_in index r) (listed index start r there p gs i)
listed index start b there p gs (in_disable_left {l = l} {r = r} i) =
    in_front (the_site index p gs) (sites_in index l) (sites_in index r) (listed index start l there p gs i)
listed index start b there p gs (in_disable_right {l = l} {r = r} i) =
    in_back (the_site index p gs) (sites_in index l) (sites_in index r) (listed index start r there p gs i)

-- the same of definitions, the first of which has this index
listed_all : (vs : List ScopedDefinition) (first j index : ℕ) (v : ScopedDefinition) → slice_get vs j ≡ Some v → index ≡ first + j →
    (there : List Name) (p : Placed) (gs : List Placed) → IsSubexpression (texts (formals_of v.definition)) (body_of v.definition) there (t.call p gs) →
    In (the_site index p gs) (sites_from first (map (λ v. v.definition) vs))
listed_all [] first j index v at counted there p gs i = cc
listed_all (u ∷ vs) first zero index v at counted there p gs i =
    let same : u ≡ v = cc in
    let here : first ≡ index = omega arith in
    in_front (the_site index p gs) (sites_in first (body_of u.definition)) (sites_from (suc first) (map (λ v. v.definition) vs))
    (subst (λ n. In (the_site index p gs) (sites_in n (body_of u.definition))) (sym here)
    (subst (λ (x : ScopedDefinition). In (the_site index p gs) (sites_in index (body_of x.definition))) (sym same)
    (listed index (texts (formals_of v.definition)) (body_of v.definition) there p gs i)))
listed_all (u ∷ vs) first (suc j) index v at counted there p gs i =
    in_back (the_site index p gs) (sites_in first (body_of u.definition)) (sites_from (suc first) (map (λ v. v.definition) vs))
    (listed_all vs (suc first) j index v at (omega arith) there p gs i)

-- the call is in the body of the definition with its index, and bound to the process with this number
pub record IsSiteIn (spec : DefinitionView) (site : Site) (k : ℕ) : Type 0 where
  pub scoped : ScopedDefinition
  pub located : slice_get (all_definitions spec) site.caller ≡ Some scoped
  pub there : List Name
  pub definition : DefinitionView
  pub inside : IsSubexpression (texts (formals_of scoped.definition)) (body_of scoped.definition) there (t.call site.callee site.actuals)
  pub means : Binds scoped.scope site.callee.name k definition

-- the laws of the static check
module _ (one : (scope : Scope) → IsDistinctScope scope → BindsOnce scope) (spec : DefinitionView) (s : System) (a : IsAccepted spec s) where
  -- all calls of the specification
  abbrev pub all_sites : List Site
  all_sites = sites_from 0 (definitions_in spec)

  -- they are paired with the numbers of their processes
  pairs : Pairwise (IsSiteIn spec) all_sites (numbers_of s)
  pairs = subst (λ ds. Pairwise (IsSiteIn spec) (sites_from 0 ds) (numbers_of s)) (sym (everywhere_in_order spec))
      (pairs_joined _ _ _ _
      (paired (IsSiteIn spec) (scoped_whole spec).scope 0 (texts (formals_of spec)) (body_of spec) s.start a.flat.start
      (λ there p gs k d i m. record { scoped = scoped_whole spec; located = refl; there = there; definition = d; inside = i; means = m }))
      (paired_all (IsSiteIn spec) (processes_of spec) s.processes a.flat.processes 1
      (λ j index v at counted there p gs k d i m. record {
        scoped = v;
        located = (let here : index ≡ suc j = omega arith in subst (λ n. slice_get (all_definitions spec) n ≡ Some v) (sym here) at);
        there = there;
        definition = d;
        inside = i;
        means = m;
      })))

  -- the call at an index is one by name
  pub site_named : (index k : ℕ) (site : Site) → slice_get all_sites index ≡ Some site → slice_get (numbers_of s) index ≡ Some k → IsSiteIn spec site k
  site_named index k site at number =
      let r = pair_of_first all_sites (numbers_of s) pairs index site at in
      subst (IsSiteIn spec site) (one_item (numbers_of s) index r.0 k r.1 number) r.2

  -- a call by name has an index
  pub site_numbered : (index k : ℕ) (v : ScopedDefinition) → slice_get (all_definitions spec) index ≡ Some v → (h : IsCalledIn v k) →
      (i : ℕ) × (slice_get all_sites i ≡ Some (the_site index h.callee h.actuals)) × (slice_get (numbers_of s) i ≡ Some k)
  site_numbered index k v at h =
      let site = the_site index h.callee h.actuals in
      let there = subst (λ ds. In site (sites_from 0 ds)) (sym (everywhere_in_order spec))
      (listed_all (all_definitions spec) 0 index index v at (omega arith) h.in_scope h.callee h.actuals h.inside) in
      let i = in_get all_sites site there in
      let r = pair_of_first all_sites (numbers_of s) pairs i.0 site i.1 in
      let other = r.2 in
      let same : other.scoped ≡ v = one_item (all_definitions spec) index other.scoped v other.located at in
      let means = subst (λ (x : ScopedDefinition). Binds x.scope h.callee.name r.0 other.definition) same other.means in
      let number = (one v.scope (visible_distinct spec a.typed.distinct v (get_in (all_definitions spec) index v at)) h.callee.name r.0 k
      other.definition h.definition means h.means).0 in
      (i.0, i.1, subst (λ n. slice_get (numbers_of s) i.0 ≡ Some n) number r.1)
