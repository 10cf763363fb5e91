-- Every call goes to the process that its name is bound to, and without E23 its gates fit.
use Rattle.std.proofs.Common.{◌≡◌, ◌≢◌, ℕ, ◌+◌, List, [], ◌++◌, Some, length, slice_get, refl, sym, ap, ◌∙◌, inl, inr}
use Rattle.std.proofs.lemmas.Bool.Decides.{eqb_tells}
use Rattle.std.proofs.lemmas.List.{length-map}
use Rattle.lotos_text.specs.AstView.{BehaviourView, DefinitionView, call, name_of, formals_of, body_of}
use Rattle.lotos_text.specs.declared.ast.Placed.{Placed}
use Rattle.lotos_check.specs.NameLists.{Name, In, texts}
use Rattle.lotos_check.specs.Scope.{Scope, ScopedDefinition, Binds, within, processes_of, all_definitions}
use Rattle.lotos_check.specs.Subexpressions as parts
use Rattle.lotos_check.specs.Subexpressions.{IsSubexpression, in_prefix, in_choice_left, in_choice_right, in_par_left, in_par_right, in_hide, in_enable_left, in_enable_right, in_disable_left, in_disable_right}
use Rattle.lotos_check.specs.Flat.{Flat, FlatProcess, System, IsFlat, Resolves, of_stop, of_exit, of_prefix, of_choice, of_par, of_par_all, of_hide, of_enable, of_disable, of_call}
use Rattle.lotos_check.specs.Bodies.{ContainsCall, itself, under_prefix, left_choice, right_choice, left_par, right_par, under_hide, left_enable, right_enable, left_disable, right_disable, IsBodyOf, of_whole, of_process, IsProcessOf, GoesToNamed}
use Rattle.lotos_check.specs.StaticFaults.{IsE23}
use Rattle.lotos_check.specs.Acceptance.{IsAccepted}
use Rattle.lotos_check.proofs.FlatSystemUnique.{paired_at}
use Rattle.lotos_check.proofs.BoundProcesses.{bound_process}
use Rattle.lotos_check.proofs.Pairs.{pair_of_first}

-- the behaviour contains a call of a name that is bound to the process, with these gates
record IsCalled (scope : Scope) (known : List Name) (body : BehaviourView) (k : ℕ) (gates : List Name) : Type 0 where
  there : List Name
  name : Placed
  actuals : List Placed
  definition : DefinitionView
  inside : IsSubexpression known body there (call name actuals)
  means : Binds scope name.name k definition
  given : gates ≡ texts actuals

-- the call is in a behaviour of which this one is a part
widened : (scope : Scope) (known more : List Name) (t u : BehaviourView) (k : ℕ) (gates : List Name) →
    ((there : List Name) (part : BehaviourView) → IsSubexpression known t there part → IsSubexpression more u there part) →
    IsCalled scope known t k gates → IsCalled scope more u k gates
widened scope known more t u k gates wider h = record {
  there = h.there;
  name = h.name;
  actuals = h.actuals;
  definition = h.definition;
  inside = wider h.there (call h.name h.actuals) h.inside;
  means = h.means;
  given = h.given;
}

-- a call by number comes from a call by name
named_call : (scope : Scope) (known : List Name) (t : BehaviourView) (c : Flat) (k : ℕ) (gates : List Name) →
    Resolves scope t c → ContainsCall c k gates → IsCalled scope known t k gates
named_call scope known t c k gates (of_call {p = p} {gs = gs} {d = d} m) itself =
    record { there = known; name = p; actuals = gs; definition = d; inside = parts.whole; means = m; given = refl }
named_call scope known t c k gates (of_prefix x) (under_prefix h) =
    widened scope known known _ t k gates (λ there part i. in_prefix i) (named_call scope known _ _ k gates x h)
named_call scope known t c k gates (of_choice x y) (left_choice h) =
    widened scope known known _ t k gates (λ there part i. in_choice_left i) (named_call scope known _ _ k gates x h)
named_call scope known t c k gates (of_choice x y) (right_choice h) =
    widened scope known known _ t k gates (λ there part i. in_choice_right i) (named_call scope known _ _ k gates y h)
named_call scope known t c k gates (of_par x s y) (left_par h) =
    widened scope known known _ t k gates (λ there part i. in_par_left i) (named_call scope known _ _ k gates x h)
named_call scope known t c k gates (of_par x s y) (right_par h) =
    widened scope known known _ t k gates (λ there part i. in_par_right i) (named_call scope known _ _ k gates y h)
named_call scope known t c k gates (of_par_all x y) (left_par h) =
    widened scope known known _ t k gates (λ there part i. in_par_left i) (named_call scope known _ _ k gates x h)
named_call scope known t c k gates (of_par_all x y) (right_par h) =
    widened scope known known _ t k gates (λ there part i. in_par_right i) (named_call scope known _ _ k gates y h)
named_call scope known t c k gates (of_hide {gs = gs} s x) (under_hide h) =
    widened scope (texts gs ++ known) known _ t k gates (λ there part i. in_hide i) (named_call scope (texts gs ++ known) _ _ k gates x h)
named_call scope known t c k gates (of_enable x y) (left_enable h) =
    widened scope known known _ t k gates (λ there part i. in_enable_left i) (named_call scope known _ _ k gates x h)
named_call scope known t c k gates (of_enable x y) (right_enable h) =
    widened scope known known _ t k gates (λ there part i. in_enable_right i) (named_call scope known _ _ k gates y h)
named_call scope known t c k gates (of_disable x y) (left_disable h) =
    widened scope known known _ t k gates (λ there part i. in_disable_left i) (named_call scope known _ _ k gates x h)
named_call scope known t c k gates (of_disable x y) (right_disable h) =
    widened scope known known _ t k gates (λ there part i. in_disable_right i) (named_call scope known _ _ k gates y h)
named_call scope known t c k gates of_stop h = elim h [ ]
named_call scope known t c k gates of_exit h = elim h [ ]

-- the process of the number that a name means is the definition that it means
called_process : (whole : DefinitionView) (s : System) → IsFlat whole s → (v : ScopedDefinition) → In v (all_definitions whole) →
    (n : Name) (k : ℕ) (d : DefinitionView) →
    Binds v.scope n k d → IsProcessOf s k d
called_process whole s flat v i n k d m =
    let at = bound_process whole v i n k d m in
    let p = pair_of_first (processes_of whole) s.processes flat.processes k at.0 at.1 in
    record {
      process = p.0;
      located = p.1;
      name = p.2.name ∙ ap (λ e. (name_of e).name) at.2;
      formals = p.2.formals ∙ ap (λ e. texts (formals_of e)) at.2;
    }

-- a call by number in the body of a definition goes to the definition that its name means
pub goes_to_named : (whole : DefinitionView) (s : System) → IsAccepted whole s → (v : ScopedDefinition) → In v (all_definitions whole) → (b : Flat) →
    Resolves v.scope (body_of v.definition) b → (k : ℕ) (gates : List Name) → ContainsCall b k gates → GoesToNamed s v k gates
goes_to_named whole s a v i b r k gates h =
    let c = named_call v.scope (texts (formals_of v.definition)) (body_of v.definition) b k gates r h in
    record {
      named = record {
        there = c.there;
        called = c.name;
        actuals = c.actuals;
        inside = c.inside;
        definition = c.definition;
        means = c.means;
        given = c.given;
      };
      process = called_process whole s a.flat v i c.name.name k c.definition c.means;
    }

-- a behaviour of the flat system is the body of a definition with calls by number
body_visible : (whole : DefinitionView) (s : System) → IsFlat whole s → (b : Flat) → IsBodyOf s b →
    (v : ScopedDefinition) × In v (all_definitions whole) × Resolves v.scope (body_of v.definition) b
body_visible whole s flat b of_whole = (record { scope = within whole 0 []; definition = whole }, inl refl, flat.start)
body_visible whole s flat b (of_process p process e) =
    let at = paired_at (processes_of whole) s.processes flat.processes p process e in
    (at.0, inr at.1, at.2.body)

-- numbers that do not differ are equal
same_unless : (x y : ℕ) → (x ≢ y → ⊥) → x ≡ y
same_unless x y no_other = elim (eqb_tells x y) [ inl t ↦ t.1 | inr f ↦ absurd (no_other f.1) ]

-- where no call has another number of gates than its definition, each call fits its process
pub call_fits : (whole : DefinitionView) (s : System) → IsAccepted whole s → (b : Flat) → IsBodyOf s b → (k : ℕ) (gates : List Name) → ContainsCall b k gates →
    (process : FlatProcess) × (slice_get s.processes k ≡ Some process) × (length gates ≡ length process.formals)
call_fits whole s a b body k gates h =
    let at = body_visible whole s a.flat b body in
    let c = named_call at.0.scope (texts (formals_of at.0.definition)) (body_of at.0.definition) b k gates at.2 h in
    let p = called_process whole s a.flat at.0 at.1 c.name.name k c.definition c.means in
    let formal = length (formals_of c.definition) in
    let actual = length c.actuals in
    let unfit : formal ≢ actual → IsE23 whole c.name formal actual = λ differ. record {
      scope = at.0.scope;
      in_scope = c.there;
      actuals = c.actuals;
      process = k;
      definition = c.definition;
      occurs = record { definition = at.0.definition; located = at.1; inside = c.inside };
      means = c.means;
      declared = refl;
      given = refl;
      differ = differ;
    } in
    let same : formal ≡ actual = same_unless formal actual (λ differ. a.typed.same_counts c.name formal actual (unfit differ)) in
    let g = ap length c.given ∙ length-map c.actuals (λ p. p.name) in
    let f = ap length p.formals ∙ length-map (formals_of c.definition) (λ p. p.name) in
    (p.process, p.located, g ∙ sym same ∙ sym f)
