-- A behaviour that may terminate has the functionality exit.
use Rattle.std.proofs.Common.{◌≡◌, ◌≢◌, Some, slice_get, refl, sym, ◌∙◌, ap, subst, inr, List}
use Rattle.lotos_text.specs.AstView.{BehaviourView, DefinitionView, name_of, declared_of, body_of}
use Rattle.lotos_text.specs.declared.ast.Functionality.{Functionality}
use Rattle.lotos_text.specs.declared.ast.Functionality.TheVariants.{Exit, NoExit}
use Rattle.lotos_check.specs.NameLists.{Name, In}
use Rattle.lotos_check.specs.Scope.{Scope, ScopedDefinition, processes_of, all_definitions}
use Rattle.lotos_check.specs.Functionality as f
use Rattle.lotos_check.specs.Functionality.{Func, both, either}
use Rattle.lotos_check.specs.Flat as r
use Rattle.lotos_check.specs.Flat.{Flat, System, Resolves}
use Rattle.lotos_check.specs.StaticFaults.{Occurs}
use Rattle.lotos_check.specs.Acceptance.{IsAccepted}
use Rattle.lotos_check.proofs.BindingUnique.{one_meant}
use Rattle.lotos_check.proofs.ListIndices.{get_in, one_item}
use Rattle.lotos_check.proofs.Pairs.{pair_of_first}
use Rattle.lotos_check.proofs.ScopedDefinitions.{visible_distinct}
use Rattle.lotos_store.specs.Terms.{Process, Term}
use Rattle.lotos_warn.specs.Derivations.{IsTermOf, NeverTerminates}
use Rattle.lotos_warn.specs.Termination.{MayTerminate, by_exit, by_prefix, by_choice_left, by_choice_right, by_par, by_hide, by_enable, by_disable_left, by_disable_right, by_call}
use Rattle.lotos_check.proofs.BoundProcesses.{bound_process}
use Rattle.lotos_warn.proofs.NumberedTermination.{never_by_text}

-- a behaviour whose names are all bound has a functionality
functionality_of : (scope : Scope) (b : BehaviourView) (c : Flat) → Resolves scope b c → (g : Functionality) × Func scope b g
functionality_of scope b c r.of_stop = (NoExit, f.of_stop)
functionality_of scope b c r.of_exit = (Exit, f.of_exit)
functionality_of scope b c (r.of_prefix x) = let (g, has) = functionality_of scope _ _ x in (g, f.of_prefix has)
functionality_of scope b c (r.of_choice x y) =
    let (g, has) = functionality_of scope _ _ x in let (h, more) = functionality_of scope _ _ y in (either g h, f.of_choice has more)
functionality_of scope b c (r.of_par x s y) =
    let (g, has) = functionality_of scope _ _ x in let (h, more) = functionality_of scope _ _ y in (both g h, f.of_par has more)
functionality_of scope b c (r.of_par_all x y) =
    let (g, has) = functionality_of scope _ _ x in let (h, more) = functionality_of scope _ _ y in (both g h, f.of_par has more)
functionality_of scope b c (r.of_hide s x) = let (g, has) = functionality_of scope _ _ x in (g, f.of_hide has)
functionality_of scope b c (r.of_enable x y) = let (g, has) = functionality_of scope _ _ y in (g, f.of_enable has)
functionality_of scope b c (r.of_disable x y) =
    let (g, has) = functionality_of scope _ _ x in let (h, more) = functionality_of scope _ _ y in (either g h, f.of_disable has more)
functionality_of scope b c (r.of_call {d = d} m) = (declared_of d, f.of_call m)

-- `either` of a functionality and exit is exit
right_exits : (g : Functionality) → either g Exit ≡ Exit
right_exits Exit = refl
right_exits NoExit = refl

-- `either` of two functionalities is exit if the left one is
left_side : (g h : Functionality) → g ≡ Exit → either g h ≡ Exit
left_side g h e = ap (λ z. either z h) e

-- `either` of two functionalities is exit if the right one is
right_side : (g h : Functionality) → h ≡ Exit → either g h ≡ Exit
right_side g h e = ap (either g) e ∙ right_exits g

-- `both` of two functionalities is exit if each of them is
both_sides : (g h : Functionality) → g ≡ Exit → h ≡ Exit → both g h ≡ Exit
both_sides g h e k = ap (λ z. both z h) e ∙ k

-- a functionality that does not differ from exit is exit
exit_unless : (g : Functionality) → (Exit ≢ g → ⊥) → g ≡ Exit
exit_unless Exit no_other = refl
exit_unless NoExit no_other = absurd (no_other (λ e. cc))

module _ (whole : DefinitionView) (s : System) (a : IsAccepted whole s) where
  -- a definition whose body has exit is declared exit
  declared_exit : (v : ScopedDefinition) → In v (all_definitions whole) → (g : Functionality) → Func v.scope (body_of v.definition) g → g ≡ Exit →
      declared_of v.definition ≡ Exit
  declared_exit v i g has e =
      let declared = declared_of v.definition in
      exit_unless declared (λ differ. a.typed.as_declared (name_of v.definition) declared (record {
        scope = v.scope;
        definition = v.definition;
        other = g;
        located = i;
        named = refl;
        declares = refl;
        has = has;
        differ = λ same. differ (sym e ∙ same);
      }))

  -- what may terminate by its text has the functionality exit
  pub exit_if_may : (v : ScopedDefinition) → In v (all_definitions whole) → (b : BehaviourView) (g : Functionality) → Func v.scope b g →
      MayTerminate whole v.scope b → g ≡ Exit
  exit_if_may v i b g f.of_stop h = elim h [ ]
  exit_if_may v i b g f.of_exit by_exit = refl
  exit_if_may v i b g (f.of_prefix x) (by_prefix h) = exit_if_may v i _ g x h
  exit_if_may v i b g (f.of_hide x) (by_hide h) = exit_if_may v i _ g x h
  exit_if_may v i b g (f.of_choice {f = m} {g = n} x y) (by_choice_left h) = left_side m n (exit_if_may v i _ m x h)
  exit_if_may v i b g (f.of_choice {f = m} {g = n} x y) (by_choice_right h) = right_side m n (exit_if_may v i _ n y h)
  exit_if_may v i b g (f.of_disable {f = m} {g = n} x y) (by_disable_left h) = left_side m n (exit_if_may v i _ m x h)
  exit_if_may v i b g (f.of_disable {f = m} {g = n} x y) (by_disable_right h) = right_side m n (exit_if_may v i _ n y h)
  exit_if_may v i b g (f.of_par {f = m} {g = n} x y) (by_par h j) = both_sides m n (exit_if_may v i _ m x h) (exit_if_may v i _ n y j)
  exit_if_may v i b g (f.of_enable y) (by_enable h j) = exit_if_may v i _ g y j
  exit_if_may v i b g (f.of_call {p = p} {k = k} {d = d} m) (by_call {k = j} {d = e} {callee = w} bound at h) =
      let one = one_meant v.scope (visible_distinct whole a.typed.distinct v i) p.name k j d e m bound in
      let (u, there, is) = bound_process whole v i p.name k d m in
      let same : u ≡ w = one_item (processes_of whole) j u w (subst (λ z. slice_get (processes_of whole) z ≡ Some u) one.0 there) at in
      let located = get_in (processes_of whole) j w at in
      let (q, found, body) = pair_of_first (processes_of whole) s.processes a.flat.processes j w at in
      let (n, has) = functionality_of w.scope (body_of w.definition) q.body body.body in
      let exits = declared_exit w (inr located) n has (exit_if_may w (inr located) (body_of w.definition) n has h) in
      ap declared_of (sym is) ∙ ap (λ z. declared_of z.definition) same ∙ exits

-- what has the functionality noexit never terminates
pub never_by_functionality : (whole : DefinitionView) (scope : Scope) (gates : List Name) (behaviour : BehaviourView) (processes : List Process) (term : Term) →
    Occurs whole scope gates behaviour → Func scope behaviour NoExit → IsTermOf whole scope behaviour processes term → NeverTerminates processes term
never_by_functionality whole scope gates behaviour processes term occurs has is =
    let v : ScopedDefinition = record { scope = scope; definition = occurs.definition } in
    never_by_text whole scope behaviour processes term (λ may.
    absurd (let exits : NoExit ≡ Exit = exit_if_may whole is.system is.accepted v occurs.located behaviour NoExit has may in cc)) is
