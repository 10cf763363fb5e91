-- What makes the functionality of a behaviour, from what makes those of its operands.
use Rattle.std.specs.Prelude.{◌≡◌, ℕ, ◌+◌, List, [], ◌∷◌, Bool, true, false, IfSome, Option}
use Rattle.std.specs.Str.{bytes_eq}
use Rattle.std.specs.Borrow.{Bor}
use Rattle.std.proofs.Common.{refl, sym, subst, ap, ◌∙◌}
use Rattle.std.proofs.lemmas.Slice.Eq.{bytes_eq-Decides}
use Rattle.lotos_text.specs.AstView.{BehaviourView, SyncView, stop, exit, prefix, choice, par, hide, enable, disable, call, DefinitionView, DefinitionListView, no_defs, more_defs, name_of, inner_of}
use Rattle.lotos_text.specs.AstOf.{definition_view}
use Rattle.lotos_text.specs.declared.ast.Definition.{Definition, out-Definition}
use Rattle.lotos_text.specs.declared.ast.Action.{Action}
use Rattle.lotos_text.specs.declared.ast.Functionality.{Functionality}
use Rattle.lotos_text.specs.declared.ast.Functionality.TheVariants.{Exit, NoExit}
use Rattle.lotos_text.specs.declared.ast.Placed.{Placed}
use Rattle.lotos_check.specs.NameLists.{Name}
use Rattle.lotos_check.specs.Scope.{Scope, Declares, here, later, nearest, outward, count}
use Rattle.lotos_check.specs.Functionality.{Func, of_stop, of_exit, of_prefix, of_hide, of_choice, of_disable, of_par, of_enable, of_call}
use Rattle.lotos_explain.specs.declared.functionality_causes.Cause.{Cause}
use Rattle.lotos_explain.specs.declared.functionality_causes.Leaf.TheVariants as leaf
use Rattle.lotos_explain.specs.FunctionalityCauses.{IsReached, itself, under_prefix, under_hide, left_choice, right_choice, left_disable, right_disable, left_par, right_par, right_enable, HasCause, HasCauseAfter, IsEnclosing, IsBoundTo, IsDeclared}
use Rattle.lotos_text.proofs.DefinitionParts.{name_shown, declared_shown}
use Rattle.lotos_explain.proofs.SimilarNames.{some_weaker}

module _ (scope : Scope) where
  -- the first of the parts on the way has the functionality
  func_reached : (f : Functionality) (n : ℕ) (b t : BehaviourView) → IsReached scope f n b t → Func scope b f
  func_reached f n b t (itself h) = h
  func_reached f n b t (under_prefix h r) = h
  func_reached f n b t (under_hide h r) = h
  func_reached f n b t (left_choice h r) = h
  func_reached f n b t (right_choice h r) = h
  func_reached f n b t (left_disable h r) = h
  func_reached f n b t (right_disable h r) = h
  func_reached f n b t (left_par h r) = h
  func_reached f n b t (right_par h r) = h
  func_reached f n b t (right_enable h r) = h

  -- a behaviour has the functionality of its cause
  func_caused : (b : BehaviourView) (c : Cause) → HasCause scope b c → Func scope b c.functionality
  func_caused b c h = func_reached c.functionality c.before b h.part h.reached

  -- a right operand has the functionality of its cause
  func_caused_after : (l r : BehaviourView) (c : Cause) → HasCauseAfter scope l r c → Func scope r c.functionality
  func_caused_after l r c h = func_reached c.functionality h.own r h.part h.reached

  module _ (l r : BehaviourView) (c d : Cause) (h : HasCause scope l c) (k : HasCauseAfter scope l r d) where
    left_func : (f : Functionality) → c.functionality ≡ f → Func scope l f
    left_func f e = subst (Func scope l) e (func_caused l c h)

    pub choice_exits : c.functionality ≡ Exit → HasCause scope (choice l r) c
    choice_exits e =
        let whole = subst (Func scope (choice l r)) (sym e) (of_choice (left_func Exit e) (func_caused_after l r d k)) in
        record { part = h.part; is = h.is; reached = left_choice whole h.reached }

    pub disable_exits : c.functionality ≡ Exit → HasCause scope (disable l r) c
    disable_exits e =
        let whole = subst (Func scope (disable l r)) (sym e) (of_disable (left_func Exit e) (func_caused_after l r d k)) in
        record { part = h.part; is = h.is; reached = left_disable whole h.reached }

    pub choice_other : c.functionality ≡ NoExit → HasCause scope (choice l r) d
    choice_other e =
        let whole = of_choice (left_func NoExit e) (func_caused_after l r d k) in
        record {
          part = k.part;
          is = k.is;
          reached = subst (λ n. IsReached scope d.functionality n (choice l r) k.part) (sym k.counted) (right_choice whole k.reached);
        }

    pub disable_other : c.functionality ≡ NoExit → HasCause scope (disable l r) d
    disable_other e =
        let whole = of_disable (left_func NoExit e) (func_caused_after l r d k) in
        record {
          part = k.part;
          is = k.is;
          reached = subst (λ n. IsReached scope d.functionality n (disable l r) k.part) (sym k.counted) (right_disable whole k.reached);
        }

    pub par_never : (s : SyncView) → c.functionality ≡ NoExit → HasCause scope (par l s r) c
    par_never s e =
        let whole = subst (Func scope (par l s r)) (sym e) (of_par (left_func NoExit e) (func_caused_after l r d k)) in
        record { part = h.part; is = h.is; reached = left_par whole h.reached }

    pub par_other : (s : SyncView) → c.functionality ≡ Exit → HasCause scope (par l s r) d
    par_other s e =
        let whole = of_par (left_func Exit e) (func_caused_after l r d k) in
        record {
          part = k.part;
          is = k.is;
          reached = subst (λ n. IsReached scope d.functionality n (par l s r) k.part) (sym k.counted) (right_par whole k.reached);
        }

  -- a prefix has each cause of the behaviour after its action
  pub prefix_caused : (a : Action) (b : BehaviourView) (c : Cause) → HasCause scope b c → HasCause scope (prefix a b) c
  prefix_caused a b c h = record { part = h.part; is = h.is; reached = under_prefix (of_prefix (func_caused b c h)) h.reached }

  -- a hiding has each cause of the behaviour in it
  pub hide_caused : (gs : List Placed) (b : BehaviourView) (c : Cause) → HasCause scope b c → HasCause scope (hide gs b) c
  hide_caused gs b c h = record { part = h.part; is = h.is; reached = under_hide (of_hide (func_caused b c h)) h.reached }

  -- an enabling has each cause of its right operand after the left one
  pub enable_caused : (l : BehaviourView) (at : ℕ) (r : BehaviourView) (c : Cause) → HasCauseAfter scope l r c →
      HasCause scope (enable l at r) c
  enable_caused l at r c h =
      let whole = of_enable (func_caused_after l r c h) in
      record {
        part = h.part;
        is = h.is;
        reached = subst (λ n. IsReached scope c.functionality n (enable l at r) h.part) (sym h.counted) (right_enable whole h.reached);
      }

-- the name is declared by the rest, whose first definition has some number, just if it is by all
pub record SameDeclared (all : DefinitionListView) (first : ℕ) (n : Name) (rest : DefinitionListView) : Type 0 where
  pub number : ℕ
  pub left : (j : ℕ) (d : DefinitionView) → Declares rest number n j d → Declares all first n j d
  pub only : (j : ℕ) (d : DefinitionView) → Declares all first n j d → Declares rest number n j d

-- if the rest is all the definitions, it declares the name just if all do
pub same_all : (all : DefinitionListView) (first : ℕ) (n : Name) → SameDeclared all first n all
same_all all first n = record { number = first; left = λ j d h. h; only = λ j d h. h }

module _ (all : DefinitionListView) (first : ℕ) (n : Name) (one : DefinitionView) (rest : DefinitionListView)
    (same : SameDeclared all first n (more_defs one rest)) where
  -- if the first definition of the rest has the name, all the definitions declare it as this one
  pub same_here : (name_of one).name ≡ n → IsDeclared all first n one
  same_here e = record {
    process = same.number;
    declares = same.left same.number one
        (subst (λ m. Declares (more_defs one rest) same.number m same.number one) e here);
  }

  -- what the definitions declare by a name that the first of them does not have, those after it declare
  not_first : (k j : ℕ) (m : Name) (d : DefinitionView) → ((name_of one).name ≡ m → ⊥) → Declares (more_defs one rest) k m j d →
      Declares rest (k + 1 + count (inner_of one)) m j d
  not_first k j m d other here = absurd (other refl)
  not_first k j m d other (later h) = h

  -- if the first definition of the rest does not have the name, those after it declare it just if all do
  pub same_next : ((name_of one).name ≡ n → ⊥) → SameDeclared all first n rest
  same_next other = record {
    number = same.number + 1 + count (inner_of one);
    left = λ j d h. same.left j d (later h);
    only = λ j d h. not_first same.number j n d other (same.only j d h);
  }

-- if an empty rest declares the name just if all do, none of all declares it
pub same_none : (all : DefinitionListView) (first : ℕ) (n : Name) → SameDeclared all first n no_defs → (k : ℕ) (d : DefinitionView) → Declares all first n k d →
    ⊥
same_none all first n same k d h = elim (same.only k d h) [ ]

-- what a test of the name of a definition says
module _ (of : Definition) (n : Name) (b : Bool) (tested : b ≡ bytes_eq (out-Definition of).name.name n) where
  -- if the test is true, the definition has the name
  pub is_named : b ≡ true → (name_of (definition_view of)).name ≡ n
  is_named e = ap (λ p. p.name) (sym (name_shown of)) ∙ (bytes_eq-Decides (out-Definition of).name.name n).0 (sym tested ∙ e)

  -- if the test is false, the definition does not have the name
  pub is_not_named : b ≡ false → (name_of (definition_view of)).name ≡ n → ⊥
  is_not_named e same =
      let t = (bytes_eq-Decides (out-Definition of).name.name n).1 (ap (λ p. p.name) (name_shown of) ∙ same) in
      let f : true ≡ false = sym t ∙ sym tested ∙ e in
      cc

module _ (n : Name) (near : DefinitionView) (outer : List DefinitionView) where
  -- a name that the nearest `where` declares is bound to what it declares first
  pub bound_here : (d : DefinitionView) → ((first : ℕ) → IsDeclared (inner_of near) first n d) → (scope : Scope) →
      IsEnclosing (near ∷ outer) scope → IsBoundTo scope n d
  bound_here d declared [] h = absurd h
  bound_here d declared (w ∷ ws) h =
      let x = declared w.first in
      record { process = x.process; means = nearest (subst (λ ds. Declares ds w.first n x.process d) h.0 x.declares) }

  -- a name that it does not declare is bound to what the others bind it to
  pub bound_past : {A : Type 0} (view : A → DefinitionView) (r : Option A) →
      ((first k : ℕ) (d : DefinitionView) → Declares (inner_of near) first n k d → ⊥) →
      ((ws : Scope) → IsEnclosing outer ws → IfSome r (λ d. IsBoundTo ws n (view d))) → (scope : Scope) →
      IsEnclosing (near ∷ outer) scope → IfSome r (λ d. IsBoundTo scope n (view d))
  bound_past view r none others [] h = absurd h
  bound_past view r none others (w ∷ ws) h =
      some_weaker r (λ d b. record {
        process = b.process;
        means = outward (λ j e x. none w.first j e (subst (λ ds. Declares ds w.first n j e) (sym h.0) x)) b.means;
      }) (others ws h.1)

-- a call has what its definition declares
pub call_caused : (scope : Scope) (p : Bor Placed) (gs : List Placed) (of : Definition) → IsBoundTo scope p.now.name (definition_view of) →
    HasCause scope (call p.now gs) (record { functionality = (out-Definition of).functionality; leaf = leaf.Call p; before = 0 })
call_caused scope p gs of b = record {
  part = call p.now gs;
  is = (gs, refl);
  reached = itself (subst (Func scope (call p.now gs)) (sym (declared_shown of)) (of_call b.means));
}

-- `stop` has the functionality `noexit`, of which it is the cause itself
pub stop_caused : (scope : Scope) → HasCause scope stop (record { functionality = NoExit; leaf = leaf.Stop; before = 0 })
stop_caused scope = record { part = stop; is = refl; reached = itself of_stop }

-- `exit` has the functionality `exit`, of which it is the cause itself
pub exit_caused : (scope : Scope) → HasCause scope exit (record { functionality = Exit; leaf = leaf.Exit; before = 0 })
exit_caused scope = record { part = exit; is = refl; reached = itself of_exit }
