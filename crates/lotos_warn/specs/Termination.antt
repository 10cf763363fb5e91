-- Which behaviours may terminate, by their text alone.
use Rattle.std.specs.Prelude.{◌≡◌, ℕ, Bool, true, false, ◌&&◌, ◌||◌, List, Option, Some, eqb, slice_get}
use Rattle.std.specs.List.{list_any}
use Rattle.lotos_text.specs.AstView as t
use Rattle.lotos_text.specs.AstView.{BehaviourView, SyncView, DefinitionView, body_of}
use Rattle.lotos_text.specs.declared.ast.Placed.{Placed}
use Rattle.lotos_text.specs.declared.ast.Action.{Action}
use Rattle.lotos_check.specs.NameLists.{Name}
use Rattle.lotos_check.specs.Scope.{Scope, ScopedDefinition, Binds, processes_of}
use Rattle.lotos_check.specs.Flat.{Flat, FlatProcess, stop, exit, prefix, choice, par, hide, enable, disable, call}

-- given the visible processes, the behaviour may terminate: `exit` does; a prefix and a hiding if what is inside may; a
-- choice and `[>` if one side may; a parallel composition and `>>` if both sides may; a call if the body of the process
-- may that its name is bound to
pub data MayTerminate (whole : DefinitionView) : Scope → BehaviourView → Type 0 where
  by_exit : {scope : Scope} → MayTerminate whole scope t.exit
  by_prefix : {scope : Scope} {a : Action} {b : BehaviourView} → MayTerminate whole scope b →
      MayTerminate whole scope (t.prefix a b)
  by_choice_left : {scope : Scope} {l r : BehaviourView} → MayTerminate whole scope l →
      MayTerminate whole scope (t.choice l r)
  by_choice_right : {scope : Scope} {l r : BehaviourView} → MayTerminate whole scope r →
      MayTerminate whole scope (t.choice l r)
  by_par : {scope : Scope} {l r : BehaviourView} {s : SyncView} → MayTerminate whole scope l →
      MayTerminate whole scope r → MayTerminate whole scope (t.par l s r)
  by_hide : {scope : Scope} {gs : List Placed} {b : BehaviourView} → MayTerminate whole scope b →
      MayTerminate whole scope (t.hide gs b)
  by_enable : {scope : Scope} {l r : BehaviourView} {at : ℕ} → MayTerminate whole scope l →
      MayTerminate whole scope r → MayTerminate whole scope (t.enable l at r)
  by_disable_left : {scope : Scope} {l r : BehaviourView} → MayTerminate whole scope l →
      MayTerminate whole scope (t.disable l r)
  by_disable_right : {scope : Scope} {l r : BehaviourView} → MayTerminate whole scope r →
      MayTerminate whole scope (t.disable l r)
  by_call : {scope : Scope} {p : Placed} {gs : List Placed} {k : ℕ} {d : DefinitionView} {callee : ScopedDefinition} →
      Binds scope p.name k d → slice_get (processes_of whole) k ≡ Some callee →
      MayTerminate whole callee.scope (body_of callee.definition) → MayTerminate whole scope (t.call p gs)

-- the same of a behaviour with calls by number
pub data MayExit (processes : List FlatProcess) : Flat → Type 0 where
  of_exit : MayExit processes exit
  of_prefix : {a : Option Name} {b : Flat} → MayExit processes b → MayExit processes (prefix a b)
  of_choice_left : {l r : Flat} → MayExit processes l → MayExit processes (choice l r)
  of_choice_right : {l r : Flat} → MayExit processes r → MayExit processes (choice l r)
  of_par : {l r : Flat} {s : Option (List Name)} → MayExit processes l → MayExit processes r →
      MayExit processes (par l s r)
  of_hide : {gs : List Name} {b : Flat} → MayExit processes b → MayExit processes (hide gs b)
  of_enable : {l r : Flat} → MayExit processes l → MayExit processes r → MayExit processes (enable l r)
  of_disable_left : {l r : Flat} → MayExit processes l → MayExit processes (disable l r)
  of_disable_right : {l r : Flat} → MayExit processes r → MayExit processes (disable l r)
  of_call : {k : ℕ} {gs : List Name} {process : FlatProcess} → slice_get processes k ≡ Some process →
      MayExit processes process.body → MayExit processes (call k gs)

-- the process with this number may terminate
pub record IsExiting (processes : List FlatProcess) (k : ℕ) : Type 0 where
  pub process : FlatProcess
  pub located : slice_get processes k ≡ Some process
  pub exits : MayExit processes process.body

-- whether the number is in the list
abbrev pub is_among : List ℕ → ℕ → Bool
is_among numbers k = list_any (eqb k) numbers

-- whether the behaviour may terminate if of the processes exactly those with these numbers may
abbrev pub exits_by : List ℕ → Flat → Bool
exits_by numbers stop = false
exits_by numbers exit = true
exits_by numbers (prefix a b) = exits_by numbers b
exits_by numbers (choice l r) = exits_by numbers l || exits_by numbers r
exits_by numbers (par l s r) = exits_by numbers l && exits_by numbers r
exits_by numbers (hide gs b) = exits_by numbers b
exits_by numbers (enable l r) = exits_by numbers l && exits_by numbers r
exits_by numbers (disable l r) = exits_by numbers l || exits_by numbers r
exits_by numbers (call k gs) = is_among numbers k
