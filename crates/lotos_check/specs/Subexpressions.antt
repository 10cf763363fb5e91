-- The parts of a behaviour, each with the gates in scope there.
use Rattle.std.specs.Prelude.{ℕ, List, ◌++◌}
use Rattle.lotos_text.specs.AstView.{BehaviourView, SyncView, gates, prefix, choice, par, hide, enable, disable, call}
use Rattle.lotos_text.specs.declared.ast.Placed.{Placed}
use Rattle.lotos_text.specs.declared.ast.Action.{Action}
use Rattle.lotos_text.specs.declared.ast.Action.TheVariants.{Gate}
use Rattle.lotos_check.specs.NameLists.{Name, In, texts}

-- the last behaviour is a part of the first. With the first gates in scope around the whole, the second are in scope at
-- the part: the first, and those hidden around it
pub data IsSubexpression : List Name → BehaviourView → List Name → BehaviourView → Type 0 where
  whole : {in_scope : List Name} {t : BehaviourView} → IsSubexpression in_scope t in_scope t
  in_prefix : {in_scope there : List Name} {a : Action} {b t : BehaviourView} → IsSubexpression in_scope b there t →
      IsSubexpression in_scope (prefix a b) there t
  in_choice_left : {in_scope there : List Name} {l r t : BehaviourView} → IsSubexpression in_scope l there t →
      IsSubexpression in_scope (choice l r) there t
  in_choice_right : {in_scope there : List Name} {l r t : BehaviourView} → IsSubexpression in_scope r there t →
      IsSubexpression in_scope (choice l r) there t
  in_par_left : {in_scope there : List Name} {l r t : BehaviourView} {s : SyncView} →
      IsSubexpression in_scope l there t → IsSubexpression in_scope (par l s r) there t
  in_par_right : {in_scope there : List Name} {l r t : BehaviourView} {s : SyncView} →
      IsSubexpression in_scope r there t → IsSubexpression in_scope (par l s r) there t
  in_hide : {in_scope there : List Name} {gs : List Placed} {b t : BehaviourView} →
      IsSubexpression (texts gs ++ in_scope) b there t → IsSubexpression in_scope (hide gs b) there t
  in_enable_left : {in_scope there : List Name} {l r t : BehaviourView} {at : ℕ} → IsSubexpression in_scope l there t →
      IsSubexpression in_scope (enable l at r) there t
  in_enable_right : {in_scope there : List Name} {l r t : BehaviourView} {at : ℕ} → IsSubexpression in_scope r there t →
      IsSubexpression in_scope (enable l at r) there t
  in_disable_left : {in_scope there : List Name} {l r t : BehaviourView} → IsSubexpression in_scope l there t →
      IsSubexpression in_scope (disable l r) there t
  in_disable_right : {in_scope there : List Name} {l r t : BehaviourView} → IsSubexpression in_scope r there t →
      IsSubexpression in_scope (disable l r) there t

-- the behaviour itself, and not only a part of it, uses the gate: in a prefix, in the list of a parallel expression, or
-- in a call
pub data UsesGate : BehaviourView → Placed → Type 0 where
  acts : {g : Placed} {b : BehaviourView} → UsesGate (prefix (Gate g) b) g
  synchronizes : {g : Placed} {l r : BehaviourView} {gs : List Placed} → In g gs → UsesGate (par l (gates gs) r) g
  passes : {g p : Placed} {gs : List Placed} → In g gs → UsesGate (call p gs) g
