-- What a behaviour can do first, by its text alone.
use Rattle.std.specs.Prelude.{◌≡◌, ◌≢◌, ℕ, List, [], ◌∷◌, Option, Some, None, slice_get, zip}
use Rattle.lotos_text.specs.AstView.{BehaviourView, DefinitionView, name_of, body_of}
use Rattle.lotos_text.specs.AstView as t
use Rattle.lotos_text.specs.declared.ast.Placed.{Placed}
use Rattle.lotos_check.specs.NameLists.{Name, In}
use Rattle.lotos_check.specs.Acceptance.{IsAccepted}
use Rattle.lotos_check.specs.Flat.{Flat, FlatProcess, System, exit, prefix, choice, par, hide, enable, disable, call}

-- what a first step does: it terminates successfully, is internal, or is an action of a gate, by name (ISO)
pub data First : Type 0 where
  termination : First
  internal : First
  action : Name → First

-- both sides of a parallel composition do it together: termination, and the gates of the list, or all gates (ISO)
abbrev pub IsTogether : Option (List Name) → First → Type 0
IsTogether gates termination = Unit {0}
IsTogether gates internal = ⊥
IsTogether None (action g) = Unit {0}
IsTogether (Some gates) (action g) = In g gates

-- it is no action of a gate of the list (ISO)
abbrev pub IsShown : List Name → First → Type 0
IsShown gates termination = Unit {0}
IsShown gates internal = Unit {0}
IsShown gates (action g) = In g gates → ⊥

-- what is made of it by pairs of a formal gate and an actual one: an action of the actual gate of its gate's first
-- pair; all else stays (ISO)
pub data Becomes : List (Name × Name) → First → First → Type 0 where
  termination_stays : {pairs : List (Name × Name)} → Becomes pairs termination termination
  internal_stays : {pairs : List (Name × Name)} → Becomes pairs internal internal
  stays : {g : Name} → Becomes [] (action g) (action g)
  at_first : {g h : Name} {pairs : List (Name × Name)} → Becomes ((g, h) ∷ pairs) (action g) (action h)
  later : {g x h : Name} {y : First} {pairs : List (Name × Name)} → x ≢ g → Becomes pairs (action g) y →
      Becomes ((x, h) ∷ pairs) (action g) y

-- by its text alone the behaviour can do this first: the inference rules for steps, with gates by name and without what
-- comes after the step (ISO)
pub data CanBegin (processes : List FlatProcess) : Flat → First → Type 0 where
  terminates : CanBegin processes exit termination
  acts : {g : Name} {b : Flat} → CanBegin processes (prefix (Some g) b) (action g)
  acts_inside : {b : Flat} → CanBegin processes (prefix None b) internal
  chooses_left : {l r : Flat} {x : First} → CanBegin processes l x → CanBegin processes (choice l r) x
  chooses_right : {l r : Flat} {x : First} → CanBegin processes r x → CanBegin processes (choice l r) x
  together : {l r : Flat} {s : Option (List Name)} {x : First} → IsTogether s x → CanBegin processes l x →
      CanBegin processes r x → CanBegin processes (par l s r) x
  left_alone : {l r : Flat} {s : Option (List Name)} {x : First} → (IsTogether s x → ⊥) → CanBegin processes l x →
      CanBegin processes (par l s r) x
  right_alone : {l r : Flat} {s : Option (List Name)} {x : First} → (IsTogether s x → ⊥) → CanBegin processes r x →
      CanBegin processes (par l s r) x
  hides : {gs : List Name} {b : Flat} {g : Name} → In g gs → CanBegin processes b (action g) →
      CanBegin processes (hide gs b) internal
  shows : {gs : List Name} {b : Flat} {x : First} → IsShown gs x → CanBegin processes b x →
      CanBegin processes (hide gs b) x
  goes_on : {l r : Flat} {x : First} → x ≢ termination → CanBegin processes l x → CanBegin processes (enable l r) x
  enables : {l r : Flat} → CanBegin processes l termination → CanBegin processes (enable l r) internal
  undisturbed : {l r : Flat} {x : First} → CanBegin processes l x → CanBegin processes (disable l r) x
  disables : {l r : Flat} {x : First} → CanBegin processes r x → CanBegin processes (disable l r) x
  calls : {k : ℕ} {gs : List Name} {process : FlatProcess} {x y : First} → slice_get processes k ≡ Some process →
      Becomes (zip process.formals gs) x y → CanBegin processes process.body x → CanBegin processes (call k gs) y

-- the name is that of the specification, whose behaviour is not `stop`, and can do nothing first
pub record IsDeadStart (whole : DefinitionView) (name : Placed) : Type 0 where
  pub system : System
  pub accepted : IsAccepted whole system
  pub named : name ≡ name_of whole
  pub not_written : body_of whole ≡ t.stop → ⊥
  pub dead : (x : First) → CanBegin system.processes system.start x → ⊥
