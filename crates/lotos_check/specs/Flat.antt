-- The flat system of a specification: its behaviour and its processes, with calls by number.
use Rattle.std.specs.Prelude.{◌≡◌, ℕ, List, [], ◌∷◌, Option, Some, None}
use Rattle.lotos_text.specs.AstView as t
use Rattle.lotos_text.specs.AstView.{BehaviourView, DefinitionView, name_of, formals_of, declared_of, body_of}
use Rattle.lotos_text.specs.declared.ast.Placed.{Placed}
use Rattle.lotos_text.specs.declared.ast.Functionality.{Functionality}
use Rattle.lotos_text.specs.declared.ast.Action.{Action}
use Rattle.lotos_text.specs.declared.ast.Action.TheVariants.{Internal, Gate}
use Rattle.lotos_check.specs.NameLists.{Name, texts, IsSetOf}
use Rattle.lotos_check.specs.Scope.{Scope, Binds, ScopedDefinition, within, processes_of}

-- a behaviour with calls by number; `None` in a prefix is the internal action, in a parallel expression it means all
-- gates
pub data Flat : Type 0 where
  stop : Flat
  exit : Flat
  prefix : Option Name → Flat → Flat
  choice : Flat → Flat → Flat
  par : Flat → Option (List Name) → Flat → Flat
  hide : List Name → Flat → Flat
  enable : Flat → Flat → Flat
  disable : Flat → Flat → Flat
  call : ℕ → List Name → Flat

-- a process: its name, its formal gates in their order, its functionality, and its body with calls by number
pub record FlatProcess : Type 0 where
  pub name : Name
  pub formals : List Name
  pub functionality : Functionality
  pub body : Flat

-- the formal gates and the behaviour of the specification, and all processes
pub record System : Type 0 where
  pub formals : List Name
  pub start : Flat
  pub processes : List FlatProcess

-- the gate of a prefix, and none for the internal action
abbrev pub action_of : Action → Option Name
action_of Internal = None
action_of (Gate g) = Some g.name

-- given the visible processes, the behaviour with its calls by number
pub data Resolves (scope : Scope) : BehaviourView → Flat → Type 0 where
  of_stop : Resolves scope t.stop stop
  of_exit : Resolves scope t.exit exit
  of_prefix : {a : Action} {b : BehaviourView} {c : Flat} → Resolves scope b c →
      Resolves scope (t.prefix a b) (prefix (action_of a) c)
  of_choice : {l r : BehaviourView} {c e : Flat} → Resolves scope l c → Resolves scope r e →
      Resolves scope (t.choice l r) (choice c e)
  of_par : {l r : BehaviourView} {gs : List Placed} {names : List Name} {c e : Flat} →
      Resolves scope l c → IsSetOf names gs → Resolves scope r e →
      Resolves scope (t.par l (t.gates gs) r) (par c (Some names) e)
  of_par_all : {l r : BehaviourView} {c e : Flat} → Resolves scope l c → Resolves scope r e →
      Resolves scope (t.par l t.all r) (par c None e)
  of_hide : {gs : List Placed} {names : List Name} {b : BehaviourView} {c : Flat} →
      IsSetOf names gs → Resolves scope b c → Resolves scope (t.hide gs b) (hide names c)
  of_enable : {l r : BehaviourView} {at : ℕ} {c e : Flat} →
      Resolves scope l c → Resolves scope r e → Resolves scope (t.enable l at r) (enable c e)
  of_disable : {l r : BehaviourView} {c e : Flat} → Resolves scope l c → Resolves scope r e →
      Resolves scope (t.disable l r) (disable c e)
  of_call : {p : Placed} {gs : List Placed} {k : ℕ} {d : DefinitionView} → Binds scope p.name k d →
      Resolves scope (t.call p gs) (call k (texts gs))

-- the process is the definition with calls by number
pub record IsProcess (v : ScopedDefinition) (process : FlatProcess) : Type 0 where
  pub name : process.name ≡ (name_of v.definition).name
  pub formals : process.formals ≡ texts (formals_of v.definition)
  pub functionality : process.functionality ≡ declared_of v.definition
  pub body : Resolves v.scope (body_of v.definition) process.body

-- the lists are related item by item
pub data Pairwise {X Y : Type 0} (P : X → Y → Type 0) : List X → List Y → Type 0 where
  no_pair : Pairwise P [] []
  one_pair : {x : X} {y : Y} {xs : List X} {ys : List Y} → P x y → Pairwise P xs ys → Pairwise P (x ∷ xs) (y ∷ ys)

-- the flat system of the specification
pub record IsFlat (whole : DefinitionView) (system : System) : Type 0 where
  pub formals : system.formals ≡ texts (formals_of whole)
  pub start : Resolves (within whole 0 []) (body_of whole) system.start
  pub processes : Pairwise IsProcess (processes_of whole) system.processes
