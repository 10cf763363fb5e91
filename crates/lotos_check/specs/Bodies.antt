-- What occurs anywhere in the behaviours of a system.
use Rattle.std.specs.Prelude.{◌≡◌, ℕ, List, ◌∷◌, ◌++◌, Option, Some, slice_get}
use Rattle.lotos_text.specs.AstView as t
use Rattle.lotos_text.specs.AstView.{DefinitionView, name_of, formals_of, body_of}
use Rattle.lotos_text.specs.declared.ast.Placed.{Placed}
use Rattle.lotos_check.specs.NameLists.{Name, In, texts}
use Rattle.lotos_check.specs.Scope.{ScopedDefinition, Binds}
use Rattle.lotos_check.specs.Subexpressions.{IsSubexpression}
use Rattle.lotos_check.specs.Flat.{Flat, prefix, choice, par, hide, enable, disable, call, FlatProcess, System}

-- the behaviour contains a call of the process with these gates
pub data ContainsCall : Flat → ℕ → List Name → Type 0 where
  itself : {k : ℕ} {gs : List Name} → ContainsCall (call k gs) k gs
  under_prefix : {a : Option Name} {b : Flat} {k : ℕ} {gs : List Name} → ContainsCall b k gs →
      ContainsCall (prefix a b) k gs
  left_choice : {l r : Flat} {k : ℕ} {gs : List Name} → ContainsCall l k gs → ContainsCall (choice l r) k gs
  right_choice : {l r : Flat} {k : ℕ} {gs : List Name} → ContainsCall r k gs → ContainsCall (choice l r) k gs
  left_par : {l r : Flat} {s : Option (List Name)} {k : ℕ} {gs : List Name} → ContainsCall l k gs →
      ContainsCall (par l s r) k gs
  right_par : {l r : Flat} {s : Option (List Name)} {k : ℕ} {gs : List Name} → ContainsCall r k gs →
      ContainsCall (par l s r) k gs
  under_hide : {hidden : List Name} {b : Flat} {k : ℕ} {gs : List Name} → ContainsCall b k gs →
      ContainsCall (hide hidden b) k gs
  left_enable : {l r : Flat} {k : ℕ} {gs : List Name} → ContainsCall l k gs → ContainsCall (enable l r) k gs
  right_enable : {l r : Flat} {k : ℕ} {gs : List Name} → ContainsCall r k gs → ContainsCall (enable l r) k gs
  left_disable : {l r : Flat} {k : ℕ} {gs : List Name} → ContainsCall l k gs → ContainsCall (disable l r) k gs
  right_disable : {l r : Flat} {k : ℕ} {gs : List Name} → ContainsCall r k gs → ContainsCall (disable l r) k gs

-- the behaviour of the specification, or the body of a process
pub data IsBodyOf (system : System) : Flat → Type 0 where
  of_whole : IsBodyOf system system.start
  of_process : (p : ℕ) (process : FlatProcess) → slice_get system.processes p ≡ Some process →
      IsBodyOf system process.body

-- no name of the list occurs twice
abbrev pub AreDistinctNames : List Name → Type 0
AreDistinctNames names = (before after : List Name) (n : Name) → names ≡ before ++ n ∷ after → In n before → ⊥

-- the body of the definition contains a call by name with these gates, and the name is bound to the process with this
-- number
pub record IsNamed (scoped : ScopedDefinition) (k : ℕ) (gates : List Name) : Type 0 where
  -- the gates in scope at the call
  pub there : List Name
  -- the name that is called, with its offset
  pub called : Placed
  pub actuals : List Placed
  pub inside : IsSubexpression (texts (formals_of scoped.definition)) (body_of scoped.definition) there
      (t.call called actuals)
  -- the definition that the name is bound to
  pub definition : DefinitionView
  pub means : Binds scoped.scope called.name k definition
  pub given : gates ≡ texts actuals

-- the process with this number has the name and the formal gates of the definition
pub record IsProcessOf (system : System) (k : ℕ) (definition : DefinitionView) : Type 0 where
  pub process : FlatProcess
  pub located : slice_get system.processes k ≡ Some process
  pub name : process.name ≡ (name_of definition).name
  pub formals : process.formals ≡ texts (formals_of definition)

-- the call by number comes from one by name, and goes to the definition that the name is bound to
pub record GoesToNamed (system : System) (scoped : ScopedDefinition) (k : ℕ) (gates : List Name) : Type 0 where
  -- the call by name
  pub named : IsNamed scoped k gates
  -- the process that it goes to
  pub process : IsProcessOf system k named.definition
