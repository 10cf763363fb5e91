-- Guarded recursion.
use Rattle.std.specs.Prelude.{◌≡◌, ℕ, ◌<◌, List, ◌∷◌, Option, Some, slice_get}
use Rattle.lotos_text.specs.AstView.{DefinitionView, name_of}
use Rattle.lotos_text.specs.declared.ast.Placed.{Placed}
use Rattle.lotos_check.specs.NameLists.{Name, In, IsAscendingBy}
use Rattle.lotos_check.specs.Scope.{ScopedDefinition, processes_of}
use Rattle.lotos_check.specs.Flat.{Flat, choice, par, hide, enable, disable, call, FlatProcess, System, IsFlat}

-- the behaviour calls the process under no prefix and not in the right operand of `>>`
pub data CallsUnguarded : Flat → ℕ → Type 0 where
  itself : {k : ℕ} {gs : List Name} → CallsUnguarded (call k gs) k
  left_choice : {l r : Flat} {k : ℕ} → CallsUnguarded l k → CallsUnguarded (choice l r) k
  right_choice : {l r : Flat} {k : ℕ} → CallsUnguarded r k → CallsUnguarded (choice l r) k
  left_par : {l r : Flat} {s : Option (List Name)} {k : ℕ} → CallsUnguarded l k → CallsUnguarded (par l s r) k
  right_par : {l r : Flat} {s : Option (List Name)} {k : ℕ} → CallsUnguarded r k → CallsUnguarded (par l s r) k
  under_hide : {gs : List Name} {b : Flat} {k : ℕ} → CallsUnguarded b k → CallsUnguarded (hide gs b) k
  left_enable : {l r : Flat} {k : ℕ} → CallsUnguarded l k → CallsUnguarded (enable l r) k
  left_disable : {l r : Flat} {k : ℕ} → CallsUnguarded l k → CallsUnguarded (disable l r) k
  right_disable : {l r : Flat} {k : ℕ} → CallsUnguarded r k → CallsUnguarded (disable l r) k

-- the body of process `p` has an unguarded call of process `q`
pub record Calls (processes : List FlatProcess) (p q : ℕ) : Type 0 where
  pub process : FlatProcess
  pub located : slice_get processes p ≡ Some process
  pub calls : CallsUnguarded process.body q

-- a rank for each process that decreases at every unguarded call
abbrev pub IsRanking : List FlatProcess → (ℕ → ℕ) → Type 0
IsRanking processes rank = (p q : ℕ) → Calls processes p q → rank q < rank p

-- recursion is guarded: there is such a ranking
pub record IsGuarded (system : System) : Type 0 where
  pub rank : ℕ → ℕ
  pub falls : IsRanking system.processes rank

-- each process of the set has an unguarded call into the set
abbrev pub IsUnguardedSet : List FlatProcess → List ℕ → Type 0
IsUnguardedSet processes set = (p : ℕ) → In p set → (q : ℕ) × Calls processes p q × In q set

-- each number is smaller than the next
abbrev pub IsAscending : List ℕ → Type 0
IsAscending = IsAscendingBy ◌<◌

-- the largest set of that kind, ascending: every other lies inside it
pub record IsLargestUnguardedSet (processes : List FlatProcess) (set : List ℕ) : Type 0 where
  pub unguarded : IsUnguardedSet processes set
  pub largest : (other : List ℕ) → IsUnguardedSet processes other → (p : ℕ) → In p other → In p set
  pub rises : IsAscending set

-- recursion is not guarded: the largest set is not empty, and this is the name of its first process
pub record IsE27 (whole : DefinitionView) (name : Placed) (set : List ℕ) : Type 0 where
  pub system : System
  pub flat : IsFlat whole system
  pub unguarded : IsLargestUnguardedSet system.processes set
  pub first : ℕ
  pub others : List ℕ
  pub begins : set ≡ first ∷ others
  pub scoped : ScopedDefinition
  pub located : slice_get (processes_of whole) first ≡ Some scoped
  pub named : name ≡ name_of scoped.definition
