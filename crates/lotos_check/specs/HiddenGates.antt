-- Systems with gates hidden around their behaviour.
use Rattle.std.specs.Prelude.{◌≡◌, ◌↔◌, List, [], ◌∷◌}
use Rattle.lotos_check.specs.NameLists.{Name, In, IsAscendingNames}
use Rattle.lotos_check.specs.Flat.{System, hide}

-- the second list has the names of the first that are not among the removed ones, in the same order
pub data IsWithout (removed : List Name) : List Name → List Name → Type 0 where
  no_name : IsWithout removed [] []
  removes : {n : Name} {names left : List Name} → In n removed → IsWithout removed names left →
      IsWithout removed (n ∷ names) left
  keeps : {n : Name} {names left : List Name} → (In n removed → ⊥) → IsWithout removed names left →
      IsWithout removed (n ∷ names) (n ∷ left)

-- the second system is the first one with these gates hidden around its behaviour, as a set; its formal gates are those
-- of the first that are not among them, and its processes are the same
pub record IsHiddenIn (gates : List Name) (system hidden : System) : Type 0 where
  -- the gates in the order of their bytes, without repeats
  pub names : List Name
  pub ascends : IsAscendingNames names
  pub same : (n : Name) → In n names ↔ In n gates
  pub start : hidden.start ≡ hide names system.start
  pub formals : IsWithout gates system.formals hidden.formals
  pub processes : hidden.processes ≡ system.processes

-- the second system is the first one, or one with gates hidden in it, once or more often
pub data HasHidden (inner : System) : System → Type 0 where
  as_given : HasHidden inner inner
  once_more : {gates : List Name} {system hidden : System} → HasHidden inner system → IsHiddenIn gates system hidden →
      HasHidden inner hidden
