-- One interface of a specification: the system that a question is about.
use Rattle.std.specs.Prelude.{◌≡◌, ◌++◌, ◌∷◌, [], ℕ, List, map, string_bytes}
use Rattle.std.specs.Char.{to_ascii_uppercase}
use Rattle.lotos_check.specs.Flat.{System}
use Rattle.lotos_check.specs.HiddenGates.{IsHiddenIn, IsWithout}
use Rattle.lotos_check.specs.NameLists.{In, Name}
use Rattle.lotos_pattern.specs.Spelling.{parts_of}
use Rattle.lotos_command.specs.declared.command.Interface.{Interface}
use Rattle.lotos_command.specs.declared.command.Interface.TheVariants.{Hide, Only, Whole}

-- the names that the interface gives, as they are given
abbrev pub names_given : Interface → List (List ℕ)
names_given Whole = []
names_given (Hide names) = parts_of (string_bytes names)
names_given (Only names) = parts_of (string_bytes names)

-- the gates that have these names, in any mix of cases
abbrev pub gates_named : List (List ℕ) → List Name
gates_named = map (map to_ascii_uppercase)

-- each of the names is that of a gate of the list
abbrev pub AreGatesOf : List Name → List (List ℕ) → Type 0
AreGatesOf gates names = (n : Name) → In n (gates_named names) → In n gates

-- the second system is the first one with all gates of its own list hidden but these
pub record IsOnly (kept : List Name) (own system : System) : Type 0 where
  pub others : List Name
  pub without : IsWithout kept own.formals others
  pub hidden : IsHiddenIn others own system

-- the second system is the first one with the gates hidden that the interface leaves out
abbrev pub IsSeenThrough : Interface → System → System → Type 0
IsSeenThrough Whole own system = system ≡ own
IsSeenThrough (Hide names) own system = IsHiddenIn (gates_named (parts_of (string_bytes names))) own system
IsSeenThrough (Only names) own system = IsOnly (gates_named (parts_of (string_bytes names))) own system

-- the question is about this system: the interface leaves it of the first one, whose own list has each gate that the
-- interface names
pub record IsInterfaceOf (interface : Interface) (own system : System) : Type 0 where
  pub known : AreGatesOf own.formals (names_given interface)
  pub seen : IsSeenThrough interface own system

-- the gates of the own lists of both
abbrev pub gates_of_both : System × System → List Name
gates_of_both systems = systems.0.formals ++ systems.1.formals

-- the question is about these two systems: the interface leaves them of the others, and each gate that it names is in
-- the own list of at least one of these
pub record AreInterfacesOf (interface : Interface) (own systems : System × System) : Type 0 where
  pub known : AreGatesOf (gates_of_both own) (names_given interface)
  pub first : IsSeenThrough interface own.0 systems.0
  pub second : IsSeenThrough interface own.1 systems.1

-- the name is the first one that is no gate of the list
pub record IsFirstNoGate (gates : List Name) (names : List (List ℕ)) (name : List ℕ) : Type 0 where
  pub before : List (List ℕ)
  pub after : List (List ℕ)
  pub split : names ≡ before ++ name ∷ after
  pub known : AreGatesOf gates before
  pub no_gate : In (map to_ascii_uppercase name) gates → ⊥
