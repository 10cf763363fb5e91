-- Which specifications are accepted, and with which faults others are rejected.
use Rattle.std.specs.Prelude.{◌≡◌, ℕ, ◌<◌, List, [], ◌∷◌, length, slice_get, Some}
use Rattle.lotos_text.specs.AstView.{DefinitionView, name_of, formals_of, declared_of}
use Rattle.lotos_check.specs.NameLists.{texts}
use Rattle.lotos_check.specs.FlatOf.{flat_of, process_of}
use Rattle.lotos_check.specs.declared.resolved_body.ResolvedBody.{ResolvedBody}
use Rattle.lotos_check.specs.declared.resolved.Code.{Code}
use Rattle.lotos_check.specs.declared.resolved.Process.{Process}
use Rattle.lotos_check.specs.StaticFaults.{WellTyped, IsE20, IsE21, IsE22, IsE23, IsE24, IsE25, IsE26}
use Rattle.lotos_check.specs.Flat.{FlatProcess, System, IsFlat}
use Rattle.lotos_check.specs.Guard.{Calls, IsGuarded, IsE27}
use Rattle.lotos_check.specs.declared.fault.CheckFault.{CheckFault}
use Rattle.lotos_check.specs.declared.fault.CheckFault.TheVariants.{E20, E21, E22, E23, E24, E25, E26, E27, E99}

-- a rank for each process; they decrease at every unguarded call
pub record AreRanks (processes : List FlatProcess) (ranks : List ℕ) : Type 0 where
  pub all : length ranks ≡ length processes
  pub falls : (p q r s : ℕ) → Calls processes p q → slice_get ranks p ≡ Some r → slice_get ranks q ≡ Some s → s < r

-- the specification is well typed, this is its flat system, and it is guarded
pub record IsAccepted (whole : DefinitionView) (system : System) : Type 0 where
  pub typed : WellTyped whole
  pub flat : IsFlat whole system
  pub guarded : IsGuarded system

-- a formal gate or a process is declared twice in one list, or memory ran out
abbrev pub IsDuplicateFault : DefinitionView → CheckFault → Type 0
IsDuplicateFault whole (E20 gate) = IsE20 whole gate
IsDuplicateFault whole (E21 gate) = ⊥
IsDuplicateFault whole (E22 name) = ⊥
IsDuplicateFault whole (E23 name formal actual) = ⊥
IsDuplicateFault whole (E24 name) = IsE24 whole name
IsDuplicateFault whole (E25 name declared) = ⊥
IsDuplicateFault whole (E26 at) = ⊥
IsDuplicateFault whole (E27 name set) = ⊥
IsDuplicateFault whole (E99 e) = Unit {0}

-- what each fault says of the specification: the static rule that it breaks, or that memory ran out
abbrev pub IsStaticFault : DefinitionView → CheckFault → Type 0
IsStaticFault whole (E20 gate) = IsE20 whole gate
IsStaticFault whole (E21 gate) = IsE21 whole gate
IsStaticFault whole (E22 name) = IsE22 whole name
IsStaticFault whole (E23 name formal actual) = IsE23 whole name formal actual
IsStaticFault whole (E24 name) = IsE24 whole name
IsStaticFault whole (E25 name declared) = IsE25 whole name declared
IsStaticFault whole (E26 at) = IsE26 whole at
IsStaticFault whole (E27 name set) = IsE27 whole name set.items
IsStaticFault whole (E99 e) = Unit {0}

-- the fault is that memory ran out, or no system of the specification is accepted
abbrev pub IsNotAccepted : DefinitionView → CheckFault → Type 0
IsNotAccepted whole (E99 e) = Unit {0}
IsNotAccepted whole (E20 gate) = (system : System) → IsAccepted whole system → ⊥
IsNotAccepted whole (E21 gate) = (system : System) → IsAccepted whole system → ⊥
IsNotAccepted whole (E22 name) = (system : System) → IsAccepted whole system → ⊥
IsNotAccepted whole (E23 name formal actual) = (system : System) → IsAccepted whole system → ⊥
IsNotAccepted whole (E24 name) = (system : System) → IsAccepted whole system → ⊥
IsNotAccepted whole (E25 name declared) = (system : System) → IsAccepted whole system → ⊥
IsNotAccepted whole (E26 at) = (system : System) → IsAccepted whole system → ⊥
IsNotAccepted whole (E27 name set) = (system : System) → IsAccepted whole system → ⊥

-- the process is the definition with the code of its resolved body
pub record IsProcessOfBody (definition : DefinitionView) (found : ResolvedBody) (process : FlatProcess) : Type 0 where
  pub name : process.name ≡ (name_of definition).name
  pub formals : process.formals ≡ texts (formals_of definition)
  pub functionality : process.functionality ≡ declared_of definition
  pub body : process.body ≡ flat_of found.code.value

-- the processes are the definitions with the code of their resolved bodies, one by one
pub data AreProcessesOfBodies : List DefinitionView → List ResolvedBody → List Process → Type 0 where
  no_processes : AreProcessesOfBodies [] [] []
  one_process : {d : DefinitionView} {ds : List DefinitionView} {r : ResolvedBody} {rs : List ResolvedBody}
      {process : Process} {processes : List Process} →
      IsProcessOfBody d r (process_of process) → AreProcessesOfBodies ds rs processes →
      AreProcessesOfBodies (d ∷ ds) (r ∷ rs) (process ∷ processes)

-- the behaviour is the code of the first definition's body, and the processes are the other definitions
pub data IsFlattened : List DefinitionView → List ResolvedBody → Code → List Process → Type 0 where
  flattens : {d : DefinitionView} {ds : List DefinitionView} {r : ResolvedBody} {rs : List ResolvedBody} {start : Code}
      {processes : List Process} →
      flat_of start ≡ flat_of r.code.value → AreProcessesOfBodies ds rs processes →
      IsFlattened (d ∷ ds) (r ∷ rs) start processes
