-- What each step adds to a set of names or of numbers, or to a list of warnings.
use Rattle.std.specs.Prelude.{◌≡◌, ◌↔◌, ◌⊎◌, ◌<◌, ◌++◌, ℕ, suc, Bool, true, false, List, [], ◌∷◌, Some, map, slice_get}
use Rattle.lotos_text.specs.AstView as t
use Rattle.lotos_text.specs.AstView.{SyncView, gates, all, DefinitionView, name_of, formals_of, declared_of, body_of}
use Rattle.lotos_text.specs.declared.ast.Placed.{Placed}
use Rattle.lotos_text.specs.declared.ast.Action.{Action}
use Rattle.lotos_text.specs.declared.ast.Action.TheVariants.{Internal, Gate}
use Rattle.lotos_check.specs.NameLists.{Name, In, texts}
use Rattle.lotos_check.specs.Flat.{Flat, FlatProcess, System}
use Rattle.lotos_check.specs.Bodies.{ContainsCall, IsBodyOf}
use Rattle.lotos_warn.specs.declared.warning.Side.{Side}
use Rattle.lotos_warn.specs.declared.warning.Side.TheVariants.{Left, Right}
use Rattle.lotos_warn.specs.declared.warning.Warning.{Warning}
use Rattle.lotos_warn.specs.declared.warning.Warning.TheVariants.{UncalledProcess, UnreachedProcess, NeverExits, DeadStart, UnusedGate, UnofferedGate, UnusedHidden, UnsynchronizedHidden, ExchangedGates}
use Rattle.lotos_text.specs.declared.ast.Functionality.TheVariants.{Exit}
use Rattle.lotos_warn.specs.ShownNames.{shown_name}
use Rattle.lotos_warn.specs.Termination.{IsExiting, exits_by}
use Rattle.lotos_warn.specs.LabelSets.{IsDead}
use Rattle.lotos_warn.specs.Warnings.{UsesFree, IsFirstOfName, IsHidingWarning, IsListWarning}

-- the second list has exactly the items of the first and those with the property
abbrev pub Adds : {X : Type 0} → List X → List X → (X → Type 0) → Type 0
Adds {X} old new added = (x : X) → In x new ↔ (In x old ⊎ added x)

-- the second keys have exactly the names of the first and those with the property
abbrev pub AddsNames : {K : Type 0} → (K → Name) → List K → List K → (Name → Type 0) → Type 0
AddsNames now old new added = Adds (map now old) (map now new) added

-- the second keys have the names of the first but this one
abbrev pub LacksName : {K : Type 0} → (K → Name) → List K → List K → Name → Type 0
LacksName now old new name = (n : Name) → In n (map now new) ↔ (In n (map now old) × (name ≡ n → ⊥))

-- the second names are the first without those of the listed ones that the others lack
abbrev pub KeepsShared : List Name → List Name → List Name → (Name → Type 0) → Type 0
KeepsShared old new others listed = (n : Name) → In n new ↔ (In n old × (listed n → In n others))

-- each of the second names is one of the first
abbrev pub Includes : List Name → List Name → Type 0
Includes names others = (n : Name) → In n others → In n names

-- the action is by a gate of this name
abbrev pub IsActionNamed : Action → Name → Type 0
IsActionNamed Internal n = ⊥
IsActionNamed (Gate g) n = g.name ≡ n

-- the name is in the list of a parallel composition
abbrev pub IsListed : SyncView → Name → Type 0
IsListed (gates list) n = In n (texts list)
IsListed all n = ⊥

-- the name is one of the second names, and not hidden
abbrev pub IsVisible : List Name → List Name → Name → Type 0
IsVisible hidden names n = (In n hidden → ⊥) × In n names

-- the warning says that this side does not offer the gate, and it is not among the names
abbrev pub IsMissingOn : List Name → Side → Placed → Warning → Type 0
IsMissingOn names side gate (UncalledProcess process) = ⊥
IsMissingOn names side gate (UnreachedProcess process) = ⊥
IsMissingOn names side gate (NeverExits exiting) = ⊥
IsMissingOn names side gate (DeadStart dead) = ⊥
IsMissingOn names side gate (UnusedGate other definition) = ⊥
IsMissingOn names side gate (UnofferedGate other place) = (gate ≡ other) × (side ≡ place) × (In other.name names → ⊥)
IsMissingOn names side gate (UnusedHidden other) = ⊥
IsMissingOn names side gate (UnsynchronizedHidden other) = ⊥
IsMissingOn names side gate (ExchangedGates process own) = ⊥

-- the names of one side
abbrev pub names_of : Side → List Name → List Name → List Name
names_of Left by_left by_right = by_left
names_of Right by_left by_right = by_right

-- the same of either side, unless the gate's name is among those seen
abbrev pub IsMissingUnseen : List Name → List Name → List Name → Placed → Warning → Type 0
IsMissingUnseen by_left by_right seen gate w =
    (In gate.name seen → ⊥) × (IsMissingOn by_left Left gate w ⊎ IsMissingOn by_right Right gate w)

-- the warning says that a gate is not offered by a side, and it is not among the names of that side; the gate is the
-- first of its name in the list, and its name is not among those seen
abbrev pub IsMissingGate : List Name → List Name → List Name → List Placed → Warning → Type 0
IsMissingGate by_left by_right seen list (UncalledProcess process) = ⊥
IsMissingGate by_left by_right seen list (UnreachedProcess process) = ⊥
IsMissingGate by_left by_right seen list (NeverExits exiting) = ⊥
IsMissingGate by_left by_right seen list (DeadStart dead) = ⊥
IsMissingGate by_left by_right seen list (UnusedGate gate definition) = ⊥
IsMissingGate by_left by_right seen list (UnofferedGate gate side) =
    (In gate.name seen → ⊥) × IsFirstOfName gate list × (In gate.name (names_of side by_left by_right) → ⊥)
IsMissingGate by_left by_right seen list (UnusedHidden gate) = ⊥
IsMissingGate by_left by_right seen list (UnsynchronizedHidden gate) = ⊥
IsMissingGate by_left by_right seen list (ExchangedGates process own) = ⊥

-- the same of the list of a parallel composition, if it has one, of whose names none is seen before
abbrev pub IsMissing : List Name → List Name → SyncView → Warning → Type 0
IsMissing by_left by_right (gates list) w = IsMissingGate by_left by_right [] list w
IsMissing by_left by_right all w = ⊥

-- the behaviour contains a call of the process
abbrev pub ContainsCallOf : Flat → ℕ → Type 0
ContainsCallOf b k = (gates : List Name) × ContainsCall b k gates

-- one of the processes calls the process
abbrev pub IsCalledByAny : List FlatProcess → ℕ → Type 0
IsCalledByAny processes k = (p : FlatProcess) × In p processes × ContainsCallOf p.body k

-- a behaviour of the system calls the process
pub record IsCalledByBody (system : System) (k : ℕ) : Type 0 where
  pub body : Flat
  pub located : IsBodyOf system body
  pub calls : ContainsCallOf body k

-- the second list has the items of the first at the same indices
abbrev pub KeepsIndices : List ℕ → List ℕ → Type 0
KeepsIndices old new = (index k : ℕ) → slice_get old index ≡ Some k → slice_get new index ≡ Some k

-- the body of the process with this number, if there is one, calls the process
pub record IsCalledByNumber (processes : List FlatProcess) (caller k : ℕ) : Type 0 where
  pub process : FlatProcess
  pub located : slice_get processes caller ≡ Some process
  pub calls : ContainsCallOf process.body k

-- the behaviour of the system calls the process, or the body of a process that is reached does
pub data IsReachedIn (system : System) : ℕ → Type 0 where
  by_start : {k : ℕ} → ContainsCallOf system.start k → IsReachedIn system k
  by_process : {caller k : ℕ} → IsReachedIn system caller → IsCalledByNumber system.processes caller k →
      IsReachedIn system k

-- the warning says that the gate of the list is not used in the definition whose name is shown so, and it is not among
-- the names
abbrev pub IsUnusedAmong : List Name → Name → List Placed → Warning → Type 0
IsUnusedAmong used name formals (UncalledProcess process) = ⊥
IsUnusedAmong used name formals (UnreachedProcess process) = ⊥
IsUnusedAmong used name formals (NeverExits exiting) = ⊥
IsUnusedAmong used name formals (DeadStart dead) = ⊥
IsUnusedAmong used name formals (UnusedGate gate definition) =
    In gate formals × (definition ≡ shown_name name) × (In gate.name used → ⊥)
IsUnusedAmong used name formals (UnofferedGate gate side) = ⊥
IsUnusedAmong used name formals (UnusedHidden gate) = ⊥
IsUnusedAmong used name formals (UnsynchronizedHidden gate) = ⊥
IsUnusedAmong used name formals (ExchangedGates process own) = ⊥

-- the definition has this warning about its formal gates
abbrev pub IsUnusedIn : DefinitionView → Warning → Type 0
IsUnusedIn d (UncalledProcess process) = ⊥
IsUnusedIn d (UnreachedProcess process) = ⊥
IsUnusedIn d (NeverExits exiting) = ⊥
IsUnusedIn d (DeadStart dead) = ⊥
IsUnusedIn d (UnusedGate gate definition) =
    In gate (formals_of d) × (definition ≡ shown_name (name_of d).name) × (UsesFree (body_of d) gate.name → ⊥)
IsUnusedIn d (UnofferedGate gate side) = ⊥
IsUnusedIn d (UnusedHidden gate) = ⊥
IsUnusedIn d (UnsynchronizedHidden gate) = ⊥
IsUnusedIn d (ExchangedGates process own) = ⊥

-- the warning says that the gate of the list of a hiding is not used, and it is not among the names
abbrev pub IsUnusedOfHiding : List Name → List Placed → Warning → Type 0
IsUnusedOfHiding used list (UncalledProcess process) = ⊥
IsUnusedOfHiding used list (UnreachedProcess process) = ⊥
IsUnusedOfHiding used list (NeverExits exiting) = ⊥
IsUnusedOfHiding used list (DeadStart dead) = ⊥
IsUnusedOfHiding used list (UnusedGate gate definition) = ⊥
IsUnusedOfHiding used list (UnofferedGate gate side) = ⊥
IsUnusedOfHiding used list (UnusedHidden gate) = In gate list × (In gate.name used → ⊥)
IsUnusedOfHiding used list (UnsynchronizedHidden gate) = ⊥
IsUnusedOfHiding used list (ExchangedGates process own) = ⊥

-- the warning says that both sides of a composition offer the gate of the list of a hiding without synchronization, and
-- it is among the names
abbrev pub IsApartOfHiding : List Name → List Placed → Warning → Type 0
IsApartOfHiding apart list w =
    (gate : Placed) × (w ≡ UnsynchronizedHidden gate) × In gate list × In gate.name apart

-- the definition has this warning about gates that are not used: those of its hidings, and its formal ones
abbrev pub IsUseWarning : DefinitionView → Warning → Type 0
IsUseWarning d w = IsHidingWarning (body_of d) w ⊎ IsUnusedIn d w

-- the definition has this warning about its gates
abbrev pub IsGateWarning : DefinitionView → Warning → Type 0
IsGateWarning d w = IsUseWarning d w ⊎ IsListWarning (body_of d) w

-- one of the definitions has it
abbrev pub IsGateWarningOfAny : List DefinitionView → Warning → Type 0
IsGateWarningOfAny definitions w = (d : DefinitionView) × In d definitions × IsGateWarning d w

-- the warning says that the process with this number and definition is not called, and the number is not called
abbrev pub IsUncalledAt : List ℕ → ℕ → DefinitionView → Warning → Type 0
IsUncalledAt called number d (UncalledProcess process) = (process ≡ name_of d) × (In number called → ⊥)
IsUncalledAt called number d (UnreachedProcess process) = ⊥
IsUncalledAt called number d (NeverExits exiting) = ⊥
IsUncalledAt called number d (DeadStart dead) = ⊥
IsUncalledAt called number d (UnusedGate gate definition) = ⊥
IsUncalledAt called number d (UnofferedGate gate side) = ⊥
IsUncalledAt called number d (UnusedHidden gate) = ⊥
IsUncalledAt called number d (UnsynchronizedHidden gate) = ⊥
IsUncalledAt called number d (ExchangedGates process own) = ⊥

-- the warning says that the process is not reached; the number is called, and it is not reached
abbrev pub IsUnreachedAt : List ℕ → List ℕ → ℕ → DefinitionView → Warning → Type 0
IsUnreachedAt called reached number d (UncalledProcess process) = ⊥
IsUnreachedAt called reached number d (UnreachedProcess process) =
    (process ≡ name_of d) × In number called × (In number reached → ⊥)
IsUnreachedAt called reached number d (NeverExits exiting) = ⊥
IsUnreachedAt called reached number d (DeadStart dead) = ⊥
IsUnreachedAt called reached number d (UnusedGate gate definition) = ⊥
IsUnreachedAt called reached number d (UnofferedGate gate side) = ⊥
IsUnreachedAt called reached number d (UnusedHidden gate) = ⊥
IsUnreachedAt called reached number d (UnsynchronizedHidden gate) = ⊥
IsUnreachedAt called reached number d (ExchangedGates process own) = ⊥

-- the warning says that the definition is declared exit and never terminates; the number is not one that exits
abbrev pub IsEndlessAt : List ℕ → ℕ → DefinitionView → Warning → Type 0
IsEndlessAt exiting number d (UncalledProcess process) = ⊥
IsEndlessAt exiting number d (UnreachedProcess process) = ⊥
IsEndlessAt exiting number d (NeverExits name) =
    (name ≡ name_of d) × (declared_of d ≡ Exit) × (In number exiting → ⊥)
IsEndlessAt exiting number d (DeadStart dead) = ⊥
IsEndlessAt exiting number d (UnusedGate gate definition) = ⊥
IsEndlessAt exiting number d (UnofferedGate gate side) = ⊥
IsEndlessAt exiting number d (UnusedHidden gate) = ⊥
IsEndlessAt exiting number d (UnsynchronizedHidden gate) = ⊥
IsEndlessAt exiting number d (ExchangedGates process own) = ⊥

-- the same of the specification, whose behaviour exits or not
abbrev pub IsEndlessWhole : Bool → DefinitionView → Warning → Type 0
IsEndlessWhole exits d (UncalledProcess process) = ⊥
IsEndlessWhole exits d (UnreachedProcess process) = ⊥
IsEndlessWhole exits d (NeverExits name) = (name ≡ name_of d) × (declared_of d ≡ Exit) × (exits ≡ false)
IsEndlessWhole exits d (DeadStart dead) = ⊥
IsEndlessWhole exits d (UnusedGate gate definition) = ⊥
IsEndlessWhole exits d (UnofferedGate gate side) = ⊥
IsEndlessWhole exits d (UnusedHidden gate) = ⊥
IsEndlessWhole exits d (UnsynchronizedHidden gate) = ⊥
IsEndlessWhole exits d (ExchangedGates process own) = ⊥

-- the warning says that the specification can do nothing; this is its system, and its behaviour is not `stop`
abbrev pub IsDeadIn : System → DefinitionView → Warning → Type 0
IsDeadIn system d (UncalledProcess process) = ⊥
IsDeadIn system d (UnreachedProcess process) = ⊥
IsDeadIn system d (NeverExits exiting) = ⊥
IsDeadIn system d (DeadStart name) = (name ≡ name_of d) × (body_of d ≡ t.stop → ⊥) × IsDead system
IsDeadIn system d (UnusedGate gate definition) = ⊥
IsDeadIn system d (UnofferedGate gate side) = ⊥
IsDeadIn system d (UnusedHidden gate) = ⊥
IsDeadIn system d (UnsynchronizedHidden gate) = ⊥
IsDeadIn system d (ExchangedGates process own) = ⊥

-- the process with this number and definition has this warning
abbrev pub IsProcessWarning : List ℕ → List ℕ → List ℕ → ℕ → DefinitionView → Warning → Type 0
IsProcessWarning called reached exiting number d w =
    IsUncalledAt called number d w ⊎ (IsUnreachedAt called reached number d w ⊎ IsEndlessAt exiting number d w)

-- the same of some definition of the list, which are numbered from this number on
abbrev pub IsProcessWarningOfAny : List ℕ → List ℕ → List ℕ → ℕ → List DefinitionView → Warning → Type 0
IsProcessWarningOfAny called reached exiting number [] w = ⊥
IsProcessWarningOfAny called reached exiting number (d ∷ ds) w =
    IsProcessWarning called reached exiting number d w
    ⊎ IsProcessWarningOfAny called reached exiting (suc number) ds w

-- the number is added if the behaviour may terminate by those that are there
abbrev pub AddsExiting : ℕ → Flat → List ℕ → List ℕ → Type 0
AddsExiting number body old new =
    ((new ≡ old) × (exits_by old body ≡ true → In number old))
    ⊎ ((new ≡ old ++ number ∷ []) × (exits_by old body ≡ true))

-- each number is that of a process that may terminate
abbrev pub AreExiting : List FlatProcess → List ℕ → Type 0
AreExiting processes numbers = (k : ℕ) → In k numbers → IsExiting processes k

-- the processes below this number that may terminate by these numbers are among them
abbrev pub IsClosedBelow : List FlatProcess → List ℕ → ℕ → Type 0
IsClosedBelow processes numbers bound = (k : ℕ) (process : FlatProcess) → k < bound →
    slice_get processes k ≡ Some process → exits_by numbers process.body ≡ true → In k numbers
