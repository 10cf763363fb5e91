-- What the code computes of the labels that behaviours can begin with.
use Rattle.std.specs.Prelude.{◌≡◌, ◌↔◌, ◌⊎◌, ℕ, Bool, true, List, Option, Some, None, map, slice_get, zip}
use Rattle.lotos_check.specs.NameLists.{Name, In}
use Rattle.lotos_check.specs.Flat.{Flat, FlatProcess, System, stop, exit, prefix, choice, par, hide, enable, disable, call}
use Rattle.lotos_warn.specs.FirstLabels.{First, termination, internal, action, IsTogether, Becomes, CanBegin}
use Rattle.lotos_warn.specs.declared.first_labels.FirstLabels.{FirstLabels}
use Rattle.lotos_warn.specs.declared.process_labels.RankedProcess.{RankedProcess}

-- the labels have this one
abbrev pub Has : FirstLabels → First → Type 0
Has labels termination = labels.terminates ≡ true
Has labels internal = labels.internal ≡ true
Has labels (action g) = In g (map (λ k. k.now) labels.gates.keys)

-- the labels are those with the property
abbrev pub HasExactly : FirstLabels → (First → Type 0) → Type 0
HasExactly labels begins = (x : First) → Has labels x ↔ begins x

-- the labels without actions
abbrev pub IsBare : Bool → Bool → First → Type 0
IsBare terminates moves termination = terminates ≡ true
IsBare terminates moves internal = moves ≡ true
IsBare terminates moves (action g) = ⊥

-- the label of an action prefix
abbrev pub IsOfAction : Option Name → First → Type 0
IsOfAction None termination = ⊥
IsOfAction None internal = Unit {0}
IsOfAction None (action g) = ⊥
IsOfAction (Some n) termination = ⊥
IsOfAction (Some n) internal = ⊥
IsOfAction (Some n) (action g) = n ≡ g

-- a parallel composition can begin so, if its sides can begin so
abbrev pub IsComposed : Option (List Name) → (First → Type 0) → (First → Type 0) → First → Type 0
IsComposed sync left right x = (IsTogether sync x × left x × right x) ⊎ ((IsTogether sync x → ⊥) × (left x ⊎ right x))

-- the gate is one of both sides, if it is in the list of the composition or that has none, and else one of either side
abbrev pub IsJoint : Option (List Name) → List Name → List Name → Name → Type 0
IsJoint None left right n = In n left × In n right
IsJoint (Some list) left right n = (In n list × In n left × In n right) ⊎ ((In n list → ⊥) × (In n left ⊎ In n right))

-- a hiding can begin so, if what is inside can begin so
abbrev pub IsHidden : List Name → (First → Type 0) → First → Type 0
IsHidden gates inside termination = inside termination
IsHidden gates inside internal = inside internal ⊎ ((g : Name) × In g gates × inside (action g))
IsHidden gates inside (action g) = (In g gates → ⊥) × inside (action g)

-- `>>` can begin so, if its left side can begin so
abbrev pub IsEnabled : (First → Type 0) → First → Type 0
IsEnabled left termination = ⊥
IsEnabled left internal = left internal ⊎ left termination
IsEnabled left (action g) = left (action g)

-- the labels that are known of the process have one that the call makes this one of
pub record IsOfCall (processes : List FlatProcess) (known : List FirstLabels) (k : ℕ) (gates : List Name)
    (y : First) : Type 0 where
  pub process : FlatProcess
  pub located : slice_get processes k ≡ Some process
  pub labels : FirstLabels
  pub kept : slice_get known k ≡ Some labels
  pub x : First
  pub has : Has labels x
  pub becomes : Becomes (zip process.formals gates) x y

-- the behaviour can begin so, if the processes can begin as is known of them
abbrev pub BeginsBy : List FlatProcess → List FirstLabels → Flat → First → Type 0
BeginsBy processes known stop x = ⊥
BeginsBy processes known exit x = x ≡ termination
BeginsBy processes known (prefix a b) x = IsOfAction a x
BeginsBy processes known (choice l r) x = BeginsBy processes known l x ⊎ BeginsBy processes known r x
BeginsBy processes known (par l s r) x = IsComposed s (BeginsBy processes known l) (BeginsBy processes known r) x
BeginsBy processes known (hide gs b) x = IsHidden gs (BeginsBy processes known b) x
BeginsBy processes known (enable l r) x = IsEnabled (BeginsBy processes known l) x
BeginsBy processes known (disable l r) x = BeginsBy processes known l x ⊎ BeginsBy processes known r x
BeginsBy processes known (call k gs) x = IsOfCall processes known k gs x

-- the name is what a call makes of one of the names, by pairs of a formal gate and an actual one
abbrev pub IsRenamed : List (Name × Name) → List Name → Name → Type 0
IsRenamed pairs names n = (g : Name) × In g names × Becomes pairs (action g) (action n)

-- a call makes this label of one of the labels
abbrev pub IsMadeOf : FirstLabels → List (Name × Name) → First → Type 0
IsMadeOf labels pairs y = (x : First) × Has labels x × Becomes pairs x y

-- the labels of the process with this number are known
abbrev pub IsKnown : List FlatProcess → List FirstLabels → ℕ → Type 0
IsKnown processes known k = (process : FlatProcess) → slice_get processes k ≡ Some process →
    (labels : FirstLabels) × (slice_get known k ≡ Some labels) × HasExactly labels (CanBegin processes process.body)

-- the labels at this number are those that the body of the process begins with by the ones before
abbrev pub IsSetAt : List FlatProcess → ℕ → List FirstLabels → List FirstLabels → Type 0
IsSetAt processes k old new = (process : FlatProcess) → slice_get processes k ≡ Some process →
    (labels : FirstLabels) × (slice_get new k ≡ Some labels) × HasExactly labels (BeginsBy processes old process.body)

-- the lists have the same labels at all other numbers
abbrev pub KeepsOthers : ℕ → List FirstLabels → List FirstLabels → Type 0
KeepsOthers k old new = (j : ℕ) → (j ≡ k → ⊥) → slice_get new j ≡ slice_get old j

-- the list has each process with its rank
pub record AreRankedBy (ranks : List ℕ) (list : List RankedProcess) : Type 0 where
  pub all : (k rank : ℕ) → slice_get ranks k ≡ Some rank → In (record { rank = rank; number = k }) list
  pub only : (p : RankedProcess) → In p list → slice_get ranks p.number ≡ Some p.rank

-- the behaviour of the system can do nothing
abbrev pub IsDead : System → Type 0
IsDead system = (x : First) → CanBegin system.processes system.start x → ⊥

-- it can do something
abbrev pub IsAlive : System → Type 0
IsAlive system = (x : First) × CanBegin system.processes system.start x
