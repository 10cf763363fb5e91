-- The calls of a specification in the order of the text, by name and by number, and the warnings about their gates.
use Rattle.std.specs.Prelude.{◌≡◌, ℕ, zero, suc, List, [], ◌∷◌, ◌++◌, Some, slice_get}
use Rattle.lotos_text.specs.AstView as t
use Rattle.lotos_text.specs.AstView.{BehaviourView, DefinitionView, body_of}
use Rattle.lotos_text.specs.declared.ast.Placed.{Placed}
use Rattle.lotos_check.specs.NameLists.{Name, texts}
use Rattle.lotos_check.specs.Flat.{Flat, FlatProcess, System, stop, exit, prefix, choice, par, hide, enable, disable, call}
use Rattle.lotos_warn.specs.declared.call_sites.CallSite.{CallSite}
use Rattle.lotos_warn.specs.declared.warning.Warning.{Warning}
use Rattle.lotos_warn.specs.declared.warning.Warning.TheVariants.{UncalledProcess, UnreachedProcess, NeverExits, DeadStart, UnusedGate, UnofferedGate, UnusedHidden, UnsynchronizedHidden, ExchangedGates}
use Rattle.lotos_warn.specs.ShownNames.{shown_names}
use Rattle.lotos_warn.specs.Warnings.{IsExchanged, IsExchangedCall, IsWarning}
use Rattle.lotos_warn.specs.Additions.{IsReachedIn}

-- a call by name: the index of its definition among all, of which the specification is the first, its name and its
-- actual gates
pub record Site : Type 0 where
  pub caller : ℕ
  pub callee : Placed
  pub actuals : List Placed

-- a call by name without references
abbrev pub site_of : CallSite → Site
site_of s = record { caller = s.caller; callee = s.callee.now; actuals = s.actuals.now }

-- the calls in the body of the definition with this index
abbrev pub sites_in : ℕ → BehaviourView → List Site
sites_in index t.stop = []
sites_in index t.exit = []
sites_in index (t.prefix a b) = sites_in index b
sites_in index (t.choice l r) = sites_in index l ++ sites_in index r
sites_in index (t.par l s r) = sites_in index l ++ sites_in index r
sites_in index (t.hide gs b) = sites_in index b
sites_in index (t.enable l at r) = sites_in index l ++ sites_in index r
sites_in index (t.disable l r) = sites_in index l ++ sites_in index r
sites_in index (t.call p gs) = record { caller = index; callee = p; actuals = gs } ∷ []

-- the calls in the bodies of the definitions, the first of which has this index
abbrev pub sites_from : ℕ → List DefinitionView → List Site
sites_from index [] = []
sites_from index (d ∷ ds) = sites_in index (body_of d) ++ sites_from (suc index) ds

-- the numbers of the processes that a behaviour calls, call by call
abbrev pub numbers_in : Flat → List ℕ
numbers_in stop = []
numbers_in exit = []
numbers_in (prefix a b) = numbers_in b
numbers_in (choice l r) = numbers_in l ++ numbers_in r
numbers_in (par l s r) = numbers_in l ++ numbers_in r
numbers_in (hide gs b) = numbers_in b
numbers_in (enable l r) = numbers_in l ++ numbers_in r
numbers_in (disable l r) = numbers_in l ++ numbers_in r
numbers_in (call k gs) = k ∷ []

-- the same of the bodies of processes
abbrev pub numbers_of_all : List FlatProcess → List ℕ
numbers_of_all [] = []
numbers_of_all (p ∷ ps) = numbers_in p.body ++ numbers_of_all ps

-- the same of the behaviour of a system and then of its processes
abbrev pub numbers_of : System → List ℕ
numbers_of system = numbers_in system.start ++ numbers_of_all system.processes

-- the processes, and a behaviour that only calls the one with this number
abbrev pub from_process : List FlatProcess → ℕ → System
from_process processes k = record { formals = []; start = call k []; processes = processes }

-- the definition with this index is the specification, or a process whose number is not inside
abbrev pub IsApart : (ℕ → Type 0) → ℕ → Type 0
IsApart inside zero = Unit {0}
IsApart inside (suc k) = inside k → ⊥

-- the call at the index goes to the process, and its definition is not one of those inside
pub record IsOuterAt (sites : List Site) (numbers : List ℕ) (inside : ℕ → Type 0) (process index : ℕ)
    (site : Site) : Type 0 where
  pub located : slice_get sites index ≡ Some site
  pub numbered : slice_get numbers index ≡ Some process
  pub outside : IsApart inside site.caller

-- and it has these gates
abbrev pub IsPeerAt : List Site → List ℕ → (ℕ → Type 0) → ℕ → List Name → ℕ → Type 0
IsPeerAt sites numbers inside process own index =
    (site : Site) × IsOuterAt sites numbers inside process index site × (texts site.actuals ≡ own)

-- or it has them in another order, of which this is the warning
abbrev pub IsExchangeAt : List Site → List ℕ → (ℕ → Type 0) → ℕ → List Name → ℕ → Warning → Type 0
IsExchangeAt sites numbers inside process own index w =
    (site : Site) × IsOuterAt sites numbers inside process index site × IsExchanged (texts site.actuals) own
    × (w ≡ ExchangedGates site.callee (shown_names own))

-- the warning is one about some call, and no call has the gates in their own order
abbrev pub IsExchangeAlone : List Site → List ℕ → (ℕ → Type 0) → ℕ → List Name → Warning → Type 0
IsExchangeAlone sites numbers inside process own w =
    ((index : ℕ) → IsPeerAt sites numbers inside process own index → ⊥)
    × ((index : ℕ) × IsExchangeAt sites numbers inside process own index w)

-- the process with this number has the call at the index with its gates in another order
pub record IsMovedAt (processes : List FlatProcess) (sites : List Site) (numbers : List ℕ)
    (index process : ℕ) : Type 0 where
  pub own : FlatProcess
  pub located : slice_get processes process ≡ Some own
  pub site : Site
  pub called : slice_get sites index ≡ Some site
  pub numbered : slice_get numbers index ≡ Some process
  pub exchanged : IsExchanged (texts site.actuals) own.formals

-- the warning is one about the gates of a call of the process from outside
pub record IsExchangeOf (processes : List FlatProcess) (sites : List Site) (numbers : List ℕ) (process : ℕ)
    (w : Warning) : Type 0 where
  pub own : FlatProcess
  pub located : slice_get processes process ≡ Some own
  pub index : ℕ
  pub exchange : IsExchangeAt sites numbers (IsReachedIn (from_process processes process)) process own.formals index w
  pub alone : (other : ℕ) →
      IsPeerAt sites numbers (IsReachedIn (from_process processes process)) process own.formals other → ⊥

-- the same of some process
abbrev pub IsExchangeOfAny : List FlatProcess → List Site → List ℕ → Warning → Type 0
IsExchangeOfAny processes sites numbers w = (process : ℕ) × IsExchangeOf processes sites numbers process w

-- the warning is one about a call of the process at the index of the list
abbrev pub IsExchangeListed : List FlatProcess → List Site → List ℕ → List ℕ → ℕ → Warning → Type 0
IsExchangeListed processes sites numbers moved index w =
    (k : ℕ) × (slice_get moved index ≡ Some k) × IsExchangeOf processes sites numbers k w

-- the warning is one of the specification about the gates of a call
abbrev pub IsExchangeWarning : DefinitionView → Warning → Type 0
IsExchangeWarning whole w =
    (name : Placed) × (own : Name) × (w ≡ ExchangedGates name own) × IsExchangedCall whole name own

-- the specification has this warning, which is of another kind
abbrev pub IsOtherWarning : DefinitionView → Warning → Type 0
IsOtherWarning whole (UncalledProcess process) = IsWarning whole (UncalledProcess process)
IsOtherWarning whole (UnreachedProcess process) = IsWarning whole (UnreachedProcess process)
IsOtherWarning whole (NeverExits name) = IsWarning whole (NeverExits name)
IsOtherWarning whole (DeadStart name) = IsWarning whole (DeadStart name)
IsOtherWarning whole (UnusedGate gate definition) = IsWarning whole (UnusedGate gate definition)
IsOtherWarning whole (UnofferedGate gate side) = IsWarning whole (UnofferedGate gate side)
IsOtherWarning whole (UnusedHidden gate) = IsWarning whole (UnusedHidden gate)
IsOtherWarning whole (UnsynchronizedHidden gate) = IsWarning whole (UnsynchronizedHidden gate)
IsOtherWarning whole (ExchangedGates process own) = ⊥
