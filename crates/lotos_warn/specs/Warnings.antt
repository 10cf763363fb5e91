-- What an accepted specification has a warning about.
use Rattle.std.specs.Prelude.{◌≡◌, ◌↔◌, ◌⊎◌, ℕ, List, [], ◌∷◌, Some, slice_get}
use Rattle.lotos_text.specs.AstView.{BehaviourView, SyncView, gates, all, prefix, choice, par, hide, enable, disable, call, DefinitionView, name_of, formals_of, declared_of, body_of}
use Rattle.lotos_text.specs.declared.ast.Placed.{Placed}
use Rattle.lotos_text.specs.declared.ast.Action.{Action}
use Rattle.lotos_text.specs.declared.ast.Action.TheVariants.{Gate}
use Rattle.lotos_text.specs.declared.ast.Functionality.TheVariants.{Exit}
use Rattle.lotos_check.specs.NameLists.{Name, In, texts}
use Rattle.lotos_check.specs.Scope.{Scope, ScopedDefinition, Binds, IsDefinition, within, processes_of}
use Rattle.lotos_check.specs.Subexpressions.{IsSubexpression, UsesGate}
use Rattle.lotos_check.specs.StaticFaults.{Occurs}
use Rattle.lotos_warn.specs.ShownNames.{shown_name, shown_names}
use Rattle.lotos_warn.specs.Termination.{MayTerminate}
use Rattle.lotos_warn.specs.FirstLabels.{IsDeadStart}
use Rattle.lotos_warn.specs.declared.warning.Side.{Side}
use Rattle.lotos_warn.specs.declared.warning.Side.TheVariants.{Left, Right}
use Rattle.lotos_warn.specs.declared.warning.Warning.{Warning}
use Rattle.lotos_warn.specs.declared.warning.Warning.TheVariants.{UncalledProcess, UnreachedProcess, NeverExits, DeadStart, UnusedGate, UnofferedGate, UnusedHidden, UnsynchronizedHidden, ExchangedGates}

-- the behaviour itself, and not only a part of it, offers the gate: in a prefix, or to the process that it calls
pub data OffersGate : BehaviourView → Placed → Type 0 where
  acts : {g : Placed} {b : BehaviourView} → OffersGate (prefix (Gate g) b) g
  passes : {g p : Placed} {gs : List Placed} → In g gs → OffersGate (call p gs) g

-- some part of the behaviour has a gate of this name in the given way, and the name is not hidden around the part
pub record HasFree (has : BehaviourView → Placed → Type 0) (behaviour : BehaviourView) (name : Name) : Type 0 where
  -- the gates that are hidden around the part
  pub hidden : List Name
  pub part : BehaviourView
  pub gate : Placed
  pub inside : IsSubexpression [] behaviour hidden part
  pub with_gate : has part gate
  pub named : gate.name ≡ name
  pub visible : In name hidden → ⊥

-- the behaviour uses the gate, and does not hide it there
abbrev pub UsesFree : BehaviourView → Name → Type 0
UsesFree = HasFree UsesGate

-- the behaviour offers the gate, and does not hide it there
abbrev pub OffersFree : BehaviourView → Name → Type 0
OffersFree = HasFree OffersGate

-- a parallel composition synchronizes on the gate: `||` on each, and another on those of its list, which `|||` has
-- none of (ISO)
abbrev pub SynchronizesOn : SyncView → Name → Type 0
SynchronizesOn (gates list) n = In n (texts list)
SynchronizesOn all n = Unit {0}

-- the behaviour is a parallel composition, or has one inside it, both sides of which offer the gate and which does not
-- synchronize on it; nor does a composition around it in the behaviour, and no hiding there hides the gate
pub data IsOfferedApart (name : Name) : BehaviourView → Type 0 where
  on_both_sides : {l r : BehaviourView} {s : SyncView} → (SynchronizesOn s name → ⊥) → OffersFree l name →
      OffersFree r name → IsOfferedApart name (par l s r)
  within_prefix : {a : Action} {b : BehaviourView} → IsOfferedApart name b → IsOfferedApart name (prefix a b)
  within_choice_left : {l r : BehaviourView} → IsOfferedApart name l → IsOfferedApart name (choice l r)
  within_choice_right : {l r : BehaviourView} → IsOfferedApart name r → IsOfferedApart name (choice l r)
  within_par_left : {l r : BehaviourView} {s : SyncView} → (SynchronizesOn s name → ⊥) → IsOfferedApart name l →
      IsOfferedApart name (par l s r)
  within_par_right : {l r : BehaviourView} {s : SyncView} → (SynchronizesOn s name → ⊥) → IsOfferedApart name r →
      IsOfferedApart name (par l s r)
  within_hide : {gs : List Placed} {b : BehaviourView} → (In name (texts gs) → ⊥) → IsOfferedApart name b →
      IsOfferedApart name (hide gs b)
  within_enable_left : {l r : BehaviourView} {at : ℕ} → IsOfferedApart name l → IsOfferedApart name (enable l at r)
  within_enable_right : {l r : BehaviourView} {at : ℕ} → IsOfferedApart name r → IsOfferedApart name (enable l at r)
  within_disable_left : {l r : BehaviourView} → IsOfferedApart name l → IsOfferedApart name (disable l r)
  within_disable_right : {l r : BehaviourView} → IsOfferedApart name r → IsOfferedApart name (disable l r)

-- the name is that of a process, and no call anywhere is bound to the process
pub record IsUncalledProcess (whole : DefinitionView) (name : Placed) : Type 0 where
  pub process : ℕ
  pub scoped : ScopedDefinition
  pub located : slice_get (processes_of whole) process ≡ Some scoped
  pub named : name ≡ name_of scoped.definition
  pub uncalled : (scope : Scope) (in_scope : List Name) (callee : Placed) (actuals : List Placed) (d : DefinitionView) →
      Occurs whole scope in_scope (call callee actuals) → Binds scope callee.name process d → ⊥

-- a call anywhere is bound to the process with this number
pub record IsCalled (whole : DefinitionView) (process : ℕ) : Type 0 where
  pub scope : Scope
  pub in_scope : List Name
  pub callee : Placed
  pub actuals : List Placed
  pub definition : DefinitionView
  pub occurs : Occurs whole scope in_scope (call callee actuals)
  pub means : Binds scope callee.name process definition

-- a call in the body of the definition is bound to the process with this number
pub record IsCalledIn (scoped : ScopedDefinition) (process : ℕ) : Type 0 where
  pub in_scope : List Name
  pub callee : Placed
  pub actuals : List Placed
  pub definition : DefinitionView
  pub inside : IsSubexpression (texts (formals_of scoped.definition)) (body_of scoped.definition)
      in_scope (call callee actuals)
  pub means : Binds scoped.scope callee.name process definition

-- the specification itself, with the scope inside it
abbrev pub scoped_whole : DefinitionView → ScopedDefinition
scoped_whole whole = record { scope = within whole 0 []; definition = whole }

-- a call in the behaviour of the specification is bound to the process, or one in the body of a process that is reached
pub data IsReached (whole : DefinitionView) : ℕ → Type 0 where
  at_once : {process : ℕ} → IsCalledIn (scoped_whole whole) process → IsReached whole process
  later : {caller process : ℕ} {scoped : ScopedDefinition} → IsReached whole caller →
      slice_get (processes_of whole) caller ≡ Some scoped → IsCalledIn scoped process → IsReached whole process

-- the name is that of a process that some call is bound to, and the process is not reached
pub record IsUnreachedProcess (whole : DefinitionView) (name : Placed) : Type 0 where
  pub process : ℕ
  pub scoped : ScopedDefinition
  pub located : slice_get (processes_of whole) process ≡ Some scoped
  pub named : name ≡ name_of scoped.definition
  pub called : IsCalled whole process
  pub unreached : IsReached whole process → ⊥

-- the name is that of the specification or of a process that is declared exit, and whose body can never terminate
pub record IsNeverExit (whole : DefinitionView) (name : Placed) : Type 0 where
  pub scope : Scope
  pub definition : DefinitionView
  pub located : IsDefinition whole scope definition
  pub named : name ≡ name_of definition
  pub declared : declared_of definition ≡ Exit
  pub never : MayTerminate whole scope (body_of definition) → ⊥

-- the gate is a formal one of a definition, whose body has no free use of it, and whose name is shown so
pub record IsUnusedGate (whole : DefinitionView) (gate : Placed) (name : Name) : Type 0 where
  pub scope : Scope
  pub definition : DefinitionView
  pub located : IsDefinition whole scope definition
  pub formal : In gate (formals_of definition)
  pub named : name ≡ shown_name (name_of definition).name
  pub unused : UsesFree (body_of definition) gate.name → ⊥

-- one of two operands
abbrev pub operand : Side → BehaviourView → BehaviourView → BehaviourView
operand Left left right = left
operand Right left right = right

-- the gate is in the list, and none with its name is before it there
abbrev pub IsFirstOfName : Placed → List Placed → Type 0
IsFirstOfName gate [] = ⊥
IsFirstOfName gate (g ∷ gs) = (g ≡ gate) ⊎ ((g.name ≡ gate.name → ⊥) × IsFirstOfName gate gs)

-- the gate is the first of its name in the list of a parallel composition, and the operand on that side does not offer
-- it
pub record IsUnofferedGate (whole : DefinitionView) (gate : Placed) (side : Side) : Type 0 where
  pub scope : Scope
  pub in_scope : List Name
  pub left : BehaviourView
  pub list : List Placed
  pub right : BehaviourView
  pub occurs : Occurs whole scope in_scope (par left (gates list) right)
  pub listed : IsFirstOfName gate list
  pub unoffered : OffersFree (operand side left right) gate.name → ⊥

-- the gate is in the list of a hiding, and the behaviour inside does not use it
pub record IsUnusedHidden (whole : DefinitionView) (gate : Placed) : Type 0 where
  pub scope : Scope
  pub in_scope : List Name
  pub list : List Placed
  pub body : BehaviourView
  pub occurs : Occurs whole scope in_scope (hide list body)
  pub listed : In gate list
  pub unused : UsesFree body gate.name → ⊥

-- the gate is in the list of a hiding, and both sides of a parallel composition inside offer it; neither that
-- composition nor one around it inside the hiding synchronizes on it
pub record IsUnsynchronizedHidden (whole : DefinitionView) (gate : Placed) : Type 0 where
  pub scope : Scope
  pub in_scope : List Name
  pub list : List Placed
  pub body : BehaviourView
  pub occurs : Occurs whole scope in_scope (hide list body)
  pub listed : In gate list
  pub apart : IsOfferedApart gate.name body

-- the process itself, and the processes that one of these calls: by number, those that the process reaches
pub data IsReachedFrom (whole : DefinitionView) (process : ℕ) : ℕ → Type 0 where
  itself : IsReachedFrom whole process process
  onward : {caller callee : ℕ} {scoped : ScopedDefinition} → IsReachedFrom whole process caller →
      slice_get (processes_of whole) caller ≡ Some scoped → IsCalledIn scoped callee →
      IsReachedFrom whole process callee

-- the definition is outside of the process: it is the specification, or a process that is neither this one nor reached
-- from it
pub data IsOutside (whole : DefinitionView) (process : ℕ) : ScopedDefinition → Type 0 where
  the_whole : IsOutside whole process (scoped_whole whole)
  another : {number : ℕ} {scoped : ScopedDefinition} → slice_get (processes_of whole) number ≡ Some scoped →
      (IsReachedFrom whole process number → ⊥) → IsOutside whole process scoped

-- the first names are the second ones in another order, if both lists are equally long and no name is in one twice, as
-- the actual and the formal gates of calls in an accepted specification are if they have the same names
pub record IsExchanged (actuals formals : List Name) : Type 0 where
  pub same : (n : Name) → In n actuals ↔ In n formals
  pub moved : actuals ≡ formals → ⊥

-- the names of the formal gates of a definition, in their order
abbrev pub own_gates : ScopedDefinition → List Name
own_gates scoped = texts (formals_of scoped.definition)

-- the name is that of a call outside of its process, whose actual gates are the formal ones of the process in another
-- order; no call outside of the process has them in their own order, in which they are shown
pub record IsExchangedCall (whole : DefinitionView) (name : Placed) (own : Name) : Type 0 where
  -- the number of the process
  pub process : ℕ
  pub scoped : ScopedDefinition
  pub located : slice_get (processes_of whole) process ≡ Some scoped
  -- the definition that the call is in
  pub caller : ScopedDefinition
  pub outside : IsOutside whole process caller
  pub call : IsCalledIn caller process
  pub named : name ≡ call.callee
  pub exchanged : IsExchanged (texts call.actuals) (own_gates scoped)
  pub alone : (other : ScopedDefinition) → IsOutside whole process other → (peer : IsCalledIn other process) →
      texts peer.actuals ≡ own_gates scoped → ⊥
  pub shown : own ≡ shown_names (own_gates scoped)

-- the specification has this warning, which is of one of nine kinds
abbrev pub IsWarning : DefinitionView → Warning → Type 0
IsWarning whole (UncalledProcess process) = IsUncalledProcess whole process
IsWarning whole (UnreachedProcess process) = IsUnreachedProcess whole process
IsWarning whole (NeverExits name) = IsNeverExit whole name
IsWarning whole (DeadStart name) = IsDeadStart whole name
IsWarning whole (UnusedGate gate definition) = IsUnusedGate whole gate definition
IsWarning whole (UnofferedGate gate side) = IsUnofferedGate whole gate side
IsWarning whole (UnusedHidden gate) = IsUnusedHidden whole gate
IsWarning whole (UnsynchronizedHidden gate) = IsUnsynchronizedHidden whole gate
IsWarning whole (ExchangedGates process own) = IsExchangedCall whole process own

-- the gate is the first of its name in the list of a parallel composition in the behaviour, and the operand on that
-- side does not offer it
pub record IsUnofferedIn (behaviour : BehaviourView) (gate : Placed) (side : Side) : Type 0 where
  pub hidden : List Name
  pub left : BehaviourView
  pub list : List Placed
  pub right : BehaviourView
  pub inside : IsSubexpression [] behaviour hidden (par left (gates list) right)
  pub listed : IsFirstOfName gate list
  pub unoffered : OffersFree (operand side left right) gate.name → ⊥

-- the gate is in the list of a hiding in the behaviour, and both sides of a parallel composition inside the hiding
-- offer it without synchronization
pub record IsUnsynchronizedHiddenIn (behaviour : BehaviourView) (gate : Placed) : Type 0 where
  pub hidden : List Name
  pub list : List Placed
  pub body : BehaviourView
  pub inside : IsSubexpression [] behaviour hidden (hide list body)
  pub listed : In gate list
  pub apart : IsOfferedApart gate.name body

-- the behaviour has this warning about the list of a parallel composition, or about gates of a hiding that both sides
-- of a composition offer
abbrev pub IsListWarning : BehaviourView → Warning → Type 0
IsListWarning behaviour (UncalledProcess process) = ⊥
IsListWarning behaviour (UnreachedProcess process) = ⊥
IsListWarning behaviour (NeverExits name) = ⊥
IsListWarning behaviour (DeadStart name) = ⊥
IsListWarning behaviour (UnusedGate gate definition) = ⊥
IsListWarning behaviour (UnofferedGate gate side) = IsUnofferedIn behaviour gate side
IsListWarning behaviour (UnusedHidden gate) = ⊥
IsListWarning behaviour (UnsynchronizedHidden gate) = IsUnsynchronizedHiddenIn behaviour gate
IsListWarning behaviour (ExchangedGates process own) = ⊥

-- the gate is in the list of a hiding in the behaviour, and the behaviour inside the hiding does not use it
pub record IsUnusedHiddenIn (behaviour : BehaviourView) (gate : Placed) : Type 0 where
  pub hidden : List Name
  pub list : List Placed
  pub body : BehaviourView
  pub inside : IsSubexpression [] behaviour hidden (hide list body)
  pub listed : In gate list
  pub unused : UsesFree body gate.name → ⊥

-- the behaviour has this warning about the list of a hiding
abbrev pub IsHidingWarning : BehaviourView → Warning → Type 0
IsHidingWarning behaviour (UncalledProcess process) = ⊥
IsHidingWarning behaviour (UnreachedProcess process) = ⊥
IsHidingWarning behaviour (NeverExits name) = ⊥
IsHidingWarning behaviour (DeadStart name) = ⊥
IsHidingWarning behaviour (UnusedGate gate definition) = ⊥
IsHidingWarning behaviour (UnofferedGate gate side) = ⊥
IsHidingWarning behaviour (UnusedHidden gate) = IsUnusedHiddenIn behaviour gate
IsHidingWarning behaviour (UnsynchronizedHidden gate) = ⊥
IsHidingWarning behaviour (ExchangedGates process own) = ⊥
