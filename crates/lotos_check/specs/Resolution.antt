-- What the resolution of a body returns, given the visible processes and the gates in scope.
use Rattle.std.specs.Prelude.{◌≡◌, ◌≢◌, ℕ, List, [], ◌∷◌, ◌++◌, length, Option, Some, None, MatchOption}
use Rattle.lotos_text.specs.AstView.{BehaviourView, SyncView, gates, all, DefinitionView, call, enable, formals_of, body_of}
use Rattle.lotos_text.specs.declared.ast.Action.{Action}
use Rattle.lotos_text.specs.declared.ast.Action.TheVariants.{Internal, Gate}
use Rattle.lotos_text.specs.declared.ast.Placed.{Placed}
use Rattle.lotos_text.specs.declared.ast.Functionality.TheVariants as f
use Rattle.lotos_check.specs.NameLists.{Name, In, texts, IsSetOf}
use Rattle.lotos_check.specs.Scope.{Scope, Binds, ScopedDefinition}
use Rattle.lotos_check.specs.Subexpressions.{IsSubexpression, UsesGate}
use Rattle.lotos_check.specs.Functionality.{Func}
use Rattle.lotos_check.specs.Flat.{Resolves, Pairwise}
use Rattle.lotos_check.specs.CheckedView.{flat_of}
use Rattle.lotos_check.specs.declared.resolved_body.ResolvedBody.{ResolvedBody}
use Rattle.lotos_check.specs.declared.fault.CheckFault.{CheckFault}
use Rattle.lotos_check.specs.declared.fault.CheckFault.TheVariants.{E20, E21, E22, E23, E24, E25, E26, E27, E99}

-- each gate that a part uses is in scope there
abbrev pub GatesDeclared : List Name → BehaviourView → Type 0
GatesDeclared in_scope body =
    (there : List Name) (part : BehaviourView) (g : Placed) → IsSubexpression in_scope body there part →
    UsesGate part g → In g.name there

-- each call names a visible process, with as many gates as its definition has
abbrev pub CallsFit : Scope → List Name → BehaviourView → Type 0
CallsFit scope in_scope body =
    (there : List Name) (name : Placed) (actuals : List Placed) →
    IsSubexpression in_scope body there (call name actuals) →
    (k : ℕ) × (d : DefinitionView) × Binds scope name.name k d × (length (formals_of d) ≡ length actuals)

-- each left operand of `>>` has exit
abbrev pub LeftsExit : Scope → List Name → BehaviourView → Type 0
LeftsExit scope in_scope body =
    (there : List Name) (left right : BehaviourView) (at : ℕ) →
    IsSubexpression in_scope body there (enable left at right) → Func scope left f.Exit

-- at the offset there is a `>>` whose left operand has noexit
pub record NeverExits (scope : Scope) (in_scope : List Name) (body : BehaviourView) (at : ℕ) : Type 0 where
  pub there : List Name
  pub left : BehaviourView
  pub right : BehaviourView
  pub located : IsSubexpression in_scope body there (enable left at right)
  pub never_exits : Func scope left f.NoExit

-- what holds of a body that is resolved without a fault
pub record IsResolved (scope : Scope) (in_scope : List Name) (body : BehaviourView)
    (found : ResolvedBody) : Type 0 where
  pub code : Resolves scope body (flat_of found.code.value)
  pub has : Func scope body found.functionality
  pub gates : GatesDeclared in_scope body
  pub calls : CallsFit scope in_scope body
  pub lefts : MatchOption found.never_exits (LeftsExit scope in_scope body) (NeverExits scope in_scope body)

-- a part uses a gate that is not in scope
pub record UsesUndeclaredGate (in_scope : List Name) (body : BehaviourView) (gate : Placed) : Type 0 where
  pub there : List Name
  pub part : BehaviourView
  pub located : IsSubexpression in_scope body there part
  pub uses : UsesGate part gate
  pub unknown : In gate.name there → ⊥

-- a call of no visible process
pub record CallsUndeclaredProcess (scope : Scope) (in_scope : List Name) (body : BehaviourView)
    (name : Placed) : Type 0 where
  pub there : List Name
  pub actuals : List Placed
  pub located : IsSubexpression in_scope body there (call name actuals)
  pub unseen : (k : ℕ) (d : DefinitionView) → Binds scope name.name k d → ⊥

-- a call with another number of gates than its definition has
pub record CallsWithWrongCount (scope : Scope) (in_scope : List Name) (body : BehaviourView) (name : Placed)
    (formal actual : ℕ) : Type 0 where
  pub there : List Name
  pub actuals : List Placed
  pub process : ℕ
  pub definition : DefinitionView
  pub located : IsSubexpression in_scope body there (call name actuals)
  pub means : Binds scope name.name process definition
  pub declared : formal ≡ length (formals_of definition)
  pub given : actual ≡ length actuals
  pub differ : formal ≢ actual

-- one of these gates is not in scope, or memory ran out
abbrev pub IsUndeclaredGate : List Name → List Placed → CheckFault → Type 0
IsUndeclaredGate in_scope list (E20 gate) = ⊥
IsUndeclaredGate in_scope list (E21 gate) = In gate list × (In gate.name in_scope → ⊥)
IsUndeclaredGate in_scope list (E22 name) = ⊥
IsUndeclaredGate in_scope list (E23 name formal actual) = ⊥
IsUndeclaredGate in_scope list (E24 name) = ⊥
IsUndeclaredGate in_scope list (E25 name declared) = ⊥
IsUndeclaredGate in_scope list (E26 at) = ⊥
IsUndeclaredGate in_scope list (E27 name set) = ⊥
IsUndeclaredGate in_scope list (E99 e) = Unit {0}

-- the gates as a set; `None` if both sides synchronize on all gates
abbrev pub IsSyncSet : Option (List Name) → SyncView → Type 0
IsSyncSet None (gates list) = ⊥
IsSyncSet None all = Unit {0}
IsSyncSet (Some set) (gates list) = IsSetOf set list
IsSyncSet (Some set) all = ⊥

-- the gates of the list are in scope
abbrev pub AreSyncGatesDeclared : List Name → SyncView → Type 0
AreSyncGatesDeclared in_scope (gates list) = (g : Placed) → In g list → In g.name in_scope
AreSyncGatesDeclared in_scope all = Unit {0}

-- one of the gates of the list is not in scope, or memory ran out
abbrev pub IsUndeclaredInSync : List Name → SyncView → CheckFault → Type 0
IsUndeclaredInSync in_scope (gates list) fault = IsUndeclaredGate in_scope list fault
IsUndeclaredInSync in_scope all fault = IsUndeclaredGate in_scope [] fault

-- the gate of the action, if it has one, is in scope
abbrev pub IsActionDeclared : List Name → Action → Type 0
IsActionDeclared in_scope Internal = Unit {0}
IsActionDeclared in_scope (Gate g) = In g.name in_scope

-- the gate of the action is not in scope, or memory ran out
abbrev pub IsUndeclaredAction : List Name → Action → CheckFault → Type 0
IsUndeclaredAction in_scope Internal fault = IsUndeclaredGate in_scope [] fault
IsUndeclaredAction in_scope (Gate g) fault = IsUndeclaredGate in_scope (g ∷ []) fault

-- why a name in a body breaks a rule, or memory ran out
abbrev pub IsNameFault : Scope → List Name → BehaviourView → CheckFault → Type 0
IsNameFault scope in_scope body (E20 gate) = ⊥
IsNameFault scope in_scope body (E21 gate) = UsesUndeclaredGate in_scope body gate
IsNameFault scope in_scope body (E22 name) = CallsUndeclaredProcess scope in_scope body name
IsNameFault scope in_scope body (E23 name formal actual) = CallsWithWrongCount scope in_scope body name formal actual
IsNameFault scope in_scope body (E24 name) = ⊥
IsNameFault scope in_scope body (E25 name declared) = ⊥
IsNameFault scope in_scope body (E26 at) = ⊥
IsNameFault scope in_scope body (E27 name set) = ⊥
IsNameFault scope in_scope body (E99 e) = Unit {0}

-- the body of a definition is resolved in its scope
abbrev pub IsResolvedBody : ScopedDefinition → ResolvedBody → Type 0
IsResolvedBody v found = IsResolved v.scope (texts (formals_of v.definition)) (body_of v.definition) found

-- the resolved bodies of the definitions were appended, one by one
pub record AddsBodies (definitions : List ScopedDefinition) (old new : List ResolvedBody) : Type 0 where
  pub more : List ResolvedBody
  pub joined : new ≡ old ++ more
  pub found : Pairwise IsResolvedBody definitions more

-- a name in the body of one of these breaks a rule, or memory ran out
pub record IsNameFaultIn (definitions : List ScopedDefinition) (fault : CheckFault) : Type 0 where
  pub scoped : ScopedDefinition
  pub located : In scoped definitions
  pub misnamed : IsNameFault scoped.scope (texts (formals_of scoped.definition)) (body_of scoped.definition) fault
