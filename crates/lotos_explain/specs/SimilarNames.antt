-- Names that could be meant where a name that is not declared occurs.
use Rattle.std.specs.Prelude.{◌≡◌, ◌⊎◌, ℕ, ◌<◌, ◌≤◌, List, Option, Some, length, nat_eq}
use Rattle.std.specs.Str.{chars}
use Rattle.strsim.specs.Edits.{levenshtein_row}
use Rattle.lotos_text.specs.AstView.{BehaviourView, DefinitionView, call, body_of, formals_of}
use Rattle.lotos_text.specs.declared.ast.Placed.{Placed}
use Rattle.lotos_check.specs.NameLists.{Name, In, texts}
use Rattle.lotos_check.specs.Scope.{Scope, ScopedDefinition, Binds}
use Rattle.lotos_check.specs.StaticFaults.{Occurs}
use Rattle.lotos_check.specs.Subexpressions.{IsSubexpression, UsesGate}
use Rattle.lotos_explain.specs.declared.similar_gates.Occurrence.{Occurrence}
use Rattle.lotos_explain.specs.declared.similar_gates.Occurrence.TheVariants as occurrence

-- the name is this one, if there is one, or in the list
abbrev pub IsFrom : Option Name → List Name → Name → Type 0
IsFrom best names n = (best ≡ Some n) ⊎ In n names

-- the number of edits of a character that lead from the first name to the second: the Levenshtein distance (as `strsim`
-- defines it)
abbrev pub edits : Name → Name → ℕ
edits name other = levenshtein_row nat_eq (chars name) (chars other) (length (chars other))

-- at most two edits lead from the first name to the second, and fewer than the first has bytes
pub record IsSimilar (name other : Name) : Type 0 where
  pub few : edits name other ≤ 2
  pub fewer : edits name other < length name

-- one of the gates has this offset
pub record IsAmongAt (gates : List Placed) (at : ℕ) : Type 0 where
  pub gate : Placed
  pub located : In gate gates
  pub offset : gate.at ≡ at

-- the behaviour itself uses a gate with this offset
pub record UsesGateAt (part : BehaviourView) (at : ℕ) : Type 0 where
  pub gate : Placed
  pub uses : UsesGate part gate
  pub offset : gate.at ≡ at

-- the behaviour is a call whose name has this offset
pub record IsCallAt (part : BehaviourView) (at : ℕ) : Type 0 where
  pub called : Placed
  pub actuals : List Placed
  pub is : part ≡ call called actuals
  pub offset : called.at ≡ at

-- a name with this offset occurs in the behaviour itself: as a gate that it uses, or as the name of a call
abbrev pub OccursAt : BehaviourView → Occurrence → Type 0
OccursAt part (occurrence.Gate at) = UsesGateAt part at
OccursAt part (occurrence.Call at) = IsCallAt part at

-- with these gates in scope around the body, the name is in scope at a part of it in which a name occurs there
pub record IsInScopeAt (around : List Name) (body : BehaviourView) (place : Occurrence) (n : Name) : Type 0 where
  pub there : List Name
  pub part : BehaviourView
  pub inside : IsSubexpression around body there part
  pub uses : OccursAt part place
  pub visible : In n there

-- the name is in scope where a name occurs in the body of one of these
pub record IsInScopeInAny (definitions : List ScopedDefinition) (place : Occurrence) (n : Name) : Type 0 where
  pub scoped : ScopedDefinition
  pub located : In scoped definitions
  pub inside : IsInScopeAt (texts (formals_of scoped.definition)) (body_of scoped.definition) place n

-- the gate is in scope at a part that uses a gate with this offset
pub record IsGateInScopeAt (whole : DefinitionView) (at : ℕ) (n : Name) : Type 0 where
  pub scope : Scope
  pub in_scope : List Name
  pub part : BehaviourView
  pub occurs : Occurs whole scope in_scope part
  pub uses : UsesGateAt part at
  pub visible : In n in_scope

-- the gate is in scope at a call whose name has this offset
pub record IsGateInScopeAtCall (whole : DefinitionView) (at : ℕ) (n : Name) : Type 0 where
  pub scope : Scope
  pub in_scope : List Name
  pub part : BehaviourView
  pub occurs : Occurs whole scope in_scope part
  pub calls : IsCallAt part at
  pub visible : In n in_scope

-- a process with this name is visible
pub record IsBound (scope : Scope) (n : Name) : Type 0 where
  pub process : ℕ
  pub definition : DefinitionView
  pub means : Binds scope n process definition

-- the behaviour contains a call whose name has this offset
pub record CallsAt (around : List Name) (body : BehaviourView) (at : ℕ) : Type 0 where
  pub there : List Name
  pub called : Placed
  pub actuals : List Placed
  pub inside : IsSubexpression around body there (call called actuals)
  pub offset : called.at ≡ at

-- the name is bound where the body of one of these has a call whose name has this offset
pub record IsBoundInAny (definitions : List ScopedDefinition) (at : ℕ) (n : Name) : Type 0 where
  pub scoped : ScopedDefinition
  pub located : In scoped definitions
  pub calls : CallsAt (texts (formals_of scoped.definition)) (body_of scoped.definition) at
  pub visible : IsBound scoped.scope n

-- the process is visible at a call whose name has this offset
pub record IsProcessVisibleAt (whole : DefinitionView) (at : ℕ) (n : Name) : Type 0 where
  pub scope : Scope
  pub in_scope : List Name
  pub called : Placed
  pub actuals : List Placed
  pub occurs : Occurs whole scope in_scope (call called actuals)
  pub offset : called.at ≡ at
  pub visible : IsBound scope n
