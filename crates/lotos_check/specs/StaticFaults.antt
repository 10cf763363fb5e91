-- Why a specification breaks a static rule: each cause with its name or its offset.
use Rattle.std.specs.Prelude.{◌≡◌, ◌≢◌, ℕ, List, length}
use Rattle.lotos_text.specs.AstView.{BehaviourView, call, enable, DefinitionView, name_of, formals_of, declared_of, body_of, inner_of}
use Rattle.lotos_text.specs.declared.ast.Placed.{Placed}
use Rattle.lotos_text.specs.declared.ast.Functionality.{Functionality}
use Rattle.lotos_text.specs.declared.ast.Functionality.TheVariants.{NoExit}
use Rattle.lotos_check.specs.NameLists.{Name, In, texts, IsDuplicate}
use Rattle.lotos_check.specs.Scope.{Scope, IsDefinition, Binds, declared_names}
use Rattle.lotos_check.specs.Subexpressions.{IsSubexpression, UsesGate}
use Rattle.lotos_check.specs.Functionality.{Func}

-- the body of a definition has this part, where these processes are visible and these gates are in scope
pub record Occurs (whole : DefinitionView) (scope : Scope) (in_scope : List Name) (part : BehaviourView) : Type 0 where
  pub definition : DefinitionView
  pub located : IsDefinition whole scope definition
  pub inside : IsSubexpression (texts (formals_of definition)) (body_of definition) in_scope part

-- one list declares a formal gate twice, the second time with this name and offset
pub record IsE20 (whole : DefinitionView) (gate : Placed) : Type 0 where
  pub scope : Scope
  pub definition : DefinitionView
  pub located : IsDefinition whole scope definition
  pub second : IsDuplicate gate (formals_of definition)

-- this gate is used where it is not in scope
pub record IsE21 (whole : DefinitionView) (gate : Placed) : Type 0 where
  pub scope : Scope
  pub in_scope : List Name
  pub part : BehaviourView
  pub occurs : Occurs whole scope in_scope part
  pub uses : UsesGate part gate
  pub unknown : In gate.name in_scope → ⊥

-- a call has this name, and no process with the name is visible
pub record IsE22 (whole : DefinitionView) (name : Placed) : Type 0 where
  pub scope : Scope
  pub in_scope : List Name
  pub actuals : List Placed
  pub occurs : Occurs whole scope in_scope (call name actuals)
  pub unknown : (k : ℕ) (d : DefinitionView) → Binds scope name.name k d → ⊥

-- the call with this name has another number of gates than the definition that its name is bound to (ISO)
pub record IsE23 (whole : DefinitionView) (name : Placed) (formal actual : ℕ) : Type 0 where
  pub scope : Scope
  pub in_scope : List Name
  pub actuals : List Placed
  pub process : ℕ
  pub definition : DefinitionView
  pub occurs : Occurs whole scope in_scope (call name actuals)
  pub means : Binds scope name.name process definition
  pub declared : formal ≡ length (formals_of definition)
  pub given : actual ≡ length actuals
  pub differ : formal ≢ actual

-- one `where` declares a process name twice, the second time with this name and offset
pub record IsE24 (whole : DefinitionView) (name : Placed) : Type 0 where
  pub scope : Scope
  pub definition : DefinitionView
  pub located : IsDefinition whole scope definition
  pub second : IsDuplicate name (declared_names (inner_of definition))

-- the functionality that the definition with this name declares differs from that of its body
pub record IsE25 (whole : DefinitionView) (name : Placed) (declared : Functionality) : Type 0 where
  pub scope : Scope
  pub definition : DefinitionView
  pub other : Functionality
  pub located : IsDefinition whole scope definition
  pub named : name ≡ name_of definition
  pub declares : declared ≡ declared_of definition
  pub has : Func scope (body_of definition) other
  pub differ : other ≢ declared

-- the left operand of the `>>` at this offset has noexit
pub record IsE26 (whole : DefinitionView) (at : ℕ) : Type 0 where
  pub scope : Scope
  pub in_scope : List Name
  pub left : BehaviourView
  pub right : BehaviourView
  pub occurs : Occurs whole scope in_scope (enable left at right)
  pub never_exits : Func scope left NoExit

-- no list declares a formal gate twice, no `where` a process: there is neither E20 nor E24
pub record IsDistinct (whole : DefinitionView) : Type 0 where
  pub gates : (p : Placed) → IsE20 whole p → ⊥
  pub processes : (p : Placed) → IsE24 whole p → ⊥

-- the static rules without guardedness: there is none of E20 to E26
pub record WellTyped (whole : DefinitionView) : Type 0 where
  pub distinct : IsDistinct whole
  pub known_gates : (p : Placed) → IsE21 whole p → ⊥
  pub known_processes : (p : Placed) → IsE22 whole p → ⊥
  pub same_counts : (p : Placed) (formal actual : ℕ) → IsE23 whole p formal actual → ⊥
  pub as_declared : (p : Placed) (f : Functionality) → IsE25 whole p f → ⊥
  pub left_exits : (at : ℕ) → IsE26 whole at → ⊥
