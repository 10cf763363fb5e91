-- ASTs as plain values: without boxes and allocators.
use Rattle.std.specs.Prelude.{ℕ, List}
use Rattle.lotos_text.specs.declared.ast.Placed.{Placed}
use Rattle.lotos_text.specs.declared.ast.Action.{Action}
use Rattle.lotos_text.specs.declared.ast.Functionality.{Functionality}

-- the gates on which both sides of a parallel expression synchronize: those of a list, or all (ISO)
pub data SyncView : Type 0 where
  gates : List Placed → SyncView
  all : SyncView

-- a behaviour expression as a plain value, without boxes and allocators; the number of an enabling is the offset of its
-- operator (ISO, behaviour expressions)
pub data BehaviourView : Type 0 where
  stop : BehaviourView
  exit : BehaviourView
  prefix : Action → BehaviourView → BehaviourView
  choice : BehaviourView → BehaviourView → BehaviourView
  par : BehaviourView → SyncView → BehaviourView → BehaviourView
  hide : List Placed → BehaviourView → BehaviourView
  enable : BehaviourView → ℕ → BehaviourView → BehaviourView
  disable : BehaviourView → BehaviourView → BehaviourView
  call : Placed → List Placed → BehaviourView

mutual
  -- a definition as a plain value: its name, formal gates, declared functionality, body, and the definitions of its
  -- `where` (ISO, process definitions)
  pub data DefinitionView : Type 0 where
    def : Placed → List Placed → Functionality → BehaviourView → DefinitionListView → DefinitionView

  -- a list of definitions as a plain value (ISO)
  pub data DefinitionListView : Type 0 where
    no_defs : DefinitionListView
    more_defs : DefinitionView → DefinitionListView → DefinitionListView

-- the name of a definition
abbrev pub name_of : DefinitionView → Placed
name_of (def name formals declared body inner) = name

-- the formal gates of a definition
abbrev pub formals_of : DefinitionView → List Placed
formals_of (def name formals declared body inner) = formals

-- the declared functionality of a definition
abbrev pub declared_of : DefinitionView → Functionality
declared_of (def name formals declared body inner) = declared

-- the body of a definition
abbrev pub body_of : DefinitionView → BehaviourView
body_of (def name formals declared body inner) = body

-- the definitions of a definition's `where`
abbrev pub inner_of : DefinitionView → DefinitionListView
inner_of (def name formals declared body inner) = inner
