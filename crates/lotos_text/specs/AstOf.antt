-- The views of the program's ASTs, levels and operators.
use Rattle.std.specs.Prelude.{List, [], ◌∷◌, map}
use Rattle.lotos_text.specs.AstView.{BehaviourView, SyncView, gates, all, stop, exit, prefix, choice, par, hide, enable, disable, call, DefinitionView, def, DefinitionListView, no_defs, more_defs}
use Rattle.lotos_text.specs.Grammar.{Level, enabling, disabling, parallel, choosing, prefixing, Operator, enables, disables, synchronizes, chooses, DefinitionKind, a_specification, a_process}
use Rattle.lotos_text.specs.declared.operators.Level.{Level as CodeLevel}
use Rattle.lotos_text.specs.declared.operators.Level.TheVariants as l
use Rattle.lotos_text.specs.declared.ast_builders.BinaryOperator.{BinaryOperator as CodeOperator}
use Rattle.lotos_text.specs.declared.ast_builders.BinaryOperator.TheVariants as o
use Rattle.lotos_text.specs.declared.parser.DefinitionKind.{DefinitionKind as CodeKind}
use Rattle.lotos_text.specs.declared.parser.DefinitionKind.TheVariants as d
use Rattle.lotos_text.specs.declared.ast.Behaviour.{Behaviour, Stop, Exit, Prefix', Choice', Par', Hide', Enable', Disable', Call}
use Rattle.lotos_text.specs.declared.ast.SyncSet.{SyncSet}
use Rattle.lotos_text.specs.declared.ast.SyncSet.TheVariants.{Gates, All}
use Rattle.lotos_text.specs.declared.ast.Definition.{Definition, fold-Definition}
use Rattle.lotos_text.specs.declared.ast.Specification.{Specification}

-- the view of the gates of a parallel expression of the program
abbrev pub sync_view : SyncSet → SyncView
sync_view (Gates list) = gates list.items
sync_view All = all

-- the view of a behaviour expression of the program
abbrev pub behaviour_view : Behaviour → BehaviourView
behaviour_view Stop = stop
behaviour_view Exit = exit
behaviour_view (Prefix' action p body) = prefix action (behaviour_view body)
behaviour_view (Choice' p left q right) = choice (behaviour_view left) (behaviour_view right)
behaviour_view (Par' p left sync q right) = par (behaviour_view left) (sync_view sync) (behaviour_view right)
behaviour_view (Hide' list p body) = hide list.items (behaviour_view body)
behaviour_view (Enable' p left at q right) = enable (behaviour_view left) at (behaviour_view right)
behaviour_view (Disable' p left q right) = disable (behaviour_view left) (behaviour_view right)
behaviour_view (Call name list) = call name list.items

-- a list of views of definitions as the view of a list
abbrev pub definition_list_view : List DefinitionView → DefinitionListView
definition_list_view [] = no_defs
definition_list_view (d ∷ ds) = more_defs d (definition_list_view ds)

-- the view of a definition of the program
abbrev pub definition_view : Definition → DefinitionView
definition_view = fold-Definition DefinitionView (λ d. def d.name d.formals.items d.functionality
    (behaviour_view d.body) (definition_list_view d.inner.items))

-- the view of a list of definitions
abbrev pub definitions_view : List Definition → DefinitionListView
definitions_view ds = definition_list_view (map definition_view ds)

-- the views of two specifications
abbrev pub specifications_view : Specification × Specification → DefinitionView × DefinitionView
specifications_view both = (definition_view both.0.whole, definition_view both.1.whole)

-- the view of a level
abbrev pub level_view : CodeLevel → Level
level_view l.Enabling = enabling
level_view l.Disabling = disabling
level_view l.Parallel = parallel
level_view l.Choosing = choosing
level_view l.Prefixing = prefixing

-- the view of an operator
abbrev pub operator_view : CodeOperator → Operator
operator_view (o.Enable at) = enables at
operator_view o.Disable = disables
operator_view (o.Synchronize sync) = synchronizes (sync_view sync)
operator_view o.Choose = chooses

-- the view of the kind of a definition
abbrev pub definition_kind_view : CodeKind → DefinitionKind
definition_kind_view d.Specification = a_specification
definition_kind_view d.Process = a_process
