-- The parts of a definition of the program are those of its view.
use Rattle.std.specs.Prelude.{◌≡◌}
use Rattle.std.proofs.Common.{sym, ap}
use Rattle.lotos_text.specs.AstView.{DefinitionView, def, name_of, formals_of, declared_of, body_of, inner_of}
use Rattle.lotos_text.specs.AstOf.{behaviour_view, definition_list_view, definition_view, definitions_view}
use Rattle.lotos_text.specs.declared.ast.Definition.{Definition, out-Definition, fold_out-Definition}

-- the view has all parts
parts_shown : (of : Definition) →
    definition_view of ≡ (let d = out-Definition of in
    def d.name d.formals.items d.functionality (behaviour_view d.body) (definitions_view d.inner.items))
parts_shown of =
    fold_out-Definition DefinitionView
    (λ d. def d.name d.formals.items d.functionality (behaviour_view d.body) (definition_list_view d.inner.items)) of

-- the name
pub name_shown : (of : Definition) → (out-Definition of).name ≡ name_of (definition_view of)
name_shown of = sym (ap name_of (parts_shown of))

-- the formal gates
pub formals_shown : (of : Definition) → (out-Definition of).formals.items ≡ formals_of (definition_view of)
formals_shown of = sym (ap formals_of (parts_shown of))

-- the declared functionality
pub declared_shown : (of : Definition) → (out-Definition of).functionality ≡ declared_of (definition_view of)
declared_shown of = sym (ap declared_of (parts_shown of))

-- the body
pub body_shown : (of : Definition) → behaviour_view (out-Definition of).body ≡ body_of (definition_view of)
body_shown of = sym (ap body_of (parts_shown of))

-- the definitions of its `where`
pub inner_shown : (of : Definition) → definitions_view (out-Definition of).inner.items ≡ inner_of (definition_view of)
inner_shown of = sym (ap inner_of (parts_shown of))
