-- The views of the program's definitions.
use Rattle.std.proofs.Common.{◌≡◌, List, [], ◌∷◌, ◌++◌, map, ◌∙◌, sym, ap, append_assoc}
use Rattle.std.proofs.lemmas.List.{append-nil, map-append}
use Rattle.lotos_text.specs.AstView.{DefinitionView, def}
use Rattle.lotos_text.specs.AstOf.{behaviour_view, definition_list_view, definition_view, definitions_view}
use Rattle.lotos_text.specs.declared.ast.Definition.{Definition, fold-roll-Definition, roll-Definition}
use Rattle.lotos_text.specs.declared.ast.Definition.TheOpen.{Definition-F}

-- the view of a definition has its parts
pub seen : (d : Definition-F Definition) →
    definition_view (roll-Definition d) ≡ def d.name d.formals.items d.functionality (behaviour_view d.body) (definitions_view d.inner.items)
seen d = fold-roll-Definition DefinitionView _ d

-- in the view of a list, a definition that was pushed is before those that follow
pub seen_pushed : (items found : List Definition) (one : Definition) (more : List DefinitionView) → items ≡ found ++ one ∷ [] →
    map definition_view items ++ more ≡ map definition_view found ++ (definition_view one ∷ more)
seen_pushed items found one more e =
    ap (λ m. map definition_view m ++ more) e ∙ ap (λ m. m ++ more) (map-append definition_view found (one ∷ []))
    ∙ append_assoc (map definition_view found) (definition_view one ∷ []) more

-- a list of definitions to which one was pushed last
pub seen_row : (items found : List Definition) (one : Definition) → items ≡ found ++ one ∷ [] →
    definitions_view items ≡ definition_list_view (map definition_view found ++ definition_view one ∷ [])
seen_row items found one e = ap definition_list_view (sym (append-nil (map definition_view items)) ∙ seen_pushed items found one [] e)
