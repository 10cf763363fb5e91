-- All definitions of a list, from those of its first and of the others.
use Rattle.std.proofs.Common.{◌≡◌, ◌∷◌, ◌++◌, [], List, map, refl, sym, ap, ◌∙◌, append_assoc}
use Rattle.std.proofs.lemmas.List.{append-nil, map-append}
use Rattle.lotos_text.specs.AstView.{DefinitionView, def, inner_of}
use Rattle.lotos_text.specs.AstOf.{definition_view, definitions_view}
use Rattle.lotos_text.specs.declared.ast.Definition.{Definition, out-Definition}
use Rattle.lotos_text.proofs.DefinitionParts.{inner_shown}
use Rattle.lotos_check.specs.Scope.{definitions_in, definitions_in_list}

-- a definition, followed by all that are inside it
pub in_order : (d : DefinitionView) → definitions_in d ≡ d ∷ definitions_in_list (inner_of d)
in_order (def name formals declared body inner) = refl

module _ {T : Type 0} (view : T → DefinitionView) where
  -- where a definition was appended, its inner ones are left
  pub first_listed : (old new : List T) (x : T) (of : Definition) (items : List Definition) → new ≡ old ++ x ∷ [] →
      view x ≡ definition_view of → items ≡ (out-Definition of).inner.items →
      map view new ++ definitions_in_list (definitions_view items) ≡ map view old ++ definitions_in (definition_view of)
  first_listed old new x of items pushed same inner =
      let left = definitions_in_list (definitions_view items) in
      ap (λ ts. map view ts ++ left) pushed
      ∙ ap (λ ds. ds ++ left) (map-append view old (x ∷ []))
      ∙ append_assoc (map view old) (view x ∷ []) left
      ∙ ap (λ d. map view old ++ d ∷ left) same
      ∙ ap (λ ds. map view old ++ definition_view of ∷ definitions_in_list ds)
      (ap definitions_view inner ∙ inner_shown of)
      ∙ ap (λ ds. map view old ++ ds) (sym (in_order (definition_view of)))

  -- where the next of the inner ones was appended with those inside it, the others are left
  pub next_listed : (old new : List T) (x : Definition) (items rest : List Definition) (all : List DefinitionView) → items ≡ x ∷ rest →
      map view new ≡ map view old ++ definitions_in (definition_view x) →
      map view old ++ definitions_in_list (definitions_view items) ≡ all →
      map view new ++ definitions_in_list (definitions_view rest) ≡ all
  next_listed old new x items rest all next listed left =
      ap (λ ds. ds ++ definitions_in_list (definitions_view rest)) listed
      ∙ append_assoc (map view old) (definitions_in (definition_view x)) (definitions_in_list (definitions_view rest))
      ∙ ap (λ ds. map view old ++ definitions_in_list (definitions_view ds)) (sym next)
      ∙ left

  -- where none is left, all are listed
  pub all_listed : (new : List T) (rest : List Definition) (all : List DefinitionView) → rest ≡ [] →
      map view new ++ definitions_in_list (definitions_view rest) ≡ all → map view new ≡ all
  all_listed new rest all none left =
      sym (append-nil (map view new)) ∙ ap (λ ds. map view new ++ definitions_in_list (definitions_view ds)) (sym none) ∙ left
