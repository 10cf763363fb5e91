use Rattle.std.specs.Prelude.{◌≡◌, ◌∷◌, map}
use Rattle.std.proofs.Common.{rules, ap, ◌∙◌}
use Rattle.lotos_text.specs.AstView.{inner_of}
use Rattle.lotos_text.specs.AstOf.{definition_view, definitions_view}
use Rattle.lotos_text.proofs.DefinitionParts.{inner_shown}
use Rattle.lotos_explain.proofs.FunctionalityCauses.{bound_here, bound_past}
use Rattle.lotos_explain.proofs.functionality_causes.+find_definition.Goals as goal

pub returns-in-Some-declared_in : goal.returns-in-Some-declared_in
returns-in-Some-declared_in t c = λ scope h.
    let near = c.in-Some.nearest.now.now in
    let split : c.args.scopes.now ≡ c.in-Some.nearest.now ∷ c.in-Some.outer.now = search rules in
    let same : definitions_view c.as_slice.result.now ≡ inner_of (definition_view near) = ap definitions_view c.as_slice.ensures.value ∙ inner_shown near in
    bound_here c.args.name.now (definition_view near) (map (λ d. definition_view d.now) c.in-Some.outer.now)
    (definition_view c.in-Some-declared_in.definition.now)
    (rw same at c.in-Some-declared_in.ensures) scope (rw split at h)

pub returns-in-None-declared_in : goal.returns-in-None-declared_in
returns-in-None-declared_in t c = λ scope h.
    let near = c.in-Some.nearest.now.now in
    let split : c.args.scopes.now ≡ c.in-Some.nearest.now ∷ c.in-Some.outer.now = search rules in
    let same : definitions_view c.as_slice.result.now ≡ inner_of (definition_view near) = ap definitions_view c.as_slice.ensures.value ∙ inner_shown near in
    bound_past c.args.name.now (definition_view near) (map (λ d. definition_view d.now) c.in-Some.outer.now)
    (λ d. definition_view d.now) c.find_definition.result
    (rw same at c.in-None-declared_in.ensures) c.find_definition.ensures scope (rw split at h)
