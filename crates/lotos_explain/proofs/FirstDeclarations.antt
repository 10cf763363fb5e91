-- Where a name is declared first.
use Rattle.std.specs.Prelude.{◌≡◌, ℕ, ◌<◌, List, length, get_or, map, Option, IfSome}
use Rattle.std.specs.Borrow.{Bor}
use Rattle.std.proofs.Common.{refl, sym, subst}
use Rattle.lotos_text.specs.AstView.{DefinitionView}
use Rattle.lotos_text.specs.AstOf.{definition_view, definitions_view}
use Rattle.lotos_text.specs.declared.ast.Definition.{Definition, out-Definition}
use Rattle.lotos_text.specs.declared.ast.Placed.{Placed}
use Rattle.lotos_text.proofs.DefinitionParts.{formals_shown, inner_shown}
use Rattle.lotos_check.specs.NameLists.{In}
use Rattle.lotos_check.specs.Scope.{definitions_in, declared_names}
use Rattle.lotos_check.proofs.ListIndices.{contains_in}
use Rattle.lotos_check.proofs.MappedLists.{in_map}
use Rattle.lotos_explain.specs.FirstDeclarations.{IsFirstGate, IsFirstProcess}
use Rattle.lotos_explain.specs.InnerGates.{IsNamedAt}
use Rattle.lotos_explain.specs.SimilarNames.{IsAmongAt}
use Rattle.lotos_explain.proofs.DefinitionScopes.{declared_placed}
use Rattle.lotos_explain.proofs.SimilarNames.{some_weaker}

module _ (items : List Definition) (i : ℕ) (item : Definition) (below : i < length items) (is : item ≡ get_or items i item) where
  -- if the name of one of the definitions has an offset, one of the names that they declare has it
  pub declared_at : (at : ℕ) → (out-Definition item).name.at ≡ at → IsAmongAt (declared_names (definitions_view items)) at
  declared_at at e = record { gate = (out-Definition item).name; located = declared_placed items i item below is; offset = e }

  -- if one of the definitions has the name of `p`, they declare this name at the offset that it has there
  pub declared_named : (p : Placed) → (out-Definition item).name.name ≡ p.name →
      IsNamedAt (declared_names (definitions_view items)) p.name (out-Definition item).name.at
  declared_named p e =
      record { gate = (out-Definition item).name; located = declared_placed items i item below is; named = e; offset = refl }

module _ (whole : DefinitionView) (list : List (Bor Definition)) (all : map (λ d. definition_view d.now) list ≡ definitions_in whole)
    (i : ℕ) (of : Bor Definition) (below : i < length list) (is : of ≡ get_or list i of) (p : Placed) (found : Option ℕ) where
  -- one of the list is a definition of the specification
  listed : In (definition_view of.now) (definitions_in whole)
  listed = subst (λ ds. In (definition_view of.now) ds) all
      (in_map (λ (d : Bor Definition). definition_view d.now) of list (contains_in list of (i, below, sym is)))

  -- if a formal gate of the definition has the offset of `p`, and `found`, if there is one, is that of a formal
  -- gate with the name of `p`, then `found` is that of a first gate of this name
  pub gate_in_list : IsAmongAt (out-Definition of.now).formals.items p.at → IfSome found (IsNamedAt (out-Definition of.now).formals.items p.name) →
      IfSome found (IsFirstGate whole p)
  gate_in_list among named =
      let d = definition_view of.now in
      some_weaker found (λ at h. record {
        definition = d;
        located = listed;
        listed = subst (λ gs. IsAmongAt gs p.at) (formals_shown of.now) among;
        first = subst (λ gs. IsNamedAt gs p.name at) (formals_shown of.now) h;
      }) named

  -- if an inner process of the definition has the offset of `p`, and `found`, if there is one, is that of an
  -- inner one with the name of `p`, then `found` is that of a first process of this name
  pub process_in_list : IsAmongAt (declared_names (definitions_view (out-Definition of.now).inner.items)) p.at →
      IfSome found (IsNamedAt (declared_names (definitions_view (out-Definition of.now).inner.items)) p.name) → IfSome found (IsFirstProcess whole p)
  process_in_list among named =
      let d = definition_view of.now in
      some_weaker found (λ at h. record {
        definition = d;
        located = listed;
        listed = subst (λ ds. IsAmongAt (declared_names ds) p.at) (inner_shown of.now) among;
        first = subst (λ ds. IsNamedAt (declared_names ds) p.name at) (inner_shown of.now) h;
      }) named
