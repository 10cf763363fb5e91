use Rattle.std.proofs.Common.{rules, ◌≡◌, ◌<◌, [], ℕ, length, map, ◌∙◌, arith, ap}
use Rattle.std.proofs.lemmas.Grind.{merely}
use Rattle.lotos_text.specs.OffsetsInside.{IsInside}
use Rattle.lotos_text.specs.AstOf.{definition_view}
use Rattle.lotos_check.specs.NameLists.{texts}
use Rattle.lotos_check.specs.Scope.{definitions_in, all_definitions}
use Rattle.lotos_check.specs.Flat.{IsFlat}
use Rattle.lotos_check.specs.Acceptance.{IsAccepted, IsStaticFault, IsNotAccepted}
use Rattle.lotos_check.specs.FaultOffsets.{IsOffsetWithin}
use Rattle.lotos_check.specs.HiddenGates.{as_given}
use Rattle.lotos_check.specs.Resolution.{AddsBodies}
use Rattle.lotos_check.specs.CheckedView.{flat_of, process_of}
use Rattle.lotos_check.specs.declared.fault.CheckFault.TheVariants.{E27}
use Rattle.lotos_text.proofs.DefinitionParts.{formals_shown, name_shown}
use Rattle.lotos_check.proofs.SameFault.{passed_on}
use Rattle.lotos_check.proofs.Faults.{repeat_faulty, misnamed_faulty, untyped_faulty, faulty_refused}
use Rattle.lotos_check.proofs.FaultOffsets.{faulty_inside}
use Rattle.lotos_check.proofs.Rules.{walked, well_typed}
use Rattle.lotos_check.proofs.PassResults.{inner_below, found_length, unguarded_below, unguarded_joined, flat_joined, calls_below, guarded_by}
use Rattle.lotos_check.proofs.static_check.check.Goals.{In_ok-add_definitions, In-Guarded, After-as_slice-2, After-as_slice-5}
use Rattle.lotos_check.proofs.static_check.check.Goals as goal

-- the list has all definitions of the specification
listed : (c : In_ok-add_definitions) → map (λ d. definition_view d.now) c.add_definitions.new.into.items ≡ definitions_in
    (definition_view c.args.specification.now.whole)
listed c = rw c.new-definitions.ensures.items at c.in_ok-add_definitions.ensures

-- something was found of each definition
adds : (c : After-as_slice-2) → AddsBodies (all_definitions (definition_view c.args.specification.now.whole)) [] c.in_ok-found.found.items
adds c = c.in_ok-found.ensures.adds

-- the code is the flat system
flat : (c : After-as_slice-5) → IsFlat (definition_view c.args.specification.now.whole) (record {
  formals = c.in_ok-gates.gates.items;
  start = flat_of c.in_ok-start.start.value;
  processes = map process_of c.in_ok-start.processes.items;
})
flat c =
    let at = goal.at.rank_processes-requires c in
    let flattened = rw (c.as_slice-4.ensures.value, listed at.In_ok-add_definitions) at c.in_ok-start.ensures in
    let named = c.in_ok-gates.ensures ∙ ap texts (c.as_slice-3.ensures.value ∙ formals_shown c.args.specification.now.whole) in
    flat_joined (definition_view c.args.specification.now.whole) c.in_ok-found.found.items c.in_ok-gates.gates.items c.in_ok-start.start.value
    c.in_ok-start.processes.items
    (adds at.After-as_slice-2) flattened named

pub resolve_specification-requires : goal.resolve_specification-requires
resolve_specification-requires c =
    let all = c.add_definitions.new.into in
    let below : length all.items < 9223372036854775808 = omega (arith, all.ok.0, all.ok.1, all.small) in
    inner_below (λ d. definition_view d.now) all.items (definition_view c.args.specification.now.whole)
    (listed (goal.at.resolve_specification-requires c).In_ok-add_definitions)
    9223372036854775808 below

pub returns-in_err-check_distinct-clause-inside : goal.returns-in_err-check_distinct-clause-inside
returns-in_err-check_distinct-clause-inside c =
    let whole = definition_view c.args.specification.now.whole in
    let fault = c.in_err-check_distinct.field-0.0 in
    passed_on (λ f. (n : ℕ) → IsInside n whole → IsOffsetWithin n f) c.from_residual.result fault c.from_residual.ensures.1
    (λ n. faulty_inside whole fault n (repeat_faulty whole fault c.in_err-check_distinct.ensures.fails))

pub returns-in_err-found : goal.returns-in_err-found
returns-in_err-found c =
    let whole = definition_view c.args.specification.now.whole in
    let fault = c.in_err-found.field-0.0 in
    let faulty = misnamed_faulty whole fault c.in_err-found.ensures.name_fault in
    let result = c.from_residual-in_err-found.result in
    let same = c.from_residual-in_err-found.ensures.1 in
    record {
      faulty = passed_on (IsStaticFault whole) result fault same faulty;
      not_accepted = passed_on (IsNotAccepted whole) result fault same (faulty_refused whole fault faulty);
      inside = passed_on (λ f. (n : ℕ) → IsInside n whole → IsOffsetWithin n f) result fault same (λ n. faulty_inside whole fault n faulty);
      accepted = search rules;
      ranks = search rules;
    }

pub check_functionality-requires : goal.check_functionality-requires
check_functionality-requires c =
    let all = listed (goal.at.check_functionality-requires c).In_ok-add_definitions in
    rw (c.as_slice.ensures.value, c.as_slice-2.ensures.value)
    (found_length (λ d. definition_view d.now) c.add_definitions.new.into.items (definition_view c.args.specification.now.whole) all c.in_ok-found.found.items
    (adds c))

pub returns-in_err-check_functionality : goal.returns-in_err-check_functionality
returns-in_err-check_functionality c =
    let whole = definition_view c.args.specification.now.whole in
    let at = goal.at.returns-in_err-check_functionality c in
    let fault = c.in_err-check_functionality.field-0.0 in
    let found = c.in_ok-found.found.items in
    let untyped = rw (c.as_slice.ensures.value, listed at.In_ok-add_definitions, c.as_slice-2.ensures.value)
    at c.in_err-check_functionality.ensures.functionality_fault in
    let faulty = untyped_faulty whole found fault (walked whole found (adds at.After-as_slice-2)) untyped in
    let result = c.from_residual-in_err-check_functionality.result in
    let same = c.from_residual-in_err-check_functionality.ensures.1 in
    record {
      faulty = passed_on (IsStaticFault whole) result fault same faulty;
      not_accepted = passed_on (IsNotAccepted whole) result fault same (faulty_refused whole fault faulty);
      inside = passed_on (λ f. (n : ℕ) → IsInside n whole → IsOffsetWithin n f) result fault same (λ n. faulty_inside whole fault n faulty);
      accepted = search rules;
      ranks = search rules;
    }

pub flatten-requires-clause-sized : goal.flatten-requires-clause-sized
flatten-requires-clause-sized c =
    let at = goal.at.flatten-requires-clause-sized c in
    rw c.as_slice-4.ensures.value
    (found_length (λ d. definition_view d.now) c.add_definitions.new.into.items (definition_view c.args.specification.now.whole)
    (listed at.In_ok-add_definitions)
    c.in_ok-found.found.items (adds at.After-as_slice-2))

pub rank_processes-requires : goal.rank_processes-requires
rank_processes-requires c =
    rw c.as_slice-5.ensures.value
    (calls_below (definition_view c.args.specification.now.whole) c.in_ok-gates.gates.items c.in_ok-start.start.value c.in_ok-start.processes.items (flat c))

-- the specification is accepted, with that code
accepted : (c : In-Guarded) → IsAccepted (definition_view c.args.specification.now.whole) (record {
  formals = c.in_ok-gates.gates.items;
  start = flat_of c.in_ok-start.start.value;
  processes = map process_of c.in_ok-start.processes.items;
})
accepted c =
    let whole = definition_view c.args.specification.now.whole in
    let at = goal.at.In-Guarded c in
    let found = c.in_ok-found.found.items in
    let system = flat at.After-as_slice-5 in
    let typed = rw (c.as_slice.ensures.value, listed at.In_ok-add_definitions, c.as_slice-2.ensures.value) at c.in_ok-check_functionality.ensures.typed in
    let ranks = rw (c.in-Guarded.is, c.as_slice-5.ensures.value) at c.in_ok-ranks.ensures in
    record {
      typed = well_typed whole found c.in_ok-check_distinct.ensures.distinct (walked whole found (adds at.After-as_slice-2)) typed;
      flat = system;
      guarded = guarded_by whole _ c.in-Guarded.ranks.items system ranks;
    }

pub invariant_of-result : goal.invariant_of-result
invariant_of-result c = record {
  kept = merely (record {
    whole = definition_view c.args.specification.now.whole;
    flat = _;
    accepted = accepted (goal.at.invariant_of-result c).In-Guarded;
    hides = as_given;
    ranked = rw (c.in-Guarded.is, c.as_slice-5.ensures.value) at c.in_ok-ranks.ensures;
  });
}

pub returns-in-Guarded-clause-accepted : goal.returns-in-Guarded-clause-accepted
returns-in-Guarded-clause-accepted c = accepted (goal.at.returns-in-Guarded-clause-accepted c).In-Guarded

pub overflow_add-index : goal.overflow_add-index
overflow_add-index c =
    let at = goal.at.overflow_add-index c in
    let all = c.add_definitions.new.into in
    let unguarded = rw (c.in-Unguarded.is, c.as_slice-5.ensures.value) at c.in_ok-ranks.ensures in
    let below = unguarded_below (λ d. definition_view d.now) all.items (definition_view c.args.specification.now.whole) (listed at.In_ok-add_definitions) _
    c.in-Unguarded.set.items
    c.index.result.now (flat at.After-as_slice-5) unguarded c.index.ensures in
    omega (arith, all.ok.0, all.ok.1, all.small)

pub index-requires-in-Unguarded : goal.index-requires-in-Unguarded
index-requires-in-Unguarded c =
    let at = goal.at.index-requires-in-Unguarded c in
    let all = c.add_definitions.new.into in
    let unguarded = rw (c.in-Unguarded.is, c.as_slice-5.ensures.value) at c.in_ok-ranks.ensures in
    let below = unguarded_below (λ d. definition_view d.now) all.items (definition_view c.args.specification.now.whole) (listed at.In_ok-add_definitions) _
    c.in-Unguarded.set.items
    c.index.result.now (flat at.After-as_slice-5) unguarded c.index.ensures in
    omega (arith, all.ok.0)

pub returns : goal.returns
returns c =
    let whole = definition_view c.args.specification.now.whole in
    let at = goal.at.returns c in
    let set = c.in-Unguarded.set in
    let one = c.index-in-Unguarded.result.now in
    let name = c.in_ok-copy-in-Unguarded.field-0 in
    let named = c.in_ok-copy-in-Unguarded.ensures ∙ name_shown one.now in
    let unguarded = rw (c.in-Unguarded.is, c.as_slice-5.ensures.value) at c.in_ok-ranks.ensures in
    let faulty = unguarded_joined (λ d. definition_view d.now) c.add_definitions.new.into.items whole (listed at.In_ok-add_definitions) _ set.items
    c.index.result.now one name (flat at.After-as_slice-5) unguarded c.index.ensures c.index-in-Unguarded.ensures named in
    record {
      faulty = faulty;
      not_accepted = faulty_refused whole (E27 name set) faulty;
      inside = λ n. faulty_inside whole (E27 name set) n faulty;
      accepted = tt;
      ranks = tt;
    }
