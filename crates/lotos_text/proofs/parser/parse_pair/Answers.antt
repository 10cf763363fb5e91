use Rattle.std.proofs.Common.{rules, subst, [], Some}
use Rattle.lotos_text.specs.Grammar.{SpellsPair}
use Rattle.lotos_text.specs.ParserContracts.{Parses, FailsWithin}
use Rattle.lotos_text.specs.Phrases.{PairPhrase}
use Rattle.lotos_text.specs.Limits.{max_nesting}
use Rattle.lotos_text.specs.AstOf.{definition_view}
use Rattle.lotos_text.proofs.ParseOutcome.{stuck_spells_nothing, found_spelled, found_only, lost_refused, lost_spells_nothing}
use Rattle.lotos_text.proofs.OffsetsInside.{fault_inside, stuck_fault_inside, pair_inside}
use Rattle.lotos_text.proofs.WholeSpecification.{pair_is_phrase}
use Rattle.lotos_text.proofs.parser.parse_pair.Goals as goal

pub returns-in_err-tokens-clause-nothing : goal.returns-in_err-tokens-clause-nothing
returns-in_err-tokens-clause-nothing c = let h = stuck_spells_nothing SpellsPair c.args.text.now c.in_err-tokens.field-0.0
    c.in_err-tokens.ensures.fails in search rules

pub returns-in-Ok-clause-spelled : goal.returns-in-Ok-clause-spelled
returns-in-Ok-clause-spelled c =
    found_spelled SpellsPair c.args.text.now (PairPhrase c.args.text.now) (pair_is_phrase c.args.text.now)
    c.in_ok-tokens.tokens.items c.in_ok-tokens.ensures.short c.in_ok-tokens.ensures.lexes (definition_view c.in-Ok.first, definition_view c.in-Ok.second)
    (subst (λ ts. Parses (PairPhrase c.args.text.now (Some max_nesting)) ts (definition_view c.in-Ok.first, definition_view c.in-Ok.second) [])
    c.as_slice.ensures.value c.in-Ok.ensures.parses)

pub returns-in-Ok-clause-only : goal.returns-in-Ok-clause-only
returns-in-Ok-clause-only c other s =
    found_only SpellsPair c.args.text.now (PairPhrase c.args.text.now) (pair_is_phrase c.args.text.now)
    c.in_ok-tokens.tokens.items c.in_ok-tokens.ensures.short c.in_ok-tokens.ensures.lexes (definition_view c.in-Ok.first, definition_view c.in-Ok.second) other
    (subst (λ ts. Parses (PairPhrase c.args.text.now (Some max_nesting)) ts (definition_view c.in-Ok.first, definition_view c.in-Ok.second) [])
    c.as_slice.ensures.value c.in-Ok.ensures.parses) s

pub returns-clause-fault : goal.returns-clause-fault
returns-clause-fault c =
    lost_refused SpellsPair c.args.text.now (PairPhrase c.args.text.now) (pair_is_phrase c.args.text.now)
    c.in_ok-tokens.tokens.items c.in_ok-tokens.ensures.short c.in_ok-tokens.ensures.lexes c.in-Err.error c.fault_of_error.result
    (subst (λ ts. FailsWithin (PairPhrase c.args.text.now) max_nesting ts c.in-Err.error) c.as_slice.ensures.value c.in-Err.ensures.fails)
    c.fault_of_error.ensures

pub returns-clause-nothing : goal.returns-clause-nothing
returns-clause-nothing c =
    lost_spells_nothing SpellsPair c.args.text.now (PairPhrase c.args.text.now) (pair_is_phrase c.args.text.now)
    c.in_ok-tokens.tokens.items c.in_ok-tokens.ensures.short c.in_ok-tokens.ensures.lexes c.in-Err.error c.fault_of_error.result
    (subst (λ ts. FailsWithin (PairPhrase c.args.text.now) max_nesting ts c.in-Err.error) c.as_slice.ensures.value c.in-Err.ensures.fails)
    c.fault_of_error.ensures

pub returns-in_err-tokens-clause-fault_inside : goal.returns-in_err-tokens-clause-fault_inside
returns-in_err-tokens-clause-fault_inside c =
    let h = stuck_fault_inside c.args.text.now c.in_err-tokens.field-0.0 c.in_err-tokens.ensures.fails in search rules

pub returns-in-Ok-clause-asts_inside : goal.returns-in-Ok-clause-asts_inside
returns-in-Ok-clause-asts_inside c =
    pair_inside c.args.text.now (definition_view c.in-Ok.first, definition_view c.in-Ok.second) (returns-in-Ok-clause-spelled c)

pub returns-clause-fault_inside : goal.returns-clause-fault_inside
returns-clause-fault_inside c = fault_inside SpellsPair c.args.text.now c.fault_of_error.result (returns-clause-fault c)
