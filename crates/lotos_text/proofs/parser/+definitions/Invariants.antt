use Rattle.std.proofs.Common.{◌≤◌, List, ◌++◌, map, Some, length}
use Rattle.lotos_text.specs.Lexing.{AreTokensIn}
use Rattle.lotos_text.specs.ParserContracts.{Parses}
use Rattle.lotos_text.specs.Phrases.{DefinitionList}
use Rattle.lotos_text.specs.AstView.{DefinitionView}
use Rattle.lotos_text.specs.AstOf.{definition_list_view, definition_view}
use Rattle.lotos_text.specs.declared.token.Token.{Token}
use Rattle.lotos_text.proofs.ParseErrors.{Carries}
use Rattle.lotos_text.proofs.parser.+definitions.Given as goal

abbrev pub decreases-parse_definition_rest : goal.decreases-parse_definition_rest
decreases-parse_definition_rest l = length l.tokens.now

abbrev pub decreases-parse_where : goal.decreases-parse_where
decreases-parse_where l = length l.tokens.now

abbrev pub decreases-parse_definitions : goal.decreases-parse_definitions
decreases-parse_definitions l = length l.tokens.now

-- a phrase that parses or fails in the rest does so in all tokens
abbrev pub invariant-parse_definitions-loop-found : goal.invariant-parse_definitions-loop-found
invariant-parse_definitions-loop-found l = record {
  stand : AreTokensIn l.text l.rest;
  left : length l.rest ≤ length l.fn.tokens;
  finds : (ds : List DefinitionView) (remainder : List Token) →
      Parses (DefinitionList l.text (Some l.nesting_left)) l.rest (definition_list_view ds) remainder →
      Parses (DefinitionList l.text (Some l.nesting_left)) l.fn.tokens
      (definition_list_view (map definition_view l.found.items ++ ds)) remainder;
  carries : Carries (DefinitionList l.text) l.nesting_left l.rest
      (DefinitionList l.text) l.nesting_left l.fn.tokens;
}

abbrev pub decreases-parse_definitions-loop-found : goal.decreases-parse_definitions-loop-found
decreases-parse_definitions-loop-found l = length l.rest
