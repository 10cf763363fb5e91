use Rattle.std.proofs.Common.{List, ◌++◌, length}
use Rattle.lotos_text.specs.Lexing.{AreTokensIn}
use Rattle.lotos_text.specs.ParserContracts.{Parses, Fails}
use Rattle.lotos_text.specs.Phrases.{NameList}
use Rattle.lotos_text.specs.declared.token.Token.{Token}
use Rattle.lotos_text.specs.declared.ast.Placed.{Placed}
use Rattle.lotos_text.proofs.parse_primitives.parse_names.Given as goal

abbrev pub decreases-loop-found : goal.decreases-loop-found
decreases-loop-found l = length l.rest

-- a phrase that parses or fails in the rest does so in all tokens
abbrev pub invariant-loop-found : goal.invariant-loop-found
invariant-loop-found l = record {
  stand : AreTokensIn l.text l.rest;
  finds : (names : List Placed) (remainder : List Token) → Parses (NameList l.text) l.rest names remainder →
      Parses (NameList l.text) l.fn.tokens (l.found.items ++ names) remainder;
  loses : (at : List Token) → Fails (NameList l.text) l.rest at → Fails (NameList l.text) l.fn.tokens at;
}
