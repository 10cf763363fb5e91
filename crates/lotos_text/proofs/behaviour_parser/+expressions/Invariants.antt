use Rattle.std.proofs.Common.{length, ◌+◌, ◌*◌, ◌-◌}
use Rattle.lotos_text.specs.Follow.{level_precedence}
use Rattle.lotos_text.specs.AstOf.{level_view}
use Rattle.lotos_text.proofs.behaviour_parser.+expressions.Given as goal

-- A call on fewer tokens may be of any function. On the same tokens parentheses come before a behaviour expression, that before
-- the levels from the loosest to the tightest, and those before an operand, a name and a prefix.

abbrev pub decreases-parse_behaviour : goal.decreases-parse_behaviour
decreases-parse_behaviour l = 16 * length l.tokens.now + 14

abbrev pub decreases-parse_parenthesized : goal.decreases-parse_parenthesized
decreases-parse_parenthesized l = 16 * length l.tokens.now + 15

abbrev pub decreases-parse_hide : goal.decreases-parse_hide
decreases-parse_hide l = 16 * length l.tokens.now

abbrev pub decreases-parse_level : goal.decreases-parse_level
decreases-parse_level l = 16 * length l.tokens.now + (13 - 2 * level_precedence (level_view l.level))

abbrev pub decreases-parse_named : goal.decreases-parse_named
decreases-parse_named l = 16 * length l.tokens.now + 1

abbrev pub decreases-parse_operand : goal.decreases-parse_operand
decreases-parse_operand l = 16 * length l.tokens.now + 2

abbrev pub decreases-parse_operation : goal.decreases-parse_operation
decreases-parse_operation l = 16 * length l.tokens.now + (14 - 2 * level_precedence (level_view l.below))

abbrev pub decreases-parse_prefix : goal.decreases-parse_prefix
decreases-parse_prefix l = 16 * length l.tokens.now
