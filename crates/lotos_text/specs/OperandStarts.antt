-- What a token begins: an operand, or an operator after one.
use Rattle.std.specs.Prelude.{Option, Some, None}
use Rattle.lotos_text.specs.Grammar.{Level, enabling, disabling, parallel, choosing}
use Rattle.lotos_text.specs.declared.operators.Infix.{Infix}
use Rattle.lotos_text.specs.declared.operators.Infix.TheVariants as i
use Rattle.lotos_text.specs.declared.behaviour_parser.OperandStart.{OperandStart}
use Rattle.lotos_text.specs.declared.behaviour_parser.OperandStart.TheVariants as o
use Rattle.lotos_text.specs.declared.token.TokenKind.{TokenKind}
use Rattle.lotos_text.specs.declared.token.TokenKind.TheVariants.{Identifier, Reserved, Sign as of_sign}
use Rattle.lotos_text.specs.declared.token.Sign.{Sign}
use Rattle.lotos_text.specs.declared.token.Sign.TheVariants as s
use Rattle.lotos_text.specs.declared.token.Word.{Word}
use Rattle.lotos_text.specs.declared.token.Word.TheVariants as w

-- what an operand is that starts with a keyword
abbrev pub keyword_start : Word → OperandStart
keyword_start w.StopWord = o.Stop
keyword_start w.ExitWord = o.Exit
keyword_start w.IWord = o.Internal
keyword_start _ = o.Nothing

-- what an operand is that starts with a sign
abbrev pub sign_start : Sign → OperandStart
sign_start s.LeftParenthesis = o.Parenthesis
sign_start _ = o.Nothing

-- what an operand is that starts with a token of the kind
abbrev pub operand_start : TokenKind → OperandStart
operand_start Identifier = o.Name
operand_start (Reserved word) = keyword_start word
operand_start (of_sign sign) = sign_start sign

-- the operator that begins with a sign, if one does
abbrev pub infix_of_sign : Sign → Option Infix
infix_of_sign s.Enable = Some i.Enable
infix_of_sign s.Disable = Some i.Disable
infix_of_sign s.Interleave = Some i.Interleave
infix_of_sign s.Full = Some i.Full
infix_of_sign s.LeftSync = Some i.Sync
infix_of_sign s.Choice = Some i.Choice
infix_of_sign _ = None

-- the operator that begins with a token of the kind, if one does
abbrev pub infix_of : TokenKind → Option Infix
infix_of Identifier = None
infix_of (Reserved _) = None
infix_of (of_sign sign) = infix_of_sign sign

-- the level of an operator
abbrev pub infix_level : Infix → Level
infix_level i.Enable = enabling
infix_level i.Disable = disabling
infix_level i.Interleave = parallel
infix_level i.Full = parallel
infix_level i.Sync = parallel
infix_level i.Choice = choosing
