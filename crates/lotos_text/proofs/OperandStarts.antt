-- The kind of a token, from what it begins.
use Rattle.std.proofs.Common.{◌≡◌, refl, subst}
use Rattle.lotos_text.specs.Grammar.{IsOfKind}
use Rattle.lotos_text.specs.OperandStarts.{operand_start}
use Rattle.lotos_text.specs.declared.behaviour_parser.OperandStart.{OperandStart}
use Rattle.lotos_text.specs.declared.behaviour_parser.OperandStart.TheVariants as o
use Rattle.lotos_text.specs.declared.token.Sign.TheVariants as s
use Rattle.lotos_text.specs.declared.token.Token.{Token}
use Rattle.lotos_text.specs.declared.token.TokenKind.{TokenKind}
use Rattle.lotos_text.specs.declared.token.TokenKind.TheVariants.{Identifier, Reserved, Sign}
use Rattle.lotos_text.specs.declared.token.Word.TheVariants as w

-- only a token of this kind begins that
abbrev Means : TokenKind → OperandStart → Type 0
Means k o.Stop = k ≡ Reserved w.StopWord
Means k o.Exit = k ≡ Reserved w.ExitWord
Means k o.Internal = k ≡ Reserved w.IWord
Means k o.Name = k ≡ Identifier
Means k o.Parenthesis = k ≡ Sign s.LeftParenthesis
Means k o.Nothing = Unit {0}

-- a kind of token that begins an operand is the only one that begins it
means : (k : TokenKind) → Means k (operand_start k)
means Identifier = refl
means (Reserved w.StopWord) = refl
means (Reserved w.ExitWord) = refl
means (Reserved w.IWord) = refl
means (Reserved _) = tt
means (Sign s.LeftParenthesis) = refl
means (Sign _) = tt

-- a token that begins the operand `stop` is the keyword `stop`
pub is_stop : (n : Token) → operand_start n.kind ≡ o.Stop → IsOfKind n (Reserved w.StopWord)
is_stop n e = record { same = subst (λ x. Means n.kind x) e (means n.kind) }

-- a token that begins the operand `exit` is the keyword `exit`
pub is_exit : (n : Token) → operand_start n.kind ≡ o.Exit → IsOfKind n (Reserved w.ExitWord)
is_exit n e = record { same = subst (λ x. Means n.kind x) e (means n.kind) }

-- a token that begins the internal action is the keyword `i`
pub is_internal : (n : Token) → operand_start n.kind ≡ o.Internal → IsOfKind n (Reserved w.IWord)
is_internal n e = record { same = subst (λ x. Means n.kind x) e (means n.kind) }
