-- The lexeme at the start of a text.
use Rattle.std.specs.Prelude.{◌≡◌, ℕ, IsTrue, Option, List, [], ◌∷◌, ◌++◌, length, nat_eq, find}
use Rattle.std.specs.List.{starts_with}
use Rattle.lotos_text.specs.Lexing.{is_blank, IsComment, IsUnclosedComment, IsWord, EndsWord, classify, sign_text, IsSignToken, NoLexemeAt}
use Rattle.lotos_text.specs.declared.lexer.Lexeme.{Lexeme}
use Rattle.lotos_text.specs.declared.lexer.Lexeme.TheVariants.{Blank, Comment, Token, Unclosed as Unended, Unknown}
use Rattle.lotos_text.specs.declared.token.TokenKind.TheVariants.{Sign as of_sign}
use Rattle.lotos_text.specs.declared.token.Sign.{Sign}
use Rattle.lotos_text.specs.declared.token.Sign.TheVariants as s

-- all signs, longer ones before shorter ones
abbrev pub signs_longest_first : List Sign
signs_longest_first =
    s.Interleave ∷ s.Define ∷ s.Choice ∷ s.Disable ∷ s.Enable ∷ s.LeftSync ∷ s.Full ∷ s.Semicolon ∷ s.Colon ∷
    s.Comma ∷ s.LeftParenthesis ∷ s.RightParenthesis ∷ s.LeftBracket ∷ s.RightBracket ∷ s.Bar ∷ []

-- the longest sign at the start of the text
abbrev pub longest_sign : List ℕ → Option Sign
longest_sign text = find (λ sign. starts_with nat_eq text (sign_text sign)) signs_longest_first

-- the lexeme is what the text starts with
pub data IsNextLexeme (text : List ℕ) : Lexeme → Type 0 where
  a_blank : (b : ℕ) (rest : List ℕ) → text ≡ b ∷ rest → IsTrue (is_blank b) → IsNextLexeme text Blank
  a_comment : (piece rest : List ℕ) → text ≡ piece ++ rest → IsComment piece →
      IsNextLexeme text (Comment (length piece))
  a_word : (found rest : List ℕ) → text ≡ found ++ rest → IsWord found → EndsWord rest →
      IsNextLexeme text (Token (length found) (classify found))
  a_sign : (sign : Sign) (rest : List ℕ) → text ≡ sign_text sign ++ rest → IsSignToken sign rest →
      IsNextLexeme text (Token (length (sign_text sign)) (of_sign sign))
  no_end : IsUnclosedComment text → IsNextLexeme text Unended
  no_piece : (b : ℕ) (rest : List ℕ) → text ≡ b ∷ rest → NoLexemeAt b rest → IsNextLexeme text Unknown
