-- The offset up to which a text is lexed.
use Rattle.std.proofs.Common.{◌≡◌, ℕ, ◌+◌, ◌≤◌, List, length, arith, length-append}
use Rattle.lotos_text.specs.Lexing.{LexesTo, nothing, blank, comment, word, sign_token, FailsAtByte, FailsAtComment, sign_text}
use Rattle.lotos_text.specs.declared.token.Token.{Token}

-- a lexing passes as many bytes as there are from its start to its end
pub cut_length : {at end : ℕ} {text rest : List ℕ} {ts : List Token} → LexesTo at text ts end rest → end + length rest ≡ at + length text
cut_length nothing = omega arith
cut_length (blank i d) = let h = cut_length d in omega (arith, h)
cut_length (comment piece {text = text} i d) = let h = cut_length d in let g = length-append piece text in omega (arith, h, g)
cut_length (word found {text = text} i e d) = let h = cut_length d in let g = length-append found text in omega (arith, h, g)
cut_length (sign_token sign {text = text} i d) = let h = cut_length d in let g = length-append (sign_text sign) text in omega (arith, h, g)

-- the offset at which a text fails to lex, at a byte or a comment, is inside it
pub byte_inside : (text : List ℕ) (at : ℕ) → FailsAtByte text at → at ≤ length text
byte_inside text at s = let h = cut_length s.lexes in omega (arith, h)

-- the offset of a comment at which a text fails to lex is at most the length of the text
pub comment_inside : (text : List ℕ) (at : ℕ) → FailsAtComment text at → at ≤ length text
comment_inside text at s = let h = cut_length s.lexes in omega (arith, h)
