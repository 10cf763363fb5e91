-- Which constructs with a closing word or sign are open at an offset of a text.
use Rattle.std.specs.Prelude.{◌≡◌, ◌⊎◌, ℕ, ◌-◌, Bool, true, false, if◌then◌else◌, List, [], ◌∷◌, ◌++◌, length, take}
use Rattle.lotos_text.specs.Lexing.{Lexes}
use Rattle.lotos_text.specs.declared.token.Token.{Token}
use Rattle.lotos_text.specs.declared.token.TokenKind.{TokenKind}
use Rattle.lotos_text.specs.declared.token.TokenKind.TheVariants.{Identifier, Reserved, Sign as of_sign}
use Rattle.lotos_text.specs.declared.token.Sign.{Sign}
use Rattle.lotos_text.specs.declared.token.Sign.TheVariants as s
use Rattle.lotos_text.specs.declared.token.Word.{Word}
use Rattle.lotos_text.specs.declared.token.Word.TheVariants as w

-- the keywords that open a construct with a closing one: `specification` and `process`
abbrev pub word_opens : Word → Bool
word_opens w.SpecificationWord = true
word_opens w.ProcessWord = true
word_opens _ = false

-- the keywords that close a construct: `endspec` and `endproc`
abbrev pub word_closes : Word → Bool
word_closes w.EndspecWord = true
word_closes w.EndprocWord = true
word_closes _ = false

-- the sign that opens a construct with a closing one: the left parenthesis
abbrev pub sign_opens : Sign → Bool
sign_opens s.LeftParenthesis = true
sign_opens _ = false

-- the sign that closes a construct: the right parenthesis
abbrev pub sign_closes : Sign → Bool
sign_closes s.RightParenthesis = true
sign_closes _ = false

-- a token of the kind opens a construct with a closing word or sign
abbrev pub opens : TokenKind → Bool
opens Identifier = false
opens (Reserved word) = word_opens word
opens (of_sign sign) = sign_opens sign

-- a token of the kind closes a construct with a closing word or sign
abbrev pub closes : TokenKind → Bool
closes Identifier = false
closes (Reserved word) = word_closes word
closes (of_sign sign) = sign_closes sign

-- with these tokens of open constructs, the outermost first, those after one more token
abbrev pub after_token : List Token → Token → List Token
after_token open_ones token =
    if opens token.kind then open_ones ++ token ∷ []
    else if closes token.kind then take (length open_ones - 1) open_ones
    else open_ones

-- with these tokens of open constructs, the outermost first, those after more tokens
abbrev pub after_tokens : List Token → List Token → List Token
after_tokens open_ones [] = open_ones
after_tokens open_ones (token ∷ tokens) = after_tokens (after_token open_ones token) tokens

-- the bytes before the offset lex, and these are the tokens of the constructs that their tokens leave open
pub record AreLeftOpen (text : List ℕ) (at : ℕ) (open_ones : List Token) : Type 0 where
  pub tokens : List Token
  pub lexes : Lexes (take at text) tokens
  pub left : open_ones ≡ after_tokens [] tokens

-- these are left open at the offset, or nothing is said
abbrev pub AreOpenAt : List ℕ → ℕ → List Token → Type 0
AreOpenAt text at open_ones = (open_ones ≡ []) ⊎ AreLeftOpen text at open_ones
