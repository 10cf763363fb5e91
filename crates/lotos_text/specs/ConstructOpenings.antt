-- The tokens that open a construct, and the keywords of full LOTOS.
use Rattle.std.specs.Prelude.{ℕ, Bool, true, false, List, count_by}
use Rattle.lotos_text.specs.declared.token.Token.{Token}
use Rattle.lotos_text.specs.declared.token.TokenKind.{TokenKind}
use Rattle.lotos_text.specs.declared.token.TokenKind.TheVariants.{Identifier, Reserved, Sign as of_sign}
use Rattle.lotos_text.specs.declared.token.Sign.{Sign}
use Rattle.lotos_text.specs.declared.token.Sign.TheVariants as s
use Rattle.lotos_text.specs.declared.token.Word.{Word}
use Rattle.lotos_text.specs.declared.token.Word.TheVariants as w

-- the keywords that open a construct: `hide`, and `process`
abbrev pub keyword_opens : Word → Bool
keyword_opens w.HideWord = true
keyword_opens w.ProcessWord = true
keyword_opens _ = false

-- the signs that open a construct: a left parenthesis, the semicolon of a prefix, and the first token of each binary
-- operator
abbrev pub sign_opens : Sign → Bool
sign_opens s.LeftParenthesis = true
sign_opens s.Semicolon = true
sign_opens s.Enable = true
sign_opens s.Disable = true
sign_opens s.LeftSync = true
sign_opens s.Full = true
sign_opens s.Interleave = true
sign_opens s.Choice = true
sign_opens _ = false

-- a token of the kind opens a construct
abbrev pub opens_construct : TokenKind → Bool
opens_construct Identifier = false
opens_construct (Reserved word) = keyword_opens word
opens_construct (of_sign sign) = sign_opens sign

-- how many tokens are of the kinds that open a construct
abbrev pub count_openings : List Token → ℕ
count_openings = count_by (λ t. opens_construct t.kind)

-- a keyword of full LOTOS that this project's profile does not use: `accept`, `choice`, `let`, `par`, `library` or
-- `type`
abbrev pub is_full_lotos_word : Word → Bool
is_full_lotos_word w.AcceptWord = true
is_full_lotos_word w.ChoiceWord = true
is_full_lotos_word w.LetWord = true
is_full_lotos_word w.ParWord = true
is_full_lotos_word w.LibraryWord = true
is_full_lotos_word w.TypeWord = true
is_full_lotos_word _ = false

-- whether a token of the kind is a keyword of full LOTOS that this project's profile does not use
abbrev pub is_full_lotos : TokenKind → Bool
is_full_lotos Identifier = false
is_full_lotos (Reserved word) = is_full_lotos_word word
is_full_lotos (of_sign sign) = false
