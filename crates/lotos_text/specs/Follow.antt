-- Which tokens continue the behaviour expression before them.
use Rattle.std.specs.Prelude.{ℕ, Bool, true, false, List, [], ◌∷◌}
use Rattle.lotos_text.specs.Grammar.{Level, enabling, disabling, parallel, choosing, prefixing}
use Rattle.lotos_text.specs.declared.token.Token.{Token}
use Rattle.lotos_text.specs.declared.token.TokenKind.{TokenKind}
use Rattle.lotos_text.specs.declared.token.TokenKind.TheVariants.{Identifier, Reserved, Sign as of_sign}
use Rattle.lotos_text.specs.declared.token.Sign.{Sign}
use Rattle.lotos_text.specs.declared.token.Sign.TheVariants as s

-- how tightly a sign binds that continues the expression before it: operators by their levels, and tightest `[` and
-- `;`, which make a name a call with gates or a prefix; 0 for signs that continue nothing
abbrev pub sign_precedence : Sign → ℕ
sign_precedence s.Enable = 1
sign_precedence s.Disable = 2
sign_precedence s.LeftSync = 3
sign_precedence s.Full = 3
sign_precedence s.Interleave = 3
sign_precedence s.Choice = 4
sign_precedence s.LeftBracket = 5
sign_precedence s.Semicolon = 5
sign_precedence _ = 0

-- the precedence of a token of the kind
abbrev pub kind_precedence : TokenKind → ℕ
kind_precedence Identifier = 0
kind_precedence (Reserved _) = 0
kind_precedence (of_sign sign) = sign_precedence sign

-- the precedence of the first token; 0 at the end
abbrev pub precedence : List Token → ℕ
precedence [] = 0
precedence (t ∷ ts) = kind_precedence t.kind

-- the precedence of a level's operators; at the tightest level, which has none, that of `[` and `;`
abbrev pub level_precedence : Level → ℕ
level_precedence enabling = 1
level_precedence disabling = 2
level_precedence parallel = 3
level_precedence choosing = 4
level_precedence prefixing = 5

-- a spelling of the level is complete before tokens of a precedence below this; an open one only before tokens that
-- continue nothing
abbrev pub bound : Level → Bool → ℕ
bound level true = 1
bound level false = level_precedence level
