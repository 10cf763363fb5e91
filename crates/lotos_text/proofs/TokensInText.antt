-- The tokens of a text are inside it.
use Rattle.std.proofs.Common.{◌≡◌, ℕ, ◌+◌, ◌-◌, ◌≤◌, List, [], ◌∷◌, ◌++◌, length, take, drop, refl, sym, ap, ◌∙◌, subst, arith}
use Rattle.std.proofs.Math.Seq.{take-append_seam}
use Rattle.std.specs.List.{AllByRecursion}
use Rattle.lotos_text.specs.Lexing.{LexesTo, nothing, blank, comment, word, sign_token, Lexes, IsTokenIn, AreTokensIn, IsWord, sign_text}
use Rattle.lotos_text.specs.declared.token.Token.{Token}
use Rattle.lotos_text.proofs.LexingSteps.{remainder, fits}

-- the bytes between a token's offsets are those that were found
slice_is : (whole : List ℕ) (at : ℕ) (found rest : List ℕ) → drop at whole ≡ found ++ rest → take (at + length found - at) (drop at whole) ≡ found
slice_is whole at found rest e =
    let long : at + length found - at ≡ length found = omega arith in
    ap (λ n. take n (drop at whole)) long ∙ ap (take (length found)) e ∙ take-append_seam found rest

-- the tokens of a lexing from an offset on are in the text
stand_from : {at end : ℕ} {text rest : List ℕ} {ts : List Token} → LexesTo at text ts end rest → (whole : List ℕ) → at ≤ length whole → drop at whole ≡ text →
    AllByRecursion (IsTokenIn whole) ts
stand_from nothing whole h e = tt
stand_from (blank {at} {b = b} {text = text} i c) whole h e = stand_from c whole (fits whole at (b ∷ []) text h e) (remainder whole at (b ∷ []) text e)
stand_from (comment {at} piece {text} i c) whole h e = stand_from c whole (fits whole at piece text h e) (remainder whole at piece text e)
stand_from (word {at} found {text} i f c) whole h e =
    let inside = fits whole at found text h e in (
      record { ordered = omega arith; inside = inside; word = λ _. subst IsWord (sym (slice_is whole at found text e)) i },
      stand_from c whole inside (remainder whole at found text e),
    )
stand_from (sign_token {at} sign {text} i c) whole h e =
    let inside = fits whole at (sign_text sign) text h e in
    (record { ordered = omega arith; inside = inside; word = λ k. absurd (cc) }, stand_from c whole inside (remainder whole at (sign_text sign) text e))

-- the tokens of the whole lexing are in the text
pub all_stand : (text : List ℕ) (ts : List Token) → Lexes text ts → AreTokensIn text ts
all_stand text ts c = stand_from c text (omega arith) refl
