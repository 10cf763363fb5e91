-- What is left of a text after a part of it has lexed.
use Rattle.std.proofs.Common.{◌≡◌, ℕ, ◌+◌, List, [], ◌∷◌, ◌++◌, length, drop, refl, sym, ap, ◌∙◌, arith, append_assoc, length-append}
use Rattle.std.proofs.Math.Seq.{drop-append_seam}
use Rattle.lotos_text.specs.Lexing.{LexesTo, nothing, blank, comment, word, sign_token, FailsAtByte, sign_text}
use Rattle.lotos_text.specs.declared.token.Token.{Token}

-- what lexes is a front of the text, as long as the offsets say
pub record IsCut (at end : ℕ) (text rest : List ℕ) : Type 0 where
  pub front : List ℕ
  pub joined : text ≡ front ++ rest
  pub far : end ≡ at + length front

-- a piece, and what lexes of the text after it, are a front of both together, as long as the offsets say
longer : {at end : ℕ} (piece text rest : List ℕ) → IsCut (at + length piece) end text rest → IsCut at end (piece ++ text) rest
longer piece text rest cut = record {
  front = piece ++ cut.front;
  joined = ap (λ t. piece ++ t) cut.joined ∙ sym (append_assoc piece cut.front rest);
  far = omega (arith, cut.far, length-append piece cut.front);
}

-- what lexes of a text is a front of it, as long as the offsets say
pub lexed_is_front : {at end : ℕ} {text rest : List ℕ} {ts : List Token} → LexesTo at text ts end rest → IsCut at end text rest
lexed_is_front nothing = record { front = []; joined = refl; far = omega arith }
lexed_is_front (blank {b = b} {text = text} i c) = longer (b ∷ []) text _ (lexed_is_front c)
lexed_is_front (comment piece {text} i c) = longer piece text _ (lexed_is_front c)
lexed_is_front (word found {text} i f c) = longer found text _ (lexed_is_front c)
lexed_is_front (sign_token sign {text} i c) = longer (sign_text sign) text _ (lexed_is_front c)

-- where lexing fails at a byte, that byte and the rest are what is left from the offset on
pub byte_is_left : (text : List ℕ) (at : ℕ) (fails : FailsAtByte text at) → drop at text ≡ fails.byte ∷ fails.rest
byte_is_left text at fails =
    let cut = lexed_is_front fails.lexes in
    let far : at ≡ length cut.front = omega (arith, cut.far) in
    ap (λ t. drop at t) cut.joined ∙ ap (λ n. drop n (cut.front ++ fails.byte ∷ fails.rest)) far ∙ drop-append_seam cut.front (fails.byte ∷ fails.rest)
