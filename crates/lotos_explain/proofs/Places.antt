-- What is at an offset, from what the lexer returns.
use Rattle.std.proofs.Common.{◌≡◌, ◌≢◌, ◌<◌, ℕ, suc, List, [], ◌∷◌, ◌++◌, length, take, drop, slice_index_or, sym, subst, ap, ◌∙◌, take-append-drop}
use Rattle.std.proofs.Math.Seq.{drop-cons}
use Rattle.lotos_text.specs.Lexing.{Lexes, LexingFailsAt}
use Rattle.lotos_text.specs.declared.token.Token.{Token}
use Rattle.lotos_explain.specs.Descriptions.{FailsElsewhere, HasNothingAt, IsAmongAt, IsNoneAt, IsTokenAt}

-- a token of a list is not at the offset, if none is
other_offset : (before after : List Token) (token : Token) (at : ℕ) → IsNoneAt (before ++ token ∷ after) at → token.at ≢ at
other_offset [] after token at none = none.0
other_offset (first ∷ before) after token at none = other_offset before after token at none.1

-- the item of an index is in the list
pub among_at : (found : List Token) (i at : ℕ) (d : Token) → i < length found → (slice_index_or found i d).at ≡ at
    → IsAmongAt found at (slice_index_or found i d)
among_at found i at d inside offset = record {
  before = take i found;
  after = drop (suc i) found;
  joined = sym (take-append-drop i found) ∙ ap (λ t. take i found ++ t) (drop-cons found i d inside);
  offset = offset;
}

module _ (text : List ℕ) (at : ℕ) where
  -- if the text lexes as a list that has the token at the offset, the text has the token there
  pub token_is : (found : List Token) (token : Token) → Lexes text found → IsAmongAt found at token → IsTokenAt text at token
  token_is found token lexes among = record {
    before = among.before;
    after = among.after;
    lexes = subst (λ ts. Lexes text ts) among.joined lexes;
    offset = among.offset;
  }

  -- if the text lexes, no token of it is at the offset, and the text does not end there, then nothing is there
  pub nothing_in_tokens : (found : List Token) → ((t : List ℕ) (ts us : List Token) → Lexes t ts → Lexes t us → ts ≡ us)
      → ((t : List ℕ) (ts : List Token) (n : ℕ) → Lexes t ts → LexingFailsAt t n → ⊥) → Lexes text found → IsNoneAt found at → at ≢ length text
      → HasNothingAt text at
  nothing_in_tokens found unique never lexes none no_end = record {
    no_token = λ token h.
        let same : found ≡ h.before ++ token ∷ h.after = unique text _ _ lexes h.lexes in
        other_offset h.before h.after token at (subst (λ ts. IsNoneAt ts at) same none) h.offset;
    no_failure = λ fails. never text found at lexes fails;
    no_end = no_end;
  }

  -- if lexing fails elsewhere, and the text does not end at the offset, then nothing is there
  pub nothing_elsewhere : ((t : List ℕ) (n m : ℕ) → LexingFailsAt t n → LexingFailsAt t m → n ≡ m)
      → ((t : List ℕ) (ts : List Token) (n : ℕ) → Lexes t ts → LexingFailsAt t n → ⊥) → FailsElsewhere text at → at ≢ length text
      → HasNothingAt text at
  nothing_elsewhere unique never elsewhere no_end = record {
    no_token = λ token h. never text _ elsewhere.other h.lexes elsewhere.fails;
    no_failure = λ fails. elsewhere.elsewhere (unique text elsewhere.other at elsewhere.fails fails);
    no_end = no_end;
  }
