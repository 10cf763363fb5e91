-- The words of a place, which its states determine.
use Rattle.std.proofs.Common.{◌≡◌, ℕ, ◌+◌, ◌*◌, ◌/◌, ◌%◌, ◌^◌, ◌<◌, inl, inr, List, length, get_or, ap, ◌∙◌, sym, arith}
use Rattle.std.specs.Prelude.{◌↔◌, bit_or, replicate, slice_set}
use Rattle.std.specs.Int.{bit_at}
use Rattle.std.proofs.lemmas.Bool.{cases_eq}
use Rattle.std.proofs.lemmas.List.{ext_get_or, length-replicate, length-set}
use Rattle.std.proofs.lemmas.List.Elements.{All-from_get_or, All-get_or, All-replicate, All-set}
use Rattle.std.proofs.lemmas.Nat.{or_lt}
use Rattle.std.proofs.lemmas.Nat.Bits.{bit_at-lt, same_from_bits_below}
use Rattle.lotos_pattern.specs.NfaStates.{HasState, IsPlaceValue, Place}

-- the words of the empty set
pub bare_value : IsPlaceValue (record { bits = replicate 5 0 })
bare_value = let zero_word : ℕ = 0 in record {
  count = length-replicate 5 zero_word;
  bounded = All-replicate (λ word. word < 2 ^ 64) 5 zero_word (omega arith);
}

-- one word gets another bit
pub added_value : (words : List ℕ) (n : ℕ) → length words ≡ 5 → ((i : ℕ) → i < length words → get_or words i 0 < 2 ^ 64) → n / 64 < length words →
    IsPlaceValue (record { bits = slice_set words (n / 64) (bit_or (get_or words (n / 64) 0) (1 * 2 ^ (n % 64) % 2 ^ 64)) })
added_value words n count bounded within =
    let more : ℕ = 1 * 2 ^ (n % 64) % 2 ^ 64 in
    let word : ℕ = bit_or (get_or words (n / 64) 0) more in
    let small : word < 2 ^ 64 = or_lt 64 (get_or words (n / 64) 0) more (bounded (n / 64) within) (omega arith) in
    record {
      count = length-set words (n / 64) word ∙ count;
      bounded = All-set (λ w. w < 2 ^ 64) words (n / 64) word small (All-from_get_or (λ w. w < 2 ^ 64) words 0 bounded);
    }

-- a bit that is 1 in the one word exactly if it is in the other is the same
same_bit : (a b : ℕ) → a < 2 → b < 2 → (a ≡ 1) ↔ (b ≡ 1) → a ≡ b
same_bit a b small too same = elim (cases_eq a 1) [
  | inl on ↦ on ∙ sym (same.0 on)
  | inr off ↦ elim (cases_eq b 1) [ inl on ↦ absurd (off (same.1 on)) | inr also ↦ omega arith ]
]

module _ (a b : Place) (own : IsPlaceValue a) (other : IsPlaceValue b) (same : (k : ℕ) → HasState a k ↔ HasState b k) where
  -- at each index of the words of `a`, both places have the same word
  same_word : (i : ℕ) → i < length a.bits → get_or a.bits i 0 ≡ get_or b.bits i 0
  same_word i within =
      let count = own.count in
      let too = other.count in
      same_from_bits_below 64 (get_or a.bits i 0) (get_or b.bits i 0)
      (All-get_or (λ w. w < 2 ^ 64) a.bits i 0 within own.bounded)
      (All-get_or (λ w. w < 2 ^ 64) b.bits i 0 (omega arith) other.bounded)
      (λ j low.
      let word : (i * 64 + j) / 64 ≡ i = omega arith in
      let bit : (i * 64 + j) % 64 ≡ j = omega arith in
      let here = same (i * 64 + j) in
      let state = rw (word, bit) at here in
      same_bit (bit_at (get_or a.bits i 0) j) (bit_at (get_or b.bits i 0) j) (bit_at-lt (get_or a.bits i 0) j) (bit_at-lt (get_or b.bits i 0) j) state)

  -- a place is determined by its states
  pub one_place : a ≡ b
  one_place =
      let words : a.bits ≡ b.bits = ext_get_or 0 a.bits b.bits (own.count ∙ sym other.count) same_word in
      ap (λ w. let place : Place = record { bits = w } in place) words
