-- The states of a place, as the bits of its words.
use Rattle.std.proofs.Common.{◌≡◌, ℕ, ◌+◌, ◌-◌, ◌*◌, ◌/◌, ◌%◌, ◌^◌, ◌<◌, ◌≤◌, ◌⊎◌, inl, inr, Option, None, Some, List, length, get_or, sym, ap, ◌∙◌, arith, w64}
use Rattle.std.specs.Prelude.{◌↔◌, MatchOption, bit_or, replicate, slice_set}
use Rattle.std.specs.Int.{bit_at, trailing_zeros}
use Rattle.std.proofs.Math.Nat.{div-le_self}
use Rattle.std.proofs.lemmas.Bool.{cases_eq, cases_lt}
use Rattle.std.proofs.lemmas.List.{get_or-replicate, get_or-set_other, get_or-set_same, get_or_past, length-replicate}
use Rattle.std.proofs.lemmas.Nat.{shr-shr}
use Rattle.std.proofs.lemmas.Nat.Bits.{bit_at-trailing_zeros, bit_at-zero, bit_at_above, bit_at_set_other, bit_at_set_same}
use Rattle.lotos_pattern.specs.NfaStates.{HasState, IsFirstState, Place}

-- a word that is 0 has no state
no_bit : (place : Place) (k : ℕ) → get_or place.bits (k / 64) 0 ≡ 0 → HasState place k → ⊥
no_bit place k none has = let off = ap (λ word. bit_at word (k % 64)) none ∙ bit_at-zero (k % 64) in omega (arith, off, has)

-- words that are all 0 have none
pub bare : (n k : ℕ) → HasState (record { bits = replicate n 0 }) k → ⊥
bare n k =
    let words : List ℕ = replicate n 0 in
    let long : length words ≡ n = length-replicate n 0 in
    no_bit (record { bits = words }) k (elim (cases_lt (k / 64) n) [
      | inl within ↦ get_or-replicate n (k / 64) 0 0 within
      | inr past ↦ get_or_past words (k / 64) 0 (omega arith)
    ])

-- after the words there is no state; if there is none before them either, there is none
pub none_past : (place : Place) (from n : ℕ) → length place.bits ≤ n → ((j : ℕ) → from ≤ j → j < n * 64 → HasState place j → ⊥) → (k : ℕ) → from ≤ k →
    HasState place k → ⊥
none_past place from n past before k behind has = elim (cases_lt k (n * 64)) [
  | inl h ↦ before k behind h has
  | inr h ↦ no_bit place k (get_or_past place.bits (k / 64) 0 (omega arith)) has
]

-- a bit more in a word is a state more
pub added : (words : List ℕ) (n : ℕ) → n / 64 < length words → (k : ℕ) →
    let new = slice_set words (n / 64) (bit_or (get_or words (n / 64) 0) (1 * 2 ^ (n % 64) % 2 ^ 64)) in
    HasState (record { bits = new }) k ↔ (HasState (record { bits = words }) k ⊎ (k ≡ n))
added words n within k =
    let old = get_or words (n / 64) 0 in
    let new = bit_or old (1 * 2 ^ (n % 64) % 2 ^ 64) in
    let whole : Place = record { bits = slice_set words (n / 64) new } in
    elim (cases_eq (k / 64) (n / 64)) [
      | inl word ↦
          let here : get_or whole.bits (k / 64) 0 ≡ new = ap (λ i. get_or whole.bits i 0) word ∙ get_or-set_same words (n / 64) new 0 within in
          let was : get_or words (k / 64) 0 ≡ old = ap (λ i. get_or words i 0) word in
          elim (cases_eq (k % 64) (n % 64)) [
            | inl bit ↦
                let on : bit_at new (n % 64) ≡ 1 = bit_at_set_same w64 old (n % 64) (omega arith) in
                (λ h. inr (omega arith), λ h. rw (here, bit) on)
            | inr bit ↦
                let kept : bit_at new (k % 64) ≡ bit_at old (k % 64) = bit_at_set_other w64 old (n % 64) (omega arith) (k % 64) bit in (
                  λ h. inl (rw was (sym kept ∙ rw here at h)),
                  λ h. elim h [ inl h ↦ rw here (kept ∙ rw was at h) | inr same ↦ absurd (bit (ap (λ i. i % 64) same)) ],
                )
          ]
      | inr word ↦
          let kept : get_or whole.bits (k / 64) 0 ≡ get_or words (k / 64) 0 = get_or-set_other words (n / 64) (k / 64) new 0 word in (
            λ h. inl (rw kept at h),
            λ h. elim h [ inl h ↦ rw kept h | inr same ↦ absurd (word (ap (λ i. i / 64) same)) ],
          )
    ]

module _ (place : Place) (n : ℕ) where
  -- the states from `n` on that are in its word
  shifted : (k : ℕ) → n ≤ k → k / 64 ≡ n / 64 → bit_at (get_or place.bits (k / 64) 0) (k % 64) ≡ bit_at (get_or place.bits (n / 64) 0 / 2 ^ (n % 64)) (k - n)
  shifted k from same =
      let word = get_or place.bits (n / 64) 0 in
      let at : get_or place.bits (k / 64) 0 ≡ word = ap (λ i. get_or place.bits i 0) same in
      let further : n % 64 + (k - n) ≡ k % 64 = omega arith in
      let cut : word / 2 ^ (n % 64) / 2 ^ (k - n) ≡ word / 2 ^ (k % 64) = shr-shr word (n % 64) (k - n) ∙ ap (λ i. word / 2 ^ i) further in
      ap (λ x. bit_at x (k % 64)) at ∙ ap (λ x. x % 2) (sym cut)

  -- if no bit of the word of state `n` is set from that of `n` on, the place has no state from `n` on in this word
  pub no_more : get_or place.bits (n / 64) 0 / 2 ^ (n % 64) ≡ 0 → (k : ℕ) → n ≤ k → k / 64 ≡ n / 64 → HasState place k → ⊥
  no_more none k from same has = let off = shifted k from same ∙ ap (λ word. bit_at word (k - n)) none ∙ bit_at-zero (k - n) in omega (arith, off, has)

  -- if a bit of the word of state `n` is set from that of `n` on, the lowest of these is the first state from `n` on
  pub first_here : get_or place.bits (n / 64) 0 < 2 ^ 64 → 0 < get_or place.bits (n / 64) 0 / 2 ^ (n % 64) →
      IsFirstState place n (n + trailing_zeros w64 (get_or place.bits (n / 64) 0 / 2 ^ (n % 64)))
  first_here small some =
      let word = get_or place.bits (n / 64) 0 in
      let rest = word / 2 ^ (n % 64) in
      let less : rest ≤ word = div-le_self word (2 ^ (n % 64)) in
      let lowest = bit_at-trailing_zeros w64 rest some (omega arith) in
      let z = trailing_zeros w64 rest in
      let on : bit_at word (n % 64 + z) ≡ 1 = ap (λ x. x % 2) (sym (shr-shr word (n % 64) z)) ∙ lowest.1 in
      let within : n % 64 + z < 64 = elim (cases_lt (n % 64 + z) 64) [
        | inl h ↦ h
        | inr past ↦ absurd (let off = bit_at_above word 64 (n % 64 + z) small past in omega arith)
      ] in
      let same : (n + z) / 64 ≡ n / 64 = omega arith in record {
        at_least = omega arith;
        has = shifted (n + z) (omega arith) same ∙ ap (λ i. bit_at rest i) (omega arith) ∙ lowest.1;
        none_before = λ j from before has.
            let off = shifted j from (omega arith) ∙ lowest.2 (j - n) (omega arith) in
            omega (arith, off, has);
      }

-- what is not found in the word of `end` is not below it
pub none_below : (place : Place) (from end : ℕ) (first : Option ℕ) → end / 64 ≡ from / 64 →
    MatchOption first ((k : ℕ) → from ≤ k → k / 64 ≡ from / 64 → HasState place k → ⊥) (IsFirstState place from) →
    MatchOption first ((k : ℕ) → from ≤ k → HasState place k → end ≤ k) (IsFirstState place from)
none_below place from end None same none = λ k behind has. elim (cases_lt k end) [
  | inl h ↦ absurd (none k behind (omega arith) has)
  | inr h ↦ h
]
none_below place from end (Some n) same first = first

-- if there is no state, none is below `end`
pub none_at_all : (place : Place) (from end : ℕ) (first : Option ℕ) → MatchOption first ((k : ℕ) → from ≤ k → HasState place k → ⊥) (IsFirstState place from) →
    MatchOption first ((k : ℕ) → from ≤ k → HasState place k → end ≤ k) (IsFirstState place from)
none_at_all place from end None none = λ k behind has. absurd (none k behind has)
none_at_all place from end (Some n) first = first
