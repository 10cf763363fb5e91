-- Words: their bytes, where they end, and the names that they spell.
use Rattle.std.proofs.Common.{◌≡◌, ℕ, ◌+◌, ◌<◌, true, false, List, [], ◌∷◌, ◌++◌, length, take, drop, map, IsTrue, slice_index, suc, refl, sym, ◌∙◌, subst, arith}
use Rattle.std.proofs.lemmas.Bool.{cond_both, cond-true, cond-false}
use Rattle.std.proofs.lemmas.Bool.Decides.{nat_tests}
use Rattle.std.proofs.lemmas.Str.Ascii.{IsAscii-nil, IsAscii-cons}
use Rattle.std.specs.Char.{is_ascii_alphabetic, is_ascii_uppercase, to_ascii_uppercase}
use Rattle.std.specs.List.{AllByRecursion, prefix_len}
use Rattle.std.specs.Str.{IsAscii}
use Rattle.lotos_text.specs.Lexing.{is_blank, is_word_byte, IsWord, EndsWord}
use Rattle.lotos_text.specs.Names.{is_name_byte, IsName}

-- each byte is one of those that words are made of
abbrev AreWordBytes : List ℕ → Type 0
AreWordBytes bs = AllByRecursion (λ c. IsTrue (is_word_byte c)) bs

-- what holds of each letter, and of each byte of words
letter_in_word : (b : ℕ) → is_ascii_alphabetic b ≡ true → is_word_byte b ≡ true
letter_in_word b h = grind (arith, nat_tests)

-- a letter is no blank
pub letter_no_blank : (b : ℕ) → is_ascii_alphabetic b ≡ true → is_blank b ≡ false
letter_no_blank b h = grind (arith, nat_tests)

-- a byte of words is below 128
word_byte_ascii : (b : ℕ) → is_word_byte b ≡ true → b < 128
word_byte_ascii b h = grind (arith, nat_tests)

-- a letter in upper case is a letter A to Z
letter_raised : (b : ℕ) → is_ascii_alphabetic b ≡ true → is_ascii_uppercase (to_ascii_uppercase b) ≡ true
letter_raised b h = grind (arith, nat_tests)

-- a byte of words in upper case is a byte of names
word_byte_raised : (b : ℕ) → is_word_byte b ≡ true → is_name_byte (to_ascii_uppercase b) ≡ true
word_byte_raised b h = grind (arith, nat_tests)

-- the same of the bytes of a word
bytes_ascii : (bs : List ℕ) → AreWordBytes bs → IsAscii bs
bytes_ascii [] h = IsAscii-nil
bytes_ascii (b ∷ bs) h = IsAscii-cons b bs (word_byte_ascii b h.0) (bytes_ascii bs h.1)

-- the bytes of a word are ASCII
pub word_ascii : (word : List ℕ) → IsWord word → IsAscii word
word_ascii [] h = absurd h
word_ascii (b ∷ bs) h = IsAscii-cons b bs (word_byte_ascii b (letter_in_word b h.0)) (bytes_ascii bs h.1)

-- bytes of words in upper case are bytes of names
bytes_raised : (bs : List ℕ) → AreWordBytes bs → AllByRecursion (λ c. IsTrue (is_name_byte c)) (map to_ascii_uppercase bs)
bytes_raised [] h = tt
bytes_raised (b ∷ bs) h = (word_byte_raised b h.0, bytes_raised bs h.1)

-- a word in upper case is a name
pub word_raised : (word : List ℕ) → IsWord word → IsName (map to_ascii_uppercase word)
word_raised [] h = absurd h
word_raised (b ∷ bs) h = (letter_raised b h.0, bytes_raised bs h.1)

-- the bytes of words at the front of a text are such bytes
front_bytes : (text : List ℕ) → AreWordBytes (take (prefix_len is_word_byte text) text)
front_bytes [] = tt
front_bytes (b ∷ bs) =
    let n = prefix_len is_word_byte bs in
    let P : ℕ → Type 0 = λ m. AreWordBytes (take m (b ∷ bs)) in
    let e : suc n ≡ 1 + n = omega arith in
    cond_both (is_word_byte b) (1 + n) 0 P (λ h. subst P e (h, front_bytes bs)) (λ _. tt)

-- a word ends after all word bytes at the start of a text
pub front_ends : (text : List ℕ) → EndsWord (drop (prefix_len is_word_byte text) text)
front_ends [] = tt
front_ends (b ∷ bs) =
    let n = prefix_len is_word_byte bs in
    let P : ℕ → Type 0 = λ m. EndsWord (drop m (b ∷ bs)) in
    let e : suc n ≡ 1 + n = omega arith in
    cond_both (is_word_byte b) (1 + n) 0 P (λ _. subst P e (front_ends bs)) (λ h. h)

-- where a text begins with a letter, the bytes of words at its front are a word
pub front_word : (text : List ℕ) → is_ascii_alphabetic (slice_index text 0) ≡ true → IsWord (take (prefix_len is_word_byte text) text)
front_word [] h = absurd (cc)
front_word (b ∷ bs) h =
    let n = prefix_len is_word_byte bs in
    let P : ℕ → Type 0 = λ m. IsWord (take m (b ∷ bs)) in
    let e : suc n ≡ 1 + n = omega arith in
    subst P (e ∙ sym (cond-true (is_word_byte b) (1 + n) 0 (letter_in_word b h))) (h, front_bytes bs)

-- before the end of a word there are just its bytes
bytes_length : (bs rest : List ℕ) → AreWordBytes bs → EndsWord rest → prefix_len is_word_byte (bs ++ rest) ≡ length bs
bytes_length [] [] h e = refl
bytes_length [] (b ∷ rest) h e = cond-false (is_word_byte b) _ _ e
bytes_length (b ∷ bs) rest h e =
    let more : 1 + prefix_len is_word_byte (bs ++ rest) ≡ length (b ∷ bs) = omega (arith, bytes_length bs rest h.1 e) in
    cond-true (is_word_byte b) _ _ h.0 ∙ more

-- a complete word is all word bytes at the start
pub word_length : (word rest : List ℕ) → IsWord word → EndsWord rest → prefix_len is_word_byte (word ++ rest) ≡ length word
word_length [] rest h e = absurd h
word_length (b ∷ bs) rest h e = bytes_length (b ∷ bs) rest (letter_in_word b h.0, h.1) e
