-- Signs: the longest one at the start of a text.
use Rattle.std.proofs.Common.{◌≡◌, ℕ, ◌≤◌, Bool, true, false, ◌&&◌, List, [], ◌∷◌, ◌++◌, length, take, drop, Some, None, nat_eq, nat_le, find, slice_index, inl, inr, refl, sym, ap, ◌∙◌, subst, arith}
use Rattle.std.proofs.lemmas.Bool.{cases_Bool, cond-true, cond-false, and_parts, leb-true, both_ways}
use Rattle.std.proofs.lemmas.Bool.Decides.{Decides-eqb}
use Rattle.std.proofs.lemmas.Slice.Eq.{starts_is}
use Rattle.std.proofs.Math.Seq.{take-append_seam}
use Rattle.std.specs.Char.{is_ascii_alphabetic}
use Rattle.std.specs.List.{AllByRecursion, list_all, starts_with}
use Rattle.lotos_text.specs.Lexing.{is_blank, sign_text, StartsWith, comment_opening, IsSignToken}
use Rattle.lotos_text.specs.Lexemes.{signs_longest_first, longest_sign}
use Rattle.lotos_text.specs.declared.token.Sign.{Sign}
use Rattle.lotos_text.specs.declared.token.Sign.TheVariants as s

-- the sign begins the text
abbrev pub begins : List ℕ → Sign → Bool
begins text sign = starts_with nat_eq text (sign_text sign)

-- the test says whether the sign begins the text
begins_true : (text : List ℕ) (sign : Sign) → begins text sign ≡ true → text ≡ sign_text sign ++ drop (length (sign_text sign)) text
begins_true text sign = (starts_is {E = nat_eq} Decides-eqb text (sign_text sign) (begins text sign) refl).0

-- a sign that begins the text passes the test
begins_from : (text : List ℕ) (sign : Sign) → StartsWith (sign_text sign) text → begins text sign ≡ true
begins_from text sign b = (starts_is {E = nat_eq} Decides-eqb text (sign_text sign) (begins text sign) refl).1 b.0 b.1

-- no sign is longer than one before it
abbrev descends : List Sign → Bool
descends [] = true
descends (m ∷ ms) = list_all (λ n. nat_le (length (sign_text n)) (length (sign_text m))) ms && descends ms

-- what holds of each sign in the list holds of every sign
of_each : (P : Sign → Type 0) → AllByRecursion P signs_longest_first → (sign : Sign) → P sign
of_each P h s.Interleave = h.0
of_each P h s.Define = h.1.0
of_each P h s.Choice = h.1.1.0
of_each P h s.Disable = h.1.1.1.0
of_each P h s.Enable = h.1.1.1.1.0
of_each P h s.LeftSync = h.1.1.1.1.1.0
of_each P h s.Full = h.1.1.1.1.1.1.0
of_each P h s.Semicolon = h.1.1.1.1.1.1.1.0
of_each P h s.Colon = h.1.1.1.1.1.1.1.1.0
of_each P h s.Comma = h.1.1.1.1.1.1.1.1.1.0
of_each P h s.LeftParenthesis = h.1.1.1.1.1.1.1.1.1.1.0
of_each P h s.RightParenthesis = h.1.1.1.1.1.1.1.1.1.1.1.0
of_each P h s.LeftBracket = h.1.1.1.1.1.1.1.1.1.1.1.1.0
of_each P h s.RightBracket = h.1.1.1.1.1.1.1.1.1.1.1.1.1.0
of_each P h s.Bar = h.1.1.1.1.1.1.1.1.1.1.1.1.1.1.0

-- a list of which no sign is longer
none_shorter : (m : Sign) (ms : List Sign) (test : Sign → Bool) → list_all (λ n. nat_le (length (sign_text n)) (length (sign_text m))) ms ≡ true →
    AllByRecursion (λ n. test n ≡ true → length (sign_text n) ≤ length (sign_text m)) ms
none_shorter m [] test h = tt
none_shorter m (n ∷ ms) test h =
    let parts = and_parts (nat_le (length (sign_text n)) (length (sign_text m))) _ h in
    ((λ _. leb-true _ _ parts.0), none_shorter m ms test parts.1)

-- the sign passes, and no longer one of the list does
record IsLongestOf (test : Sign → Bool) (ms : List Sign) (m : Sign) : Type 0 where
  passes : test m ≡ true
  longest : AllByRecursion (λ n. test n ≡ true → length (sign_text n) ≤ length (sign_text m)) ms

-- the first sign that passes is the longest that does
find_longest : (test : Sign → Bool) (ms : List Sign) (m : Sign) → descends ms ≡ true → find test ms ≡ Some m → IsLongestOf test ms m
find_longest test [] m d e = absurd (cc)
find_longest test (n ∷ ms) m d e =
    let parts = and_parts (list_all (λ k. nat_le (length (sign_text k)) (length (sign_text n))) ms) (descends ms) d in
    elim (cases_Bool (test n)) [
      | inl t ↦
          let same : n ≡ m = cc (cond-true (test n) (Some n) (find test ms) t) in
          subst (λ k. IsLongestOf test (n ∷ ms) k) same (record { passes = t; longest = ((λ _. omega arith), none_shorter n ms test parts.0) })
      | inr f ↦
          let found = find_longest test ms m parts.1 (sym (cond-false (test n) (Some n) (find test ms) f) ∙ e) in
          record { passes = found.passes; longest = ((λ t. absurd (both_ways (test n) f t)), found.longest) }
    ]

-- if none is found, none passes
find_none : (test : Sign → Bool) (ms : List Sign) → find test ms ≡ None → AllByRecursion (λ n. test n ≡ true → ⊥) ms
find_none test [] e = tt
find_none test (n ∷ ms) e =
    elim (cases_Bool (test n)) [
      | inl t ↦ absurd (cc (cond-true (test n) (Some n) (find test ms) t))
      | inr f ↦ ((λ t. both_ways (test n) f t), find_none test ms (sym (cond-false (test n) (Some n) (find test ms) f) ∙ e))
    ]

-- the sign is the longest one at the start of the text
abbrev IsLongest : Sign → List ℕ → Type 0
IsLongest sign rest = (other : Sign) → StartsWith (sign_text other) (sign_text sign ++ rest) → length (sign_text other) ≤ length (sign_text sign)

-- what follows the sign, if one is found
longest_found : (text : List ℕ) (sign : Sign) → longest_sign text ≡ Some sign → (rest : List ℕ) × (text ≡ sign_text sign ++ rest) × IsLongest sign rest
longest_found text sign e =
    let found = find_longest (begins text) signs_longest_first sign refl e in
    let front = begins_true text sign found.passes in (
      drop (length (sign_text sign)) text,
      front,
      λ other b.
          of_each (λ n. begins text n ≡ true → length (sign_text n) ≤ length (sign_text sign)) found.longest other
          (begins_from text other (b.0, front ∙ b.1)),
    )

-- the sign that is found is the lexeme at the start, if no comment opens there
pub mark_found : (text : List ℕ) (sign : Sign) → (StartsWith comment_opening text → ⊥) → longest_sign text ≡ Some sign →
    (rest : List ℕ) × (text ≡ sign_text sign ++ rest) × IsSignToken sign rest
mark_found text sign o e =
    let found = longest_found text sign e in
    (found.0, found.1, record { longest = found.2; no_comment = λ b. o (b.0, found.1 ∙ b.1) })

-- if none is found, no sign begins the text
pub no_mark_found : (text : List ℕ) → longest_sign text ≡ None → (sign : Sign) → StartsWith (sign_text sign) text → ⊥
no_mark_found text e sign b = of_each (λ n. begins text n ≡ true → ⊥) (find_none (begins text) signs_longest_first e) sign (begins_from text sign b)

-- at the start of its own text a sign is found
mark_of_spelled : (sign : Sign) → longest_sign (sign_text sign) ≡ Some sign
mark_of_spelled s.Semicolon = refl
mark_of_spelled _ = refl

-- two signs of one length at the start of one text are equal
same_mark : (a b : Sign) (text rest more : List ℕ) → text ≡ sign_text a ++ rest → text ≡ sign_text b ++ more → length (sign_text a) ≡ length (sign_text b) →
    a ≡ b
same_mark a b text rest more e f h =
    let front = sym (take-append_seam (sign_text a) rest) ∙ ap (take (length (sign_text a))) (sym e ∙ f) in
    let back = ap (λ n. take n (sign_text b ++ more)) h ∙ take-append_seam (sign_text b) more in
    let named : Some a ≡ Some b = sym (mark_of_spelled a) ∙ ap longest_sign (front ∙ back) ∙ mark_of_spelled b in
    cc

-- the sign at the start of a text is the one that is found
pub mark_of_longest : (text : List ℕ) (sign : Sign) (rest : List ℕ) → text ≡ sign_text sign ++ rest → IsSignToken sign rest → longest_sign text ≡ Some sign
mark_of_longest text sign rest e h =
    (elim (longest_sign text) as (λ o. longest_sign text ≡ o → o ≡ Some sign) [
      | None ↦ λ f. absurd (no_mark_found text f sign (rest, e))
      | Some m ↦ λ f.
          let found = longest_found text m f in
          let below = h.longest m (found.0, sym e ∙ found.1) in
          let above = found.2 sign (rest, sym found.1 ∙ e) in
          ap Some (same_mark m sign text found.0 rest found.1 e (omega (arith, below, above)))
    ]) refl

-- no sign begins with a blank or a letter
pub mark_no_blank : (sign : Sign) (rest : List ℕ) → is_blank (slice_index (sign_text sign ++ rest) 0) ≡ false
mark_no_blank s.Semicolon rest = refl
mark_no_blank _ rest = refl

-- no sign begins with a letter
pub mark_no_letter : (sign : Sign) (rest : List ℕ) → is_ascii_alphabetic (slice_index (sign_text sign ++ rest) 0) ≡ false
mark_no_letter s.Semicolon rest = refl
mark_no_letter _ rest = refl
