-- The line of a suite without its sign.
use Rattle.std.proofs.Common.{◌≡◌, ◌∙◌, ◌++◌, ℕ, Bool, Bor, List, [], ◌∷◌, None, Option, Some, ap, drop, false, length, refl, sym, take, take-append-drop, true}
use Rattle.std.specs.Prelude.{MatchOption, codes}
use Rattle.std.specs.Option.{unwrap_or}
use Rattle.std.specs.Str.{bytes_eq}
use Rattle.std.specs.Str.Pattern.{FindsTextPrefix, StripsPrefix}
use Rattle.std.proofs.lemmas.Slice.Eq.{bytes_eq-Decides}
use Rattle.lotos_outcome.specs.QuestionParts.{without_sign}

-- as many items of a list as its first part has are that part
front_of : (n s : List ℕ) → take (length n) (n ++ s) ≡ n
front_of [] [] = refl
front_of [] (x ∷ s) = refl
front_of (x ∷ n) s = ap (λ l. x ∷ l) (front_of n s)

-- whether a text was stripped from the front of a line, by what is before
pub strip_decides : (n s : List ℕ) (r : Option (Bor (List ℕ))) → MatchOption r (FindsTextPrefix n s None) (λ x. StripsPrefix (FindsTextPrefix n) s x.now) →
    MatchOption r (bytes_eq (take (length n) s) n ≡ false) (λ x. (bytes_eq (take (length n) s) n ≡ true) × (x.now ≡ drop (length n) s))
strip_decides n s None h = go (bytes_eq (take (length n) s) n) refl
  where
    go : (b : Bool) → bytes_eq (take (length n) s) n ≡ b → b ≡ false
    go false e = refl
    go true e =
        let front : take (length n) s ≡ n = (bytes_eq-Decides (take (length n) s) n).0 e in
        absurd (h (drop (length n) s) (sym (take-append-drop (length n) s) ∙ ap (λ f. f ++ drop (length n) s) front))
strip_decides n s (Some x) (k, (same, is, at), rest, counted) =
    let cut : take (length n) s ≡ n = ap (take (length n)) is ∙ front_of n (drop k s) in
    ((bytes_eq-Decides (take (length n) s) n).1 cut, rest ∙ ap (λ m. drop m s) same)

-- the line without its sign, if `+` and a blank were stripped from it
pub after_plus : (line rest : List ℕ) → (bytes_eq (take 2 line) (codes "+ ") ≡ true) → rest ≡ drop 2 line → rest ≡ without_sign line
after_plus line rest plus is = rw plus is

-- or if `-` and a blank were, or neither
pub after_minus : (line : Bor (List ℕ)) (r : Option (Bor (List ℕ))) (found : Bor (List ℕ)) → bytes_eq (take 2 line.now) (codes "+ ") ≡ false →
    MatchOption r (bytes_eq (take 2 line.now) (codes "- ") ≡ false)
    (λ x. (bytes_eq (take 2 line.now) (codes "- ") ≡ true) × (x.now ≡ drop 2 line.now)) →
    found ≡ unwrap_or r line → found.now ≡ without_sign line.now
after_minus line None found plus minus is = rw (plus, minus) (ap (λ (x : Bor (List ℕ)). x.now) is)
after_minus line (Some x) found plus minus is = rw (plus, minus.0) (ap (λ (y : Bor (List ℕ)). y.now) is ∙ minus.1)
