-- Names: identifiers in upper case.
use Rattle.std.specs.Prelude.{ℕ, Bool, ◌||◌, ◌==◌, IsTrue, List, [], ◌∷◌}
use Rattle.std.specs.List.{AllByRecursion}
use Rattle.std.specs.Char.{is_ascii_uppercase, is_ascii_digit}

-- a letter A to Z, a digit or an underscore
abbrev pub is_name_byte : ℕ → Bool
is_name_byte b = is_ascii_uppercase b || is_ascii_digit b || (b == 95)

-- a letter A to Z, then letters A to Z, digits and underscores
abbrev pub IsName : List ℕ → Type 0
IsName [] = ⊥
IsName (b ∷ bs) = IsTrue (is_ascii_uppercase b) × AllByRecursion (λ c. IsTrue (is_name_byte c)) bs
