-- Names as warnings show them.
use Rattle.std.specs.Prelude.{ℕ, zero, suc, List, [], ◌∷◌, ◌++◌, if◌then◌else◌, length, nat_lt, take}
use Rattle.lotos_check.specs.NameLists.{Name}

-- a name as a warning shows it: of one with more than 64 bytes the first 64, and three dots
abbrev pub shown_name : Name → Name
shown_name name = if nat_lt 64 (length name) then take 64 name ++ 46 ∷ 46 ∷ 46 ∷ [] else name

-- names as a warning shows them: each as it shows one, with a comma and a blank between two
abbrev pub shown_names : List Name → Name
shown_names [] = []
shown_names (n ∷ []) = shown_name n
shown_names (n ∷ m ∷ ns) = shown_name n ++ 44 ∷ 32 ∷ shown_names (m ∷ ns)

-- a text with one more name after these: that at this index
abbrev pub with_shown : ℕ → Name → Name → Name
with_shown zero text n = text ++ shown_name n
with_shown (suc index) text n = text ++ 44 ∷ 32 ∷ shown_name n
