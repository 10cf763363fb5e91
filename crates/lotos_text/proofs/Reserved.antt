-- Keywords: the kind of a word, looked up entry by entry.
use Rattle.std.proofs.Common.{◌≡◌, ℕ, ◌+◌, ◌<◌, Bool, true, false, cond, List, [], ◌∷◌, length, drop, map, get_or, Bor, suc, sym, ◌∙◌, subst, add-one}
use Rattle.std.proofs.lemmas.Bool.{and_parts, cond-false, false_from_ne_true}
use Rattle.std.proofs.lemmas.Slice.Eq.{bytes_eq-Decides}
use Rattle.std.proofs.Math.Seq.{drop-cons}
use Rattle.std.specs.Char.{to_ascii_lowercase}
use Rattle.std.specs.List.{list_all}
use Rattle.std.specs.Str.{bytes_eq}
use Rattle.lotos_text.specs.Lexing.{equals_ignoring_case, classify}
use Rattle.lotos_text.specs.declared.token.TokenKind.{TokenKind}
use Rattle.lotos_text.specs.declared.token.TokenKind.TheVariants.{Identifier, Reserved}
use Rattle.lotos_text.specs.declared.token.Word.{Word}

-- a spelling, and the word that it spells
abbrev pub Row : Type 0
Row = Bor (List ℕ) × Word

-- the kind in the first entry whose spelling the word has, in upper or lower case
abbrev pub kind_by : List Row → List ℕ → TokenKind
kind_by [] found = Identifier
kind_by (row ∷ rows) found = cond (equals_ignoring_case row.0.now found) (Reserved row.1) (kind_by rows found)

-- the spellings are in lower case
abbrev pub are_lower : List Row → Bool
are_lower rows = list_all (λ row. bytes_eq (map to_ascii_lowercase row.0.now) row.0.now) rows

-- what holds of the entries that are left
pub record Left (rows : List Row) (found : List ℕ) : Type 0 where
  pub decides : kind_by rows found ≡ classify found
  pub lower : are_lower rows ≡ true

-- the two are one, but for upper and lower case
abbrev pub Alike : List ℕ → List ℕ → Type 0
Alike a b = map to_ascii_lowercase a ≡ map to_ascii_lowercase b

-- the test fails for a spelling in lower case and a word that is not alike
is_not : (word found : List ℕ) → bytes_eq (map to_ascii_lowercase word) word ≡ true → (Alike found word → ⊥) → equals_ignoring_case word found ≡ false
is_not word found h k =
    let lower = (bytes_eq-Decides (map to_ascii_lowercase word) word).0 h in
    false_from_ne_true (equals_ignoring_case word found) (λ t. k (sym (lower ∙ (bytes_eq-Decides word (map to_ascii_lowercase found)).0 t)))

-- the first entry is left out
first_out : (row : Row) (rows : List Row) (found : List ℕ) → (Alike found row.0.now → ⊥) → Left (row ∷ rows) found → Left rows found
first_out row rows found h left =
    let parts = and_parts (bytes_eq (map to_ascii_lowercase row.0.now) row.0.now) (are_lower rows) left.lower in
    let other = cond-false (equals_ignoring_case row.0.now found) (Reserved row.1) (kind_by rows found) (is_not row.0.now found parts.0 h) in
    record { decides = sym other ∙ left.decides; lower = parts.1 }

-- what holds of the entries from an index on holds of the entry there and those after it
first_left : (rows : List Row) (i : ℕ) (row : Row) (found : List ℕ) → i < length rows → Left (drop i rows) found →
    Left (get_or rows i row ∷ drop (suc i) rows) found
first_left rows i row found lt left = subst (λ r. Left r found) (drop-cons rows i row lt) left

-- an entry with another spelling is left out
pub row_out : (rows : List Row) (i : ℕ) (row : Row) (found : List ℕ) → i < length rows → (Alike found (get_or rows i row).0.now → ⊥) →
    Left (drop i rows) found → Left (drop (i + 1) rows) found
row_out rows i row found lt h left =
    let next = first_out (get_or rows i row) (drop (suc i) rows) found h (first_left rows i row found lt left) in
    rw add-one next
