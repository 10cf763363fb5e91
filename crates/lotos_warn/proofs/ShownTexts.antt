-- Texts of names as warnings show them.
use Rattle.std.proofs.Common.{◌≡◌, ℕ, ◌+◌, ◌<◌, ◌≤◌, zero, suc, List, [], ◌∷◌, ◌++◌, length, take, get_or, refl, sym, ap, ◌∙◌, subst, append_assoc, arith}
use Rattle.std.proofs.lemmas.List.{length-take-le, take_more}
use Rattle.lotos_check.specs.NameLists.{Name}
use Rattle.lotos_warn.specs.ShownNames.{shown_name, shown_names, with_shown}

-- one more name
shown_more : (ns : List Name) (n : Name) → shown_names (ns ++ n ∷ []) ≡ with_shown (length ns) (shown_names ns) n
shown_more [] n = refl
shown_more (m ∷ []) n = refl
shown_more (m ∷ k ∷ ns) n =
    let more : shown_names (k ∷ (ns ++ n ∷ [])) ≡ shown_names (k ∷ ns) ++ 44 ∷ 32 ∷ shown_name n = shown_more (k ∷ ns) n in
    ap (λ t. shown_name m ++ 44 ∷ 32 ∷ t) more ∙ sym (append_assoc (shown_name m) (44 ∷ 32 ∷ shown_names (k ∷ ns)) (44 ∷ 32 ∷ shown_name n))

-- the name at an index is added to those before it
pub shown_to : (names : List Name) (index : ℕ) (d n : Name) (old new : Name) → index < length names → n ≡ get_or names index d →
    old ≡ shown_names (take index names) → new ≡ with_shown index old n → new ≡ shown_names (take (index + 1) names)
shown_to names index d n old new within at before grown =
    let front = take_more names index d within in
    let count = length-take-le index names (omega arith) in
    let all = subst (λ k. shown_names (take index names ++ n ∷ []) ≡ with_shown k (shown_names (take index names)) n) count
    (shown_more (take index names) n) in
    grown ∙ ap (λ t. with_shown index t n) before ∙ sym all ∙ ap (λ m. shown_names (take index names ++ m ∷ [])) at ∙ ap shown_names (sym front)
