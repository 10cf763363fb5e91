-- The place of a sequence, label by label.
use Rattle.std.proofs.Common.{◌≡◌, ◌∙◌, ap, sym, subst, ℕ, ◌+◌, ◌<◌, List, [], ◌∷◌, ◌++◌, length, take, drop, get_or, append-nil, append_assoc}
use Rattle.std.specs.Borrow.{Bor}
use Rattle.std.proofs.lemmas.List.{map_more, take-map, take-append-drop}
use Rattle.lotos_pattern.specs.PatternLabels.{Label}
use Rattle.lotos_pattern.specs.Patterns.{Matches, Pattern, Viable}
use Rattle.lotos_pattern.specs.Spelling.{Text, texts_of}

-- a prefix with the label after it is the prefix with one more label
pub front_more : (xs : List (Bor Text)) (i : ℕ) (x : Bor Text) → i < length xs →
    take i (texts_of xs) ++ (get_or xs i x).now ∷ [] ≡ take (i + 1) (texts_of xs)
front_more xs i x lt = rw (take-map (λ (w : Bor Text). w.now) i xs, take-map (λ (w : Bor Text). w.now) (i + 1) xs) (sym (map_more (λ w. w.now) xs i x lt))

-- if a prefix cannot match any more, neither can the whole sequence
pub front_not_viable : (p : Pattern) (s : List Label) (i : ℕ) → (Viable p (take i s) → ⊥) → Viable p s → ⊥
front_not_viable p s i never viable =
    never (
      drop i s ++ viable.0,
      subst (Matches p) (ap (λ r. r ++ viable.0) (sym (take-append-drop i s)) ∙ append_assoc (take i s) (drop i s) viable.0) viable.1,
    )

-- a sequence that cannot match any more is not matched
pub not_matched : (p : Pattern) (s : List Label) → (Viable p s → ⊥) → Matches p s → ⊥
not_matched p s never matched = never ([], subst (Matches p) (sym (append-nil s)) matched)
