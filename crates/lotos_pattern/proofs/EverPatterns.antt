-- The words of a pattern of `ever`, one after the other.
use Rattle.std.proofs.Common.{◌≡◌, ◌∙◌, ℕ, ◌+◌, List, [], ◌∷◌, ◌++◌, Some, ap, arith, drop, length, map, refl, sym, take}
use Rattle.std.specs.Prelude.{slice_get}
use Rattle.std.proofs.lemmas.List.{drop_all, map-append}
use Rattle.lotos_pattern.specs.EverPatterns.{first_kind, kind_of_word, kind_of_words, word_for_refusal}
use Rattle.lotos_pattern.specs.Spelling.{Text}
use Rattle.lotos_pattern.specs.declared.ever_pattern.EndKind.{EndKind}
use Rattle.lotos_pattern.specs.declared.ever_pattern.EndKind.TheVariants as kind
use Rattle.lotos_pattern.proofs.Words.{drop_at, take_at}

-- a word that demands something of what can come after the end decides
kind_first : (k later : EndKind) → (k ≡ kind.Refuses → ⊥) → first_kind k later ≡ k
kind_first kind.Refuses later not = absurd (not refl)
kind_first kind.Livelock later not = refl
kind_first kind.Forever later not = refl
kind_first kind.Never later not = refl

module _ (words : List Text) (index : ℕ) (word : Text) (stands : slice_get words index ≡ Some word) where
  -- the words from one on have its kind, if it has one
  pub kind_here : (k : EndKind) → k ≡ kind_of_word word → (k ≡ kind.Refuses → ⊥) → kind_of_words words ≡ kind_of_words (drop index words) →
      k ≡ kind_of_words words
  kind_here k is not before =
      let here : kind_of_words (drop index words) ≡ first_kind k (kind_of_words (drop (index + 1) words)) =
      ap kind_of_words (drop_at words index word stands) ∙ ap (λ j. first_kind j (kind_of_words (drop (index + 1) words))) (sym is) in
      sym (before ∙ here ∙ kind_first k (kind_of_words (drop (index + 1) words)) not)

  -- and else that of the words after it
  pub kind_later : (k : EndKind) → k ≡ kind_of_word word → k ≡ kind.Refuses → kind_of_words words ≡ kind_of_words (drop index words) →
      kind_of_words words ≡ kind_of_words (drop (index + 1) words)
  kind_later k is none before =
      before ∙ ap kind_of_words (drop_at words index word stands) ∙ ap (λ j. first_kind j (kind_of_words (drop (index + 1) words))) (sym is ∙ none)

  -- one word more stands in the place of the next
  pub one_word_more : (made more : List Text) (next : Text) → next ≡ word_for_refusal word → made ≡ map word_for_refusal (take index words) →
      more ≡ made ++ next ∷ [] → more ≡ map word_for_refusal (take (index + 1) words)
  one_word_more made more next is before grown =
      grown ∙ ap (λ ws. ws ++ next ∷ []) before ∙ ap (λ w. map word_for_refusal (take index words) ++ w ∷ []) is
      ∙ sym (ap (map word_for_refusal) (take_at words index word stands) ∙ map-append word_for_refusal (take index words) (word ∷ []))

-- no words have no kind
pub kind_of_none : (words : List Text) (index : ℕ) → length words ≡ index → kind_of_words words ≡ kind_of_words (drop index words) →
    kind.Refuses ≡ kind_of_words words
kind_of_none words index all before = sym (before ∙ ap kind_of_words (drop_all index words (omega (arith, all))))
