-- The parts of a word, as an iterator yields them.
use Rattle.std.proofs.Common.{◌≡◌, ◌∙◌, ℕ, List, [], ◌∷◌, ◌++◌, Some, None, ap, append-nil, append_assoc, sym}
use Rattle.std.specs.Borrow.{Bor}
use Rattle.std.specs.Str.Iter.{split_steps}
use Rattle.std.specs.declared.str.Split.{Split}
use Rattle.std.specs.Str.Pattern.{FindsChar}
use Rattle.std.proofs.lemmas.Iterator.{YieldsList}
use Rattle.std.proofs.lemmas.List.{map-append}
use Rattle.lotos_pattern.specs.Spelling.{Text, texts_of}

-- the iterator yields the texts
abbrev pub Yields : Split ℕ → List Text → Type 0
Yields iterator rest = YieldsList (split_steps FindsChar (λ a b. b ≡ a)) (λ x. x.now) iterator rest

-- one part more is taken
pub one_more_split : {iterator later : Split ℕ} (parts : List (Bor Text)) (part : Bor Text) (more : List (Bor Text)) (all rest : List Text) →
    Yields iterator rest → texts_of parts ++ rest ≡ all → split_steps FindsChar (λ a b. b ≡ a) iterator (Some part) later →
    more ≡ parts ++ part ∷ [] → (left : List Text) × Yields later left × (texts_of more ++ left ≡ all)
one_more_split {later = later} parts part more all [] yields whole step pushed = absurd (yields.runs part later step)
one_more_split {later = later} parts part more all (text ∷ rest) yields whole step pushed =
    let next = yields.runs.1 part later step in
    let texts : texts_of more ≡ texts_of parts ++ part.now ∷ [] = ap texts_of pushed ∙ map-append (λ w. w.now) parts (part ∷ []) in (
      rest,
      record { runs = next.1 },
      ap (λ ts. ts ++ rest) texts ∙ append_assoc (texts_of parts) (part.now ∷ []) rest ∙ ap (λ t. texts_of parts ++ t ∷ rest) next.0 ∙ whole,
    )

-- no part is left
pub all_split : {iterator later : Split ℕ} (parts : List (Bor Text)) (all rest : List Text) → Yields iterator rest → texts_of parts ++ rest ≡ all →
    split_steps FindsChar (λ a b. b ≡ a) iterator None later → texts_of parts ≡ all
all_split {later = later} parts all [] yields whole step = sym (append-nil (texts_of parts)) ∙ whole
all_split {later = later} parts all (text ∷ rest) yields whole step = absurd (yields.runs.0 later step)
