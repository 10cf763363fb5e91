-- The text of a run, step by step, with what makes its internal steps.
use Rattle.std.proofs.Common.{◌≡◌, ◌∙◌, ℕ, ◌+◌, ◌<◌, ◌≤◌, arith, codes, get_or, List, [], ◌∷◌, ◌++◌, length, refl, sym, subst, ap, drop, append_assoc, append-nil}
use Rattle.std.proofs.lemmas.List.{drop_more, length-drop}
use Rattle.std.specs.List.{flat_map}
use Rattle.std.proofs.Math.ListN.{drop_of_length-le}
use Rattle.lotos_check.specs.NameLists.{Name}
use Rattle.lotos_store.specs.declared.label.Label.{Label as TermLabel}
use Rattle.lotos_store.specs.declared.label.Label.TheVariants as l
use Rattle.lotos_terms.specs.TableView.{IsPrintedAs}
use Rattle.lotos_listing.specs.Order.{Label}
use Rattle.lotos_output.specs.NamedRuns.{AreNamed, IsNamedStep, IsOriginText, inside, more_named, none_named, observed}
use Rattle.lotos_output.specs.OutputLines.{row_text, sequence_text}
use Rattle.lotos_origins.specs.declared.origin.Origin.{Origin}

-- the text so far, and a blank and the text of each step that is left, make up the whole; the steps that are left take
-- these origins, but for the last ones
abbrev pub IsNamedLeft : List Name → List TermLabel → List Origin → (text whole : List ℕ) → List Origin → Type 0
IsNamedLeft names labels origins text whole rest = (texts : List Label) × AreNamed names labels origins texts rest ×
    (text ++ flat_map (λ m. 32 ∷ m) texts ≡ whole)

-- a step and those after it
pub record IsCutNamed (names : List Name) (k : TermLabel) (ks : List TermLabel) (origins : List Origin) (texts : List Label) (rest : List Origin) : Type 0 where
  pub first : Label
  pub others : List Label
  pub left : List Origin
  pub step : IsNamedStep names k origins first left
  pub all : AreNamed names ks left others rest
  pub joined : texts ≡ first ∷ others

-- the texts of steps are that of the first step, and those of the others by the origins that the first one leaves
pub cut_named : (names : List Name) (k : TermLabel) (ks : List TermLabel) (origins : List Origin) (texts : List Label) (rest : List Origin) →
    AreNamed names (k ∷ ks) origins texts rest → IsCutNamed names k ks origins texts rest
cut_named names k ks origins _ rest (more_named step all) =
    record { first = _; others = _; left = _; step = step; all = all; joined = refl }

-- without a step there are no texts, and all origins are left
pub nothing_named : (names : List Name) (origins : List Origin) (texts : List Label) (rest : List Origin) → AreNamed names [] origins texts rest →
    (texts ≡ []) × (origins ≡ rest)
nothing_named names origins _ _ none_named = (refl, refl)

module _ (names : List Name) where
  -- the next step has a text
  pub step_left : (labels later : List TermLabel) (k : TermLabel) (origins : List Origin) (text whole : List ℕ) (rest : List Origin) → labels ≡ k ∷ later →
      IsNamedLeft names labels origins text whole rest → (shown : Label) × (left : List Origin) × IsNamedStep names k origins shown left
  step_left labels later k origins text whole rest is (texts, named, made) =
      let cut = cut_named names k later origins texts rest (subst (λ ls. AreNamed names ls origins texts rest) is named) in
      (cut.first, cut.left, cut.step)

  -- one more step is written
  pub step_behind : (labels later : List TermLabel) (k : TermLabel) (origins left : List Origin) (text text' whole : List ℕ) (rest : List Origin) →
      labels ≡ k ∷ later →
      ((shown : Label) (os : List Origin) → IsNamedStep names k origins shown os → (left ≡ os) × (text' ≡ (text ++ 32 ∷ []) ++ shown)) →
      IsNamedLeft names labels origins text whole rest → IsNamedLeft names later left text' whole rest
  step_behind labels later k origins left text text' whole rest is written (texts, named, made) =
      let cut = cut_named names k later origins texts rest (subst (λ ls. AreNamed names ls origins texts rest) is named) in
      let (same, grown) = written cut.first cut.left cut.step in
      let others = flat_map (λ m. 32 ∷ m) cut.others in
      let made' : text ++ flat_map (λ m. 32 ∷ m) (cut.first ∷ cut.others) ≡ whole =
      subst (λ x. text ++ flat_map (λ m. 32 ∷ m) x ≡ whole) cut.joined made in
      let now : text' ≡ text ++ (32 ∷ cut.first) = grown ∙ append_assoc text (32 ∷ []) cut.first in (
        cut.others,
        subst (λ os. AreNamed names later os cut.others rest) (sym same) cut.all,
        ap (λ x. x ++ others) now ∙ append_assoc text (32 ∷ cut.first) others ∙ made',
      )

  -- no step is left
  pub steps_done : (labels : List TermLabel) (i : ℕ) (origins : List Origin) (text whole : List ℕ) (rest : List Origin) → length labels ≤ i →
      IsNamedLeft names (drop i labels) origins text whole rest → (origins ≡ rest) × (text ≡ whole)
  steps_done labels i origins text whole rest passed (texts, named, made) =
      let none = subst (λ ls. AreNamed names ls origins texts rest) (drop_of_length-le labels {i = i} passed) named in
      let (empty, same) = nothing_named names origins texts rest none in
      (same, sym (append-nil text) ∙ subst (λ x. text ++ flat_map (λ m. 32 ∷ m) x ≡ whole) empty made)

-- ---- internal steps

-- an internal step takes the first origin
pub cut_inner : (names : List Name) (k : TermLabel) (origins : List Origin) (text : Label) (rest : List Origin) → k ≡ l.Internal →
    IsNamedStep names k origins text rest → (o : Origin) × (origins ≡ o ∷ rest) × IsOriginText names o text
cut_inner names k origins text rest is (observed other shows) = absurd (other is)
cut_inner names k origins text rest is (inside {o = o} made) = (o, refl, made)

-- another step takes none
pub cut_outer : (names : List Name) (k : TermLabel) (origins : List Origin) (text : Label) (rest : List Origin) → (k ≡ l.Internal → ⊥) →
    IsNamedStep names k origins text rest → (origins ≡ rest) × IsPrintedAs names k text
cut_outer names k origins text rest other (observed apart shows) = (refl, shows)
cut_outer names k origins text rest other (inside made) = absurd (other refl)

module _ (origins : List Origin) (used : ℕ) where
  -- an origin that is left has an index
  pub within : (o : Origin) (rest : List Origin) → drop used origins ≡ o ∷ rest → used < length origins
  within o rest is =
      let size = ap length is in
      let left = length-drop used origins in
      omega arith

  -- it stands there, and the others come after it
  pub at_index : (o d : Origin) (rest : List Origin) → drop used origins ≡ o ∷ rest → (o ≡ get_or origins used d) × (drop (used + 1) origins ≡ rest)
  at_index o d rest is =
      let both = sym is ∙ drop_more origins used d (within o rest is) in
      (first both, sym (later both))
    where
      first : {a b : Origin} {xs ys : List Origin} → a ∷ xs ≡ b ∷ ys → a ≡ b
      first e = cc

      later : {a b : Origin} {xs ys : List Origin} → a ∷ xs ≡ b ∷ ys → xs ≡ ys
      later e = cc

-- the first step is written as the text of a sequence begins
pub first_named : (names : List Name) (k : TermLabel) (ks : List TermLabel) (origins left : List Origin) (text mid made : List ℕ) (labels : List TermLabel)
    (w : List Label) (rest now : List Origin) → labels ≡ k ∷ ks → AreNamed names labels origins w rest →
    ((shown : Label) (os : List Origin) → IsNamedStep names k origins shown os → (left ≡ os) × (mid ≡ text ++ shown)) →
    ((v : List Label) (os : List Origin) → AreNamed names ks left v os → (now ≡ os) × (made ≡ mid ++ flat_map (λ m. 32 ∷ m) v)) →
    (now ≡ rest) × (made ≡ text ++ sequence_text w)
first_named names k ks origins left text mid made labels w rest now is named step_written others_written =
    let cut = cut_named names k ks origins w rest (subst (λ ls. AreNamed names ls origins w rest) is named) in
    let (same, grown) = step_written cut.first cut.left cut.step in
    let (last, whole) = others_written cut.others rest (subst (λ os. AreNamed names ks os cut.others rest) (sym same) cut.all) in
    let others = flat_map (λ m. 32 ∷ m) cut.others in
    (last, whole ∙ ap (λ x. x ++ others) grown ∙ append_assoc text cut.first others ∙ sym (ap (λ x. text ++ sequence_text x) cut.joined))

-- without steps it is `<empty>`
pub empty_named : (names : List Name) (labels : List TermLabel) (origins : List Origin) (text made : List ℕ) (w : List Label) (rest : List Origin) →
    labels ≡ [] → AreNamed names labels origins w rest → made ≡ text ++ codes "<empty>" → (origins ≡ rest) × (made ≡ text ++ sequence_text w)
empty_named names labels origins text made w rest is named written =
    let (none, same) = nothing_named names origins w rest (subst (λ ls. AreNamed names ls origins w rest) is named) in
    (same, written ∙ sym (ap (λ x. text ++ sequence_text x) none))

-- the text of a row that has steps ends with a blank
pub row_named : (names : List Name) (labels : List TermLabel) (origins : List Origin) (r : List Label) (rest : List Origin) (text mid made : List ℕ) →
    AreNamed names labels origins r rest → (labels ≡ [] → ⊥) → mid ≡ text ++ sequence_text r → made ≡ mid ++ codes " " → made ≡ text ++ row_text r
row_named names _ origins _ rest text mid made none_named some grown written = absurd (some refl)
row_named names (k ∷ ks) origins (first ∷ others) rest text mid made (more_named step all) some grown written =
    written ∙ ap (λ x. x ++ codes " ") grown ∙ append_assoc text (sequence_text (first ∷ others)) (codes " ")

-- without steps no origin is taken, and `row_text` adds nothing to the text
pub no_row_named : (names : List Name) (labels : List TermLabel) (origins : List Origin) (r : List Label) (rest : List Origin) (text : List ℕ) →
    labels ≡ [] → AreNamed names labels origins r rest → (origins ≡ rest) × (text ≡ text ++ row_text r)
no_row_named names labels origins r rest text is named =
    let (none, same) = nothing_named names origins r rest (subst (λ ls. AreNamed names ls origins r rest) is named) in
    (same, sym (append-nil text) ∙ sym (ap (λ x. text ++ row_text x) none))

-- the parts of the text of steps that go round, one after the other
pub round_joined : (text begins row opens loop closes : List ℕ) →
    ((((text ++ begins) ++ row) ++ opens) ++ loop) ++ closes ≡ text ++ ((((begins ++ row) ++ opens) ++ loop) ++ closes)
round_joined text begins row opens loop closes = simp append_assoc refl
