-- The labels of a table that are in a set, as flags.
use Rattle.std.proofs.Common.{◌≡◌, ◌⊎◌, ◌∙◌, ℕ, ◌+◌, ◌<◌, Bool, true, false, List, [], ◌∷◌, ◌++◌, Some, ap, arith, get_or, inl, inr, length, refl, slice_get, subst, sym}
use Rattle.std.specs.Prelude.{◌↔◌, MatchBool}
use Rattle.std.proofs.lemmas.Bool.{cases_eq}
use Rattle.std.proofs.lemmas.List.{get_or_append_left, get_or_push, length-append}
use Rattle.std.proofs.lemmas.Option.{slice_get_within}
use Rattle.lotos_check.specs.NameLists.{Name}
use Rattle.lotos_check.proofs.ListIndices.{one_item}
use Rattle.lotos_store.specs.declared.label.Label.{Label}
use Rattle.lotos_store.specs.declared.label.Label.TheVariants as l
use Rattle.lotos_terms.specs.TableView.{AreGateNames, IsPrintedAs}
use Rattle.lotos_pattern.specs.Patterns.{IsIn, LabelSet}
use Rattle.lotos_listing.specs.LabelFlags.{AreFlagsOf, AreRefused, HasLabel}
use Rattle.lotos_listing.specs.Order.{Label as Text, internal, termination}
use Rattle.lotos_listing.specs.declared.label_flags.LabelFlags.{LabelFlags}

-- what a test answers is true exactly if the fact is
pub decided : (flag : Bool) (P : Type 0) → MatchBool flag P (P → ⊥) → (flag ≡ true) ↔ P
decided true P holds = ((λ _. holds), λ _. refl)
decided false P none = ((λ e. absurd (let z : ⊥ = cc in z)), λ holds. absurd (none holds))

module _ (set : LabelSet) (names : List Name) where
  -- each of the first `i` gates has its flag
  pub record AreGateFlags (gates : List Bool) (i : ℕ) : Type 0 where
    pub count : length gates ≡ i
    pub each : (g : ℕ) (text : Text) → g < i → slice_get names g ≡ Some text → (get_or gates g false ≡ true) ↔ IsIn text set

  -- one more gate gets its flag
  pub flags_more : (gates more : List Bool) (i : ℕ) (name : Text) (flag : Bool) → AreGateFlags gates i → slice_get names i ≡ Some name →
      MatchBool flag (IsIn name set) (IsIn name set → ⊥) → more ≡ gates ++ flag ∷ [] → AreGateFlags more (i + 1)
  flags_more gates more i name flag before here told grown = record {
    count =
        let long = ap length grown in
        let both = length-append gates (flag ∷ []) in
        let count = before.count in
        omega arith;
    each = λ g text less at. elim (cases_eq g i) [
      | inl same ↦
          let is : text ≡ name = one_item names i text name (subst (λ k. slice_get names k ≡ Some text) same at) here in
          let read : get_or more g false ≡ flag =
          ap (λ k. get_or more k false) same ∙ ap (λ fs. get_or fs i false) grown ∙ get_or_push gates flag false i before.count in
          subst (λ t. (get_or more g false ≡ true) ↔ IsIn t set) (sym is)
          (subst (λ b. (b ≡ true) ↔ IsIn name set) (sym read) (decided flag (IsIn name set) told))
      | inr other ↦
          let count = before.count in
          let earlier : g < i = omega (arith, other) in
          let read : get_or more g false ≡ get_or gates g false =
          ap (λ fs. get_or fs g false) grown ∙ get_or_append_left gates (flag ∷ []) false g (omega arith) in
          subst (λ b. (b ≡ true) ↔ IsIn text set) (sym read) (before.each g text earlier at)
    ];
  }

  module _ (flags : LabelFlags) (all : AreGateFlags flags.gates.items (length names)) (others : flags.others ≡ false)
      (exit : MatchBool flags.exit (IsIn termination set) (IsIn termination set → ⊥))
      (inside : MatchBool flags.internal (IsIn internal set) (IsIn internal set → ⊥)) where
    -- the flags of all gates, and those of the other labels
    pub flags_of : AreFlagsOf set names flags
    flags_of l.Exit text shows =
        subst (λ t. (flags.exit ≡ true) ↔ IsIn t set) (sym shows) (decided flags.exit (IsIn termination set) exit)
    flags_of l.Internal text shows =
        subst (λ t. (flags.internal ≡ true) ↔ IsIn t set) (sym shows) (decided flags.internal (IsIn internal set) inside)
    flags_of (l.Gate g) text shows =
        subst (λ d. (get_or flags.gates.items g d ≡ true) ↔ IsIn text set) (sym others) (all.each g text (slice_get_within names g text shows) shows)

  -- with the internal action, they are those that are refused
  pub refused_of : (flags more : LabelFlags) → AreFlagsOf set names flags → ((k : Label) → HasLabel more k ↔ ((k ≡ l.Internal) ⊎ HasLabel flags k)) →
      (AreGateNames names → (k j : Label) (text : Text) → IsPrintedAs names k text → IsPrintedAs names j text → k ≡ j) → AreRefused set names more
  refused_of flags more of_set added unique named k text shows = (
    λ has. elim ((added k).0 has) [
      | inl same ↦ inl (subst (λ j. IsPrintedAs names j text) same shows)
      | inr old ↦ inr ((of_set k text shows).0 old)
    ],
    λ within. (added k).1 (elim within [
      | inl same ↦ inl (unique named k l.Internal text shows same)
      | inr has ↦ inr ((of_set k text shows).1 has)
    ]),
  )
