-- Labels of two tables with the same text, and the first label of a list that another one does not have.
use Rattle.std.proofs.Common.{◌≡◌, ◌⊎◌, ◌∙◌, ◌<◌, ◌≤◌, ◌+◌, ℕ, List, [], ◌∷◌, ◌++◌, None, Option, Some, Result, Ok, Err, length, refl, sym, ap, subst, inl, inr, arith, slice_get, get_or, Ordering}
use Rattle.std.specs.Prelude.{Bool, IfOk, IfSome, MatchBool, true, false}
use Rattle.std.specs.Result.{is_ok}
use Rattle.std.specs.Cmp.{IsTotalOrder}
use Rattle.std.specs.List.{HoldsAt}
use Rattle.std.specs.List.Sorted.{IsBinarySearchResult, IsNonDecreasingBy, IsSearchInRange, IsStrictlySortedBy}
use Rattle.std.specs.Cmp.Lexicographic.{slice_cmp}
use Rattle.std.specs.Ordering.{is_lt, nat_cmp, ordering_index}
use Rattle.std.specs.declared.cmp.Ordering.TheVariants.{Less, Equal, Greater}
use Rattle.std.proofs.lemmas.Cmp.{tied_itself}
use Rattle.std.proofs.lemmas.List.{length-append}
use Rattle.std.proofs.lemmas.List.Sorted.{searchable_from_sorted}
use Rattle.std.proofs.lemmas.Map.Keys.{Less-from_sorted}
use Rattle.std.proofs.lemmas.Option.{slice_get-get_or, slice_get_within}
use Rattle.lotos_check.specs.NameLists.{Below, In, Name}
use Rattle.lotos_check.proofs.ListIndices.{get_added, get_in, in_contains, in_get, one_item}
use Rattle.lotos_check.proofs.NameOrder.{Says, below_differ, below_irrefl, below_trans, one_of_three, nat_says, text_says}
use Rattle.lotos_store.specs.declared.label.Label.{Label as TermLabel}
use Rattle.lotos_store.specs.declared.label.Label.TheVariants as l
use Rattle.lotos_terms.specs.TableView.{IsLabel, IsPrintedAs, TableView}
use Rattle.lotos_listing.specs.Lookups.{text_of}
use Rattle.lotos_listing.proofs.UniqueQuestion.{IsOneLabel}
use Rattle.lotos_compare.specs.CommonLabels.{ArePartners, HasPartner, IsAloneIfAny, IsAloneIfAsked, IsGateLabel, IsGateNamed, IsPartnerLabel}

-- a search among strictly sorted keys does not miss one of them
module _ {K : Type 0} (cmp : K → K → Ordering) (order : IsTotalOrder cmp) (keys : List K) (sorted : IsStrictlySortedBy cmp keys) (x : K) where
  -- the keys do not fall, compared with the one that is searched for
  searchable : IsNonDecreasingBy (λ y. ordering_index (cmp y x)) keys
  searchable = searchable_from_sorted order (λ y. y) keys x (λ k d low high.
      let less = Less-from_sorted cmp keys k (k + 1) d sorted (omega arith) high in
      let flipped = order.antisymm (get_or keys (k + 1) d) (get_or keys k d) in
      ap is_lt (rw less at flipped))

  -- a search for one of them does not fail
  pub never_missing : In x keys → (k : ℕ) → IsBinarySearchResult (λ y. cmp y x) keys (Err k) → ⊥
  never_missing i k parted =
      let place = in_contains keys x i in
      let sides = parted searchable in
      let itself = tied_itself order x in
      let at_ : get_or keys place.0 x ≡ x = place.2 in
      let not_before : place.0 < k → ⊥ = λ h. let less = sides.0 place.0 x (omega arith) h in let now = rw at_ at less in cc in
      let not_behind : k ≤ place.0 → ⊥ = λ h. let greater = sides.1 place.0 x h place.1 in let now = rw at_ at greater in cc in
      omega (arith, not_before, not_behind)

  -- what a search returns tells whether the key is there
  pub search_tells : ((j k : K) → cmp j k ≡ Equal → j ≡ k) → (found : Result ℕ ℕ) → IsSearchInRange found (length keys) →
      IfOk found (HoldsAt (λ y. cmp y x ≡ Equal) keys) → IsBinarySearchResult (λ y. cmp y x) keys found → (b : Bool) → b ≡ is_ok found →
      MatchBool b (In x keys) (In x keys → ⊥)
  search_tells same (Ok k) within equal parted b is =
      let there = slice_get-get_or keys k x within ∙ ap (λ y. Some y) (same (get_or keys k x) x (equal x)) in
      subst (λ b. MatchBool b (In x keys) (In x keys → ⊥)) (sym is) (get_in keys k x there)
  search_tells same (Err k) within equal parted b is =
      subst (λ b. MatchBool b (In x keys) (In x keys → ⊥)) (sym is) (λ there. never_missing there k parted)

-- the first so many gates have their partners
pub record ArePartnersTo (own other : List Name) (count : ℕ) (partners : List (Option ℕ)) : Type 0 where
  pub each : length partners ≡ count
  pub named : (g : ℕ) (n : Name) (gate : Option ℕ) → slice_get own g ≡ Some n → slice_get partners g ≡ Some gate → IsGateNamed other n gate

-- none has at first
pub partners_none : (own other : List Name) → ArePartnersTo own other 0 []
partners_none own other = record { each = refl; named = λ g n gate at there. none g n gate there }
  where
    none : (g : ℕ) (n : Name) (gate : Option ℕ) → slice_get {X = Option ℕ} [] g ≡ Some gate → IsGateNamed other n gate
    none g n gate there = cc

-- one more has
pub partners_push : (own other : List Name) (count : ℕ) (partners : List (Option ℕ)) (n : Name) (gate : Option ℕ) → ArePartnersTo own other count partners →
    slice_get own count ≡ Some n → IsGateNamed other n gate → ArePartnersTo own other (count + 1) (partners ++ gate ∷ [])
partners_push own other count partners n gate are at is = record {
  each = let longer = length-append partners (gate ∷ []) in let each = are.each in omega arith;
  named = λ g m other_gate here there. elim (get_added partners gate g other_gate there) [
    | inl before ↦ are.named g m other_gate here before
    | inr (end, same) ↦
        let index : g ≡ count = end ∙ are.each in
        let name : n ≡ m = one_item own count n m at (subst (λ k. slice_get own k ≡ Some m) index here) in
        subst (IsGateNamed other m) same (subst (λ k. IsGateNamed other k gate) name is)
  ];
}

-- all have in the end
pub partners_all : (own other : List Name) (count : ℕ) (partners : List (Option ℕ)) → ArePartnersTo own other count partners → count ≡ length own →
    ArePartners own other partners
partners_all own other count partners are end = record { each = are.each ∙ end; named = are.named }

-- termination is its own partner
pub exit_partner : (own other : List Name) → IsPartnerLabel own other l.Exit (Some l.Exit)
exit_partner own other = refl

-- and so is the internal action
pub internal_partner : (own other : List Name) → IsPartnerLabel own other l.Internal (Some l.Internal)
internal_partner own other = refl

module _ (own other : List Name) (partners : List (Option ℕ)) (are : ArePartners own other partners) (g : ℕ) where
  -- the partner of a gate has its text
  pub gate_partner : (n : Name) → slice_get own g ≡ Some n → (h : ℕ) → slice_get partners g ≡ Some (Some h) →
      IsPartnerLabel own other (l.Gate g) (Some (l.Gate h))
  gate_partner n at h there = are.named g n (Some h) at there ∙ ap (λ m. Some m) (sym (text n at))
    where
      text : (n : Name) → slice_get own g ≡ Some n → text_of own (l.Gate g) ≡ n
      text n at = rw at refl

  -- if a gate has none, no label of the other table has its text
  pub no_partner : (n : Name) → slice_get own g ≡ Some n → slice_get partners g ≡ Some None → IsOneLabel own →
      IsPartnerLabel own other (l.Gate g) None
  no_partner n at there one m shown = by m shown
    where
      text : text_of own (l.Gate g) ≡ n
      text = rw at refl

      apart : (k : TermLabel) → IsPrintedAs own k (text_of own (l.Gate g)) → l.Gate g ≡ k
      apart k h = one (l.Gate g) k (text_of own (l.Gate g)) (at ∙ ap (λ s. Some s) (sym text)) h

      by : (m : TermLabel) → IsPrintedAs other m (text_of own (l.Gate g)) → ⊥
      by (l.Gate h) shown = are.named g n None at there (get_in other h n (subst (λ s. slice_get other h ≡ Some s) text shown))
      by l.Exit shown = let e = apart l.Exit shown in cc
      by l.Internal shown = let e = apart l.Internal shown in cc

  -- what is made of a gate's partner is its partner label
  pub gate_answer : (n : Name) → slice_get own g ≡ Some n → IsOneLabel own → (gate : Option ℕ) → slice_get partners g ≡ Some gate → (o : Option TermLabel) →
      IsGateLabel gate o → IsPartnerLabel own other (l.Gate g) o
  gate_answer n at one None there o is = subst (IsPartnerLabel own other (l.Gate g)) (sym is) (no_partner n at there one)
  gate_answer n at one (Some h) there o is = subst (IsPartnerLabel own other (l.Gate g)) (sym is) (gate_partner n at h there)

-- the label has a partner in the other list exactly if its partner label is there
pub partner_tells : (own other : List Name) (label m : TermLabel) (others : List TermLabel) → IsOneLabel other → IsPartnerLabel own other label (Some m) →
    (b : Bool) → MatchBool b (In m others) (In m others → ⊥) → MatchBool b (HasPartner own other label others) (HasPartner own other label others → ⊥)
partner_tells own other label m others one is true there = (m, there, is)
partner_tells own other label m others one is false out =
    λ has. out (subst (λ j. In j others) (one has.0 m (text_of own label) has.2 is) has.1)

-- all labels before an index have partners
abbrev pub HavePartnersTo : (own other : List Name) → (labels others : List TermLabel) → ℕ → Type 0
HavePartnersTo own other labels others count = (k : ℕ) (m : TermLabel) → k < count → slice_get labels k ≡ Some m → HasPartner own other m others

-- one more has
pub have_more : (own other : List Name) (labels others : List TermLabel) (count : ℕ) → HavePartnersTo own other labels others count → (label : TermLabel) →
    slice_get labels count ≡ Some label → HasPartner own other label others → HavePartnersTo own other labels others (count + 1)
have_more own other labels others count so_far label at has k m below there = elim (last_or_before k count below) [
  | inl before ↦ so_far k m before there
  | inr same ↦ subst (λ j. HasPartner own other j others) (one_item labels count label m at (subst (λ n. slice_get labels n ≡ Some m) same there)) has
]
  where
    last_or_before : (k count : ℕ) → k < count + 1 → (k < count) ⊎ (k ≡ count)
    last_or_before k count below = elim (one_of_three ◌<◌ k count _ (nat_says k count)) [
      | inl less ↦ inl less
      | inr (inl same) ↦ inr same
      | inr (inr more) ↦ absurd (omega arith)
    ]

-- all have
pub have_all : (own other : List Name) (labels others : List TermLabel) (count : ℕ) → HavePartnersTo own other labels others count →
    length labels ≤ count → (m : TermLabel) → In m labels → HasPartner own other m others
have_all own other labels others count so_far end m there =
    let (k, at) = in_get labels m there in
    let within = slice_get_within labels k m at in
    so_far k m (omega arith) at

-- a label that is alone is one of the table, if all of the list are
pub alone_known : (table : TableView) (own other : List Name) (labels others : List TermLabel) (o : Option TermLabel) →
    ((k : TermLabel) → In k labels → IsLabel table k) → IsAloneIfAny own other labels others o → IfSome o (IsLabel table)
alone_known table own other labels others None known all = tt
alone_known table own other labels others (Some l) known alone = known l (get_in labels alone.index l alone.here)

-- the same if it is asked for
pub asked_known : (table : TableView) (within : Bool) (own other : List Name) (labels others : List TermLabel) (o : Option TermLabel) →
    ((k : TermLabel) → In k labels → IsLabel table k) → IsAloneIfAsked within own other labels others o → IfSome o (IsLabel table)
asked_known table true own other labels others o known none = subst (λ o. IfSome o (IsLabel table)) (sym none) tt
asked_known table false own other labels others o known alone = alone_known table own other labels others o known alone

-- the test of two texts tells whether one is below the other
pub smaller_tells : (x y : Name) (b : Bool) → b ≡ is_lt (slice_cmp nat_cmp x y) → MatchBool b (Below x y) (Below x y → ⊥)
smaller_tells x y b is = by (slice_cmp nat_cmp x y) (text_says x y) b is
  where
    by : (o : Ordering) → Says Below x y o → (b : Bool) → b ≡ is_lt o → MatchBool b (Below x y) (Below x y → ⊥)
    by Less says b is = subst (λ b. MatchBool b (Below x y) (Below x y → ⊥)) (sym is) says
    by Equal says b is = subst (λ b. MatchBool b (Below x y) (Below x y → ⊥)) (sym is) (λ less. below_differ x y less says)
    by Greater says b is =
        subst (λ b. MatchBool b (Below x y) (Below x y → ⊥)) (sym is) (λ less. below_irrefl x (below_trans x y x less says))
