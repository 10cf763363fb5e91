-- The warnings about the calls of processes, one process after the other.
use Rattle.std.proofs.Common.{◌≡◌, ◌↔◌, ◌⊎◌, ℕ, ◌+◌, ◌<◌, ◌≤◌, zero, suc, List, [], ◌∷◌, ◌++◌, Some, slice_get, get_or, length, map, refl, sym, ap, ◌∙◌, subst, inl, inr, Bool, true, false, arith}
use Rattle.std.specs.Prelude.{MatchBool, not}
use Rattle.std.specs.List.{list_any}
use Rattle.std.proofs.Math.Dec.{eqb}
use Rattle.std.proofs.lemmas.Bool.{cases_lt}
use Rattle.std.specs.Option.{option_map}
use Rattle.std.proofs.lemmas.Option.{slice_get-get_or, slice_get-map, slice_get_within}
use Rattle.lotos_check.specs.NameLists.{Name, In, texts}
use Rattle.lotos_check.specs.Flat.{FlatProcess}
use Rattle.lotos_check.proofs.ListIndices.{get_in, in_get, one_item}
use Rattle.lotos_warn.specs.declared.warning.Warning.{Warning}
use Rattle.lotos_warn.specs.declared.warning.Warning.TheVariants.{ExchangedGates}
use Rattle.lotos_warn.specs.ShownNames.{shown_names}
use Rattle.lotos_warn.specs.Warnings.{IsExchanged}
use Rattle.lotos_warn.specs.Additions.{Adds, Includes, IsReachedIn}
use Rattle.lotos_warn.specs.CallSites.{Site, IsApart, IsOuterAt, IsPeerAt, IsExchangeAlone, IsExchangeAt, IsMovedAt, IsExchangeOf, IsExchangeOfAny, IsExchangeListed, from_process}
use Rattle.std.specs.Str.{bytes_eq}
use Rattle.std.proofs.lemmas.Slice.Eq.{bytes_eq-Decides}
use Rattle.lotos_warn.proofs.NameTests.{number_found, number_missing}

-- the warnings about the process at an index are those about that process
pub listed_as : (processes : List FlatProcess) (sites : List Site) (numbers moved : List ℕ) (index k : ℕ) → slice_get moved index ≡ Some k → (w : Warning) →
    IsExchangeOf processes sites numbers k w ↔ IsExchangeListed processes sites numbers moved index w
listed_as processes sites numbers moved index k at w = (
  (λ h. (k, at, h)),
  (λ (j, there, h). subst (λ n. IsExchangeOf processes sites numbers n w) (one_item moved index j k there at) h),
)

-- if the list has all processes that a call has with their gates in another order, the warnings about those of the list
-- are all
pub listed_all : (processes : List FlatProcess) (sites : List Site) (numbers moved : List ℕ) →
    ((k : ℕ) → In k moved ↔ ((index : ℕ) × IsMovedAt processes sites numbers index k)) → (w : Warning) →
    ((index : ℕ) × IsExchangeListed processes sites numbers moved index w) ↔ IsExchangeOfAny processes sites numbers w
listed_all processes sites numbers moved all w = (
  (λ (index, (k, at, h)). (k, h)),
  (λ (k, h). (
      let (site, outer, exchanged, shown) = h.exchange in
      let there = (all k).1 (
        h.index,
        record {
          own = h.own;
          located = h.located;
          site = site;
          called = outer.located;
          numbered = outer.numbered;
          exchanged = exchanged;
        },
      ) in
      let at = in_get moved k there in
      (at.0, (k, at.1, h)))),
)

-- an index of the list is below its length
pub listed_within : (processes : List FlatProcess) (sites : List Site) (numbers moved : List ℕ) (index : ℕ) (w : Warning) →
    IsExchangeListed processes sites numbers moved index w → index < length moved
listed_within processes sites numbers moved index w (k, at, h) = slice_get_within moved index k at

-- what is inside may be said in two ways
module _ (inside others : ℕ → Type 0) (same : (k : ℕ) → inside k ↔ others k) where
  -- so may what is outside
  pub apart_as : (index : ℕ) → IsApart inside index ↔ IsApart others index
  apart_as zero = ((λ h. h), (λ h. h))
  apart_as (suc k) = ((λ h i. h ((same k).1 i)), (λ h i. h ((same k).0 i)))

  module _ (sites : List Site) (numbers : List ℕ) (process : ℕ) where
    -- a call from outside
    outer_as : (index : ℕ) (site : Site) → IsOuterAt sites numbers inside process index site ↔ IsOuterAt sites numbers others process index site
    outer_as index site = (
      (λ h. record { located = h.located; numbered = h.numbered; outside = (apart_as site.caller).0 h.outside }),
      (λ h. record { located = h.located; numbered = h.numbered; outside = (apart_as site.caller).1 h.outside }),
    )

    -- one with the gates in their order
    pub peer_as : (own : List Name) (index : ℕ) → IsPeerAt sites numbers inside process own index ↔ IsPeerAt sites numbers others process own index
    peer_as own index = (
      (λ (site, outer, e). (site, (outer_as index site).0 outer, e)),
      (λ (site, outer, e). (site, (outer_as index site).1 outer, e)),
    )

    -- one with the gates in another order
    pub exchange_as : (own : List Name) (index : ℕ) (w : Warning) →
        IsExchangeAt sites numbers inside process own index w ↔ IsExchangeAt sites numbers others process own index w
    exchange_as own index w = (
      (λ (site, outer, x, e). (site, (outer_as index site).0 outer, x, e)),
      (λ (site, outer, x, e). (site, (outer_as index site).1 outer, x, e)),
    )

-- the warnings about a process with these formal gates, from outside of which no call has them in their order
pub of_process : (processes : List FlatProcess) (sites : List Site) (numbers : List ℕ) (process : ℕ) (own : FlatProcess) (inside : List ℕ) →
    slice_get processes process ≡ Some own → ((k : ℕ) → In k inside ↔ IsReachedIn (from_process processes process) k) →
    ((index : ℕ) → IsPeerAt sites numbers (λ k. In k inside) process own.formals index → ⊥) → (w : Warning) →
    ((index : ℕ) × IsExchangeAt sites numbers (λ k. In k inside) process own.formals index w) ↔ IsExchangeOf processes sites numbers process w
of_process processes sites numbers process own inside at same none w = (
  (λ (index, x). record {
    own = own;
    located = at;
    index = index;
    exchange = (exchange_as (λ k. In k inside) (IsReachedIn (from_process processes process)) same sites numbers process own.formals index w).0 x;
    alone = λ other p. none other
        ((peer_as (λ k. In k inside) (IsReachedIn (from_process processes process)) same sites numbers process own.formals other).1 p);
  }),
  (λ h. let e : h.own ≡ own = one_item processes process h.own own h.located at in (
    h.index,
    (exchange_as (λ k. In k inside) (IsReachedIn (from_process processes process)) same sites numbers process own.formals h.index w).1
        (subst (λ (p : FlatProcess). IsExchangeAt sites numbers (IsReachedIn (from_process processes process)) process p.formals h.index w) e h.exchange),
  )),
)

-- there are none if some call has them in their order
pub with_peer : (processes : List FlatProcess) (sites : List Site) (numbers : List ℕ) (process : ℕ) (own : FlatProcess) (inside : List ℕ) →
    slice_get processes process ≡ Some own → ((k : ℕ) → In k inside ↔ IsReachedIn (from_process processes process) k) →
    ((index : ℕ) × IsPeerAt sites numbers (λ k. In k inside) process own.formals index) → (w : Warning) → IsExchangeOf processes sites numbers process w → ⊥
with_peer processes sites numbers process own inside at same (index, p) w h =
    let e : h.own ≡ own = one_item processes process h.own own h.located at in
    h.alone index (subst (λ (q : FlatProcess). IsPeerAt sites numbers (IsReachedIn (from_process processes process)) process q.formals index) (sym e)
    ((peer_as (λ k. In k inside) (IsReachedIn (from_process processes process)) same sites numbers process own.formals index).0 p))

-- the warnings about a process with these formal gates
pub of_the_process : (processes : List FlatProcess) (sites : List Site) (numbers : List ℕ) (process : ℕ) (own : FlatProcess) (inside : List ℕ) →
    slice_get processes process ≡ Some own → ((k : ℕ) → In k inside ↔ IsReachedIn (from_process processes process) k) → (w : Warning) →
    IsExchangeAlone sites numbers (λ k. In k inside) process own.formals w ↔ IsExchangeOf processes sites numbers process w
of_the_process processes sites numbers process own inside at same w = (
  (λ h. (of_process processes sites numbers process own inside at same h.0 w).0 h.1),
  (λ h. let none : (index : ℕ) → IsPeerAt sites numbers (λ k. In k inside) process own.formals index → ⊥ =
      λ index p. with_peer processes sites numbers process own inside at same (index, p) w h in
      (none, (of_process processes sites numbers process own inside at same none w).1 h)),
)

-- there are none of a number without a process
pub of_no_process : (processes : List FlatProcess) (sites : List Site) (numbers : List ℕ) (process : ℕ) → length processes ≤ process → (w : Warning) →
    IsExchangeOf processes sites numbers process w → ⊥
of_no_process processes sites numbers process past w h = let within = slice_get_within processes process h.own h.located in omega arith

-- what is read within a list is mapped there
pub map_get : {X Y : Type 0} (f : X → Y) (xs : List X) (k : ℕ) (d : X) → k < length xs → slice_get (map f xs) k ≡ Some (f (get_or xs k d))
map_get f xs k d h = slice_get-map f xs k ∙ ap (option_map f) (slice_get-get_or xs k d h)

-- what a test says if it is true
pub said : (A B : Type 0) (test : Bool) → MatchBool test A B → test ≡ true → A
said A B true h e = h
said A B false h e = cc

-- what it says if it is false
pub denied : (A B : Type 0) (test : Bool) → MatchBool test A B → test ≡ false → B
denied A B true h e = cc
denied A B false h e = h

-- a number that a test does not find is apart
tested : (k : ℕ) (inside : List ℕ) (there : Bool) → there ≡ list_any (eqb k) inside →
    MatchBool (not there) (IsApart (λ n. In n inside) (suc k)) (IsApart (λ n. In n inside) (suc k) → ⊥)
tested k inside true found = λ h. h (number_found k inside (sym found))
tested k inside false none = number_missing k inside (sym none)

-- the same of the index of a definition
pub apart_tested : (k index : ℕ) (inside : List ℕ) (there : Bool) → suc k ≡ index → there ≡ list_any (eqb k) inside →
    MatchBool (not there) (IsApart (λ n. In n inside) index) (IsApart (λ n. In n inside) index → ⊥)
apart_tested k index inside there e found =
    subst (λ i. MatchBool (not there) (IsApart (λ n. In n inside) i) (IsApart (λ n. In n inside) i → ⊥)) e (tested k inside there found)

-- the call at an index, of which it was tested where it is, and whether it has the gates
module _ (sites : List Site) (numbers : List ℕ) (inside : ℕ → Type 0) (process index : ℕ) (x : Site) (here : slice_get sites index ≡ Some x) where
  -- whether it is outside
  pub outer_tested : (test : Bool) → slice_get numbers index ≡ Some process → MatchBool test (IsApart inside x.caller) (IsApart inside x.caller → ⊥) →
      (site : Site) → slice_get sites index ≡ Some site →
      MatchBool test (IsOuterAt sites numbers inside process index site) (IsOuterAt sites numbers inside process index site → ⊥)
  outer_tested true numbered h site at =
      record { located = at; numbered = numbered; outside = subst (λ (y : Site). IsApart inside y.caller) (one_item sites index x site here at) h }
  outer_tested false numbered h site at =
      λ o. h (subst (λ (y : Site). IsApart inside y.caller) (sym (one_item sites index x site here at)) o.outside)

  -- whether it has the gates in their order
  pub peer_tested : (own : List Name) (test : Bool) → IsOuterAt sites numbers inside process index x →
      MatchBool test (texts x.actuals ≡ own) (texts x.actuals ≡ own → ⊥) →
      MatchBool test (IsPeerAt sites numbers inside process own index) (IsPeerAt sites numbers inside process own index → ⊥)
  peer_tested own true outer h = (x, outer, h)
  peer_tested own false outer h =
      λ (site, o, e). h (subst (λ (y : Site). texts y.actuals ≡ own) (sym (one_item sites index x site here o.located)) e)

  -- the warning about a call from outside
  pub exchange_here : (own : List Name) → IsOuterAt sites numbers inside process index x → (w : Warning) →
      (IsExchanged (texts x.actuals) own × (w ≡ ExchangedGates x.callee (shown_names own))) ↔ IsExchangeAt sites numbers inside process own index w
  exchange_here own outer w = (
    (λ (e, m). (x, outer, e, m)),
    (λ (site, o, e, m). subst (λ (y : Site). IsExchanged (texts y.actuals) own × (w ≡ ExchangedGates y.callee (shown_names own)))
        (sym (one_item sites index x site here o.located)) (e, m)),
  )

  -- none about another
  pub exchange_nowhere : (own : List Name) → (IsOuterAt sites numbers inside process index x → ⊥) → (w : Warning) →
      IsExchangeAt sites numbers inside process own index w → ⊥
  exchange_nowhere own none w (site, o, e, m) =
      none (subst (IsOuterAt sites numbers inside process index) (sym (one_item sites index x site here o.located)) o)

-- what holds at no index below one, nor there
pub none_next : (P : ℕ → Type 0) (index : ℕ) → ((i : ℕ) → i < index → P i → ⊥) → (P index → ⊥) → (i : ℕ) → i < index + 1 → P i → ⊥
none_next P index before here i below p = elim (cases_lt i index) [
  | inl less ↦ before i less p
  | inr past ↦ (let last : i ≡ index = omega arith in here (subst P last p))
]

-- the process of a call that has its gates in another order
module _ (processes : List FlatProcess) (sites : List Site) (numbers : List ℕ) (index k : ℕ) (numbered : slice_get numbers index ≡ Some k) where
  -- it is the process of the call
  pub moved_one : (own : FlatProcess) (x : Site) → slice_get processes k ≡ Some own → slice_get sites index ≡ Some x →
      IsExchanged (texts x.actuals) own.formals → (j : ℕ) → (k ≡ j) ↔ IsMovedAt processes sites numbers index j
  moved_one own x at here exchanged j = (
    (λ e. subst (IsMovedAt processes sites numbers index) e
        (record { own = own; located = at; site = x; called = here; numbered = numbered; exchanged = exchanged })),
    (λ h. one_item numbers index k j numbered h.numbered),
  )

  -- none if it has not
  pub moved_not : (own : FlatProcess) (x : Site) → slice_get processes k ≡ Some own → slice_get sites index ≡ Some x →
      (IsExchanged (texts x.actuals) own.formals → ⊥) → (j : ℕ) → IsMovedAt processes sites numbers index j → ⊥
  moved_not own x at here none j h =
      let e = one_item numbers index k j numbered h.numbered in
      let same = one_item processes j h.own own h.located (subst (λ n. slice_get processes n ≡ Some own) e at) in
      let there = one_item sites index h.site x h.called here in
      none (subst (λ (p : FlatProcess). IsExchanged (texts x.actuals) p.formals) same
      (subst (λ (y : Site). IsExchanged (texts y.actuals) h.own.formals) there h.exchanged))

  -- nor if there is no such process
  pub moved_nowhere : length processes ≤ k → (j : ℕ) → IsMovedAt processes sites numbers index j → ⊥
  moved_nowhere past j h =
      let e = one_item numbers index k j numbered h.numbered in
      let within = slice_get_within processes j h.own h.located in
      omega arith

-- nor if there is no such call
pub moved_past : (processes : List FlatProcess) (sites : List Site) (numbers : List ℕ) (index : ℕ) → length numbers ≤ index →
    (j : ℕ) → IsMovedAt processes sites numbers index j → ⊥
moved_past processes sites numbers index past j h = let within = slice_get_within numbers index j h.numbered in omega arith

-- two lists have the same names if each includes the other
module _ (names others given own : List Name) (is_given : (n : Name) → In n given ↔ In n names) (is_own : (n : Name) → In n own ↔ In n others) where
  -- the names of both are the same
  abbrev pub AreSame : Type 0
  AreSame = (n : Name) → In n names ↔ In n others

  -- each includes the other
  pub same_tested : (test : Bool) → Includes own names → MatchBool test (Includes given others) (Includes given others → ⊥) →
      MatchBool test AreSame (AreSame → ⊥)
  same_tested true all more = λ n. ((λ i. (is_own n).0 (all n i)), (λ i. (is_given n).0 (more n i)))
  same_tested false all lost = λ same. lost (λ n i. (is_given n).1 ((same n).1 i))

  -- one does not include the other
  pub same_lost : (test : Bool) → test ≡ false → (Includes own names → ⊥) → MatchBool test AreSame (AreSame → ⊥)
  same_lost true e lost = cc
  same_lost false e lost = λ same. lost (λ n i. (is_own n).1 ((same n).0 i))

-- names in another order are not the same in the same order
module _ (actuals formals : List Name) where
  -- they are the same
  pub exchanged_never : actuals ≡ formals → IsExchanged actuals formals → ⊥
  exchanged_never e h = h.moved e

  -- they are not, and their names are or are not
  pub exchanged_tested : (test : Bool) → (actuals ≡ formals → ⊥) →
      MatchBool test ((n : Name) → In n actuals ↔ In n formals) (((n : Name) → In n actuals ↔ In n formals) → ⊥) →
      MatchBool test (IsExchanged actuals formals) (IsExchanged actuals formals → ⊥)
  exchanged_tested true moved same = record { same = same; moved = moved }
  exchanged_tested false moved none = λ h. none h.same

-- two names that a test tells apart
pub names_differ : (m n : Name) (test : Bool) → test ≡ not (bytes_eq m n) → test ≡ true → m ≡ n → ⊥
names_differ m n test found differ e =
    let f : test ≡ false = subst (λ b. test ≡ not b) ((bytes_eq-Decides m n).1 e) found in
    cc

-- two that it does not tell apart
pub names_same : (m n : Name) (test : Bool) → test ≡ not (bytes_eq m n) → test ≡ false → m ≡ n
names_same m n test found same = (bytes_eq-Decides m n).0 (not_lost (bytes_eq m n) (sym found ∙ same))
  where
    not_lost : (b : Bool) → not b ≡ false → b ≡ true
    not_lost true e = refl
    not_lost false e = cc
