-- Classes of states that are split by flags.
use Rattle.std.proofs.Common.{◌≡◌, ◌⊎◌, ◌∙◌, ◌<◌, ◌≤◌, ◌+◌, ℕ, zero, suc, Bool, true, false, cond, MatchBool, List, [], ◌∷◌, ◌++◌, Option, Some, None, length, ap, arith, inl, inr, refl, subst, sym, nat_eq, slice_get, set, length-append, get_or}
use Rattle.std.proofs.lemmas.Option.{get_or_from_slice_get, same_Some, slice_get-get_or, slice_get_within}
use Rattle.std.proofs.lemmas.Bool.Decides.{nat_tests}
use Rattle.lotos_check.proofs.ListIndices.{get_added, get_front, get_last, get_some, one_item}
use Rattle.lotos_suite.specs.ApartSearch.{AreAlike, AreClassed, AreSplit, strays}

-- ---- flags

-- flags of which neither is another one are equal
same_flags : (a b c : Bool) → (a ≡ c → ⊥) → (b ≡ c → ⊥) → a ≡ b
same_flags true true c p q = refl
same_flags false false c p q = refl
same_flags true false true p q = absurd (p refl)
same_flags true false false p q = absurd (q refl)
same_flags false true true p q = absurd (q refl)
same_flags false true false p q = absurd (p refl)

-- equal or not
alike_or_not : (a b : Bool) → (a ≡ b) ⊎ (a ≡ b → ⊥)
alike_or_not true true = inl refl
alike_or_not false false = inl refl
alike_or_not true false = inr (λ e. cc)
alike_or_not false true = inr (λ e. cc)

-- ---- lists with an item set

-- a list with one more
pub append_one : {X : Type 0} (xs : List X) (x : X) → length (xs ++ x ∷ []) ≡ length xs + 1
append_one xs x = length-append xs (x ∷ [])

-- a list is as long as before
pub set_length : {X : Type 0} (xs : List X) (k : ℕ) (x : X) → length (set xs k x) ≡ length xs
set_length [] k x = refl
set_length (y ∷ xs) zero x = refl
set_length (y ∷ xs) (suc k) x = ap suc (set_length xs k x)

-- the item that is set
pub set_here : {X : Type 0} (xs : List X) (k : ℕ) (x : X) → k < length xs → slice_get (set xs k x) k ≡ Some x
set_here [] k x less = absurd (omega arith)
set_here (y ∷ xs) zero x less = refl
set_here (y ∷ xs) (suc k) x less = set_here xs k x (omega arith)

-- another item
pub set_other : {X : Type 0} (xs : List X) (k j : ℕ) (x y : X) → (j ≡ k → ⊥) → slice_get xs j ≡ Some y → slice_get (set xs k x) j ≡ Some y
set_other [] k j x y other at = at
set_other (z ∷ xs) zero zero x y other at = absurd (other refl)
set_other (z ∷ xs) zero (suc j) x y other at = at
set_other (z ∷ xs) (suc k) zero x y other at = at
set_other (z ∷ xs) (suc k) (suc j) x y other at = set_other xs k j x y (λ e. other (ap suc e)) at

-- an item is the one that is set, or was there
pub set_cases : {X : Type 0} (xs : List X) (k j : ℕ) (x y : X) → slice_get (set xs k x) j ≡ Some y →
    ((k ≡ j) × (x ≡ y)) ⊎ (slice_get xs j ≡ Some y)
set_cases [] k j x y at = inr at
set_cases (z ∷ xs) zero zero x y at = inl (refl, same_Some x y at)
set_cases (z ∷ xs) zero (suc j) x y at = inr at
set_cases (z ∷ xs) (suc k) zero x y at = inr at
set_cases (z ∷ xs) (suc k) (suc j) x y at = elim (set_cases xs k j x y at) [ inl h ↦ inl (ap suc h.0, h.1) | inr h ↦ inr h ]

-- ---- states that are not those of their classes

-- a sum with nothing
plus_zero : (n : ℕ) → n ≡ n + 0
plus_zero n = omega arith

-- an index in a list and in the list without its first item
shift : (n j : ℕ) (xs : List ℕ) → slice_get xs j ≡ Some (n + suc j) → slice_get xs j ≡ Some (n + 1 + j)
shift n j xs at = at ∙ ap (λ z. Some z) (let e : n + suc j ≡ n + 1 + j = omega arith in e)

-- and back
unshift : (n j : ℕ) (xs : List ℕ) → slice_get xs j ≡ Some (n + 1 + j) → slice_get xs j ≡ Some (n + suc j)
unshift n j xs at = at ∙ ap (λ z. Some z) (let e : n + 1 + j ≡ n + suc j = omega arith in e)

-- a state is that of its class or not
abbrev stray : ℕ → ℕ → ℕ
stray n c = cond (nat_eq c n) 0 1

-- if it stays so, it counts no more
first : (n c d : ℕ) → (c ≡ n → d ≡ n) → stray n d ≤ stray n c
first n c d kept = grind (arith, nat_tests)

-- if it becomes so, it counts less
first_less : (n c d : ℕ) → (c ≡ n → ⊥) → d ≡ n → stray n d + 1 ≤ stray n c
first_less n c d other same = grind (arith, nat_tests)

-- if all that are those of their classes stay so, there are no more others
pub no_more_strays : (n : ℕ) (old new : List ℕ) → length old ≡ length new →
    ((j : ℕ) → slice_get old j ≡ Some (n + j) → slice_get new j ≡ Some (n + j)) → strays n new ≤ strays n old
no_more_strays n [] [] same kept = omega arith
no_more_strays n [] (d ∷ new) same kept = absurd (omega arith)
no_more_strays n (c ∷ old) [] same kept = absurd (omega arith)
no_more_strays n (c ∷ old) (d ∷ new) same kept =
    let rest = no_more_strays (n + 1) old new (omega arith) (λ j at. shift n j new (kept (suc j) (unshift n j old at))) in
    let here = first n c d (λ e. same_Some d (n + 0) (kept 0 (ap (λ z. Some z) (e ∙ plus_zero n))) ∙ sym (plus_zero n)) in
    omega arith

-- if one more is so, there are fewer others
pub fewer_strays : (n : ℕ) (old new : List ℕ) → length old ≡ length new →
    ((j : ℕ) → slice_get old j ≡ Some (n + j) → slice_get new j ≡ Some (n + j)) →
    (k : ℕ) → (slice_get old k ≡ Some (n + k) → ⊥) → slice_get new k ≡ Some (n + k) → strays n new + 1 ≤ strays n old
fewer_strays n [] [] same kept k other is = absurd (let h = slice_get_within [] k (n + k) is in omega arith)
fewer_strays n [] (d ∷ new) same kept k other is = absurd (omega arith)
fewer_strays n (c ∷ old) [] same kept k other is = absurd (omega arith)
fewer_strays n (c ∷ old) (d ∷ new) same kept zero other is =
    let rest = no_more_strays (n + 1) old new (omega arith) (λ j at. shift n j new (kept (suc j) (unshift n j old at))) in
    let here = first_less n c d (λ e. other (ap (λ z. Some z) (e ∙ plus_zero n))) (same_Some d (n + 0) is ∙ sym (plus_zero n)) in
    omega arith
fewer_strays n (c ∷ old) (d ∷ new) same kept (suc k) other is =
    let rest = fewer_strays (n + 1) old new (omega arith) (λ j at. shift n j new (kept (suc j) (unshift n j old at))) k
    (λ e. other (unshift n k old e)) (shift n k new is) in
    let here = first n c d (λ e. same_Some d (n + 0) (kept 0 (ap (λ z. Some z) (e ∙ plus_zero n))) ∙ sym (plus_zero n)) in
    omega arith

-- ---- classes that are split

-- states are not alike where the test fails
pub unless : (flags : List Bool) (j k : ℕ) (b : Bool) → MatchBool b (AreAlike flags j k) (AreAlike flags j k → ⊥) → b ≡ false → AreAlike flags j k → ⊥
unless flags j k true h e = absurd (let z : true ≡ false = e in cc)
unless flags j k false h e = h

-- and are where it passes
pub unless_not : (flags : List Bool) (j k : ℕ) (b : Bool) → MatchBool b (AreAlike flags j k) (AreAlike flags j k → ⊥) → b ≡ true → AreAlike flags j k
unless_not flags j k true h e = h
unless_not flags j k false h e = absurd (let z : false ≡ true = e in cc)

-- the class of a state is a state
pub class_within : (classes : List ℕ) → AreClassed (length classes) classes → (j : ℕ) → j < length classes → get_or classes j 0 < length classes
class_within classes are j less = slice_get_within classes (get_or classes j 0) (get_or classes j 0)
    (are.closed j (get_or classes j 0) (slice_get-get_or classes j 0 less))

-- flags that are read at two states
pub read_alike : (flags : List Bool) (j k : ℕ) → j < length flags → k < length flags → get_or flags j false ≡ get_or flags k false → AreAlike flags j k
read_alike flags j k in_j in_k same = record {
  flag = get_or flags j false;
  first = slice_get-get_or flags j false in_j;
  second = slice_get-get_or flags k false in_k ∙ ap (λ z. Some z) (sym same);
}

-- and the other way round
pub alike_read : (flags : List Bool) (j k : ℕ) → AreAlike flags j k → get_or flags j false ≡ get_or flags k false
alike_read flags j k h = get_or_from_slice_get flags j h.flag false h.first ∙ sym (get_or_from_slice_get flags k h.flag false h.second)

module _ (flags : List Bool) where
  -- what is known of the flags of two states
  pub alike : (j k : ℕ) → j < length flags → k < length flags → AreAlike flags j k ⊎ (AreAlike flags j k → ⊥)
  alike j k in_j in_k =
      let (a, at_j) = get_some flags j in_j in
      let (b, at_k) = get_some flags k in_k in
      elim (alike_or_not a b) [
        | inl e ↦ inl (record { flag = a; first = at_j; second = at_k ∙ ap (λ z. Some z) (sym e) })
        | inr other ↦ inr (λ h. other (one_item flags j a h.flag at_j h.first ∙ one_item flags k h.flag b h.second at_k))
      ]

  -- two states that are both unlike a third one are alike
  pub alike_if_unlike : (j k c : ℕ) → j < length flags → k < length flags → c < length flags → (AreAlike flags j c → ⊥) →
      (AreAlike flags k c → ⊥) → AreAlike flags j k
  alike_if_unlike j k c in_j in_k in_c p q =
      let (a, at_j) = get_some flags j in_j in
      let (b, at_k) = get_some flags k in_k in
      let (z, at_c) = get_some flags c in_c in
      let same = same_flags a b z (λ e. p (record { flag = a; first = at_j; second = at_c ∙ ap (λ v. Some v) (sym e) }))
      (λ e. q (record { flag = b; first = at_k; second = at_c ∙ ap (λ v. Some v) (sym e) })) in
      record { flag = a; first = at_j; second = at_k ∙ ap (λ v. Some v) (sym same) }

  -- of three states
  pub alike_again : (j k c : ℕ) → AreAlike flags j k → AreAlike flags j c → AreAlike flags k c
  alike_again j k c h g = record {
    flag = h.flag;
    first = h.second;
    second = g.second ∙ ap (λ v. Some v) (one_item flags j g.flag h.flag g.first h.first);
  }

  -- the other way round
  pub alike_back : (j k : ℕ) → AreAlike flags j k → AreAlike flags k j
  alike_back j k h = record { flag = h.flag; first = h.second; second = h.first }

  module _ (classes : List ℕ) (counted : length flags ≡ length classes) (classed : AreClassed (length classes) classes) where
    -- the class of a state is a state
    pub class_below : (j c : ℕ) → slice_get classes j ≡ Some c → c < length classes
    class_below j c at = slice_get_within classes c c (classed.closed j c at)

    -- the states before this one are split
    pub record IsPartSplit (others : List (Option ℕ)) (split : List ℕ) : Type 0 where
      pub wide : length others ≡ length classes
      pub within : length split ≤ length classes
      pub entries : (j c e : ℕ) → slice_get split j ≡ Some e → slice_get classes j ≡ Some c →
          (AreAlike flags j c × (e ≡ c)) ⊎ ((AreAlike flags j c → ⊥) × (slice_get others c ≡ Some (Some e)))
      pub leavers : (c e : ℕ) → slice_get others c ≡ Some (Some e) →
          (slice_get classes e ≡ Some c) × (AreAlike flags e c → ⊥) × (slice_get split e ≡ Some e)

    -- none
    pub split_none : (others : List (Option ℕ)) → length others ≡ length classes →
        ((c e : ℕ) → slice_get others c ≡ Some (Some e) → ⊥) → IsPartSplit others []
    split_none others wide none = record {
      wide = wide;
      within = omega arith;
      entries = λ j c e at is. absurd (let h : None ≡ Some e = at in cc);
      leavers = λ c e at. absurd (none c e at);
    }

    module _ (others : List (Option ℕ)) (split : List ℕ) (part : IsPartSplit others split) (class : ℕ)
        (at : slice_get classes (length split) ≡ Some class) where
      -- a state stays in its class
      pub split_stays : AreAlike flags (length split) class → IsPartSplit others (split ++ class ∷ [])
      split_stays same = record {
        wide = part.wide;
        within = let long = slice_get_within classes (length split) class at in let more = append_one split class in omega arith;
        entries = λ j c e here is. elim (get_added split class j e here) [
          | inl before ↦ part.entries j c e before is
          | inr (j_is, e_is) ↦
              let is' : slice_get classes (length split) ≡ Some c = subst (λ n. slice_get classes n ≡ Some c) j_is is in
              let c_is : class ≡ c = one_item classes (length split) class c at is' in
              inl (subst (λ n. AreAlike flags n c) (sym j_is) (subst (AreAlike flags (length split)) c_is same), sym e_is ∙ c_is)
        ];
        leavers = λ c e is. let (p, q, r) = part.leavers c e is in (p, q, get_front split (class ∷ []) e e r);
      }

      -- a state leaves its class, which others left
      pub split_follows : (e : ℕ) → (AreAlike flags (length split) class → ⊥) → slice_get others class ≡ Some (Some e) →
          IsPartSplit others (split ++ e ∷ [])
      split_follows other unlike has = record {
        wide = part.wide;
        within = let long = slice_get_within classes (length split) class at in let more = append_one split other in omega arith;
        entries = λ j c e here is. elim (get_added split other j e here) [
          | inl before ↦ part.entries j c e before is
          | inr (j_is, e_is) ↦
              let is' : slice_get classes (length split) ≡ Some c = subst (λ n. slice_get classes n ≡ Some c) j_is is in
              let c_is : class ≡ c = one_item classes (length split) class c at is' in
              inr (
                (λ h. unlike (subst (AreAlike flags (length split)) (sym c_is) (subst (λ n. AreAlike flags n c) j_is h))),
                subst (λ z. slice_get others z ≡ Some (Some e)) c_is (has ∙ ap (λ z. Some (Some z)) e_is),
              )
        ];
        leavers = λ c e is. let (p, q, r) = part.leavers c e is in (p, q, get_front split (other ∷ []) e e r);
      }

      -- a state is the first to leave its class
      pub split_leaves : (more : List (Option ℕ)) → (AreAlike flags (length split) class → ⊥) → slice_get others class ≡ Some None →
          more ≡ set others class (Some (length split)) → IsPartSplit more (split ++ length split ∷ [])
      split_leaves more unlike none is = subst (λ os. IsPartSplit os (split ++ length split ∷ [])) (sym is) (record {
        wide = set_length others class (Some (length split)) ∙ part.wide;
        within = let long = slice_get_within classes (length split) class at in let longer = append_one split (length split) in omega arith;
        entries = λ j c e here of. elim (get_added split (length split) j e here) [
          | inl before ↦ elim (part.entries j c e before of) [
            | inl same ↦ inl same
            | inr (other, left) ↦ inr (other, kept c e left)
          ]
          | inr (j_is, e_is) ↦
              let of' : slice_get classes (length split) ≡ Some c = subst (λ n. slice_get classes n ≡ Some c) j_is of in
              let c_is : class ≡ c = one_item classes (length split) class c at of' in
              inr (
                (λ h. unlike (subst (AreAlike flags (length split)) (sym c_is) (subst (λ n. AreAlike flags n c) j_is h))),
                subst (λ z. slice_get (set others class (Some (length split))) z ≡ Some (Some e)) c_is
                    (set_here others class (Some (length split)) (inside none) ∙ ap (λ z. Some (Some z)) e_is),
              )
        ];
        leavers = λ c e there. elim (set_cases others class c (Some (length split)) (Some e) there) [
          | inl (c_is, e_is) ↦
              let e_is' : length split ≡ e = same_Some (length split) e e_is in (
                subst (λ z. slice_get classes z ≡ Some c) e_is' (at ∙ ap (λ z. Some z) c_is),
                (λ h. unlike (subst (AreAlike flags (length split)) (sym c_is) (subst (λ z. AreAlike flags z c) (sym e_is') h))),
                subst (λ z. slice_get (split ++ length split ∷ []) z ≡ Some z) e_is' (get_last split (length split)),
              )
          | inr before ↦ let (p, q, r) = part.leavers c e before in (p, q, get_front split (length split ∷ []) e e r)
        ];
      })
        where
          inside : slice_get others class ≡ Some None → class < length others
          inside e = slice_get_within others class None e

          apart : (e : ℕ) → Some None ≡ Some (Some e) → ⊥
          apart e h = let k : None ≡ Some e = same_Some None (Some e) h in cc

          kept : (c e : ℕ) → slice_get others c ≡ Some (Some e) → slice_get (set others class (Some (length split))) c ≡ Some (Some e)
          kept c e left = set_other others class c (Some (length split)) (Some e) (λ same. apart e
              (sym none ∙ subst (λ z. slice_get others z ≡ Some (Some e)) same left)) left

      -- a state leaves its class, as the first one or not
      pub split_other : (AreAlike flags (length split) class → ⊥) → (more : List (Option ℕ)) (e state : ℕ) → length split ≡ state →
          ((slice_get others class ≡ Some (Some e)) × (more ≡ others)) ⊎
          ((slice_get others class ≡ Some None) × (e ≡ state) × (more ≡ set others class (Some state))) → IsPartSplit more (split ++ e ∷ [])
      split_other unlike more e state count (inl (has, same)) =
          subst (λ os. IsPartSplit os (split ++ e ∷ [])) (sym same) (split_follows e unlike has)
      split_other unlike more e state count (inr (none, is, made)) =
          subst (λ n. IsPartSplit more (split ++ n ∷ [])) (count ∙ sym is)
          (split_leaves more unlike none (made ∙ ap (λ n. set others class (Some n)) (sym count)))

    -- all
    pub split_all : (others : List (Option ℕ)) (split : List ℕ) → IsPartSplit others split → length split ≡ length classes →
        AreSplit flags classes split
    split_all others split part all = record {
      counted = all;
      closed = λ j e here. let (c, of) = class_of j e here in elim (part.entries j c e here of) [
        | inl (same, is) ↦ subst (λ z. slice_get split z ≡ Some z) (sym is) (own c (classed.closed j c of))
        | inr (other, left) ↦ (part.leavers c e left).2
      ];
      within = λ j e here. let (c, of) = class_of j e here in elim (part.entries j c e here of) [
        | inl (same, is) ↦ (
          record { class = c; first = of; second = subst (λ z. slice_get classes z ≡ Some c) (sym is) (classed.closed j c of) },
          subst (AreAlike flags j) (sym is) same,
        )
        | inr (other, left) ↦ let (p, q, r) = part.leavers c e left in (
          record { class = c; first = of; second = p },
          alike_if_unlike j e c (into classes j c of) (into classes e c p) (into classes c c (classed.closed j c of)) other q,
        )
      ];
      all = λ j k both same.
          let c = both.class in
          let (d, at_j) = get_some split j (let n = slice_get_within classes j c both.first in omega arith) in
          let (e, at_k) = get_some split k (let n = slice_get_within classes k c both.second in omega arith) in
          record {
            class = d;
            first = at_j;
            second = at_k ∙ ap (λ z. Some z) (
                elim (part.entries j c d at_j both.first) [
                  | inl (like, is) ↦ elim (part.entries k c e at_k both.second) [
                    | inl (too, is_too) ↦ is_too ∙ sym is
                    | inr (other, left) ↦ absurd (other (alike_again j k c same like))
                  ]
                  | inr (unlike, left) ↦ elim (part.entries k c e at_k both.second) [
                    | inl (too, is_too) ↦ absurd (unlike (alike_again k j c (alike_back j k same) too))
                    | inr (other, left_too) ↦ same_Some e d (same_Some (Some e) (Some d) (sym left_too ∙ left))
                  ]
                ]);
          };
      kept = λ j of. own j of;
    }
      where
        class_of : (j e : ℕ) → slice_get split j ≡ Some e → (c : ℕ) × (slice_get classes j ≡ Some c)
        class_of j e here = get_some classes j (let n = slice_get_within split j e here in omega arith)

        into : (xs : List ℕ) (j c : ℕ) → slice_get classes j ≡ Some c → j < length flags
        into xs j c of = let n = slice_get_within classes j c of in omega arith

        own : (c : ℕ) → slice_get classes c ≡ Some c → slice_get split c ≡ Some c
        own c of =
            let n = slice_get_within classes c c of in
            let (e, here) = get_some split c (omega arith) in
            elim (part.entries c c e here of) [
              | inl (same, is) ↦ here ∙ ap (λ z. Some z) is
              | inr (other, left) ↦ absurd (other (let (f, is) = get_some flags c (omega arith) in record { flag = f; first = is; second = is }))
            ]

-- classes that a split makes more of have fewer states that are not those of their classes
pub more_apart : (flags : List Bool) (old new : List ℕ) → AreSplit flags old new → (j c : ℕ) → slice_get old j ≡ Some c →
    (AreAlike flags j c → ⊥) → strays 0 new + 1 ≤ strays 0 old
more_apart flags old new split j c at unlike =
    let within = slice_get_within old j c at in
    let same = split.counted in
    let (e, here) = get_some new j (omega arith) in
    let (both, like) = split.within j e here in
    let old_e : slice_get old e ≡ Some c = both.second ∙ ap (λ z. Some z) (one_item old j both.class c both.first at) in
    let other : slice_get old e ≡ Some (0 + e) → ⊥ = λ g.
    unlike (subst (AreAlike flags j) (sym (one_item old e c e old_e (g ∙ ap (λ z. Some z) (let z : 0 + e ≡ e = omega arith in z)))) like) in
    fewer_strays 0 old new (sym same)
    (λ k g. split.kept k (g ∙ ap (λ z. Some z) (let z : 0 + k ≡ k = omega arith in z)) ∙ ap (λ z. Some z) (let z : k ≡ 0 + k = omega arith in z)) e other
    (split.closed j e here ∙ ap (λ z. Some z) (let z : e ≡ 0 + e = omega arith in z))
