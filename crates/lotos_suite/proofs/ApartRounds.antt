-- The search for the first sequences that tell states apart, from its beginning to its end.
use Rattle.std.proofs.Common.{◌≡◌, ◌≢◌, ◌⊎◌, ◌∙◌, ◌<◌, ◌≤◌, ◌+◌, ℕ, zero, suc, Bool, true, MatchBool, List, [], ◌∷◌, ◌++◌, Option, None, Some, length, length-append, ap, arith, inl, inr, refl, subst, sym, slice_get}
use Rattle.std.proofs.lemmas.Bool.{cases_eq, cases_lt}
use Rattle.std.proofs.lemmas.Option.{same_Some, slice_get_within}
use Rattle.lotos_suite.proofs.ApartSearches.{by_steps_more, candidate_for, class_at, layer_length, no_earlier, tried_back, tried_before, tried_last, tried_more, tried_then}
use Rattle.lotos_suite.proofs.ApartSteps.{alike_not_apart, tells_empty, unlike_apart}
use Rattle.lotos_check.proofs.ListIndices.{get_added, get_front, get_last, get_some, one_item}
use Rattle.lotos_suite.proofs.StateClasses.{alike_again, alike_back}
use Rattle.lotos_suite.specs.ApartSearch.{AreAlike, AreAllApart, AreFlags, AreSplit, AreTogether, HasSearched, IsByStep, IsInLayer, WasTried}
use Rattle.lotos_suite.specs.Machines.{CanDoFrom}
use Rattle.lotos_listing.specs.Order.{Before, Label}
use Rattle.lotos_suite.specs.SuiteLines.{IsFirstApart}
use Rattle.lotos_suite.specs.Suites.{TellsApart}
use Rattle.lotos_suite.specs.SuiteTables.{IsSubject, Subject}
use Rattle.lotos_suite.specs.declared.apart_sequences.ApartStep.{ApartStep}

-- both states of one class are alike if each is like the state of its class
both_alike : (flags : List Bool) (classes : List ℕ) → ((j c : ℕ) → slice_get classes j ≡ Some c → AreAlike flags j c) →
    (j k : ℕ) → AreTogether classes j k → AreAlike flags j k
both_alike flags classes all j k both =
    let h = all j both.class both.first in
    let g = all k both.class both.second in
    alike_again flags both.class j k (alike_back flags j both.class h) (alike_back flags k both.class g)

-- what is in a layer is in it also by other sequences and candidates, if what was tried was tried by them
layer_by : (labels : List Label) (sequences others : List (List Label)) (d from to i r k q n : ℕ) (w : List Label) →
    ((u : List Label) → WasTried labels sequences from to i r u → WasTried labels others from to k q u) →
    IsInLayer labels sequences d from to i r n w → IsInLayer labels others d from to k q n w
layer_by labels sequences others d from to i r k q n w more (inl h) = inl h
layer_by labels sequences others d from to i r k q n w more (inr (inl h)) = inr (inl h)
layer_by labels sequences others d from to i r k q n w more (inr (inr (high, long, tried))) = inr (inr (high, long, more w tried))

module _ (s : Subject) (is : IsSubject s) (steps : List (Option ApartStep)) (lists : List (List Bool)) (classes : List ℕ) (d from to : ℕ) where
  -- ---- other candidates, where the tried ones are the same

  -- the search is so far also at another candidate, if the same were tried before it
  pub same_tried : (i r k q : ℕ) → HasSearched s steps lists classes d from to i r →
      ((n p : ℕ) → from ≤ p → p < to → (n < i) ⊎ ((n ≡ i) × (p < r)) → (n < k) ⊎ ((n ≡ k) × (p < q))) →
      ((n p : ℕ) → from ≤ p → p < to → (n < k) ⊎ ((n ≡ k) × (p < q)) → (n < i) ⊎ ((n ≡ i) × (p < r))) →
      HasSearched s steps lists classes d from to k q
  same_tried i r k q h there back = record {
    sequences = h.sequences;
    by_steps = h.by_steps;
    flags = h.flags;
    classed = h.classed;
    ordered = h.ordered;
    within = h.within;
    layer = λ n w at. layer_by s.labels h.sequences h.sequences d from to i r k q n w
        (λ u t. tried_then s.labels h.sequences from to i r k q u there t) (h.layer n w at);
    told = record {
      short = h.told.short;
      tried = λ j l w both t. h.told.tried j l w both (tried_then s.labels h.sequences from to k q i r w back t);
      apart = h.told.apart;
      only = h.told.only;
    };
  }

  -- the next label
  pub next_label : (i : ℕ) → HasSearched s steps lists classes d from to i to → HasSearched s steps lists classes d from to (i + 1) from
  next_label i h =
      same_tried i to (i + 1) from h (λ n p above below e. elim e [ inl less ↦ inl (omega arith) | inr (same, less) ↦ inl (omega arith) ])
      (λ n p above below e. elim e [
        | inl less ↦ elim (cases_eq n i) [ inl same ↦ inr (same, below) | inr other ↦ inl (grind arith) ]
        | inr (same, less) ↦ absurd (omega arith)
      ])

  -- an empty layer was tried
  pub empty_layer : (i r k q : ℕ) → to ≤ from → HasSearched s steps lists classes d from to i r → HasSearched s steps lists classes d from to k q
  empty_layer i r k q none h = same_tried i r k q h (λ n p above below e. absurd (omega arith)) (λ n p above below e. absurd (omega arith))

  -- ---- the next length

  -- states of one class are told apart by no sequence of one label more
  no_longer : (r : ℕ) → HasSearched s steps lists classes d from to (length s.labels) r → (j k : ℕ) (w : List Label) → AreTogether classes j k →
      length w ≤ d + 1 → TellsApart s.machine j k w → ⊥
  no_longer r h j k [] both few tells = tells_empty s.machine j k tells
  no_longer r h j k (x ∷ w) both few tells = elim (cases_eq (length w) d) [
    | inl same ↦
        let f = candidate_for s is steps lists classes d from to (length s.labels) r h j k both x w same tells in
        let within = slice_get_within s.labels f.label f.candidate.label f.candidate.label_is in
        h.told.tried j k f.found both (record {
          label = f.label;
          rest = f.rest;
          is = f.candidate;
          above = f.above;
          below = f.below;
          earlier = inl within;
        }) f.tells
    | inr other ↦ h.told.short j k (x ∷ w) both (let z : suc (length w) ≤ d = grind arith in z) tells
  ]

  -- the next layer
  pub next_layer : (r q : ℕ) → HasSearched s steps lists classes d from to (length s.labels) r → (n : ℕ) → n ≡ length lists → q ≤ to →
      HasSearched s steps lists classes (d + 1) to n 0 q
  next_layer r q h n is_n low = record {
    sequences = h.sequences;
    by_steps = h.by_steps;
    flags = h.flags;
    classed = h.classed;
    ordered = let counted = h.flags.counted in let e = h.within in omega arith;
    within = let counted = h.flags.counted in omega arith;
    layer = λ k w at.
        let within = slice_get_within h.sequences k w at in
        let counted = h.flags.counted in
        elim (h.layer k w at) [
          | inl (less, few) ↦ inl ((let less_too = h.ordered in omega arith), omega arith)
          | inr (inl (above, below, of)) ↦ inl (below, omega arith)
          | inr (inr (high, long, tried)) ↦ inr (inl (high, omega arith, long))
        ];
    told = record {
      short = no_longer r h;
      tried = λ j k w both t. absurd (elim t.earlier [
        | inl less ↦ (let z : t.label < 0 = less in omega arith)
        | inr (same, less) ↦ (let above = t.above in let z : t.rest < q = less in omega arith)
      ]);
      apart = h.told.apart;
      only = h.told.only;
    };
  }

module _ (s : Subject) (is : IsSubject s) (steps : List (Option ApartStep)) (lists : List (List Bool)) (classes : List ℕ) where
  -- ---- the end

  -- after an empty layer there are only empty layers
  later : (e d from to i r : ℕ) → to ≤ from → HasSearched s steps lists classes d from to i r →
      (f : ℕ) × (t : ℕ) × (k : ℕ) × (q : ℕ) × HasSearched s steps lists classes (d + e) f t k q
  later zero d from to i r none h = (from, to, i, r, subst (λ n. HasSearched s steps lists classes n from to i r) (let e : d ≡ d + 0 = omega arith in e) h)
  later (suc e) d from to i r none h =
      let whole = empty_layer s is steps lists classes d from to i r (length s.labels) r none h in
      let next = next_layer s is steps lists classes d from to r 0 whole (length lists) refl (omega arith) in
      let empty : length lists ≤ to = no_more in
      let (f, t, k, q, g) = later e (d + 1) to (length lists) 0 0 empty next in
      (f, t, k, q, subst (λ n. HasSearched s steps lists classes n f t k q) (let z : d + 1 + e ≡ d + suc e = omega arith in z) g)
    where
      no_more : length lists ≤ to
      no_more = elim (cases_lt to (length lists)) [
        | inr few ↦ few
        | inl more ↦
            let counted = h.flags.counted in
            let (w, at) = get_some h.sequences to (omega arith) in
            elim (h.layer to w at) [
              | inl (less, few) ↦ absurd (omega arith)
              | inr (inl (above, below, of)) ↦ absurd (omega arith)
              | inr (inr (high, long, tried)) ↦ absurd (let a = tried.above in let b = tried.below in omega arith)
            ]
      ]

  -- so all states are told apart
  pub all_apart : (d from to i r : ℕ) → to ≤ from → HasSearched s steps lists classes d from to i r → AreAllApart s steps
  all_apart d from to i r none h = record {
    sequences = h.sequences;
    by_steps = h.by_steps;
    all = λ j k less less_too other.
        let (c, at_j) = class_at s is steps lists classes d from to i r h j less in
        let (e, at_k) = class_at s is steps lists classes d from to i r h k less_too in
        elim (cases_eq c e) [
          | inl same ↦ absurd (other (is.apart j k less less_too (λ w tells.
              let (f, t, l, q, g) = later (length w) d from to i r none h in
              g.told.short j k w (record { class = c; first = at_j; second = at_k ∙ ap (λ z. Some z) (sym same) }) (omega arith) tells)))
          | inr apart ↦ h.told.apart j k c e at_j at_k apart
        ];
    only = h.told.only;
  }

-- ---- one candidate

module _ (s : Subject) (is : IsSubject s) (steps : List (Option ApartStep)) (lists : List (List Bool)) (classes : List ℕ) (d from to i r : ℕ)
    (h : HasSearched s steps lists classes d from to i r) (above : from ≤ r) (below : r < to) (x : Label) (w : List Label)
    (label_is : slice_get s.labels i ≡ Some x) (rest_is : slice_get h.sequences r ≡ Some w) (flags : List Bool)
    (are : AreFlags s.machine (x ∷ w) flags) where
  -- it tells no states of one class apart
  pub tried_in_vain : ((j c : ℕ) → slice_get classes j ≡ Some c → AreAlike flags j c) → HasSearched s steps lists classes d from to i (r + 1)
  tried_in_vain all = record {
    sequences = h.sequences;
    by_steps = h.by_steps;
    flags = h.flags;
    classed = h.classed;
    ordered = h.ordered;
    within = h.within;
    layer = λ n v at. layer_by s.labels h.sequences h.sequences d from to i r i (r + 1) n v
        (λ u t. tried_then s.labels h.sequences from to i r i (r + 1) u
        (λ k p a b e. elim e [ inl less ↦ inl less | inr (same, less) ↦ inr (same, omega arith) ]) t) (h.layer n v at);
    told = record {
      short = h.told.short;
      tried = λ j k u both t tells. elim (tried_last s.labels h.sequences from to i r x w u label_is rest_is t) [
        | inl before ↦ h.told.tried j k u both before tells
        | inr same ↦ alike_not_apart s.machine (x ∷ w) flags are j k (both_alike flags classes all j k both) (subst (TellsApart s.machine j k) same tells)
      ];
      apart = h.told.apart;
      only = h.told.only;
    };
  }

  module _ (new : List ℕ) (split : AreSplit flags classes new) (j c : ℕ) (at : slice_get classes j ≡ Some c) (unlike : AreAlike flags j c → ⊥)
      (step : ApartStep) (step_label : step.label ≡ i) (step_rest : step.rest ≡ r) where
    abbrev others : List (List Label)
    others = h.sequences ++ (x ∷ w) ∷ []

    -- what is together was so before
    together_before : (k l : ℕ) → AreTogether new k l → AreTogether classes k l
    together_before k l both =
        let p = (split.within k both.class both.first).0 in
        let q = (split.within l both.class both.second).0 in
        record { class = p.class; first = p.first; second = q.first ∙ ap (λ z. Some z) (one_item classes both.class q.class p.class q.second p.second) }

    -- and alike
    together_alike : (k l : ℕ) → AreTogether new k l → AreAlike flags k l
    together_alike k l both =
        let p = (split.within k both.class both.first).1 in
        let q = (split.within l both.class both.second).1 in
        alike_again flags both.class k l (alike_back flags k both.class p) (alike_back flags l both.class q)

    -- states of one class before, which are not alike, are told apart first by this candidate
    first_for : (k l : ℕ) → AreTogether classes k l → (AreAlike flags k l → ⊥) → IsFirstApart s.machine k l (x ∷ w)
    first_for k l both other =
        let (a, at_k) = get_some flags k (let n = slice_get_within classes k both.class both.first in sized n) in
        let (b, at_l) = get_some flags l (let n = slice_get_within classes l both.class both.second in sized n) in
        record {
          apart = unlike_apart s.machine (x ∷ w) flags are k l a b at_k at_l other;
          first = λ u tells early. no_earlier s is steps lists classes d from to i r h x w label_is rest_is above below k l both u tells early;
        }
      where
        sized : {n : ℕ} → n < length classes → n < length flags
        sized less = let a = are.counted in let b = h.classed.counted in omega arith

    -- it tells states of one class apart
    pub tried_well : HasSearched s (steps ++ Some step ∷ []) (lists ++ flags ∷ []) new d from to i (r + 1)
    tried_well = record {
      sequences = others;
      by_steps = by_steps_more s.labels steps h.sequences h.by_steps step x w (subst (λ n. slice_get s.labels n ≡ Some x) (sym step_label) label_is)
          (subst (λ n. slice_get h.sequences n ≡ Some w) (sym step_rest) rest_is) before_last;
      flags = record {
        counted =
            let a = length-append lists (flags ∷ []) in
            let b = length-append h.sequences ((x ∷ w) ∷ []) in
            let e = h.flags.counted in
            omega arith;
        each = λ n v fs at_v at_fs. elim (get_added h.sequences (x ∷ w) n v at_v) [
          | inl before ↦ elim (get_added lists flags n fs at_fs) [
            | inl too ↦ h.flags.each n v fs before too
            | inr (last, same) ↦ absurd (let k = slice_get_within h.sequences n v before in let e = h.flags.counted in omega arith)
          ]
          | inr (last, same) ↦ elim (get_added lists flags n fs at_fs) [
            | inl too ↦ absurd (let k = slice_get_within lists n fs too in let e = h.flags.counted in omega arith)
            | inr (last_too, equal) ↦ subst (λ z. AreFlags s.machine z fs) same (subst (AreFlags s.machine (x ∷ w)) equal are)
          ]
        ];
      };
      classed = record { counted = split.counted ∙ h.classed.counted; closed = split.closed };
      ordered = h.ordered;
      within = let a = length-append h.sequences ((x ∷ w) ∷ []) in let e = h.within in omega arith;
      layer = λ n v at_v. elim (get_added h.sequences (x ∷ w) n v at_v) [
        | inl before ↦ layer_by s.labels h.sequences others d from to i r i (r + 1) n v (λ u t. more u t) (h.layer n v before)
        | inr (last, same) ↦ inr (inr (
          (let e = h.within in omega arith),
          (let e : length v ≡ suc (length w) = ap length (sym same) in
              let long = layer_length s is steps lists classes d from to i r h r w rest_is above below in omega arith),
          record {
            label = i;
            rest = r;
            is = record { label = x; rest = w; label_is = label_is; rest_is = get_front h.sequences ((x ∷ w) ∷ []) r w rest_is; is = sym same };
            above = above;
            below = below;
            earlier = inr (refl, (let z : r < r + 1 = omega arith in z));
          },
        ))
      ];
      told = record {
        short = λ k l u both few tells. h.told.short k l u (together_before k l both) few tells;
        tried = λ k l u both t tells. elim (tried_last s.labels h.sequences from to i r x w u label_is rest_is
            (tried_back s.labels h.sequences from to i (r + 1) (x ∷ w) u h.within t)) [
              | inl before ↦ h.told.tried k l u (together_before k l both) before tells
              | inr same ↦ alike_not_apart s.machine (x ∷ w) flags are k l (together_alike k l both) (subst (TellsApart s.machine k l) same tells)
            ];
        apart = λ k l a b at_k at_l other.
            let in_k = slice_get_within new k a at_k in
            let in_l = slice_get_within new l b at_l in
            let (p, old_k) = get_some classes k (let e = split.counted in omega arith) in
            let (q, old_l) = get_some classes l (let e = split.counted in omega arith) in
            elim (cases_eq p q) [
              | inl same ↦
                  let both : AreTogether classes k l = record { class = p; first = old_k; second = old_l ∙ ap (λ z. Some z) (sym same) } in
                  let first = first_for k l both (λ like. unlike_new k l a b at_k at_l other (split.all k l both like)) in
                  (length h.sequences, x ∷ w, some, get_last h.sequences (x ∷ w), first)
              | inr differ ↦
                  let (n, v, positive, here, first) = h.told.apart k l p q old_k old_l differ in
                  (n, v, positive, get_front h.sequences ((x ∷ w) ∷ []) n v here, first)
            ];
        only = λ n v positive at_v. elim (get_added h.sequences (x ∷ w) n v at_v) [
          | inl before ↦ h.told.only n v positive before
          | inr (last, same) ↦ (
            j,
            c,
            (let k = slice_get_within classes j c at in let e = h.classed.counted in omega arith),
            (let k = slice_get_within classes c c (h.classed.closed j c at) in let e = h.classed.counted in omega arith),
            subst (IsFirstApart s.machine j c) same
                (first_for j c (record { class = c; first = at; second = h.classed.closed j c at }) unlike),
          )
        ];
      };
    }
      where
        unlike_new : (k l a b : ℕ) → slice_get new k ≡ Some a → slice_get new l ≡ Some b → a ≢ b → AreTogether new k l → ⊥
        unlike_new k l a b at_k at_l other t = other (one_item new k a t.class at_k t.first ∙ one_item new l t.class b t.second at_l)

        some : 0 < length h.sequences
        some = let k = slice_get_within h.sequences 0 [] h.by_steps.starts in omega arith

        more : (u : List Label) → WasTried s.labels h.sequences from to i r u → WasTried s.labels others from to i (r + 1) u
        more u t = tried_more s.labels h.sequences from to i (r + 1) (x ∷ w) u
            (tried_then s.labels h.sequences from to i r i (r + 1) u (λ k p a b e. elim e [
              | inl less ↦ inl less
              | inr (same, less) ↦ inr
                  (same, omega arith)
            ]) t)

        before_last : (n : ℕ) (v : List Label) → slice_get h.sequences n ≡ Some v → Before v (x ∷ w)
        before_last n v at_v =
            let long = layer_length s is steps lists classes d from to i r h r w rest_is above below in
            elim (h.layer n v at_v) [
              | inl (low, less) ↦ inl (omega arith)
              | inr (inl (a, b, of)) ↦ inl (omega arith)
              | inr (inr (high, e, t)) ↦ tried_before s is steps lists classes d from to i r h x w label_is rest_is above below v t
            ]

-- ---- the beginning

-- the empty sequence alone, and all states in one class
pub begun : (s : Subject) → IsSubject s → (all : List Bool) (classes : List ℕ) → length all ≡ s.machine.states → length classes ≡ s.machine.states →
    ((j : ℕ) (flag : Bool) → slice_get all j ≡ Some flag → flag ≡ true) → ((j c : ℕ) → slice_get classes j ≡ Some c → c ≡ 0) →
    HasSearched s (None ∷ []) (all ∷ []) classes 0 0 1 0 0
begun s is all classes counted_all counted true_all zeros = record {
  sequences = [] ∷ [];
  by_steps = record {
    counted = refl;
    starts = refl;
    each = λ k o w at_o at_w. first_step k o w at_o at_w;
    ascending = λ j k v w less at_v at_w. absurd (let a = slice_get_within ([] ∷ []) k w at_w in let z : k < 1 = a in omega arith);
  };
  flags = record { counted = refl; each = λ k w fs at_w at_fs. first_flags k w fs at_w at_fs };
  classed = record {
    counted = counted;
    closed = λ j c at.
        let (e, there) = get_some classes 0 (let z = is.over.start in omega arith) in
        subst (λ z. slice_get classes z ≡ Some z) (sym (zeros j c at)) (there ∙ ap (λ z. Some z) (zeros 0 e there));
  };
  ordered = omega arith;
  within = omega arith;
  layer = λ n w at. inr (inl (omega arith, slice_get_within ([] ∷ []) n w at, first_length n w at));
  told = record {
    short = λ j k w both few tells. no_short j k w few tells;
    tried = λ j k w both t. absurd (elim t.earlier [
      | inl less ↦ (let z : t.label < 0 = less in omega arith)
      | inr (same, less) ↦
          (let z : t.rest < 0 = less in omega arith)
    ]);
    apart = λ j k c e at_j at_k other. absurd (other (zeros j c at_j ∙ sym (zeros k e at_k)));
    only = λ n w positive at. absurd (let a = slice_get_within ([] ∷ []) n w at in let z : n < 1 = a in omega arith);
  };
}
  where
    no_short : (j k : ℕ) (w : List Label) → length w ≤ 0 → TellsApart s.machine j k w → ⊥
    no_short j k [] few tells = tells_empty s.machine j k tells
    no_short j k (x ∷ w) few tells = absurd (omega arith)

    first_length : (n : ℕ) (w : List Label) → slice_get ([] ∷ []) n ≡ Some w → length w ≡ 0
    first_length zero w at = ap length (sym (same_Some [] w at))
    first_length (suc n) w at = cc

    first_step : (k : ℕ) (o : Option ApartStep) (w : List Label) → slice_get (None ∷ []) k ≡ Some o → slice_get ([] ∷ []) k ≡ Some w →
        IsByStep s.labels ([] ∷ []) k o w
    first_step zero o w at_o at_w = subst (λ z. IsByStep s.labels ([] ∷ []) zero z w) (same_Some None o at_o) (sym (same_Some [] w at_w))
    first_step (suc k) o w at_o at_w = cc

    flag_all : (j : ℕ) (flag : Bool) → flag ≡ true → MatchBool flag (CanDoFrom s.machine j []) (CanDoFrom s.machine j [] → ⊥)
    flag_all j flag e = subst (λ z. MatchBool z (CanDoFrom s.machine j []) (CanDoFrom s.machine j [] → ⊥)) (sym e) (j, refl)

    first_flags : (k : ℕ) (w : List Label) (fs : List Bool) → slice_get ([] ∷ []) k ≡ Some w → slice_get (all ∷ []) k ≡ Some fs →
        AreFlags s.machine w fs
    first_flags zero w fs at_w at_fs =
        let are : AreFlags s.machine [] all = record { counted = counted_all; each = λ j flag at. flag_all j flag (true_all j flag at) } in
        subst (λ z. AreFlags s.machine z fs) (same_Some [] w at_w) (subst (AreFlags s.machine []) (same_Some all fs at_fs) are)
    first_flags (suc k) w fs at_w at_fs = cc
