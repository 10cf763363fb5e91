-- The search for the first sequences that tell states apart, candidate by candidate.
use Rattle.std.proofs.Common.{◌≡◌, ◌⊎◌, ◌∙◌, ◌<◌, ◌≤◌, ◌+◌, ℕ, suc, Bool, List, [], ◌∷◌, ◌++◌, Option, None, Some, length, length-append, ap, arith, inl, inr, refl, subst, sym, slice_get}
use Rattle.std.proofs.lemmas.Bool.{cases_eq}
use Rattle.std.proofs.lemmas.Option.{slice_get_within}
use Rattle.lotos_suite.proofs.ApartSteps.{apart_label, apart_step, step_apart, tells_empty}
use Rattle.lotos_automaton.proofs.CoverOrder.{up_to_before}
use Rattle.lotos_suite.proofs.LabelIndices.{before_label, before_length, before_rest, index_below, index_same, rest_before, sequence_below, up_to_rest}
use Rattle.lotos_automaton.proofs.OrderedLabels.{ascending_below}
use Rattle.lotos_check.proofs.ListIndices.{get_added, get_front, get_some, in_get, one_item}
use Rattle.lotos_listing.proofs.SequenceOrder.{before_total}
use Rattle.lotos_suite.specs.ApartSearch.{AreBySteps, AreTogether, HasSearched, IsByStep, IsCandidate, WasTried}
use Rattle.lotos_listing.specs.Order.{Before, Below, Label, UpTo}
use Rattle.lotos_suite.specs.Suites.{TellsApart}
use Rattle.lotos_suite.specs.SuiteTables.{IsSubject, Subject}
use Rattle.lotos_suite.specs.declared.apart_sequences.ApartStep.{ApartStep}

-- ---- sequences by steps

-- what is by a step stays so with one more sequence
by_step_more : (labels : List Label) (sequences : List (List Label)) (u : List Label) (k : ℕ) (step : Option ApartStep) (w : List Label) →
    IsByStep labels sequences k step w → IsByStep labels (sequences ++ u ∷ []) k step w
by_step_more labels sequences u k None w h = h
by_step_more labels sequences u k (Some step) w h = record {
  label = h.label;
  rest = h.rest;
  label_is = h.label_is;
  rest_is = get_front sequences (u ∷ []) step.rest h.rest h.rest_is;
  earlier = h.earlier;
  is = h.is;
}

-- one more sequence, after all others
pub by_steps_more : (labels : List Label) (steps : List (Option ApartStep)) (sequences : List (List Label)) → AreBySteps labels steps sequences →
    (step : ApartStep) (x : Label) (w : List Label) → slice_get labels step.label ≡ Some x → slice_get sequences step.rest ≡ Some w →
    ((n : ℕ) (v : List Label) → slice_get sequences n ≡ Some v → Before v (x ∷ w)) →
    AreBySteps labels (steps ++ Some step ∷ []) (sequences ++ (x ∷ w) ∷ [])
by_steps_more labels steps sequences are step x w label_is rest_is later = record {
  counted = let a = length-append steps (Some step ∷ []) in let b = length-append sequences ((x ∷ w) ∷ []) in let c = are.counted in omega arith;
  starts = get_front sequences ((x ∷ w) ∷ []) 0 [] are.starts;
  each = λ k o v at_step at. elim (get_added sequences (x ∷ w) k v at) [
    | inl before ↦
        let within = slice_get_within sequences k v before in
        let counted = are.counted in
        by_step_more labels sequences (x ∷ w) k o v (are.each k o v (old_step k o at_step (omega arith)) before)
    | inr (last, is) ↦
        let counted = are.counted in
        let e : o ≡ Some step = new_step k o at_step (omega arith) in
        subst (λ z. IsByStep labels (sequences ++ (x ∷ w) ∷ []) k z v) (sym e) (record {
          label = x;
          rest = w;
          label_is = label_is;
          rest_is = get_front sequences ((x ∷ w) ∷ []) step.rest w rest_is;
          earlier = let within = slice_get_within sequences step.rest w rest_is in omega arith;
          is = sym is;
        })
  ];
  ascending = λ j k v u less at_j at_k. elim (get_added sequences (x ∷ w) k u at_k) [
    | inl before_k ↦
        let within = slice_get_within sequences k u before_k in
        are.ascending j k v u less (old j v at_j (omega arith)) before_k
    | inr (last, is) ↦ subst (Before v) is (later j v (old j v at_j (omega arith)))
  ];
}
  where
    old : (j : ℕ) (v : List Label) → slice_get (sequences ++ (x ∷ w) ∷ []) j ≡ Some v → j < length sequences → slice_get sequences j ≡ Some v
    old j v at less = elim (get_added sequences (x ∷ w) j v at) [ inl h ↦ h | inr (last, is) ↦ absurd (omega arith) ]

    old_step : (k : ℕ) (o : Option ApartStep) → slice_get (steps ++ Some step ∷ []) k ≡ Some o → k < length steps → slice_get steps k ≡ Some o
    old_step k o at less = elim (get_added steps (Some step) k o at) [ inl h ↦ h | inr (last, is) ↦ absurd (omega arith) ]

    new_step : (k : ℕ) (o : Option ApartStep) → slice_get (steps ++ Some step ∷ []) k ≡ Some o → k ≡ length steps → o ≡ Some step
    new_step k o at same = elim (get_added steps (Some step) k o at) [
      | inl h ↦ absurd (let n = slice_get_within steps k o h in omega arith)
      | inr (last, is) ↦ sym is
    ]

-- ---- what was tried

-- it stays so with one more sequence
pub tried_more : (labels : List Label) (sequences : List (List Label)) (from to i r : ℕ) (v u : List Label) →
    WasTried labels sequences from to i r u → WasTried labels (sequences ++ v ∷ []) from to i r u
tried_more labels sequences from to i r v u h = record {
  label = h.label;
  rest = h.rest;
  is = record {
    label = h.is.label;
    rest = h.is.rest;
    label_is = h.is.label_is;
    rest_is = get_front sequences (v ∷ []) h.rest h.is.rest h.is.rest_is;
    is = h.is.is;
  };
  above = h.above;
  below = h.below;
  earlier = h.earlier;
}

-- and was so before, if the others were there
pub tried_back : (labels : List Label) (sequences : List (List Label)) (from to i r : ℕ) (v u : List Label) → to ≤ length sequences →
    WasTried labels (sequences ++ v ∷ []) from to i r u → WasTried labels sequences from to i r u
tried_back labels sequences from to i r v u short h = record {
  label = h.label;
  rest = h.rest;
  is = record {
    label = h.is.label;
    rest = h.is.rest;
    label_is = h.is.label_is;
    rest_is = elim (get_added sequences v h.rest h.is.rest h.is.rest_is) [
      | inl at ↦ at
      | inr (last, is) ↦ absurd (let less = h.below in omega arith)
    ];
    is = h.is.is;
  };
  above = h.above;
  below = h.below;
  earlier = h.earlier;
}

-- what was tried before one more candidate, or it is that candidate
pub tried_last : (labels : List Label) (sequences : List (List Label)) (from to i r : ℕ) (x : Label) (w u : List Label) →
    slice_get labels i ≡ Some x → slice_get sequences r ≡ Some w → WasTried labels sequences from to i (r + 1) u →
    WasTried labels sequences from to i r u ⊎ (u ≡ x ∷ w)
tried_last labels sequences from to i r x w u label_is rest_is h = elim h.earlier [
  | inl less ↦ inl (again (inl less))
  | inr (same, less) ↦ elim (cases_eq h.rest r) [
    | inl last ↦
        let label : h.is.label ≡ x = one_item labels i h.is.label x (subst (λ n. slice_get labels n ≡ Some h.is.label) same h.is.label_is) label_is in
        let rest : h.is.rest ≡ w = one_item sequences r h.is.rest w (subst (λ n. slice_get sequences n ≡ Some h.is.rest) last h.is.rest_is) rest_is in
        inr (h.is.is ∙ ap (λ z. z ∷ h.is.rest) label ∙ ap (λ z. x ∷ z) rest)
    | inr other ↦ inl (again (inr (same, grind arith)))
  ]
]
  where
    again : (h.label < i) ⊎ ((h.label ≡ i) × (h.rest < r)) → WasTried labels sequences from to i r u
    again earlier = record { label = h.label; rest = h.rest; is = h.is; above = h.above; below = h.below; earlier = earlier }

-- what was tried is tried before a later candidate
pub tried_then : (labels : List Label) (sequences : List (List Label)) (from to i r k q : ℕ) (u : List Label) →
    ((n p : ℕ) → from ≤ p → p < to → (n < i) ⊎ ((n ≡ i) × (p < r)) → (n < k) ⊎ ((n ≡ k) × (p < q))) →
    WasTried labels sequences from to i r u → WasTried labels sequences from to k q u
tried_then labels sequences from to i r k q u later h = record {
  label = h.label;
  rest = h.rest;
  is = h.is;
  above = h.above;
  below = h.below;
  earlier = later h.label h.rest h.above h.below h.earlier;
}

-- ---- the candidates of a layer

module _ (s : Subject) (is : IsSubject s) (steps : List (Option ApartStep)) (lists : List (List Bool)) (classes : List ℕ) (d from to : ℕ) where
  -- a candidate, up to the sequence, that tells the states apart
  pub record IsFound (sequences : List (List Label)) (j k : ℕ) (u : List Label) : Type 0 where
    pub found : List Label
    pub label : ℕ
    pub rest : ℕ
    pub candidate : IsCandidate s.labels sequences label rest found
    pub above : from ≤ rest
    pub below : rest < to
    pub up_to : UpTo u found
    pub tells : TellsApart s.machine j k found

  module _ (i r : ℕ) (h : HasSearched s steps lists classes d from to i r) where
    -- a state has a class
    pub class_at : (j : ℕ) → j < s.machine.states → (c : ℕ) × (slice_get classes j ≡ Some c)
    class_at j less = get_some classes j (let n = h.classed.counted in omega arith)

    -- for two states of one class that a sequence of `d + 1` labels tells apart, some candidate up to it does
    pub candidate_for : (j k : ℕ) → AreTogether classes j k → (x : Label) (w : List Label) → length w ≡ d → TellsApart s.machine j k (x ∷ w) →
        IsFound h.sequences j k (x ∷ w)
    candidate_for j k both x w long tells =
        let (n, at) = in_get s.labels x (apart_label s.machine s.labels is.over j k x w tells) in
        elim (apart_step s.machine j k x w tells) [
          | inl (p, q, step, step_too, rest) ↦
              let (c, at_p) = class_at p (is.over.below j p x step) in
              let (e, at_q) = class_at q (is.over.below k q x step_too) in
              elim (cases_eq c e) [
                | inl same ↦ absurd (h.told.short p q w (record {
                  class = c;
                  first = at_p;
                  second = at_q ∙ ap (λ z. Some z) (sym same);
                }) (omega arith) rest)
                | inr other ↦
                    let (number, v, some, here, first) = h.told.apart p q c e at_p at_q other in
                    let up_to : UpTo w v = elim (before_total w v) [
                      | inl early ↦ absurd (first.first w rest early)
                      | inr (inl same) ↦ inr (sym same)
                      | inr (inr late) ↦ inl late
                    ] in
                    let few = before_length v w up_to in
                    let all = step_apart s.machine j k p q x v step step_too first.apart in
                    elim (h.layer number v here) [
                      | inl (low, less) ↦ absurd (h.told.short j k (x ∷ v) both (let z : suc (length v) ≤ d = omega arith in z) all)
                      | inr (inl (above, below, of)) ↦ record {
                        found = x ∷ v;
                        label = n;
                        rest = number;
                        candidate = record { label = x; rest = v; label_is = at; rest_is = here; is = refl };
                        above = above;
                        below = below;
                        up_to = up_to_rest x v w up_to;
                        tells = all;
                      }
                      | inr (inr (high, more, tried)) ↦ absurd (omega arith)
                    ]
              ]
          | inr alone ↦ one n at alone (by w long)
        ]
      where
        by : (w : List Label) → length w ≡ d → (1 ≤ d) ⊎ ((d ≡ 0) × (w ≡ []))
        by [] e = inr (sym e, refl)
        by (y ∷ w) e = inl (omega arith)

        one : (n : ℕ) → slice_get s.labels n ≡ Some x → TellsApart s.machine j k (x ∷ []) → (1 ≤ d) ⊎ ((d ≡ 0) × (w ≡ [])) →
            IsFound h.sequences j k (x ∷ w)
        one n at alone (inl some) = absurd (h.told.short j k (x ∷ []) both (let z : 1 ≤ d = some in z) alone)
        one n at alone (inr (none, empty)) = elim (h.layer 0 [] h.by_steps.starts) [
          | inl (low, less) ↦ absurd (let z : 0 < d = less in omega arith)
          | inr (inl (above, below, of)) ↦ record {
            found = x ∷ [];
            label = n;
            rest = 0;
            candidate = record { label = x; rest = []; label_is = at; rest_is = h.by_steps.starts; is = refl };
            above = above;
            below = below;
            up_to = inr (ap (λ z. x ∷ z) (sym empty));
            tells = alone;
          }
          | inr (inr (high, more, tried)) ↦ absurd (let z : 0 ≡ d + 1 = more in omega arith)
        ]

    -- the length of a sequence of the layer
    pub layer_length : (n : ℕ) (w : List Label) → slice_get h.sequences n ≡ Some w → from ≤ n → n < to → length w ≡ d
    layer_length n w at above below = elim (h.layer n w at) [
      | inl (low, less) ↦ absurd (omega arith)
      | inr (inl (a, b, of)) ↦ of
      | inr (inr (high, more, tried)) ↦ absurd (omega arith)
    ]

    -- what was tried comes before the next candidate
    pub tried_before : (x : Label) (w : List Label) → slice_get s.labels i ≡ Some x → slice_get h.sequences r ≡ Some w → from ≤ r → r < to →
        (u : List Label) → WasTried s.labels h.sequences from to i r u → Before u (x ∷ w)
    tried_before x w label_is rest_is above below u t = subst (λ z. Before z (x ∷ w)) (sym t.is.is) (elim t.earlier [
      | inl less ↦ before_label t.is.label x t.is.rest w (low t.label t.is.label t.is.label_is less)
          (layer_length t.rest t.is.rest t.is.rest_is t.above t.below ∙ sym (layer_length r w rest_is above below))
      | inr (same, less) ↦
          let label : t.is.label ≡ x = one_item s.labels i t.is.label x (subst (λ n. slice_get s.labels n ≡ Some t.is.label) same t.is.label_is) label_is in
          subst (λ z. Before (z ∷ t.is.rest) (x ∷ w)) (sym label)
          (before_rest x t.is.rest w (h.by_steps.ascending t.rest r t.is.rest w less t.is.rest_is rest_is))
    ])
      where
        low : (n : ℕ) (y : Label) → slice_get s.labels n ≡ Some y → n < i → Below y x
        low n y at less = ascending_below s.labels is.ascending n i y x less at label_is

    -- no sequence before the next candidate tells states of one class apart
    pub no_earlier : (x : Label) (w : List Label) → slice_get s.labels i ≡ Some x → slice_get h.sequences r ≡ Some w → from ≤ r → r < to →
        (j k : ℕ) → AreTogether classes j k → (u : List Label) → TellsApart s.machine j k u → Before u (x ∷ w) → ⊥
    no_earlier x w label_is rest_is above below j k both [] tells early = tells_empty s.machine j k tells
    no_earlier x w label_is rest_is above below j k both (y ∷ u) tells early =
        let long = layer_length r w rest_is above below in
        let few = before_length (y ∷ u) (x ∷ w) (inl early) in
        elim (cases_eq (length u) d) [
          | inl same ↦
              let f = candidate_for j k both y u same tells in
              let c = f.candidate in
              let e = layer_length f.rest c.rest c.rest_is f.above f.below in
              let first = subst (λ z. Before z (x ∷ w)) c.is (up_to_before f.found (y ∷ u) (x ∷ w) f.up_to early) in
              h.told.tried j k f.found both (record {
                label = f.label;
                rest = f.rest;
                is = c;
                above = f.above;
                below = f.below;
                earlier = elim (rest_before c.label x c.rest w (e ∙ sym long) first) [
                  | inl less ↦ inl (index_below s.labels is.ascending f.label i c.label x c.label_is label_is less)
                  | inr (equal, less) ↦ inr (
                    index_same s.labels is.ascending f.label i x (subst (λ z. slice_get s.labels f.label ≡ Some z) equal c.label_is) label_is,
                    sequence_below h.sequences h.by_steps.ascending f.rest r c.rest w c.rest_is rest_is less,
                  )
                ];
              }) f.tells
          | inr other ↦ h.told.short j k (y ∷ u) both (let z : suc (length u) ≤ d = grind arith in z) tells
        ]
