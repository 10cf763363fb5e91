-- The search for the lines of a suite, prefix by prefix and length by length.
use Rattle.std.proofs.Common.{◌≡◌, ◌≢◌, ◌⊎◌, ◌∙◌, ◌<◌, ◌≤◌, ◌+◌, ℕ, zero, suc, Bool, true, false, List, [], ◌∷◌, ◌++◌, Option, None, Some, MatchBool, is_none, nat_eq, length, length-append, ap, arith, inl, inr, refl, subst, sym, slice_get}
use Rattle.std.proofs.lemmas.Bool.{cases_eq, cases_lt}
use Rattle.std.proofs.lemmas.Bool.Decides.{nat_tests}
use Rattle.std.proofs.lemmas.List.{append_assoc}
use Rattle.std.proofs.lemmas.Option.{slice_get_within}
use Rattle.lotos_automaton.proofs.CoverOrder.{before_last, before_push}
use Rattle.lotos_check.proofs.JoinedLists.{in_back, in_either, in_front}
use Rattle.lotos_suite.proofs.LeafLines.{IsRefused, leaf_line, line_leaf}
use Rattle.lotos_check.proofs.ListIndices.{get_added, get_front, get_last, get_some, in_get, one_item}
use Rattle.lotos_suite.proofs.MachineRuns.{can_front, first_step, some_apart}
use Rattle.lotos_automaton.proofs.OrderedLabels.{ascending_below}
use Rattle.lotos_suite.proofs.SuiteFronts.{LastLabel, last, last_label, none}
use Rattle.lotos_suite.specs.Machines.{CanDoFrom, state_after}
use Rattle.lotos_check.specs.NameLists.{In}
use Rattle.lotos_listing.specs.Order.{Before, Label}
use Rattle.lotos_suite.specs.SuitePrefixes.{AreLonger, HasAdded, IsOpen, IsPrefix, IsSetting, labels_at, line_of}
use Rattle.lotos_suite.specs.SuiteSearch.{AreLevel, AreLinesTo, AreNext, IsEarlyNode, kept_line}
use Rattle.lotos_suite.specs.SuiteTables.{Subject}
use Rattle.lotos_suite.specs.Suites.{IsSuiteLine, IsWord, Line, SuiteParts, labels_of}
use Rattle.lotos_suite.specs.declared.apart_sequences.ApartStep.{ApartStep}
use Rattle.lotos_suite.specs.declared.prefixes.Prefix.{Prefix}
use Rattle.lotos_suite.specs.declared.suite_lines.CutLine.{CutLine}

-- ---- lists that are joined

-- numbers that are equal by the test
nat_same : (m n : ℕ) → nat_eq m n ≡ true → m ≡ n
nat_same m n e = grind (arith, nat_tests)

-- and that are not
nat_other : (m n : ℕ) → nat_eq m n ≡ false → m ≢ n
nat_other m n e = grind (arith, nat_tests)

-- an item of two lists is one of the first or of the second
pub get_either : {X : Type 0} (xs ys : List X) (k : ℕ) (x : X) → slice_get (xs ++ ys) k ≡ Some x →
    (slice_get xs k ≡ Some x) ⊎ ((j : ℕ) × (k ≡ length xs + j) × (slice_get ys j ≡ Some x))
get_either [] ys k x e = inr (k, omega arith, e)
get_either (z ∷ xs) ys zero x e = inl e
get_either (z ∷ xs) ys (suc k) x e = elim (get_either xs ys k x e) [
  | inl h ↦ inl h
  | inr (j, same, h) ↦ inr (j, omega arith, h)
]

-- an item of the second list
pub get_back : {X : Type 0} (xs ys : List X) (j : ℕ) (x : X) → slice_get ys j ≡ Some x → slice_get (xs ++ ys) (length xs + j) ≡ Some x
get_back [] ys j x e = subst (λ n. slice_get ys n ≡ Some x) (let z : j ≡ 0 + j = omega arith in z) e
get_back (z ∷ xs) ys j x e = subst (λ n. slice_get (z ∷ xs ++ ys) n ≡ Some x) (let n : suc (length xs + j) ≡ suc (length xs) + j = omega arith in n)
    (get_back xs ys j x e)

module _ (s : Subject) (extra : ℕ) (parts : SuiteParts) (steps : List (Option ApartStep)) (sequences : List (List Label))
    (set : IsSetting s extra parts steps sequences) where
  -- a prefix is one sequence
  pub one_sequence : (p : Prefix) (u v : List Label) → IsPrefix s parts sequences p u → IsPrefix s parts sequences p v → u ≡ v
  one_sequence p u v h g = h.labels ∙ sym g.labels

  -- ---- the labels after a prefix

  -- none, as none was tried
  pub longer_none : (u : List Label) → AreLonger s parts sequences u 0 []
  longer_none u = record {
    each = λ k p at. absurd (let n = slice_get_within [] k p at in let z : k < 0 = n in omega arith);
    all = λ n x less at open_. absurd (omega arith);
    ascending = λ j k p q v w less at_j at_k h g. absurd (let n = slice_get_within [] k q at_k in let z : k < 0 = n in omega arith);
  }

  -- none, as the machine cannot do the sequence
  pub longer_stuck : (u : List Label) (n : ℕ) → state_after s.machine 0 u ≡ None → AreLonger s parts sequences u n []
  longer_stuck u n stuck = record {
    each = λ k p at. absurd (let m = slice_get_within [] k p at in let z : k < 0 = m in omega arith);
    all = λ m x less at open_. absurd (let (q, leads) = open_.can u x refl in some_apart (sym stuck ∙ leads));
    ascending = λ j k p q v w less at_j at_k h g. absurd (let m = slice_get_within [] k q at_k in let z : k < 0 = m in omega arith);
  }

  -- one more
  pub longer_added : (u : List Label) (n : ℕ) (x : Label) (more old new : List Prefix) → slice_get s.labels n ≡ Some x →
      AreLonger s parts sequences u n more → HasAdded s parts sequences u x (old ++ more) new →
      (others : List Prefix) × (new ≡ old ++ others) × AreLonger s parts sequences u (n + 1) others
  longer_added u n x more old new at are (inl (p, is, prefix)) = (
    more ++ p ∷ [],
    is ∙ append_assoc old more (p ∷ []),
    record {
      each = λ k q here. elim (get_added more p k q here) [
        | inl before ↦ let (m, y, less, text, is_q) = are.each k q before in (m, y, omega arith, text, is_q)
        | inr (same, equal) ↦ (n, x, omega arith, at, subst (λ z. IsPrefix s parts sequences z (u ++ x ∷ [])) equal prefix)
      ];
      all = λ m y less text open_. elim (cases_eq m n) [
        | inl same ↦
            let equal : x ≡ y = one_item s.labels n x y at (subst (λ z. slice_get s.labels z ≡ Some y) same text) in
            (length more, p, get_last more p, subst (λ z. IsPrefix s parts sequences p (u ++ z ∷ [])) equal prefix)
        | inr other ↦
            let (k, q, here, is_q) = are.all m y (grind arith) text open_ in
            (k, q, get_front more (p ∷ []) k q here, is_q)
      ];
      ascending = λ j k q r v w less at_j at_k h g. elim (get_added more p k r at_k) [
        | inl before_k ↦ elim (get_added more p j q at_j) [
          | inl before_j ↦ are.ascending j k q r v w less before_j before_k h g
          | inr (same, equal) ↦ absurd (let n = slice_get_within more k r before_k in omega arith)
        ]
        | inr (same, equal) ↦ elim (get_added more p j q at_j) [
          | inl before_j ↦
              let (m, y, low, text, is_q) = are.each j q before_j in
              let first = one_sequence q (u ++ y ∷ []) v is_q h in
              let second = one_sequence r (u ++ x ∷ []) w (subst (λ z. IsPrefix s parts sequences z (u ++ x ∷ [])) equal prefix) g in
              subst (λ z. Before z w) first (subst (Before (u ++ y ∷ [])) second
              (before_last u y x (ascending_below s.labels set.subject.ascending m n y x low text at)))
          | inr (too, equal_too) ↦ absurd (omega arith)
        ]
      ];
    },
  )
  longer_added u n x more old new at are (inr (closed, is)) = (
    more,
    is,
    record {
      each = λ k q here. let (m, y, less, text, is_q) = are.each k q here in (m, y, omega arith, text, is_q);
      all = λ m y less text open_. elim (cases_eq m n) [
        | inl same ↦ absurd (closed (subst (λ z. IsOpen s.machine parts (u ++ z ∷ []))
            (one_item s.labels n y x (subst (λ z. slice_get s.labels z ≡ Some y) same text) at) open_))
        | inr other ↦ are.all m y (grind arith) text open_
      ];
      ascending = are.ascending;
    },
  )

  -- a prefix without its last label is one
  pub open_front : (v : List Label) (x : Label) → IsOpen s.machine parts (v ++ x ∷ []) → IsOpen s.machine parts v
  open_front v x open_ = record {
    word = let (y, word) = open_.word in (x ∷ y, subst (IsWord parts) (append_assoc v (x ∷ []) y) word);
    can = λ t z e. let (q, leads) = open_.can v x refl in can_front s.machine 0 t (z ∷ []) (q, subst (λ w. state_after s.machine 0 w ≡ Some q) e leads);
  }

  -- ---- the labels of words

  -- the labels of what a state can do are the machine's
  known_done : (q : ℕ) (u : List Label) → CanDoFrom s.machine q u → (l : Label) → In l u → In l s.labels
  known_done q [] can l i = absurd i
  known_done q (x ∷ u) can l (inl same) =
      let (r, leads, rest) = first_step s.machine q x u can in subst (λ z. In z s.labels) same (set.subject.over.known q r x leads)
  known_done q (x ∷ u) can l (inr i) = let (r, leads, rest) = first_step s.machine q x u can in known_done r u rest l i

  -- so are those of sequences that tell states apart
  known_apart : (w : List Label) → In w parts.apart → (l : Label) → In l w → In l s.labels
  known_apart w there l i =
      let (j, k, less, less_too, is) = set.first.apart.only w there in
      elim is.apart [
        | inl (can, cannot) ↦ known_done j w can l i
        | inr (can, cannot) ↦ known_done k w can l i
      ]

  -- and those of words
  known_word : (u : List Label) → IsWord parts u → (l : Label) → In l u → In l s.labels
  known_word u word l i = elim (in_either l word.front word.rest (subst (In l) word.is i)) [
    | inl front ↦ elim (in_either l word.begins.access word.begins.labels (subst (In l) word.begins.is front)) [
      | inl there ↦
          let (k, at) = in_get parts.access word.begins.access word.begins.leads in
          known_done 0 word.begins.access (k, (set.first.access.firsts k word.begins.access at).leads) l there
      | inr more ↦ subst (In l) set.first.named (word.begins.known l more)
    ]
    | inr rest ↦ elim word.ends [
      | inl empty ↦ absurd (subst (In l) empty rest)
      | inr among ↦ known_apart word.rest among l rest
    ]
  ]

  -- a label with which a prefix goes on is one of the machine's
  pub known_open : (u : List Label) (x : Label) → IsOpen s.machine parts (u ++ x ∷ []) → In x s.labels
  known_open u x open_ =
      let (y, word) = open_.word in
      known_word ((u ++ x ∷ []) ++ y) word x (in_front x (u ++ x ∷ []) y (in_back x u (x ∷ []) (inl refl)))

  -- if a prefix has no longer ones, it goes on in none
  pub longer_alone : (u : List Label) (more : List Prefix) → AreLonger s parts sequences u (length s.labels) more → length more ≡ 0 → (x : Label) →
      IsOpen s.machine parts (u ++ x ∷ []) → ⊥
  longer_alone u more are none_ x open_ =
      let (n, at) = in_get s.labels x (known_open u x open_) in
      let (k, p, here, is) = are.all n x (slice_get_within s.labels n x at) at open_ in
      let within = slice_get_within more k p here in
      omega arith

  -- and if it has some, it does
  pub longer_some : (u : List Label) (more : List Prefix) → AreLonger s parts sequences u (length s.labels) more → 0 < length more →
      (x : Label) × IsOpen s.machine parts (u ++ x ∷ [])
  longer_some u more are some =
      let (p, at) = get_some more 0 some in
      let (n, x, less, text, is) = are.each 0 p at in
      (x, is.open_)

  -- ---- the prefixes of one length

  module _ (nodes : List Prefix) where
    -- none is early
    pub early_none : (u : List Label) → IsEarlyNode s parts sequences nodes 0 u → ⊥
    early_none u h = let less = h.below in omega arith

    -- an early one stays so
    pub early_more : (i : ℕ) (u : List Label) → IsEarlyNode s parts sequences nodes i u → IsEarlyNode s parts sequences nodes (i + 1) u
    early_more i u h = record { index = h.index; prefix = h.prefix; below = (let less = h.below in omega arith); at = h.at; is = h.is }

    -- one more
    pub early_last : (i : ℕ) (p : Prefix) (v u : List Label) → slice_get nodes i ≡ Some p → IsPrefix s parts sequences p v →
        IsEarlyNode s parts sequences nodes (i + 1) u → IsEarlyNode s parts sequences nodes i u ⊎ (v ≡ u)
    early_last i p v u at is h = elim (cases_eq h.index i) [
      | inl same ↦
          let q_is : h.prefix ≡ p = one_item nodes i h.prefix p (subst (λ z. slice_get nodes z ≡ Some h.prefix) same h.at) at in
          inr (one_sequence p v u is (subst (λ z. IsPrefix s parts sequences z u) q_is h.is))
      | inr other ↦ inl (record { index = h.index; prefix = h.prefix; below = (let less = h.below in grind arith); at = h.at; is = h.is })
    ]

    -- that one
    pub early_here : (i : ℕ) (p : Prefix) (v : List Label) → slice_get nodes i ≡ Some p → IsPrefix s parts sequences p v →
        IsEarlyNode s parts sequences nodes (i + 1) v
    early_here i p v at is = record { index = i; prefix = p; below = omega arith; at = at; is = is }

    -- nothing is next yet
    pub next_none : AreNext s parts sequences nodes 0 []
    next_none = record {
      each = λ k p at. absurd (let n = slice_get_within [] k p at in let z : k < 0 = n in omega arith);
      all = λ u x h open_. absurd (early_none u h);
      ascending = λ j k p q v w less at_j at_k h g. absurd (let n = slice_get_within [] k q at_k in let z : k < 0 = n in omega arith);
    }

    module _ (d : ℕ) (level : AreLevel s parts sequences d nodes) where
      -- an early one comes before the next one
      pub early_before : (i : ℕ) (p : Prefix) (v u : List Label) → slice_get nodes i ≡ Some p → IsPrefix s parts sequences p v →
          IsEarlyNode s parts sequences nodes i u → Before u v
      early_before i p v u at is h = level.ascending h.index i h.prefix p u v h.below h.at at h.is is

      -- the longer ones of one more
      pub next_more : (i : ℕ) (p : Prefix) (v : List Label) (next more : List Prefix) → slice_get nodes i ≡ Some p → IsPrefix s parts sequences p v →
          AreNext s parts sequences nodes i next → AreLonger s parts sequences v (length s.labels) more →
          AreNext s parts sequences nodes (i + 1) (next ++ more)
      next_more i p v next more at is are longer = record {
        each = λ k q here. elim (get_either next more k q here) [
          | inl before ↦ let (u, x, early, is_q) = are.each k q before in (u, x, early_more i u early, is_q)
          | inr (j, same, there) ↦ let (n, x, less, text, is_q) = longer.each j q there in (v, x, early_here i p v at is, is_q)
        ];
        all = λ u x early open_. elim (early_last i p v u at is early) [
          | inl before ↦ let (k, q, here, is_q) = are.all u x before open_ in (k, q, get_front next more k q here, is_q)
          | inr same ↦
              let open_v = subst (λ z. IsOpen s.machine parts (z ++ x ∷ [])) (sym same) open_ in
              let (n, text) = in_get s.labels x (known_open v x open_v) in
              let (j, q, there, is_q) = longer.all n x (slice_get_within s.labels n x text) text open_v in
              (length next + j, q, get_back next more j q there, subst (λ z. IsPrefix s parts sequences q (z ++ x ∷ [])) same is_q)
        ];
        ascending = λ j k q r t w less at_j at_k h g. elim (get_either next more k r at_k) [
          | inl before_k ↦
              let within = slice_get_within next k r before_k in
              elim (get_either next more j q at_j) [
                | inl before_j ↦ are.ascending j k q r t w less before_j before_k h g
                | inr (m, same, there) ↦ absurd (omega arith)
              ]
          | inr (m, same, there) ↦ elim (get_either next more j q at_j) [
            | inl before_j ↦
                let (u, x, early, is_q) = are.each j q before_j in
                let (n, y, low, text, is_r) = longer.each m r there in
                let first = one_sequence q (u ++ x ∷ []) t is_q h in
                let second = one_sequence r (v ++ y ∷ []) w is_r g in
                subst (λ z. Before z w) first (subst (Before (u ++ x ∷ [])) second (before_push u v x y (early_before i p v u at is early)))
            | inr (l, same_too, there_too) ↦ longer.ascending l m q r t w (omega arith) there_too there h g
          ]
        ];
      }

      -- all of them are the prefixes with one label more
      pub next_level : (i : ℕ) (next : List Prefix) → length nodes ≤ i → AreNext s parts sequences nodes i next → AreLevel s parts sequences (d + 1) next
      next_level i next all are = record {
        each = λ k p at.
            let (u, x, early, is) = are.each k p at in
            let (v, is_v, long) = level.each early.index early.prefix early.at in
            let same = one_sequence early.prefix u v early.is is_v in
            let a = length-append u (x ∷ []) in
            let b = ap length same in
            (u ++ x ∷ [], is, omega arith);
        all = λ u open_ long. by (last_label u) open_ long;
        ascending = are.ascending;
      }
        where
          by : {u : List Label} → LastLabel u → IsOpen s.machine parts u → length u ≡ d + 1 →
              (k : ℕ) × (p : Prefix) × (slice_get next k ≡ Some p) × IsPrefix s parts sequences p u
          by none open_ long = absurd (let z : 0 ≡ d + 1 = long in omega arith)
          by (last v x) open_ long =
              let a = length-append v (x ∷ []) in
              let (k, p, at, is) = level.all v (open_front v x open_) (omega arith) in
              are.all v x (record { index = k; prefix = p; below = (let n = slice_get_within nodes k p at in omega arith); at = at; is = is }) open_

      -- ---- lines

      -- one more prefix, which goes on
      pub lines_kept : (i : ℕ) (p : Prefix) (v : List Label) (lines : List CutLine) → slice_get nodes i ≡ Some p → IsPrefix s parts sequences p v →
          ((x : Label) × IsOpen s.machine parts (v ++ x ∷ [])) → AreLinesTo s parts sequences d nodes i lines →
          AreLinesTo s parts sequences d nodes (i + 1) lines
      lines_kept i p v lines at is (x, goes_on) are = record {
        each = λ k l here. let (line, low) = are.each k l here in (line, elim low [ inl less ↦ inl less | inr early ↦ inr (early_more i _ early) ]);
        all = λ line is_line low. elim low [
          | inl less ↦ are.all line is_line (inl less)
          | inr early ↦ elim (early_last i p v (labels_of line) at is early) [
            | inl before ↦ are.all line is_line (inr before)
            | inr same ↦ absurd ((line_leaf s.machine parts line is_line).1 x (subst (λ z. IsOpen s.machine parts (z ++ x ∷ [])) same goes_on))
          ]
        ];
        known = are.known;
        ascending = are.ascending;
      }

      -- one more prefix, which is a line
      pub lines_more : (i : ℕ) (p : Prefix) (v : List Label) (lines : List CutLine) → slice_get nodes i ≡ Some p → IsPrefix s parts sequences p v →
          ((x : Label) → IsOpen s.machine parts (v ++ x ∷ []) → ⊥) → AreLinesTo s parts sequences d nodes i lines → (l : CutLine) →
          l.labels.items ≡ p.labels.items → l.is_refused ≡ is_none p.state → AreLinesTo s parts sequences d nodes (i + 1) (lines ++ l ∷ [])
      lines_more i p v lines at is alone are l labels refused = record {
        each = λ k m here. elim (get_added lines l k m here) [
          | inl before ↦
              let (line, low) = are.each k m before in
              (line, elim low [ inl less ↦ inl less | inr early ↦ inr (early_more i _ early) ])
          | inr (same, equal) ↦ subst (λ z. IsSuiteLine s.machine parts (kept_line s.labels z) ×
              ((length (labels_at s.labels z.labels.items) < d) ⊎ IsEarlyNode s parts sequences nodes (i + 1) (labels_at s.labels z.labels.items))) equal (
                subst (λ z. IsSuiteLine s.machine parts (line_of z l.is_refused)) (sym text) (leaf_line s.machine parts v is.open_ alone l.is_refused flag),
                inr (subst (IsEarlyNode s parts sequences nodes (i + 1)) (sym text) (early_here i p v at is)),
              )
        ];
        all = λ line is_line low. elim low [
          | inl less ↦ let (k, m, here, same) = are.all line is_line (inl less) in (k, m, get_front lines (l ∷ []) k m here, same)
          | inr early ↦ elim (early_last i p v (labels_of line) at is early) [
            | inl before ↦ let (k, m, here, same) = are.all line is_line (inr before) in (k, m, get_front lines (l ∷ []) k m here, same)
            | inr same ↦ (length lines, l, get_last lines l, this line is_line same)
          ]
        ];
        known = λ k m here n j. elim (get_added lines l k m here) [
          | inl before ↦ are.known k m before n j
          | inr (same, equal) ↦ is.known n (subst (In n) labels (subst (λ (z : CutLine). In n z.labels.items) (sym equal) j))
        ];
        ascending = λ j k m n less at_j at_k. elim (get_added lines l k n at_k) [
          | inl before_k ↦ elim (get_added lines l j m at_j) [
            | inl before_j ↦ are.ascending j k m n less before_j before_k
            | inr (same, equal) ↦ absurd (let w = slice_get_within lines k n before_k in omega arith)
          ]
          | inr (same, equal) ↦ elim (get_added lines l j m at_j) [
            | inl before_j ↦ subst (λ z. Before (labels_at s.labels m.labels.items) (labels_at s.labels z.labels.items)) equal
                (subst (Before (labels_at s.labels m.labels.items)) (sym text) (before_last_line (are.each j m before_j).1))
            | inr (too, equal_too) ↦ absurd (omega arith)
          ]
        ];
      }
        where
          text : labels_at s.labels l.labels.items ≡ v
          text = ap (labels_at s.labels) labels ∙ sym is.labels

          long : length v ≡ d
          long = let (u, is_u, e) = level.each i p at in ap length (one_sequence p v u is is_u) ∙ e

          flag : IsRefused s.machine parts v l.is_refused
          flag = subst (IsRefused s.machine parts v) (sym refused) (by p.state is.state)
            where
              by : (o : Option ℕ) → state_after s.machine 0 v ≡ o → IsRefused s.machine parts v (is_none o)
              by None e = λ (q, leads). some_apart (sym e ∙ leads)
              by (Some q) e = (q, e)

          before_last_line : {u : List Label} → (length u < d) ⊎ IsEarlyNode s parts sequences nodes i u → Before u v
          before_last_line (inl less) = inl (let e = long in omega arith)
          before_last_line {u} (inr early) = early_before i p v u at is early

          one_flag : (a b : Bool) → IsRefused s.machine parts v a → IsRefused s.machine parts v b → a ≡ b
          one_flag true true h g = refl
          one_flag false false h g = refl
          one_flag true false h g = absurd (h g)
          one_flag false true h g = absurd (g h)

          this : (line : Line) → IsSuiteLine s.machine parts line → v ≡ labels_of line → line ≡ kept_line s.labels l
          this line is_line same =
              let (open_, closed, (b, is_b, equal)) = line_leaf s.machine parts line is_line in
              let flags = one_flag b l.is_refused (subst (λ z. IsRefused s.machine parts z b) (sym same) is_b) flag in
              equal ∙ ap (λ z. line_of z b) (sym same ∙ sym text) ∙ ap (line_of (labels_at s.labels l.labels.items)) flags

      -- one more prefix, which is a line if it has no longer ones
      pub leaf_added : (i : ℕ) (p : Prefix) (v : List Label) (before more : List Prefix) (m n : ℕ) (lines now : List CutLine) →
          slice_get nodes i ≡ Some p → IsPrefix s parts sequences p v → AreLinesTo s parts sequences d nodes i lines →
          AreLonger s parts sequences v (length s.labels) more → m ≡ length (before ++ more) → n ≡ length before →
          MatchBool (nat_eq m n) ((l : CutLine) × (now ≡ lines ++ l ∷ []) × (l.labels.items ≡ p.labels.items) × (l.is_refused ≡ is_none p.state))
          (now ≡ lines) → AreLinesTo s parts sequences d nodes (i + 1) now
      leaf_added i p v before more m n lines now at is are longer long short added = by (nat_eq m n) refl added
        where
          joined : length (before ++ more) ≡ length before + length more
          joined = length-append before more

          equal : nat_eq m n ≡ true → length more ≡ 0
          equal e = let j = joined in let same : m ≡ n = nat_same m n e in omega arith

          apart : nat_eq m n ≡ false → 0 < length more
          apart e = let j = joined in let other : m ≢ n = nat_other m n e in few (length more) other j
            where
              few : (k : ℕ) → m ≢ n → length (before ++ more) ≡ length before + k → 0 < k
              few zero other j = absurd (other (omega arith))
              few (suc k) other j = omega arith

          by : (b : Bool) → nat_eq m n ≡ b →
              MatchBool b ((l : CutLine) × (now ≡ lines ++ l ∷ []) × (l.labels.items ≡ p.labels.items) × (l.is_refused ≡ is_none p.state)) (now ≡ lines) →
              AreLinesTo s parts sequences d nodes (i + 1) now
          by true e (l, made, labels, refused) = subst (AreLinesTo s parts sequences d nodes (i + 1)) (sym made)
              (lines_more i p v lines at is (longer_alone v more longer (equal e)) are l labels refused)
          by false e same = subst (AreLinesTo s parts sequences d nodes (i + 1)) (sym same)
              (lines_kept i p v lines at is (longer_some v more longer (apart e)) are)

      -- after all prefixes of one length the lines are those with fewer labels than the next length
      pub lines_next : (i : ℕ) (next : List Prefix) (lines : List CutLine) → length nodes ≤ i → AreLinesTo s parts sequences d nodes i lines →
          AreLinesTo s parts sequences (d + 1) next 0 lines
      lines_next i next lines whole are = record {
        each = λ k l here. let (line, low) = are.each k l here in (
          line,
          inl (elim low [
            | inl less ↦ omega arith
            | inr early ↦
                let (u, is_u, long) = level.each early.index early.prefix early.at in
                let same = ap length (one_sequence early.prefix _ u early.is is_u) in
                omega arith
          ]),
        );
        all = λ line is_line low. elim low [
          | inl less ↦ elim (cases_lt (length (labels_of line)) d) [
            | inl fewer ↦ are.all line is_line (inl fewer)
            | inr more ↦
                let open_ = (line_leaf s.machine parts line is_line).0 in
                let (k, p, at, is) = level.all (labels_of line) open_ (omega arith) in
                are.all line is_line (inr (record { index = k; prefix = p; below = (let n = slice_get_within nodes k p at in omega arith); at = at; is = is }))
          ]
          | inr early ↦ absurd (let z = early.below in omega arith)
        ];
        known = are.known;
        ascending = are.ascending;
      }
