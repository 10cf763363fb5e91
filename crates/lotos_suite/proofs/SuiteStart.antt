-- The beginning and the end of the search for the lines of a suite.
use Rattle.std.proofs.Common.{◌≡◌, ◌≢◌, ◌∙◌, ◌<◌, ◌+◌, ◌-◌, ℕ, zero, suc, List, [], ◌∷◌, ◌++◌, Option, Some, length, length-append, map, ap, arith, inl, inr, refl, subst, sym, slice_get}
use Rattle.std.proofs.lemmas.Bool.{cases_lt}
use Rattle.std.proofs.lemmas.Option.{same_Some, slice_get_within}
use Rattle.lotos_suite.proofs.FirstParts.{are_access_sequences}
use Rattle.lotos_suite.proofs.LeafLines.{line_labels, line_leaf}
use Rattle.lotos_suite.proofs.LevelLines.{open_front}
use Rattle.lotos_check.proofs.ListIndices.{get_in, get_map, in_get}
use Rattle.lotos_listing.proofs.SequenceOrder.{before_total}
use Rattle.lotos_suite.proofs.SuiteFronts.{LastLabel, front_zero, last, last_label, none, no_last}
use Rattle.lotos_suite.specs.ApartSearch.{AreAllApart}
use Rattle.lotos_suite.specs.Machines.{Machine, state_after}
use Rattle.lotos_check.specs.NameLists.{In}
use Rattle.lotos_listing.specs.Order.{Before, Label}
use Rattle.lotos_suite.specs.SuiteLines.{AreFirstParts, AreSuiteLines, IsFirstApart}
use Rattle.lotos_suite.specs.SuitePrefixes.{AreRests, IsFrontAs, IsOpen, IsPrefix, IsSetting, labels_at}
use Rattle.lotos_suite.specs.SuiteSearch.{AreLevel, AreLinesTo, kept_line}
use Rattle.lotos_suite.specs.SuiteTables.{IsSubject, Subject}
use Rattle.lotos_suite.specs.Suites.{IsSuiteLine, Line, SuiteParts, TellsApart, labels_of}
use Rattle.lotos_suite.specs.declared.apart_sequences.ApartStep.{ApartStep}
use Rattle.lotos_suite.specs.declared.prefixes.Front.TheVariants.{Access}
use Rattle.lotos_suite.specs.declared.prefixes.Prefix.{Prefix}
use Rattle.lotos_suite.specs.declared.suite_lines.CutLine.{CutLine}

-- ---- the sequences that tell states apart

-- there is one first sequence that tells two states apart
one_first : (m : Machine) (j k : ℕ) (v w : List Label) → IsFirstApart m j k v → IsFirstApart m j k w → v ≡ w
one_first m j k v w h g = elim (before_total v w) [
  | inl early ↦ absurd (g.first v h.apart early)
  | inr (inl same) ↦ same
  | inr (inr late) ↦ absurd (h.first w g.apart late)
]

-- states that are told apart are different
apart_differ : (m : Machine) (j k : ℕ) (w : List Label) → TellsApart m j k w → j ≢ k
apart_differ m j k w (inl (can, cannot)) e = cannot (subst (λ z. (r : ℕ) × (state_after m z w ≡ Some r)) e can)
apart_differ m j k w (inr (can, cannot)) e = cannot (subst (λ z. (r : ℕ) × (state_after m z w ≡ Some r)) (sym e) can)

-- all items but the first
abbrev pub after_first : {X : Type 0} → List X → List X
after_first [] = []
after_first (x ∷ xs) = xs

-- they have the other indices
later_in : {X : Type 0} (xs : List X) (k : ℕ) (x : X) → 0 < k → slice_get xs k ≡ Some x → In x (after_first xs)
later_in [] k x positive at = cc
later_in (y ∷ xs) zero x positive at = absurd (omega arith)
later_in (y ∷ xs) (suc k) x positive at = get_in xs k x at

-- and back
in_later : {X : Type 0} (xs : List X) (x : X) → In x (after_first xs) → (k : ℕ) × (0 < k) × (slice_get xs k ≡ Some x)
in_later [] x i = absurd i
in_later (y ∷ xs) x i = let (k, at) = in_get xs x i in (suc k, omega arith, at)

module _ (s : Subject) (is : IsSubject s) (extra : ℕ) (steps : List (Option ApartStep)) (apart : AreAllApart s steps) where
  -- the parts of the suite with these sequences
  abbrev pub parts_of : SuiteParts
  parts_of = record { labels = s.labels; access = s.access; apart = after_first apart.sequences; extra = extra }

  -- they are the first ones of their kinds
  pub first_parts : AreFirstParts s.machine s.labels extra parts_of
  first_parts = record {
    named = refl;
    more = refl;
    access = is.access;
    apart = record {
      only = λ w i. let (k, positive, at) = in_later apart.sequences w i in apart.only k w positive at;
      all = λ j k less less_too other.
          let (n, w, positive, at, first) = apart.all j k less less_too other in
          (w, later_in apart.sequences n w positive at, first);
    };
  }

  -- all parts of the suite are as these
  pub setting : (parts : SuiteParts) → AreFirstParts s.machine s.labels extra parts → parts.access ≡ s.access →
      IsSetting s extra parts steps apart.sequences
  setting parts first access = record {
    subject = is;
    first = first;
    access = access;
    by_steps = apart.by_steps;
    there = λ w i.
        let (j, k, less, less_too, one) = first.apart.only w i in
        let (n, v, positive, at, other) = apart.all j k less less_too (apart_differ s.machine j k w one.apart) in
        (n, positive, at ∙ ap (λ z. Some z) (one_first s.machine j k v w other one));
    back = λ n w positive at.
        let (j, k, less, less_too, one) = apart.only n w positive at in
        let (v, i, other) = first.apart.all j k less less_too (apart_differ s.machine j k w one.apart) in
        subst (λ z. In z parts.apart) (one_first s.machine j k v w other one) i;
  }

module _ (s : Subject) (extra : ℕ) (parts : SuiteParts) (steps : List (Option ApartStep)) (sequences : List (List Label))
    (set : IsSetting s extra parts steps sequences) where
  -- ---- the beginning

  -- the empty sequence is a prefix
  pub empty_is : (p : Prefix) → p.labels.items ≡ [] → p.state ≡ Some 0 → p.front ≡ Access → p.rests.items ≡ [] → IsPrefix s parts sequences p []
  empty_is p labels state front rests = record {
    labels = ap (labels_at s.labels) (sym labels);
    known = λ n i. absurd (subst (In n) labels i);
    open_ = record {
      word = (
        [],
        record {
          front = [];
          rest = [];
          is = refl;
          begins = front_zero s set.subject extra parts steps sequences set
              (parts.extra + 1) [] start;
          ends = inl refl;
        },
      );
      can = λ v x e. absurd (no_last v x e);
    };
    state = sym state;
    front = subst (λ f. IsFrontAs parts f []) (sym front) (front_zero s set.subject extra parts steps sequences set 0 [] start);
    rests = subst (λ ks. AreRests parts sequences ks []) (sym rests) (record {
      sound = λ k i. absurd i;
      all = λ f begun rest same some is_front among. absurd (some (by f begun same));
    });
  }
    where
      start : In [] parts.access
      start = get_in parts.access 0 [] (are_access_sequences s.machine parts.access set.subject.over.start set.first.access).starts

      by : (f begun : List Label) → [] ≡ f ++ begun → begun ≡ []
      by [] begun e = sym e
      by (x ∷ f) begun e = absurd (let n : 0 ≡ suc (length (f ++ begun)) = ap length e in omega arith)

  -- it is the only one without labels
  pub first_level : (p : Prefix) → IsPrefix s parts sequences p [] → AreLevel s parts sequences 0 (p ∷ [])
  first_level p is = record {
    each = λ k q at. by k q at;
    all = λ u open_ long. (0, p, refl, subst (IsPrefix s parts sequences p) (sym (nothing u long)) is);
    ascending = λ j k q r u v less at_j at_k h g. absurd (let n = slice_get_within (p ∷ []) k r at_k in let z : k < 1 = n in omega arith);
  }
    where
      nothing : (u : List Label) → length u ≡ 0 → u ≡ []
      nothing [] e = refl
      nothing (x ∷ u) e = absurd (omega arith)

      by : (k : ℕ) (q : Prefix) → slice_get (p ∷ []) k ≡ Some q → (u : List Label) × IsPrefix s parts sequences q u × (length u ≡ 0)
      by zero q at = ([], subst (λ z. IsPrefix s parts sequences z []) (same_Some p q at) is, refl)
      by (suc k) q at = cc

  -- there is no line yet
  pub no_lines : (nodes : List Prefix) → AreLinesTo s parts sequences 0 nodes 0 []
  no_lines nodes = record {
    each = λ k l at. absurd (let n = slice_get_within [] k l at in let z : k < 0 = n in omega arith);
    all = λ line is low. absurd (elim low [
      | inl less ↦ (let z : length (labels_of line) < 0 = less in omega arith)
      | inr early ↦
          (let z = early.below in omega arith)
    ]);
    known = λ k l at n i. absurd (let m = slice_get_within [] k l at in let z : k < 0 = m in omega arith);
    ascending = λ j k l m less at_j at_k. absurd (let n = slice_get_within [] k m at_k in let z : k < 0 = n in omega arith);
  }

  -- ---- the end

  -- a prefix has a beginning of each length
  open_begin : (n : ℕ) (u : List Label) → IsOpen s.machine parts u → (d : ℕ) → length u ≡ d + n → (v : List Label) × IsOpen s.machine parts v × (length v ≡ d)
  open_begin zero u open_ d long = (u, open_, omega arith)
  open_begin (suc n) u open_ d long = by (last_label u) open_ long (λ v open_v e. open_begin n v open_v d e)
    where
      by : {u : List Label} → LastLabel u → IsOpen s.machine parts u → length u ≡ d + suc n →
          ((v : List Label) → IsOpen s.machine parts v → length v ≡ d + n → (w : List Label) × IsOpen s.machine parts w × (length w ≡ d)) →
          (v : List Label) × IsOpen s.machine parts v × (length v ≡ d)
      by none open_ long rest = absurd (let z : 0 ≡ d + suc n = long in omega arith)
      by (last v x) open_ long rest =
          let a = length-append v (x ∷ []) in
          rest v (open_front s extra parts steps sequences set v x open_) (omega arith)

  -- if no prefix has so many labels, all lines were found
  pub all_lines : (d : ℕ) (nodes : List Prefix) (lines : List CutLine) → length nodes ≡ 0 → AreLevel s parts sequences d nodes →
      AreLinesTo s parts sequences d nodes 0 lines → AreSuiteLines s.machine parts (map (kept_line s.labels) lines)
  all_lines d nodes lines empty level are = record {
    each = λ line. (
      (λ i.
          let (k, at) = in_get (map (kept_line s.labels) lines) line i in
          let (l, here, same) = get_map (kept_line s.labels) lines k line at in
          subst (IsSuiteLine s.machine parts) same (are.each k l here).0),
      (λ is.
          let (k, l, here, same) = are.all line is (inl (short line is)) in
          subst (λ z. In z (map (kept_line s.labels) lines)) (sym same) (mapped lines l (get_in lines k l here))),
    );
    ascending = λ j k a b less at_j at_k.
        let (l, here, same) = get_map (kept_line s.labels) lines j a at_j in
        let (m, here_too, same_too) = get_map (kept_line s.labels) lines k b at_k in
        let before = are.ascending j k l m less here here_too in
        let first = sym (line_labels (labels_at s.labels l.labels.items) l.is_refused) ∙ ap labels_of same in
        let second = sym (line_labels (labels_at s.labels m.labels.items) m.is_refused) ∙ ap labels_of same_too in
        subst (λ z. Before z (labels_of b)) first (subst (Before (labels_at s.labels l.labels.items)) second before);
  }
    where
      mapped : (xs : List CutLine) (l : CutLine) → In l xs → In (kept_line s.labels l) (map (kept_line s.labels) xs)
      mapped [] l i = absurd i
      mapped (x ∷ xs) l (inl same) = inl (ap (kept_line s.labels) same)
      mapped (x ∷ xs) l (inr i) = inr (mapped xs l i)

      short : (line : Line) → IsSuiteLine s.machine parts line → length (labels_of line) < d
      short line is = elim (cases_lt (length (labels_of line)) d) [
        | inl less ↦ less
        | inr more ↦
            let n = length (labels_of line) - d in
            let (v, open_v, long) = open_begin n (labels_of line) (line_leaf s.machine parts line is).0 d (omega arith) in
            let (k, p, at, is_p) = level.all v open_v long in
            absurd (let z = slice_get_within nodes k p at in omega arith)
      ]
