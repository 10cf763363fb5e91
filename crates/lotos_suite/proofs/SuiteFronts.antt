-- Fronts of words, and what completes sequences to words.
use Rattle.std.proofs.Common.{◌≡◌, ◌⊎◌, ◌∙◌, ◌<◌, ◌≤◌, ◌+◌, ◌-◌, ℕ, zero, suc, Bool, true, false, cond, nat_eq, List, [], ◌∷◌, ◌++◌, Option, Some, MatchBool, length, length-append, ap, arith, inl, inr, refl, subst, sym}
use Rattle.std.proofs.lemmas.Bool.Decides.{nat_tests}
use Rattle.std.proofs.lemmas.List.{append_assoc, append-nil}
use Rattle.lotos_automaton.proofs.CoverOrder.{before_push}
use Rattle.lotos_check.proofs.JoinedLists.{in_either, in_front}
use Rattle.lotos_check.proofs.ListIndices.{get_in, get_some, in_get}
use Rattle.lotos_suite.proofs.MachineRuns.{after_both, can_front, first_step, one_number}
use Rattle.lotos_listing.proofs.SequenceOrder.{before_total}
use Rattle.lotos_suite.specs.Machines.{Machine, onward, state_after}
use Rattle.lotos_check.specs.NameLists.{In}
use Rattle.lotos_listing.specs.Order.{Label}
use Rattle.lotos_suite.specs.SuiteLines.{AreFirstAccesses}
use Rattle.lotos_suite.specs.SuitePrefixes.{IsFrontAs, IsSetting, front_then}
use Rattle.lotos_suite.specs.SuiteTables.{IsSubject, Subject}
use Rattle.lotos_suite.specs.Suites.{AreOf, IsFront, SuiteParts}
use Rattle.lotos_suite.specs.declared.apart_sequences.ApartStep.{ApartStep}
use Rattle.lotos_suite.specs.declared.prefixes.Front.{Front}
use Rattle.lotos_suite.specs.declared.prefixes.Front.TheVariants.{Access, Longer, Past}

-- ---- numbers

-- a number that is zero by the test
nat_eq-true : (n : ℕ) → nat_eq n 0 ≡ true → n ≡ 0
nat_eq-true n e = grind (arith, nat_tests)

-- and one that is not
nat_eq-false : (n : ℕ) → nat_eq n 0 ≡ false → 0 < n
nat_eq-false n e = grind (arith, nat_tests)

-- ---- sequences with a last label

-- a sequence is empty, or has a last label
pub data LastLabel : List Label → Type 0 where
  none : LastLabel []
  last : (v : List Label) (x : Label) → LastLabel (v ++ x ∷ [])

-- each is one or the other
pub last_label : (u : List Label) → LastLabel u
last_label [] = none
last_label (y ∷ u) = by (last_label u)
  where
    by : {u : List Label} → LastLabel u → LastLabel (y ∷ u)
    by none = last [] y
    by (last v x) = last (y ∷ v) x

-- nothing is not a sequence with a last label
pub no_last : (v : List Label) (x : Label) → [] ≡ v ++ x ∷ [] → ⊥
no_last v x e = let n = length-append v (x ∷ []) in let m : 0 ≡ length (v ++ x ∷ []) = ap length e in omega arith

-- sequences with a last label are equal if both parts are
pub same_last : (v w : List Label) (x y : Label) → v ++ x ∷ [] ≡ w ++ y ∷ [] → (v ≡ w) × (x ≡ y)
same_last [] [] x y e = (refl, cc)
same_last [] (b ∷ w) x y e = absurd (let n = length-append w (y ∷ []) in let m : 1 ≡ suc (length (w ++ y ∷ [])) = ap length e in omega arith)
same_last (a ∷ v) [] x y e = absurd (let n = length-append v (x ∷ []) in let m : suc (length (v ++ x ∷ [])) ≡ 1 = ap length e in omega arith)
same_last (a ∷ v) (b ∷ w) x y e =
    let head : a ≡ b = cc in
    let tail : v ++ x ∷ [] ≡ w ++ y ∷ [] = cc in
    let (p, q) = same_last v w x y tail in
    (ap (λ z. z ∷ v) head ∙ ap (λ z. b ∷ z) p, q)

-- two ways to cut a sequence: the one part goes on where the other ends, or the other way round
pub data TwoCuts (a b c d : List Label) : Type 0 where
  later : (z : List Label) → a ≡ c ++ z → d ≡ z ++ b → TwoCuts a b c d
  earlier : (x : Label) (z : List Label) → c ≡ a ++ x ∷ z → b ≡ x ∷ z ++ d → TwoCuts a b c d

-- each two ways
pub two_cuts : (a b c d : List Label) → a ++ b ≡ c ++ d → TwoCuts a b c d
two_cuts a b [] d e = later a refl (sym e)
two_cuts [] b (y ∷ c) d e = earlier y c refl e
two_cuts (x ∷ a) b (y ∷ c) d e =
    let head : x ≡ y = cc in
    let tail : a ++ b ≡ c ++ d = cc in
    by (two_cuts a b c d tail)
  where
    by : TwoCuts a b c d → TwoCuts (x ∷ a) b (y ∷ c) d
    by (later z p q) = later z (let head : x ≡ y = cc in ap (λ w. w ∷ a) head ∙ ap (λ w. y ∷ w) p) q
    by (earlier l z p q) = earlier l z (let head : x ≡ y = cc in ap (λ w. w ∷ c) (sym head) ∙ ap (λ w. x ∷ w) p) q

-- ---- access sequences

module _ (m : Machine) (access : List (List Label)) (are : AreFirstAccesses m access) (labels : List Label)
    (below : (q r : ℕ) (l : Label) → m.next q l ≡ Some r → r < m.states)
    (start : 0 < m.states) where
  -- the state after a sequence that the machine can do has an access sequence
  low : (q r : ℕ) (s : List Label) → q < m.states → state_after m q s ≡ Some r → r < m.states
  low q r [] less e = subst (λ v. v < m.states) (one_number q r e) less
  low q r (l ∷ s) less e =
      let (v, is, rest) = first_step m q l s (r, e) in
      let same : rest.0 ≡ r = one_number rest.0 r (sym (ap (λ o. onward o (λ x. state_after m x s)) is ∙ rest.1) ∙ e) in
      subst (λ x. x < m.states) same (low v rest.0 s (below q v l is) rest.1)

  -- an access sequence without its last label is one
  pub access_front : (v : List Label) (x : Label) → In (v ++ x ∷ []) access → In v access
  access_front v x i =
      let (k, at) = in_get access (v ++ x ∷ []) i in
      let first = are.firsts k (v ++ x ∷ []) at in
      let (j, to) = can_front m 0 v (x ∷ []) (k, first.leads) in
      let (r, at_r) = get_some access j (let n = low 0 j v start to in let c = are.counted in omega arith) in
      let other = are.firsts j r at_r in
      let whole : state_after m 0 (r ++ x ∷ []) ≡ Some k =
      after_both m 0 j r (x ∷ []) other.leads ∙ sym (after_both m 0 j v (x ∷ []) to) ∙ first.leads in
      elim (before_total v r) [
        | inl early ↦ absurd (other.first v to early)
        | inr (inl same) ↦ get_in access j v (at_r ∙ ap (λ z. Some z) (sym same))
        | inr (inr late) ↦ absurd (first.first (r ++ x ∷ []) whole (before_push r v x x late))
      ]

  -- an access sequence without what it ends with is one
  pub access_begin : (n : ℕ) (v y : List Label) → length y ≡ n → In (v ++ y) access → In v access
  access_begin zero v [] e i = subst (λ z. In z access) (append-nil v) i
  access_begin zero v (x ∷ y) e i = absurd (omega arith)
  access_begin (suc n) v y e i = by (last_label y) e i (λ z h j. access_begin n v z h j)
    where
      by : {y : List Label} → LastLabel y → length y ≡ suc n → In (v ++ y) access →
          ((z : List Label) → length z ≡ n → In (v ++ z) access → In v access) → In v access
      by none e i rest = absurd (omega arith)
      by (last z x) e i rest =
          let long = length-append z (x ∷ []) in
          rest z (omega arith) (access_front (v ++ z) x (subst (λ w. In w access) (sym (append_assoc v z (x ∷ []))) i))

module _ (s : Subject) (is : IsSubject s) (extra : ℕ) (parts : SuiteParts) (steps : List (Option ApartStep)) (sequences : List (List Label))
    (set : IsSetting s extra parts steps sequences) where
  -- a beginning of an access sequence is one
  pub begin_access : (v y : List Label) → In (v ++ y) parts.access → In v parts.access
  begin_access v y i = access_begin s.machine parts.access set.first.access s.labels is.over.below is.over.start (length y) v y refl i

  -- ---- fronts

  -- an access sequence is a front
  pub front_zero : (n : ℕ) (u : List Label) → In u parts.access → IsFront parts n u
  front_zero n u i = record { access = u; labels = []; is = sym (append-nil u); leads = i; known = λ l h. absurd h; short = omega arith }

  -- a front without labels after the access sequence is one
  pub zero_front : (u : List Label) → IsFront parts 0 u → In u parts.access
  zero_front u h = by h.labels h.short h.is
    where
      by : (w : List Label) → length w ≤ 0 → u ≡ h.access ++ w → In u parts.access
      by [] short e = subst (λ z. In z parts.access) (sym (e ∙ append-nil h.access)) h.leads
      by (x ∷ w) short e = absurd (omega arith)

  -- a front with few labels
  pub front_up : (n k : ℕ) (u : List Label) → n ≤ k → IsFront parts n u → IsFront parts k u
  front_up n k u more h = record {
    access = h.access;
    labels = h.labels;
    is = h.is;
    leads = h.leads;
    known = h.known;
    short =
        (let short = h.short in omega arith);
  }

  -- a front with one more label
  pub front_more : (n : ℕ) (u : List Label) (x : Label) → In x s.labels → IsFront parts n u → IsFront parts (n + 1) (u ++ x ∷ [])
  front_more n u x i h = record {
    access = h.access;
    labels = h.labels ++ x ∷ [];
    is = ap (λ z. z ++ x ∷ []) h.is ∙ append_assoc h.access h.labels (x ∷ []);
    leads = h.leads;
    known = λ l j. elim (in_either l h.labels (x ∷ []) j) [
      | inl old ↦ h.known l old
      | inr (inl same) ↦ subst (λ z. In l z) (sym set.first.named) (subst (λ z. In z s.labels) same i)
      | inr (inr nothing) ↦ absurd nothing
    ];
    short = let a = length-append h.labels (x ∷ []) in let b = h.short in omega arith;
  }

  -- a front with a last label is an access sequence, or the rest is a front
  pub front_less : (n : ℕ) (u : List Label) (x : Label) → IsFront parts (n + 1) (u ++ x ∷ []) → In (u ++ x ∷ []) parts.access ⊎ IsFront parts n u
  front_less n u x h = by (last_label h.labels) h.short h.known h.is
    where
      by : {w : List Label} → LastLabel w → length w ≤ n + 1 → AreOf parts.labels w → u ++ x ∷ [] ≡ h.access ++ w →
          In (u ++ x ∷ []) parts.access ⊎ IsFront parts n u
      by none short known e = inl (subst (λ z. In z parts.access) (sym (e ∙ append-nil h.access)) h.leads)
      by (last v y) short known e =
          let same = (same_last u (h.access ++ v) x y (e ∙ sym (append_assoc h.access v (y ∷ [])))).0 in
          inr (record {
            access = h.access;
            labels = v;
            is = same;
            leads = h.leads;
            known = λ l i. known l (in_front l v (y ∷ []) i);
            short = let a = length-append v (y ∷ []) in omega arith;
          })

  -- a beginning of a front is one
  pub front_begin : (n : ℕ) (u y : List Label) → IsFront parts n (u ++ y) → IsFront parts n u
  front_begin n u y h = by (two_cuts u y h.access h.labels h.is)
    where
      by : TwoCuts u y h.access h.labels → IsFront parts n u
      by (later z e rest) = record {
        access = h.access;
        labels = z;
        is = e;
        leads = h.leads;
        known = λ l i. h.known l (subst (In l) (sym rest) (in_front l z y i));
        short = let a = length-append z y in let b = ap length rest in let c = h.short in omega arith;
      }
      by (earlier x z e rest) = front_zero n u (begin_access u (x ∷ z) (subst (λ w. In w parts.access) e h.leads))

  -- the front after one more label
  pub front_next : (front : Front) (u : List Label) (x : Label) → In x s.labels → IsFrontAs parts front u → (first : Bool) →
      MatchBool first (In u parts.access → In (u ++ x ∷ []) parts.access) (In (u ++ x ∷ []) parts.access → ⊥) ⊎ (In u parts.access → ⊥) →
      IsFrontAs parts (front_then front first extra) (u ++ x ∷ [])
  front_next Access u x i h true (inl leads) = front_zero 0 (u ++ x ∷ []) (leads (zero_front u h))
  front_next Access u x i h true (inr not) = absurd (not (zero_front u h))
  front_next Access u x i h false (inr not) = absurd (not (zero_front u h))
  front_next Access u x i h false (inl other) = (
    1,
    omega arith,
    (let more = set.first.more in omega arith),
    front_more 0 u x i h,
    λ k less g. other (zero_front (u ++ x ∷ []) (front_up k 0 (u ++ x ∷ []) (omega arith) g)),
  )
  front_next (Longer left) u x i (n, some, sum, h, least) first given = by left (nat_eq left 0) refl sum
    where
      absent : In (u ++ x ∷ []) parts.access → ⊥
      absent j = least 0 some (front_zero 0 u (begin_access u (x ∷ []) j))

      by : (left : ℕ) (b : Bool) → nat_eq left 0 ≡ b → n + left ≡ parts.extra + 1 → IsFrontAs parts (cond b Past (Longer (left - 1))) (u ++ x ∷ [])
      by left true e sum = λ g. elim (front_less parts.extra u x g) [
        | inl j ↦ absent j
        | inr shorter ↦ least parts.extra (let z : left ≡ 0 = nat_eq-true left e in omega arith) shorter
      ]
      by left false e sum = (
        n + 1,
        omega arith,
        (let z : 0 < left = nat_eq-false left e in omega arith),
        front_more n u x i h,
        λ k less g. shorter k less g,
      )
        where
          shorter : (k : ℕ) → k < n + 1 → IsFront parts k (u ++ x ∷ []) → ⊥
          shorter zero less g = absent (zero_front (u ++ x ∷ []) g)
          shorter (suc k) less g = elim (front_less k u x (subst (λ z. IsFront parts z (u ++ x ∷ [])) (let z : suc k ≡ k + 1 = omega arith in z) g)) [
            | inl j ↦ absent j
            | inr h ↦ least k (omega arith) h
          ]
  front_next Past u x i h first given = λ g. h (front_begin (parts.extra + 1) u (x ∷ []) g)
