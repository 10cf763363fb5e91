-- The processes that may terminate, found in rounds.
use Rattle.std.proofs.Common.{◌≡◌, ◌↔◌, ◌⊎◌, ℕ, ◌+◌, ◌≤◌, ◌++◌, Bool, true, false, ◌&&◌, ◌||◌, List, [], ◌∷◌, Some, slice_get, length, refl, sym, ◌∙◌, ap, subst, inl, inr, arith}
use Rattle.std.specs.Prelude.{if◌then◌else◌}
use Rattle.std.proofs.Math.Dec.{eqb}
use Rattle.std.proofs.lemmas.Bool.{cases_lt}
use Rattle.std.proofs.lemmas.List.{length-append}
use Rattle.std.proofs.lemmas.Option.{slice_get_within}
use Rattle.std.specs.List.{list_any}
use Rattle.lotos_check.specs.NameLists.{In}
use Rattle.lotos_check.specs.Flat.{Flat, FlatProcess, stop, exit, prefix, choice, par, hide, enable, disable, call}
use Rattle.lotos_check.proofs.JoinedLists.{in_added}
use Rattle.lotos_check.proofs.ListIndices.{one_item}
use Rattle.lotos_warn.specs.Termination.{MayExit, of_exit, of_prefix, of_choice_left, of_choice_right, of_par, of_hide, of_enable, of_disable_left, of_disable_right, of_call, IsExiting, exits_by}
use Rattle.lotos_warn.specs.Additions.{AddsExiting, AreExiting, IsClosedBelow}
use Rattle.lotos_warn.proofs.NameTests.{number_found, number_missing}

-- a disjunction is true only if one of its parts is
pub one_true : (a b : Bool) → (a || b) ≡ true → (a ≡ true) ⊎ (b ≡ true)
one_true true b e = inl refl
one_true false b e = inr e

-- a conjunction is true only if both parts are
pub both_true : (a b : Bool) → (a && b) ≡ true → (a ≡ true) × (b ≡ true)
both_true true b e = (refl, e)
both_true false b e = cc

-- a disjunction is true if its first part is
pub first_true : (a b : Bool) → a ≡ true → (a || b) ≡ true
first_true true b e = refl
first_true false b e = cc

-- a disjunction is true if its second part is
pub second_true : (a b : Bool) → b ≡ true → (a || b) ≡ true
second_true true b e = refl
second_true false b e = e

-- a conjunction is true if both parts are
pub all_true : (a b : Bool) → a ≡ true → b ≡ true → (a && b) ≡ true
all_true true b e f = f
all_true false b e f = cc

-- a number of the list is found by a test
pub number_among : (n : ℕ) (ks : List ℕ) → In n ks → list_any (eqb n) ks ≡ true
number_among n ks i = by_test (list_any (eqb n) ks) refl
  where
    by_test : (there : Bool) → list_any (eqb n) ks ≡ there → there ≡ true
    by_test true e = refl
    by_test false e = absurd (number_missing n ks e i)

-- what exits by processes that may terminate may terminate
pub exits_soundly : (processes : List FlatProcess) (numbers : List ℕ) → AreExiting processes numbers → (b : Flat) →
    exits_by numbers b ≡ true → MayExit processes b
exits_soundly processes numbers sound stop e = cc
exits_soundly processes numbers sound exit e = of_exit
exits_soundly processes numbers sound (prefix a b) e = of_prefix (exits_soundly processes numbers sound b e)
exits_soundly processes numbers sound (choice l r) e = elim (one_true (exits_by numbers l) (exits_by numbers r) e) [
  | inl h ↦ of_choice_left (exits_soundly processes numbers sound l h)
  | inr h ↦ of_choice_right (exits_soundly processes numbers sound r h)
]
exits_soundly processes numbers sound (par l s r) e =
    let h = both_true (exits_by numbers l) (exits_by numbers r) e in
    of_par (exits_soundly processes numbers sound l h.0) (exits_soundly processes numbers sound r h.1)
exits_soundly processes numbers sound (hide gs b) e = of_hide (exits_soundly processes numbers sound b e)
exits_soundly processes numbers sound (enable l r) e =
    let h = both_true (exits_by numbers l) (exits_by numbers r) e in
    of_enable (exits_soundly processes numbers sound l h.0) (exits_soundly processes numbers sound r h.1)
exits_soundly processes numbers sound (disable l r) e = elim (one_true (exits_by numbers l) (exits_by numbers r) e) [
  | inl h ↦ of_disable_left (exits_soundly processes numbers sound l h)
  | inr h ↦ of_disable_right (exits_soundly processes numbers sound r h)
]
exits_soundly processes numbers sound (call k gs) e = let x = sound k (number_found k numbers e) in of_call x.located x.exits

-- what may terminate exits by all processes that exit by themselves
pub exits_completely : (processes : List FlatProcess) (numbers : List ℕ) →
    ((k : ℕ) (process : FlatProcess) → slice_get processes k ≡ Some process → exits_by numbers process.body ≡ true → In k numbers) →
    (b : Flat) → MayExit processes b → exits_by numbers b ≡ true
exits_completely processes numbers closed b of_exit = refl
exits_completely processes numbers closed b (of_prefix h) = exits_completely processes numbers closed _ h
exits_completely processes numbers closed b (of_choice_left {l = l} {r = r} h) =
    first_true (exits_by numbers l) (exits_by numbers r) (exits_completely processes numbers closed l h)
exits_completely processes numbers closed b (of_choice_right {l = l} {r = r} h) =
    second_true (exits_by numbers l) (exits_by numbers r) (exits_completely processes numbers closed r h)
exits_completely processes numbers closed b (of_par {l = l} {r = r} h k) =
    all_true (exits_by numbers l) (exits_by numbers r) (exits_completely processes numbers closed l h) (exits_completely processes numbers closed r k)
exits_completely processes numbers closed b (of_hide h) = exits_completely processes numbers closed _ h
exits_completely processes numbers closed b (of_enable {l = l} {r = r} h k) =
    all_true (exits_by numbers l) (exits_by numbers r) (exits_completely processes numbers closed l h) (exits_completely processes numbers closed r k)
exits_completely processes numbers closed b (of_disable_left {l = l} {r = r} h) =
    first_true (exits_by numbers l) (exits_by numbers r) (exits_completely processes numbers closed l h)
exits_completely processes numbers closed b (of_disable_right {l = l} {r = r} h) =
    second_true (exits_by numbers l) (exits_by numbers r) (exits_completely processes numbers closed r h)
exits_completely processes numbers closed b (of_call {k = k} {process = p} at h) =
    number_among k numbers (closed k p at (exits_completely processes numbers closed p.body h))

-- a number is put after the others unless it is among them
pub exiting_added : (number : ℕ) (body : Flat) (old new : List ℕ) → new ≡ (if list_any (eqb number) old then old else old ++ number ∷ []) →
    exits_by old body ≡ true → AddsExiting number body old new
exiting_added number body old new grows exits = by_test (list_any (eqb number) old) refl grows
  where
    by_test : (there : Bool) → list_any (eqb number) old ≡ there → new ≡ (if there then old else old ++ number ∷ []) → AddsExiting number body old new
    by_test true found same = inl (same, λ e. number_found number old found)
    by_test false none grown = inr (grown, exits)

-- a round so far: what was added may terminate, and without any addition all before the number are passed
pub record IsRound (processes : List FlatProcess) (old now : List ℕ) (number : ℕ) : Type 0 where
  pub sound : AreExiting processes old → AreExiting processes now
  pub longer : length old ≤ length now
  pub closed : length now ≡ length old → IsClosedBelow processes now number

-- at the start of a round nothing is added, and no process is passed
pub round_start : (processes : List FlatProcess) (old : List ℕ) → IsRound processes old old 0
round_start processes old = record { sound = λ h. h; longer = omega arith; closed = λ e k process below at x. absurd (omega arith) }

-- a process that may terminate by such numbers may be added to them
pub sound_next : (processes : List FlatProcess) (old now next : List ℕ) (number : ℕ) (process : FlatProcess) →
    slice_get processes number ≡ Some process → (AreExiting processes old → AreExiting processes now) →
    AddsExiting number process.body now next → AreExiting processes old → AreExiting processes next
sound_next processes old now next number process at sound (inl (same, last)) h = subst (AreExiting processes) (sym same) (sound h)
sound_next processes old now next number process at sound (inr (grown, exits)) h = λ k i. elim (in_added k now number (subst (In k) grown i)) [
  | inl j ↦ sound h k j
  | inr e ↦ subst (IsExiting processes) e
      (record { process = process; located = at; exits = exits_soundly processes now (sound h) process.body exits })
]

-- a round up to a process is one up to the next number, if the process is added when its body may terminate by the
-- numbers there
pub round_next : (processes : List FlatProcess) (old now next : List ℕ) (number : ℕ) (process : FlatProcess) → slice_get processes number ≡ Some process →
    IsRound processes old now number → AddsExiting number process.body now next → IsRound processes old next (number + 1)
round_next processes old now next number process at before (inl (same, last)) = record {
  sound = sound_next processes old now next number process at before.sound (inl (same, last));
  longer = subst (λ xs. length old ≤ length xs) (sym same) before.longer;
  closed = λ e. subst (λ xs. IsClosedBelow processes xs (number + 1)) (sym same) (more (ap length (sym same) ∙ e));
}
  where
    more : length now ≡ length old → IsClosedBelow processes now (number + 1)
    more e k other below there exits = elim (cases_lt k number) [
      | inl less ↦ before.closed e k other less there exits
      | inr past ↦ (
          let here : k ≡ number = omega arith in
          let found : slice_get processes number ≡ Some other = subst (λ j. slice_get processes j ≡ Some other) here there in
          let one : other ≡ process = one_item processes number other process found at in
          subst (λ j. In j now) (sym here) (last (subst (λ p. exits_by now p.body ≡ true) one exits)))
    ]
round_next processes old now next number process at before (inr (grown, exits)) =
    let longer : length next ≡ length now + 1 = ap length grown ∙ length-append now (number ∷ []) in
    let older = before.longer in
    record {
      sound = sound_next processes old now next number process at before.sound (inr (grown, exits));
      longer = omega arith;
      closed = λ e. absurd (omega arith);
    }

-- after a round without an addition the numbers are exactly those of the processes that may terminate
pub all_exiting : (processes : List FlatProcess) (numbers : List ℕ) → AreExiting processes numbers → IsClosedBelow processes numbers (length processes) →
    (k : ℕ) → In k numbers ↔ IsExiting processes k
all_exiting processes numbers sound closed k = (
  sound k,
  (λ x. closed k x.process (slice_get_within processes k x.process x.located) x.located
      (exits_completely processes numbers (λ j p at e. closed j p (slice_get_within processes j p at) at e) x.process.body x.exits)),
)

-- what exits by all numbers of processes that may terminate is what may terminate
pub whole_exits : (processes : List FlatProcess) (numbers : List ℕ) → ((k : ℕ) → In k numbers ↔ IsExiting processes k) → (b : Flat) (exits : Bool) →
    exits ≡ exits_by numbers b → (exits ≡ true) ↔ MayExit processes b
whole_exits processes numbers all b exits e = (
  (λ h. exits_soundly processes numbers (λ k i. (all k).0 i) b (sym e ∙ h)),
  (λ h. e ∙ exits_completely processes numbers (closed_by processes numbers all) b h),
)
  where
    closed_by : (processes : List FlatProcess) (numbers : List ℕ) → ((k : ℕ) → In k numbers ↔ IsExiting processes k) → (k : ℕ) (process : FlatProcess) →
        slice_get processes k ≡ Some process → exits_by numbers process.body ≡ true → In k numbers
    closed_by processes numbers all k process at x =
        (all k).1 (record { process = process; located = at; exits = exits_soundly processes numbers (λ j i. (all j).0 i) process.body x })

-- equivalence is transitive
pub both_ways : {P Q R : Type 0} → P ↔ Q → Q ↔ R → P ↔ R
both_ways h k = ((λ p. k.0 (h.0 p)), (λ r. h.1 (k.1 r)))
