-- Whether a name or a number is among the keys of a set.
use Rattle.std.proofs.Common.{◌≡◌, ◌↔◌, ◌⊎◌, ℕ, List, [], ◌∷◌, ◌++◌, Some, slice_get, map, refl, sym, ◌∙◌, subst, inl, inr, Bool, true, false}
use Rattle.std.specs.Prelude.{if◌then◌else◌, not, MatchBool}
use Rattle.std.proofs.Math.Dec.{eqb}
use Rattle.std.proofs.lemmas.Bool.{eq-eqb, eqb-true}
use Rattle.std.specs.List.{list_any}
use Rattle.std.specs.Str.{bytes_eq}
use Rattle.std.proofs.lemmas.List.{map-append, map-id}
use Rattle.std.proofs.lemmas.Slice.Eq.{bytes_eq-Decides}
use Rattle.lotos_check.specs.NameLists.{Name, In}
use Rattle.lotos_check.proofs.ListIndices.{get_front}
use Rattle.lotos_check.proofs.JoinedLists.{in_added, in_back, in_front}
use Rattle.lotos_check.proofs.NameTests.{in_if_any, name_found, name_missing, out_if_none}
use Rattle.lotos_warn.specs.Additions.{Adds, AddsNames, Includes, IsVisible, KeepsIndices}

-- a list with one more at its end has that, too
pub adds_end : {X : Type 0} (xs : List X) (y : X) → Adds xs (xs ++ y ∷ []) (λ x. y ≡ x)
adds_end xs y x = (
  (λ i. in_added x xs y i),
  (λ h. elim h [ inl j ↦ in_front x xs (y ∷ []) j | inr e ↦ in_back x xs (y ∷ []) (inl e) ]),
)

-- keys that are tested for what they stand for, by a test that decides whether that is the same
module _ {K X : Type 0} (now : K → X) (same : X → X → Bool) (sound : (x y : X) → same x y ≡ true → x ≡ y)
    (complete : (x y : X) → x ≡ y → same x y ≡ true) where
  -- a key that is put after the others unless one stands for the same
  pub inserted : (old : List K) (key : K) (n : X) (there : Bool) → now key ≡ n → list_any (λ k. same n (now k)) old ≡ there →
      Adds (map now old) (map now (if there then old else old ++ key ∷ [])) (λ x. n ≡ x)
  inserted old key n true is_text found = λ x. (
    (λ i. inl i),
    (λ h. elim h [ inl i ↦ i | inr e ↦ subst (λ m. In m (map now old)) e (in_if_any now same sound complete n old found) ]),
  )
  inserted old key n false is_text none =
      let all : Adds (map now old) (map now old ++ now key ∷ []) (λ x. now key ≡ x) = adds_end (map now old) (now key) in
      let grown = sym (map-append now old (key ∷ [])) in
      let moved = subst (λ ks. Adds (map now old) ks (λ x. now key ≡ x)) grown all in
      subst (λ m. Adds (map now old) (map now (old ++ key ∷ [])) (λ x. m ≡ x)) is_text moved

-- a text is put after the others unless it is among them
pub inserted_name : {K : Type 0} (now : K → Name) (old new : List K) (key : K) (n : Name) → now key ≡ n →
    new ≡ (if list_any (λ k. bytes_eq n (now k)) old then old else old ++ key ∷ []) →
    AddsNames now old new (λ m. n ≡ m)
inserted_name now old new key n is_text grows =
    subst (λ ks. AddsNames now old ks (λ m. n ≡ m)) (sym grows)
    (inserted now bytes_eq (λ x y. (bytes_eq-Decides x y).0) (λ x y. (bytes_eq-Decides x y).1) old key n _ is_text refl)

-- a name is new exactly if a test finds none of its text
pub new_name : {K : Type 0} (now : K → Name) (old : List K) (n name : Name) (new : Bool) → n ≡ name → new ≡ not (list_any (λ k. bytes_eq n (now k)) old) →
    MatchBool new (In name (map now old) → ⊥) (In name (map now old))
new_name now old n name new is_text e =
    subst (λ m. MatchBool new (In m (map now old) → ⊥) (In m (map now old))) is_text
    (subst (λ b. MatchBool b (In n (map now old) → ⊥) (In n (map now old))) (sym e) (by_test (list_any (λ k. bytes_eq n (now k)) old) refl))
  where
    by_test : (there : Bool) → list_any (λ k. bytes_eq n (now k)) old ≡ there → MatchBool (not there) (In n (map now old) → ⊥) (In n (map now old))
    by_test true found = name_found now n old found
    by_test false none = name_missing now n old none

-- a number is put after the others unless it is among them
pub inserted_number : (old new : List ℕ) (n : ℕ) → new ≡ (if list_any (eqb n) old then old else old ++ n ∷ []) → Adds old new (λ k. n ≡ k)
inserted_number old new n grows =
    let all = inserted (λ k. k) eqb eqb-true eq-eqb old n n (list_any (eqb n) old) refl refl in
    let from_old = subst (λ xs. Adds xs (map (λ k. k) (if list_any (eqb n) old then old else old ++ n ∷ [])) (λ k. n ≡ k)) (map-id old) all in
    subst (λ xs. Adds old xs (λ k. n ≡ k)) (map-id (if list_any (eqb n) old then old else old ++ n ∷ []) ∙ sym grows) from_old

-- the numbers that are there keep their indices
pub kept_indices : (old new : List ℕ) (n : ℕ) → new ≡ (if list_any (eqb n) old then old else old ++ n ∷ []) → KeepsIndices old new
kept_indices old new n grows index k at = subst (λ xs. slice_get xs index ≡ Some k) (sym grows) (by_test (list_any (eqb n) old))
  where
    by_test : (there : Bool) → slice_get (if there then old else old ++ n ∷ []) index ≡ Some k
    by_test true = at
    by_test false = get_front old (n ∷ []) index k at

-- a number that a test does not find is not among the keys
pub number_missing : (n : ℕ) (ks : List ℕ) → list_any (eqb n) ks ≡ false → In n ks → ⊥
number_missing n ks none i = out_if_none (λ k. k) eqb eqb-true eq-eqb n ks none (subst (In n) (sym (map-id ks)) i)

-- a number that a test finds is
pub number_found : (n : ℕ) (ks : List ℕ) → list_any (eqb n) ks ≡ true → In n ks
number_found n ks some = subst (In n) (map-id ks) (in_if_any (λ k. k) eqb eqb-true eq-eqb n ks some)

-- a number that one test finds and another does not
pub in_first_alone : (first second : List ℕ) (n : ℕ) (there : Bool) → there ≡ list_any (eqb n) second → In n first →
    MatchBool (not there) (In n first × (In n second → ⊥)) ((In n first → ⊥) ⊎ In n second)
in_first_alone first second n true found i = inr (number_found n second (sym found))
in_first_alone first second n false none i = (i, number_missing n second (sym none))

-- a number that the first test does not find
pub not_in_first : (first second : List ℕ) (n : ℕ) (there : Bool) → there ≡ false → list_any (eqb n) first ≡ false →
    MatchBool there (In n first × (In n second → ⊥)) ((In n first → ⊥) ⊎ In n second)
not_in_first first second n there e none =
    subst (λ b. MatchBool b (In n first × (In n second → ⊥)) ((In n first → ⊥) ⊎ In n second)) (sym e) (inl (number_missing n first none))

-- a name that is visible in a list is the first, which is then visible, or visible among the others
pub visible_split : (hidden : List Name) (m : Name) (ms : List Name) (n : Name) →
    IsVisible hidden (m ∷ ms) n ↔ (((In n hidden → ⊥) × (m ≡ n)) ⊎ IsVisible hidden ms n)
visible_split hidden m ms n = (
  (λ h. elim h.1 [ inl e ↦ inl (h.0, e) | inr i ↦ inr (h.0, i) ]),
  (λ h. elim h [ inl p ↦ (p.0, inl p.1) | inr p ↦ (p.0, inr p.1) ]),
)

-- what is visible depends only on what the hidden names are
pub visible_as : (hidden others names : List Name) → ((n : Name) → In n hidden ↔ In n others) → (n : Name) → IsVisible hidden names n ↔ IsVisible others names n
visible_as hidden others names same n = (
  (λ h. ((λ i. h.0 ((same n).1 i)), h.1)),
  (λ h. ((λ i. h.0 ((same n).0 i)), h.1)),
)

-- if the names include the rest, they include all
abbrev pub IncludesAgain : List Name → List Name → List Name → Type 0
IncludesAgain names rest all = Includes names rest ↔ Includes names all

-- at the start the rest is all
pub includes_start : (names all : List Name) → IncludesAgain names all all
includes_start names all = ((λ h. h), (λ h. h))

-- a name that is among them is passed
pub includes_next : (names rest left all : List Name) (n : Name) → rest ≡ n ∷ left → In n names → IncludesAgain names rest all → IncludesAgain names left all
includes_next names rest left all n next there before = (
  (λ h. before.0 (subst (Includes names) (sym next) (λ m i. elim i [ inl e ↦ subst (λ x. In x names) e there | inr j ↦ h m j ]))),
  (λ h. λ m i. subst (Includes names) next (before.1 h) m (inr i)),
)

-- one that is not among them ends it
pub includes_lost : (names rest left all : List Name) (n : Name) → rest ≡ n ∷ left → (In n names → ⊥) → IncludesAgain names rest all → Includes names all → ⊥
includes_lost names rest left all n next lost before h = lost (subst (Includes names) next (before.1 h) n (inl refl))

-- nothing is left
pub includes_end : (names rest all : List Name) → rest ≡ [] → IncludesAgain names rest all → Includes names all
includes_end names rest all none before = before.0 (subst (Includes names) (sym none) (λ m i. absurd i))

-- the lists agree if what is left of them does
abbrev pub AgreesAgain : List Name → List Name → List Name → List Name → Type 0
AgreesAgain rest others all whole = (rest ≡ others) ↔ (all ≡ whole)

-- at the start all is left
pub agrees_start : (all whole : List Name) → AgreesAgain all whole all whole
agrees_start all whole = ((λ h. h), (λ h. h))

-- two names that are the same are passed
pub agrees_next : (rest others left right all whole : List Name) (m n : Name) → rest ≡ m ∷ left → others ≡ n ∷ right → m ≡ n →
    AgreesAgain rest others all whole → AgreesAgain left right all whole
agrees_next rest others left right all whole m n e f same before = (
  (λ h. before.0 cc),
  (λ h. let g = before.1 h in cc),
)

-- two that are not the same end it
pub agrees_lost : (rest others left right all whole : List Name) (m n : Name) → rest ≡ m ∷ left → others ≡ n ∷ right → (m ≡ n → ⊥) →
    AgreesAgain rest others all whole → all ≡ whole → ⊥
agrees_lost rest others left right all whole m n e f apart before h = let g = before.1 h in apart cc

-- nothing is left
pub agrees_end : (rest others all whole : List Name) → rest ≡ [] → others ≡ [] → AgreesAgain rest others all whole → all ≡ whole
agrees_end rest others all whole e f before = before.0 (e ∙ sym f)
