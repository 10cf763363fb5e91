-- Whether something is among the keys of a set.
use Rattle.std.proofs.Common.{◌≡◌, ◌⊎◌, ◌∙◌, List, [], ◌∷◌, map, refl, sym, subst, inl, inr, Bool, true, false}
use Rattle.std.specs.Prelude.{not}
use Rattle.std.specs.List.{list_any}
use Rattle.std.specs.Str.{bytes_eq}
use Rattle.std.proofs.lemmas.List.{map-id}
use Rattle.std.proofs.lemmas.Slice.Eq.{bytes_eq-Decides}
use Rattle.lotos_check.specs.NameLists.{Name, In}

-- keys that are tested for what they stand for, by a test that decides whether that is the same
module _ {K X : Type 0} (now : K → X) (same : X → X → Bool) (sound : (x y : X) → same x y ≡ true → x ≡ y)
    (complete : (x y : X) → x ≡ y → same x y ≡ true) where
  -- a test that finds it says that it is among the keys
  pub in_if_any : (n : X) (ks : List K) → list_any (λ k. same n (now k)) ks ≡ true → In n (map now ks)
  in_if_any n [] e = cc
  in_if_any n (k ∷ ks) e =
      let others = in_if_any n ks in
      let by = (λ (b : Bool) (h : same n (now k) ≡ b). elim b as (λ b. same n (now k) ≡ b → In n (map now (k ∷ ks))) [
        | true ↦ λ h. inl (sym (sound n (now k) h))
        | false ↦ λ h. inr (others (rw h at e))
      ] h) in
      by (same n (now k)) refl

  -- a test that does not find it says that it is not
  pub out_if_none : (n : X) (ks : List K) → list_any (λ k. same n (now k)) ks ≡ false → In n (map now ks) → ⊥
  out_if_none n [] e i = i
  out_if_none n (k ∷ ks) e (inl h) = let t = complete n (now k) (sym h) in let f = rw t at e in cc
  out_if_none n (k ∷ ks) e (inr i) =
      let others = out_if_none n ks in
      let by = (λ (b : Bool) (h : same n (now k) ≡ b). elim b as (λ b. same n (now k) ≡ b → ⊥) [
        | true ↦ λ h. let g = rw h at e in cc
        | false ↦ λ h. others (rw h at e) i
      ] h) in
      by (same n (now k)) refl

-- a name that a test finds is among the keys
pub name_found : {K : Type 0} (now : K → Name) (n : Name) (ks : List K) → list_any (λ k. bytes_eq n (now k)) ks ≡ true → In n (map now ks)
name_found now = in_if_any now bytes_eq (λ x y. (bytes_eq-Decides x y).0) (λ x y. (bytes_eq-Decides x y).1)

-- a name that a test does not find is not
pub name_missing : {K : Type 0} (now : K → Name) (n : Name) (ks : List K) → list_any (λ k. bytes_eq n (now k)) ks ≡ false →
    In n (map now ks) → ⊥
name_missing now = out_if_none now bytes_eq (λ x y. (bytes_eq-Decides x y).0) (λ x y. (bytes_eq-Decides x y).1)

-- the same of the names of a list themselves, compared from the other side
pub listed : (n : Name) (ms : List Name) → list_any (λ m. bytes_eq m n) ms ≡ true → In n ms
listed n ms e =
    let same = in_if_any (λ m. m) (λ x y. bytes_eq y x) (λ x y h. sym ((bytes_eq-Decides y x).0 h)) (λ x y h. (bytes_eq-Decides y x).1 (sym h)) in
    subst (In n) (map-id ms) (same n ms e)

-- a name that a test finds equal to none of a list is not in the list
pub not_listed : (n : Name) (ms : List Name) → list_any (λ m. bytes_eq m n) ms ≡ false → In n ms → ⊥
not_listed n ms e i =
    let others = out_if_none (λ m. m) (λ x y. bytes_eq y x) (λ x y h. sym ((bytes_eq-Decides y x).0 h)) (λ x y h. (bytes_eq-Decides y x).1 (sym h)) in
    others n ms e (subst (In n) (sym (map-id ms)) i)

-- a name is in a list, or is not
pub in_or_not : (n : Name) (ms : List Name) → In n ms ⊎ (In n ms → ⊥)
in_or_not n [] = inr (λ i. i)
in_or_not n (m ∷ ms) =
    let others = in_or_not n ms in
    let by = (λ (b : Bool) (h : bytes_eq m n ≡ b). elim b as (λ b. bytes_eq m n ≡ b → In n (m ∷ ms) ⊎ (In n (m ∷ ms) → ⊥)) [
      | true ↦ λ h. inl (inl ((bytes_eq-Decides m n).0 h))
      | false ↦ λ h. elim others [
        | inl i ↦ inl (inr i)
        | inr out ↦ inr (λ x. elim x [
          | inl e ↦ let t = (bytes_eq-Decides m n).1 e in let f : true ≡ false = sym t ∙ h in cc
          | inr i ↦ out i
        ])
      ]
    ] h) in
    by (bytes_eq m n) refl

-- where the negation is false, the truth value is true
pub true_of_not : (b r : Bool) → r ≡ not b → r ≡ false → b ≡ true
true_of_not true r e f = refl
true_of_not false r e f = let g : true ≡ false = cc in cc

-- where the negation is true, the truth value is false
pub false_of_not : (b r : Bool) → r ≡ not b → r ≡ true → b ≡ false
false_of_not true r e f = let g : false ≡ true = cc in cc
false_of_not false r e f = refl
