-- Names that are visited one after the other, with the texts of those before.
use Rattle.std.proofs.Common.{◌≡◌, ◌⊎◌, List, [], ◌∷◌, ◌++◌, map, refl, sym, ap, subst, ◌∙◌, inl, inr, Bool, true, false, append_assoc}
use Rattle.std.specs.Prelude.{not, if◌then◌else◌}
use Rattle.std.specs.List.{list_any}
use Rattle.std.specs.Str.{bytes_eq}
use Rattle.std.proofs.lemmas.List.{append-nil, map-append}
use Rattle.lotos_text.specs.declared.ast.Placed.{Placed}
use Rattle.lotos_check.specs.NameLists.{Name, In, texts, IsDuplicate, AreDistinct}
use Rattle.lotos_check.proofs.NameTests.{name_found, name_missing, true_of_not, false_of_not}

-- of all names only these are left, those before are distinct, and these are their texts
pub record Seen (keys : List Name) (all left : List Placed) : Type 0 where
  pub before : List Placed
  pub joined : all ≡ before ++ left
  pub keys_are : keys ≡ texts before
  pub distinct : AreDistinct before

-- a name of a list that ends with p is p, or one of those before
last_or_before : (ps : List Placed) (p : Placed) (before : List Placed) (q : Placed) (after : List Placed) →
    ps ++ p ∷ [] ≡ before ++ q ∷ after →
    ((q ≡ p) × (before ≡ ps)) ⊎ ((more : List Placed) × (ps ≡ before ++ q ∷ more))
last_or_before [] p [] q after e = inl (cc, refl)
last_or_before [] p (b ∷ []) q after e = cc
last_or_before [] p (b ∷ c ∷ bs) q after e = cc
last_or_before (x ∷ xs) p [] q after e = inr (xs, cc)
last_or_before (x ∷ xs) p (b ∷ bs) q after e =
    let others = last_or_before xs p bs q after cc in
    let first : x ≡ b = cc in
    elim others [ inl s ↦ inl (s.0, rw (s.1, first) refl) | inr s ↦ inr (s.0, rw (s.1, first) refl) ]

-- distinct names and one more that is none of them are distinct
distinct_more : (ps : List Placed) (p : Placed) → AreDistinct ps → (In p.name (texts ps) → ⊥) → AreDistinct (ps ++ p ∷ [])
distinct_more ps p distinct new q s =
    elim (last_or_before ps p s.before q s.after s.located) [
      | inl e ↦ new (let a = s.again in let e0 = e.0 in let e1 = e.1 in rw e1 at (rw e0 at a))
      | inr e ↦ distinct q (record { before = s.before; after = e.0; located = e.1; again = s.again })
    ]

-- the empty list has no item with items before it and after it
not_second : (p : Placed) (before after : List Placed) → [] ≡ before ++ p ∷ after → ⊥
not_second p [] after e = cc
not_second p (b ∷ bs) after e = cc

-- at the start nothing was passed
pub seen_none : (all : List Placed) → Seen [] all all
seen_none all = record { before = []; joined = refl; keys_are = refl; distinct = λ p s. not_second p s.before s.after s.located }

-- p is passed next: its text n is looked for among the keys, and `added` says whether it was put after them
module _ {K : Type 0} (now : K → Name) (old new : List K) (key : K) (all rest left : List Placed) (p : Placed) (n : Name)
    (seen : Seen (map now old) all rest) (next : rest ≡ p ∷ left) (text : n ≡ p.name)
    (added : Bool) (says : added ≡ not (list_any (λ k. bytes_eq n (now k)) old)) where
  -- all names are those before, `p`, and those that are left after it
  here : all ≡ seen.before ++ p ∷ left
  here = seen.joined ∙ ap (λ t. seen.before ++ t) next

  -- if its text was put after them, p is passed
  pub seen_more : added ≡ true → now key ≡ n → new ≡ (if list_any (λ k. bytes_eq n (now k)) old then old else old ++ key ∷ []) →
      Seen (map now new) all left
  seen_more put is_text grows =
      let none = false_of_not _ _ says put in
      let apart = name_missing now n old none in
      let grown : new ≡ old ++ key ∷ [] = rw none at grows in
      record {
        before = seen.before ++ p ∷ [];
        joined = here ∙ sym (append_assoc seen.before (p ∷ []) left);
        keys_are = ap (map now) grown ∙ map-append now old (key ∷ []) ∙ ap (λ m. map now old ++ m ∷ []) (is_text ∙ text)
            ∙ ap (λ ks. ks ++ p.name ∷ []) seen.keys_are ∙ sym (map-append (λ q. q.name) seen.before (p ∷ []));
        distinct = distinct_more seen.before p seen.distinct
            (λ i. apart (subst (λ m. In m (map now old)) (sym text) (subst (λ ks. In p.name ks) (sym seen.keys_are) i)));
      }

  -- if it was not, p is in the list for the second time
  pub seen_again : added ≡ false → IsDuplicate p all
  seen_again stayed =
      let found = name_found now n old (true_of_not _ _ says stayed) in
      record {
        before = seen.before;
        after = left;
        located = here;
        again = subst (λ ks. In p.name ks) seen.keys_are
            (subst (λ m. In m (map now old)) text found);
      }

-- where none is left, all are distinct
pub seen_all : (keys : List Name) (all left : List Placed) → Seen keys all left → left ≡ [] → AreDistinct all
seen_all keys all left seen none =
    subst AreDistinct (sym (seen.joined ∙ ap (λ t. seen.before ++ t) none ∙ append-nil seen.before)) seen.distinct
