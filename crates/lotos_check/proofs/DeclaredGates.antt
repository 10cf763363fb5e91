-- The gates in scope, as the keys of a set.
use Rattle.std.proofs.Common.{◌≡◌, ◌⊎◌, List, [], ◌∷◌, ◌++◌, map, refl, sym, ap, subst, ◌∙◌, inl, inr, Bool, true, false, append_assoc}
use Rattle.std.specs.Prelude.{if◌then◌else◌}
use Rattle.std.specs.List.{list_any}
use Rattle.std.specs.Str.{bytes_eq}
use Rattle.std.proofs.lemmas.List.{append-nil, map-append}
use Rattle.lotos_text.specs.declared.ast.Placed.{Placed}
use Rattle.lotos_text.specs.declared.ast.Action.{Action}
use Rattle.lotos_text.specs.declared.ast.Action.TheVariants.{Gate}
use Rattle.lotos_check.specs.NameLists.{Name, In, texts}
use Rattle.lotos_check.specs.ProcessScopes.{HasNames}
use Rattle.lotos_check.specs.Resolution.{IsActionDeclared, IsUndeclaredAction}
use Rattle.lotos_check.specs.declared.fault.CheckFault.TheVariants.{E21}
use Rattle.lotos_check.proofs.JoinedLists.{in_front, in_back, in_either}
use Rattle.lotos_check.proofs.NameTests.{name_found, name_missing}

module _ {K : Type 0} (now : K → Name) where
  -- the name is among the keys, which are the old ones and some more after them
  record Inserted (n : Name) (old new : List K) : Type 0 where
    pub more : List K
    pub joined : new ≡ old ++ more
    pub from : (m : Name) → In m (map now new) → In m (map now old) ⊎ (n ≡ m)
    pub holds : (m : Name) → In m (map now old) ⊎ (n ≡ m) → In m (map now new)

  -- if the key of a name is appended to the keys unless they have the name, they have it and the names that they had
  inserted : (n : Name) (old : List K) (key : K) → now key ≡ n → (there : Bool) → list_any (λ k. bytes_eq n (now k)) old ≡ there →
      Inserted n old (if there then old else old ++ key ∷ [])
  inserted n old key is_text true found = record {
    more = [];
    joined = sym (append-nil old);
    from = λ m i. inl i;
    holds = λ m h. elim h [ inl i ↦ i | inr e ↦ subst (λ m. In m (map now old)) e (name_found now n old found) ];
  }
  inserted n old key is_text false none =
      let grown = map-append now old (key ∷ []) in
      record {
        more = key ∷ [];
        joined = refl;
        from = λ m i. elim (in_either m (map now old) (now key ∷ []) (subst (In m) grown i)) [
          | inl j ↦ inl j
          | inr (inl e) ↦ inr (sym is_text ∙ e)
          | inr (inr j) ↦ absurd j
        ];
        holds = λ m h. subst (In m) (sym grown) (elim h [
          | inl j ↦ in_front m (map now old) (now key ∷ []) j
          | inr e ↦ in_back m (map now old) (now key ∷ []) (inl (is_text ∙ e))
        ]);
      }

  -- of these gates only the rest is left, and the others were put after the first keys
  pub record Added (first keys : List K) (gates rest : List Placed) : Type 0 where
    pub more : List K
    pub joined : keys ≡ first ++ more
    pub from : (m : Name) → In m (map now keys) → In m (map now first) ⊎ In m (texts gates)
    pub holds : (m : Name) → In m (map now first) ⊎ In m (texts gates) → In m (map now keys) ⊎ In m (texts rest)
    pub left : (m : Name) → In m (texts rest) → In m (texts gates)

  -- at the start all are left
  pub added_none : (keys : List K) (gates : List Placed) → Added keys keys gates gates
  added_none keys gates = record {
    more = [];
    joined = sym (append-nil keys);
    from = λ m i. inl i;
    holds = λ m h. h;
    left = λ m i. i;
  }

  -- the next of the gates is put after the keys, if it is not among them
  pub added_more : (first old new : List K) (gates rest left : List Placed) (p : Placed) (key : K) (n : Name) →
      Added first old gates rest → rest ≡ p ∷ left →
      n ≡ p.name → now key ≡ n → new ≡ (if list_any (λ k. bytes_eq n (now k)) old then old else old ++ key ∷ []) →
      Added first new gates left
  added_more first old new gates rest left p key n added next text is_text grows =
      let put = subst (Inserted n old) (sym grows) (inserted n old key is_text (list_any (λ k. bytes_eq n (now k)) old) refl) in
      record {
        more = added.more ++ put.more;
        joined = put.joined ∙ ap (λ ks. ks ++ put.more) added.joined ∙ append_assoc first added.more put.more;
        from = λ m i. elim (put.from m i) [
          | inl j ↦ added.from m j
          | inr e ↦ inr (added.left m (subst (λ ps. In m (texts ps)) (sym next) (inl (sym text ∙ e))))
        ];
        holds = λ m h. elim (added.holds m h) [
          | inl j ↦ inl (put.holds m (inl j))
          | inr j ↦ elim (subst (λ ps. In m (texts ps)) next j) [
            | inl e ↦ inl (put.holds m (inr (text ∙ e)))
            | inr i ↦ inr i
          ]
        ];
        left = λ m i. added.left m (subst (λ ps. In m (texts ps)) (sym next) (inr i));
      }

  -- if none is left, the gates are in scope, and so are those that were before
  pub added_all : (first keys : List K) (gates rest : List Placed) → Added first keys gates rest → rest ≡ [] →
      (names : List Name) → HasNames now first names → HasNames now keys (texts gates ++ names)
  added_all first keys gates rest added none names knows n = (
    (λ i. elim (added.from n i) [
      | inl j ↦ in_back n (texts gates) names ((knows n).0 j)
      | inr j ↦ in_front n (texts gates) names j
    ]),
    (λ i. elim (added.holds n (elim (in_either n (texts gates) names i) [ inl j ↦ inr j | inr j ↦ inl ((knows n).1 j) ])) [
      | inl j ↦ j
      | inr j ↦ absurd (subst (λ ps. In n (texts ps)) none j)
    ]),
  )

  -- of these gates only the rest is left, and the others are among the keys
  pub record Found (keys : List K) (gates rest : List Placed) : Type 0 where
    pub done : (g : Placed) → In g gates → In g.name (map now keys) ⊎ In g rest
    pub left : (g : Placed) → In g rest → In g gates

  -- at the start all are left
  pub found_none : (keys : List K) (gates : List Placed) → Found keys gates gates
  found_none keys gates = record { done = λ g i. inr i; left = λ g i. i }

  module _ (keys : List K) (gates rest left : List Placed) (p : Placed) (n : Name) (found : Found keys gates rest)
      (next : rest ≡ p ∷ left) (text : n ≡ p.name)
      (there : Bool) (says : there ≡ list_any (λ k. bytes_eq n (now k)) keys) where
    -- the next of the gates is among the keys
    pub found_more : there ≡ true → Found keys gates left
    found_more yes_there =
        let i = subst (λ m. In m (map now keys)) text (name_found now n keys (sym says ∙ yes_there)) in
        record {
          done = λ g h. elim (found.done g h) [
            | inl j ↦ inl j
            | inr j ↦ elim (subst (In g) next j) [ inl e ↦ inl (subst (λ q. In q.name (map now keys)) e i) | inr k ↦ inr k ]
          ];
          left = λ g h. found.left g (subst (In g) (sym next) (inr h));
        }

    -- the next of the gates is not in scope
    pub found_unknown : there ≡ false → (names : List Name) → HasNames now keys names → (q : Placed) → q ≡ p →
        In q gates × (In q.name names → ⊥)
    found_unknown not_there names knows q same = (
      subst (λ r. In r gates) (sym same) (found.left p (subst (In p) (sym next) (inl refl))),
      λ i. name_missing now n keys (sym says ∙ not_there)
          (subst (λ m. In m (map now keys)) (ap (λ r. r.name) same ∙ sym text) ((knows q.name).1 i)),
    )

  -- if none is left, all are in scope
  pub found_all : (keys : List K) (gates rest : List Placed) → Found keys gates rest → rest ≡ [] → (names : List Name) →
      HasNames now keys names →
      (g : Placed) → In g gates → In g.name names
  found_all keys gates rest found none names knows g i = elim (found.done g i) [
    | inl j ↦ (knows g.name).0 j
    | inr j ↦ absurd (subst (In g) none j)
  ]

  module _ (keys : List K) (names : List Name) (knows : HasNames now keys names) (action : Action) (p : Placed)
      (acts : action ≡ Gate p) (n : Name) (text : n ≡ p.name)
      (there : Bool) (says : there ≡ list_any (λ k. bytes_eq n (now k)) keys) where
    -- the gate of the action is not among the keys
    pub gate_unknown : there ≡ false → (q : Placed) → q ≡ p → IsUndeclaredAction names action (E21 q)
    gate_unknown not_there q same =
        let at_gate : IsUndeclaredAction names (Gate p) (E21 q) = found_unknown keys (p ∷ []) (p ∷ []) [] p n
        (found_none keys (p ∷ [])) refl text there says not_there names knows q same in
        subst (λ a. IsUndeclaredAction names a (E21 q)) (sym acts) at_gate

    -- the gate of the action is among the keys
    pub gate_known : there ≡ true → IsActionDeclared names action
    gate_known yes_there =
        let all = found_all keys (p ∷ []) [] (found_more keys (p ∷ []) (p ∷ []) [] p n (found_none keys (p ∷ []))
        refl text there says yes_there) refl names knows in
        let at_gate : IsActionDeclared names (Gate p) = all p (inl refl) in
        subst (IsActionDeclared names) (sym acts) at_gate
