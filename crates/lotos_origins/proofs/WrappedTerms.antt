-- Relabellings and hidings around terms are contexts of the terms inside.
use Rattle.std.proofs.Common.{◌≡◌, ◌∙◌, ◌⊎◌, ◌<◌, ◌++◌, ◌+◌, ℕ, zero, suc, arith, nat_eq, Bool, true, false, if◌then◌else◌, List, [], ◌∷◌, ap, get_or, inl, inr, length, map, refl, subst, sym, take}
use Rattle.std.proofs.lemmas.Bool.Decides.{Decides-eqb}
use Rattle.std.proofs.lemmas.List.{take_more}
use Rattle.std.proofs.lemmas.List.Elements.{All-append, All-nil}
use Rattle.lotos_check.specs.NameLists.{In}
use Rattle.lotos_store.specs.GateLists.{is_in_list}
use Rattle.lotos_store.proofs.GateLists.{listed_in}
use Rattle.lotos_store.specs.Terms.{Process, Term}
use Rattle.lotos_store.specs.StoreView.{StoreView, gates_with, pairs_with, term_with}
use Rattle.lotos_terms.specs.Moves.{actual_gate}
use Rattle.lotos_origins.specs.Contexts.{AreAlikeIn, Context, DoAlike, Image, bare, image_through, made_internal}
use Rattle.lotos_origins.specs.Contexts.{hidden_left, hidden_right, relabelled_left, relabelled_right}
use Rattle.lotos_origins.specs.Wrappers.{AgreeAt, AgreeOn, AreWrappers, IsUnwrapped, IsWrapper, with_wrapper, within, wrapped_by, wrapped_in}
use Rattle.lotos_origins.specs.declared.wrappers.Wrapped.{Wrapped}
use Rattle.lotos_origins.specs.declared.wrappers.Wrapper.{Wrapper}
use Rattle.lotos_origins.specs.declared.wrappers.Wrapper.TheVariants as wrapper

-- what is hidden or shown inside, seen from outside
hidden_through : (c : Context) (g : ℕ) (b : Bool) → (if b then made_internal g else c g) ≡ image_through c (if b then made_internal g else bare g)
hidden_through c g true = refl
hidden_through c g false = refl

-- images of gates in two contexts, one by one
pub same_images : (c d : Context) (gates others : List ℕ) → length gates ≡ length others →
    ((k : ℕ) → k < length gates → c (get_or gates k 0) ≡ d (get_or others k 0)) → map c gates ≡ map d others
same_images c d [] [] count same = refl
same_images c d [] (y ∷ ys) count same = cc
same_images c d (x ∷ xs) [] count same = cc
same_images c d (x ∷ xs) (y ∷ ys) count same =
    let first : c x ≡ d y = same 0 (omega arith) in
    let rest : map c xs ≡ map d ys = same_images c d xs ys (omega arith) (λ k below. same (suc k) (omega arith)) in
    ap (λ i. i ∷ map c xs) first ∙ ap (λ is. d y ∷ is) rest

module _ (store : StoreView) where
  -- one more relabelling or hiding inside
  within_last : (c : Context) (ws : List Wrapper) (w : Wrapper) → within store c (ws ++ w ∷ []) ≡ with_wrapper store (within store c ws) w
  within_last c [] w = refl
  within_last c (v ∷ ws) w = within_last (with_wrapper store c v) ws w

  -- and the term that they are around
  wrapped_last : (ws : List Wrapper) (w : Wrapper) (t : Term) → wrapped_in store (ws ++ w ∷ []) t ≡ wrapped_in store ws (wrapped_by store w t)
  wrapped_last [] w t = refl
  wrapped_last (v ∷ ws) w t = ap (λ x. wrapped_by store v x) (wrapped_last ws w t)

  -- a relabelling or a hiding makes an image of a gate, and what is around it makes something of that
  image_of_wrapper : (c : Context) (w : Wrapper) (g : ℕ) → with_wrapper store c w g ≡ image_through c (with_wrapper store bare w g)
  image_of_wrapper c (wrapper.Relabelling pairs) g = refl
  image_of_wrapper c (wrapper.Hiding gates) g = hidden_through c g (is_in_list (gates_with store gates) g)

  -- wrappers that make the same of each context, one by one
  equal_within : (ws vs : List Wrapper) → length ws ≡ length vs → ((k : ℕ) (w v : Wrapper) → k < length ws → (c : Context) →
      with_wrapper store c (get_or ws k w) ≡ with_wrapper store c (get_or vs k v)) → (c : Context) → within store c ws ≡ within store c vs
  equal_within [] [] count same c = refl
  equal_within [] (v ∷ vs) count same c = cc
  equal_within (w ∷ ws) [] count same c = cc
  equal_within (w ∷ ws) (v ∷ vs) count same c =
      ap (λ d. within store d ws) (same 0 w v (omega arith) c) ∙
      equal_within ws vs (omega arith) (λ k x y below. same (suc k) x y (omega arith)) (with_wrapper store c v)

  -- make the same of each gate
  pub equal_everywhere : (ws vs : List Wrapper) → length ws ≡ length vs → ((k : ℕ) (w v : Wrapper) → k < length ws → (c : Context) →
      with_wrapper store c (get_or ws k w) ≡ with_wrapper store c (get_or vs k v)) → (g : ℕ) → AgreeAt store ws vs g
  equal_everywhere ws vs count same g = ap (λ (c : Context). c g) (equal_within ws vs count same bare)

  -- the innermost of the first so many makes an image of a gate, and the others make something of that
  pub innermost_first : (ws : List Wrapper) (n m : ℕ) (w : Wrapper) (g : ℕ) (i : Image) → n + 1 ≡ m → n < length ws → w ≡ get_or ws n w →
      i ≡ with_wrapper store bare w g → within store bare (take m ws) g ≡ image_through (within store bare (take n ws)) i
  innermost_first ws n m w g i one_more below read is =
      let more : take (n + 1) ws ≡ take n ws ++ w ∷ [] = take_more ws n w below ∙ ap (λ v. take n ws ++ v ∷ []) (sym read) in
      ap (λ k. within store bare (take k ws) g) (sym one_more) ∙ ap (λ vs. within store bare vs g) more ∙
      ap (λ (c : Context). c g) (within_last bare (take n ws) w) ∙
      image_of_wrapper (within store bare (take n ws)) w g ∙ ap (λ x. image_through (within store bare (take n ws)) x) (sym is)

  -- a term with nothing taken off
  pub nothing_off : (n : ℕ) (ws : List Wrapper) → ws ≡ [] → AreWrappers store ws × (term_with store n ≡ wrapped_in store ws (term_with store n))
  nothing_off n ws none = (
    subst (λ vs. AreWrappers store vs) (sym none) (All-nil (IsWrapper store)),
    subst (λ vs. term_with store n ≡ wrapped_in store vs (term_with store n)) (sym none) refl,
  )

  -- a list of one
  one_wrapper : (w : Wrapper) → IsWrapper store w → AreWrappers store (w ∷ [])
  one_wrapper w is zero d below = is
  one_wrapper w is (suc k) d below = absurd (omega arith)

  -- a term with one more taken off
  pub one_more_off : (n core inner : ℕ) (ws vs : List Wrapper) (w : Wrapper) → vs ≡ ws ++ w ∷ [] → AreWrappers store ws →
      term_with store n ≡ wrapped_in store ws (term_with store core) → IsWrapper store w →
      term_with store core ≡ wrapped_by store w (term_with store inner) →
      AreWrappers store vs × (term_with store n ≡ wrapped_in store vs (term_with store inner))
  one_more_off n core inner ws vs w added known off is around = (
    subst (λ us. AreWrappers store us) (sym added) (All-append (IsWrapper store) ws (w ∷ []) known (one_wrapper w is)),
    off ∙ ap (λ t. wrapped_in store ws t) around ∙ sym (wrapped_last ws w (term_with store inner)) ∙
        ap (λ us. wrapped_in store us (term_with store inner)) (sym added),
  )

  module _ (firsts seconds : List Wrapper) where
    -- both make the same of the gate, or the first pair and the others leave it as it is
    first_or_later : (x h : ℕ) (pairs : List (ℕ × ℕ)) (g : ℕ) (b : Bool) → nat_eq x g ≡ b → AgreeAt store firsts seconds x →
        AgreeAt store firsts seconds g ⊎ (actual_gate pairs g ≡ g) →
        AgreeAt store firsts seconds g ⊎ ((if b then h else actual_gate pairs g) ≡ g)
    first_or_later x h pairs g true e agree later = inl (subst (λ n. AgreeAt store firsts seconds n) ((Decides-eqb x g).0 e) agree)
    first_or_later x h pairs g false e agree later = later

    -- both make the same of the gate, or the pairs leave it as it is
    formal_or_kept : (pairs : List (ℕ × ℕ)) (g : ℕ) → ((p : ℕ × ℕ) → In p pairs → AgreeAt store firsts seconds p.0) →
        AgreeAt store firsts seconds g ⊎ (actual_gate pairs g ≡ g)
    formal_or_kept [] g agree = inr refl
    formal_or_kept ((x, h) ∷ pairs) g agree =
        first_or_later x h pairs g (nat_eq x g) refl (agree (x, h) (inl refl)) (formal_or_kept pairs g (λ p i. agree p (inr i)))

    -- both make the same of the gate, or it is not hidden
    listed_or_kept : (gates : List ℕ) (g : ℕ) (b : Bool) → is_in_list gates g ≡ b → ((x : ℕ) → In x gates → AgreeAt store firsts seconds x) →
        AgreeAt store firsts seconds g ⊎ ((c : Context) → (if b then made_internal g else c g) ≡ c g)
    listed_or_kept gates g true e agree = inl (agree g (listed_in gates g e))
    listed_or_kept gates g false e agree = inr (λ c. refl)

    -- both make the same of the gate, or the relabelling or the hiding leaves it as it is
    one_or_kept : (w : Wrapper) (g : ℕ) → AgreeOn store firsts seconds w →
        AgreeAt store firsts seconds g ⊎ ((c : Context) → with_wrapper store c w g ≡ c g)
    one_or_kept (wrapper.Relabelling pairs) g agree =
        elim (formal_or_kept (pairs_with store pairs) g agree) [ inl a ↦ inl a | inr kept ↦ inr (λ c. ap c kept) ]
    one_or_kept (wrapper.Hiding gates) g agree = listed_or_kept (gates_with store gates) g (is_in_list (gates_with store gates) g) refl agree

    -- both make the same of the gate, or all of these leave it as it is
    some_or_kept : (ws : List Wrapper) (g : ℕ) → ((w : Wrapper) → In w ws → AgreeOn store firsts seconds w) →
        AgreeAt store firsts seconds g ⊎ ((c : Context) → within store c ws g ≡ c g)
    some_or_kept [] g agree = inr (λ c. refl)
    some_or_kept (w ∷ ws) g agree =
        elim (some_or_kept ws g (λ v i. agree v (inr i))) [
          | inl a ↦ inl a
          | inr kept ↦ elim (one_or_kept w g (agree w (inl refl))) [
            | inl a ↦ inl a
            | inr still ↦ inr (λ c. kept (with_wrapper store c w) ∙ still c)
          ]
        ]

    -- what makes the same of each gate that is named makes the same of each gate
    pub agree_everywhere : ((w : Wrapper) → In w firsts → AgreeOn store firsts seconds w) →
        ((w : Wrapper) → In w seconds → AgreeOn store firsts seconds w) → (g : ℕ) → AgreeAt store firsts seconds g
    agree_everywhere left right g =
        elim (some_or_kept firsts g left) [
          | inl a ↦ a
          | inr kept ↦ elim (some_or_kept seconds g right) [ inl a ↦ a | inr still ↦ kept bare ∙ sym (still bare) ]
        ]

  module _ (system : List Process) where
    -- what is alike in the context inside a relabelling or a hiding is alike with it
    left_wrapped_by : (w : Wrapper) (c d : Context) (t u : Term) → AreAlikeIn system (with_wrapper store c w) t d u →
        AreAlikeIn system c (wrapped_by store w t) d u
    left_wrapped_by (wrapper.Relabelling pairs) c d t u alike = relabelled_left alike
    left_wrapped_by (wrapper.Hiding gates) c d t u alike = hidden_left alike

    -- on the other side too
    right_wrapped_by : (w : Wrapper) (c d : Context) (t u : Term) → AreAlikeIn system c t (with_wrapper store d w) u →
        AreAlikeIn system c t d (wrapped_by store w u)
    right_wrapped_by (wrapper.Relabelling pairs) c d t u alike = relabelled_right alike
    right_wrapped_by (wrapper.Hiding gates) c d t u alike = hidden_right alike

    -- inside several
    left_wrapped_in : (ws : List Wrapper) (c d : Context) (t u : Term) → AreAlikeIn system (within store c ws) t d u →
        AreAlikeIn system c (wrapped_in store ws t) d u
    left_wrapped_in [] c d t u alike = alike
    left_wrapped_in (w ∷ ws) c d t u alike = left_wrapped_by w c d _ u (left_wrapped_in ws (with_wrapper store c w) d t u alike)

    -- and on the other side
    right_wrapped_in : (ws : List Wrapper) (c d : Context) (t u : Term) → AreAlikeIn system c t (within store d ws) u →
        AreAlikeIn system c t d (wrapped_in store ws u)
    right_wrapped_in [] c d t u alike = alike
    right_wrapped_in (w ∷ ws) c d t u alike = right_wrapped_by w c d t _ (right_wrapped_in ws c (with_wrapper store d w) t u alike)

    -- terms do alike if what they are without their relabellings and hidings is alike in the contexts of these
    pub unwrapped_alike : (n m : ℕ) (first second : Wrapped) → IsUnwrapped store n first → IsUnwrapped store m second →
        AreAlikeIn system (within store bare first.wrappers.items) (term_with store first.core)
        (within store bare second.wrappers.items) (term_with store second.core) → DoAlike system (term_with store n) (term_with store m)
    unwrapped_alike n m first second left right alike =
        let inside = right_wrapped_in second.wrappers.items _ bare _ _ alike in
        let both = left_wrapped_in first.wrappers.items bare bare _ _ inside in
        subst (λ t. DoAlike system t (term_with store m)) (sym left.term)
        (subst (λ u. DoAlike system (wrapped_in store first.wrappers.items (term_with store first.core)) u) (sym right.term) both)
