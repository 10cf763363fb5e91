-- What is known of whether terms do alike, from what is known of their operands.
use Rattle.std.proofs.Common.{◌≡◌, ◌∙◌, ◌<◌, ◌≤◌, ◌++◌, ◌+◌, ℕ, zero, suc, List, [], ◌∷◌, Some, add-one, ap, arith, drop, drop-cons, get_or, length, map, refl, subst, sym}
use Rattle.std.specs.Prelude.{All, slice_get}
use Rattle.std.proofs.Math.ListN.{drop_of_length-le}
use Rattle.std.proofs.lemmas.List.{drop-append-le}
use Rattle.std.proofs.lemmas.List.Elements.{All-append}
use Rattle.std.proofs.lemmas.Option.{get_or_from_slice_get}
use Rattle.lotos_check.proofs.ListIndices.{get_some}
use Rattle.lotos_store.specs.Terms.{Process, Term, call, stop}
use Rattle.lotos_store.specs.StoreView.{StoreView, term_with}
use Rattle.lotos_terms.specs.Alphabets.{IsClosedSystem}
use Rattle.lotos_origins.specs.Contexts.{AreAlikeIn, Context, DoAlike, bare, calls, disablings, enablings, parallels, same, under}
use Rattle.lotos_origins.specs.Likenesses.{AddsParts, DoAlikeAt, IsComposition, IsLikeness, IsPairIn, composed}
use Rattle.lotos_origins.specs.declared.alike.Composition.{Composition}
use Rattle.lotos_origins.specs.declared.alike.Likeness.{Likeness}
use Rattle.lotos_origins.specs.declared.alike.Likeness.TheVariants as likeness
use Rattle.lotos_origins.specs.declared.alike.Operator.{Operator}
use Rattle.lotos_origins.specs.declared.alike.Operator.TheVariants as operator

module _ (system : List Process) where
  -- terms with one operator do alike if their operands do
  composed_alike : (store : StoreView) (o : Operator) (a b x y : Term) → DoAlike system a x → DoAlike system b y →
      DoAlike system (composed store o a b) (composed store o x y)
  composed_alike store (operator.Parallel sync) a b x y p q = parallels (λ g. refl) p q
  composed_alike store operator.Enabling a b x y p q = enablings p q
  composed_alike store operator.Disabling a b x y p q = disablings p q

  -- which is what is known of them
  pub compositions_alike : (store : StoreView) (n m : ℕ) (c d : Composition) → n < length store.terms → m < length store.terms →
      IsComposition store n c → IsComposition store m d → c.operator ≡ d.operator →
      IsLikeness system store.terms n m (likeness.IfParts (c.left, d.left) (c.right, d.right))
  compositions_alike store n m c d within also first second same_operators =
      let left : c.left < n = first.0 in
      let right : c.right < n = first.1 in
      let other_left : d.left < m = second.0 in
      let other_right : d.right < m = second.1 in
      let t = term_with store in (
        (omega arith, omega arith),
        (omega arith, omega arith),
        λ p q.
            let alike = composed_alike store d.operator (t c.left) (t c.right) (t d.left) (t d.right) p q in
            let one = composed store c.operator (t c.left) (t c.right) in
            let other = composed store d.operator (t d.left) (t d.right) in
            let both : DoAlike system one other = subst (λ o. DoAlike system (composed store o (t c.left) (t c.right)) other) (sym same_operators) alike in
            subst (λ x. DoAlike system x (t m)) (sym first.2) (subst (λ x. DoAlike system one x) (sym second.2) both),
      )

  -- terms with one number do alike
  pub one_number : (terms : List Term) (n m : ℕ) → n ≡ m → DoAlikeAt system terms (n, m)
  one_number terms n m is = subst (λ k. DoAlike system (get_or terms n stop) (get_or terms k stop)) is (same (λ g. refl))

  -- what is known of two terms is known of those that do alike if the two do
  pub likeness_passed : (terms : List Term) (n m k j : ℕ) → (DoAlikeAt system terms (n, m) → DoAlikeAt system terms (k, j)) → (r : Likeness) →
      IsLikeness system terms n m r → IsLikeness system terms k j r
  likeness_passed terms n m k j passed likeness.Alike known = passed known
  likeness_passed terms n m k j passed (likeness.IfParts lefts rights) known = (known.0, known.1, λ p q. passed (known.2 p q))
  likeness_passed terms n m k j passed likeness.Unknown known = tt

  -- what does alike is alike in contexts that make the same of each gate
  pub alike_in_contexts : ((c d outer : Context) (t u : Term) → AreAlikeIn system c t d u → AreAlikeIn system (under outer c) t (under outer d) u) →
      (c d : Context) → ((g : ℕ) → c g ≡ d g) → (t u : Term) → DoAlike system t u → AreAlikeIn system c t d u
  alike_in_contexts law c d agree t u alike =
      let is : c ≡ d = λ i g. agree g i in
      subst (λ e. AreAlikeIn system c t e u) is (law bare bare c t u alike)

  -- calls of one process with gates of which the contexts make the same
  pub calls_alike : IsClosedSystem system → (t u : Term) (p o : ℕ) (gates others formals : List ℕ) (c d : Context) → t ≡ call p gates → u ≡ call o others →
      p ≡ o → p < length system → ((q : Process) → slice_get system p ≡ Some q → q.formals ≡ formals) → length gates ≡ length formals →
      map c gates ≡ map d others → AreAlikeIn system c t d u
  calls_alike closed t u p o gates others formals c d first second one_process below have count images =
      let (q, at) = get_some system p below in
      let all : length gates ≡ length q.formals = count ∙ ap length (sym (have q at)) in
      let alike : AreAlikeIn system c (call p gates) d (call p others) = calls closed at all images in
      let there : u ≡ call p others = second ∙ ap (λ n. call n others) (sym one_process) in
      subst (λ x. AreAlikeIn system c x d u) (sym first) (subst (λ x. AreAlikeIn system c (call p gates) d x) (sym there) alike)

  module _ (terms : List Term) where
    -- the terms of each pair do alike
    abbrev pub AllAlike : List (ℕ × ℕ) → Type 0
    AllAlike [] = Unit {0}
    AllAlike (p ∷ ps) = DoAlikeAt system terms p × AllAlike ps

    -- those of two lists
    alike_parts : (ps qs : List (ℕ × ℕ)) → AllAlike (ps ++ qs) → AllAlike ps × AllAlike qs
    alike_parts [] qs all = (tt, all)
    alike_parts (p ∷ ps) qs all = let (front, back) = alike_parts ps qs all.1 in ((all.0, front), back)

    -- the pair at the index before those after it
    alike_from : (ps : List (ℕ × ℕ)) (index : ℕ) (p : ℕ × ℕ) → index < length ps → p ≡ get_or ps index p → DoAlikeAt system terms p →
        AllAlike (drop (index + 1) ps) → AllAlike (drop index ps)
    alike_from ps index p below read alike rest =
        let next : drop (index + 1) ps ≡ drop (suc index) ps = ap (λ k. drop k ps) (add-one index) in
        let here : drop index ps ≡ p ∷ drop (index + 1) ps =
        drop-cons ps index p below ∙ ap (λ q. q ∷ drop (suc index) ps) (sym read) ∙ ap (λ qs. p ∷ qs) (sym next) in
        subst AllAlike (sym here) (alike, rest)

    -- if it depends on the pairs from the index on whether the first two terms do alike, then on those after it and the added ones
    pub depends_on : (first : ℕ × ℕ) (old new : List (ℕ × ℕ)) (index : ℕ) (p : ℕ × ℕ) (r : Likeness) → index < length old → p ≡ get_or old index p →
        IsLikeness system terms p.0 p.1 r → AddsParts r old new → (AllAlike (drop index old) → DoAlikeAt system terms first) →
        AllAlike (drop (index + 1) new) → DoAlikeAt system terms first
    depends_on first old new index p likeness.Alike below read known kept depends rest =
        depends (alike_from old index p below read known (subst (λ ps. AllAlike (drop (index + 1) ps)) kept rest))
    depends_on first old new index p (likeness.IfParts lefts rights) below read known added depends rest =
        let apart : drop (index + 1) (old ++ lefts ∷ rights ∷ []) ≡ drop (index + 1) old ++ lefts ∷ rights ∷ [] =
        drop-append-le (index + 1) old _ (omega arith) in
        let (front, back) = alike_parts (drop (index + 1) old) (lefts ∷ rights ∷ [])
        (subst AllAlike apart (subst (λ ps. AllAlike (drop (index + 1) ps)) added rest)) in
        depends (alike_from old index p below read (known.2 back.0 back.1.0) front)
    depends_on first old new index p likeness.Unknown below read known added depends rest = absurd added

    -- the terms of one pair are terms
    one_within : (p : ℕ × ℕ) → IsPairIn terms p → All (IsPairIn terms) (p ∷ [])
    one_within p h zero d below = h
    one_within p h (suc k) d below = absurd (omega arith)

    -- one pair
    pub one_pair : (ps : List (ℕ × ℕ)) (p : ℕ × ℕ) → ps ≡ p ∷ [] → IsPairIn terms p →
        All (IsPairIn terms) ps × (AllAlike ps → DoAlikeAt system terms p)
    one_pair ps p is within = (
      subst (λ qs. All (IsPairIn terms) qs) (sym is) (one_within p within),
      λ all. (subst AllAlike is all).0,
    )

    -- two pairs
    both_within : (p q : ℕ × ℕ) → IsPairIn terms p → IsPairIn terms q → All (IsPairIn terms) (p ∷ q ∷ [])
    both_within p q h g zero d below = h
    both_within p q h g (suc zero) d below = g
    both_within p q h g (suc (suc k)) d below = absurd (omega arith)

    -- nothing is left to depend on
    pub settled : (n m index : ℕ) (ps : List (ℕ × ℕ)) (t u : Term) → length ps ≤ index → (AllAlike (drop index ps) → DoAlikeAt system terms (n, m)) →
        slice_get terms n ≡ Some t → slice_get terms m ≡ Some u → DoAlike system t u
    settled n m index ps t u past depends first second =
        let alike = depends (subst AllAlike (sym (drop_of_length-le ps past)) tt) in
        subst (λ x. DoAlike system x u) (get_or_from_slice_get terms n t stop first)
        (subst (λ x. DoAlike system (get_or terms n stop) x) (get_or_from_slice_get terms m u stop second) alike)

    -- the added pairs are those of terms
    pub pairs_within : (n m : ℕ) (old new : List (ℕ × ℕ)) (r : Likeness) → All (IsPairIn terms) old → IsLikeness system terms n m r →
        AddsParts r old new → All (IsPairIn terms) new
    pairs_within n m old new likeness.Alike within known kept = subst (λ ps. All (IsPairIn terms) ps) (sym kept) within
    pairs_within n m old new (likeness.IfParts lefts rights) within known added =
        subst (λ ps. All (IsPairIn terms) ps) (sym added)
        (All-append (IsPairIn terms) old (lefts ∷ rights ∷ []) within (both_within lefts rights known.0 known.1))
    pairs_within n m old new likeness.Unknown within known added = absurd added
