-- If no `where` declares a name twice, a name has one binding.
use Rattle.std.proofs.Common.{◌≡◌, ℕ, ◌+◌, List, [], ◌∷◌, ◌++◌, ◌⊎◌, inl, inr, refl, sym, ap, subst, ◌∙◌}
use Rattle.lotos_text.specs.AstView.{DefinitionView, DefinitionListView, no_defs, more_defs, name_of, inner_of}
use Rattle.lotos_text.specs.declared.ast.Placed.{Placed}
use Rattle.lotos_check.specs.NameLists.{Name, In, texts, AreDistinct}
use Rattle.lotos_check.specs.Scope.{Scope, Declares, here, later, Binds, nearest, outward, IsDistinctScope, count, declared_names}

-- the definition declared is the first, or one of the others
first_or_later : (d : DefinitionView) (ds : DefinitionListView) (k : ℕ) (n : Name) (j : ℕ) (e : DefinitionView) → Declares (more_defs d ds) k n j e →
    ((n ≡ (name_of d).name) × (j ≡ k) × (e ≡ d)) ⊎ Declares ds (k + 1 + count (inner_of d)) n j e
first_or_later d ds k n j e here = inl (refl, refl, refl)
first_or_later d ds k n j e (later rest) = inr rest

-- a name that is declared is one of the declared names
pub declared_in : (ds : DefinitionListView) (k : ℕ) (n : Name) (j : ℕ) (e : DefinitionView) → Declares ds k n j e → In n (texts (declared_names ds))
declared_in no_defs k n j e declares = elim declares [ ]
declared_in (more_defs d ds) k n j e here = inl refl
declared_in (more_defs d ds) k n j e (later rest) = inr (declared_in ds (k + 1 + count (inner_of d)) n j e rest)

-- a text of the list is that of some placed name in it
standing : (n : Name) (ps : List Placed) → In n (texts ps) →
    (q : Placed) × (before : List Placed) × (after : List Placed) × (ps ≡ before ++ q ∷ after) × (q.name ≡ n)
standing n [] i = absurd i
standing n (p ∷ ps) (inl e) = (p, [], ps, refl, e)
standing n (p ∷ ps) (inr i) =
    let (q, before, after, stands, named) = standing n ps i in
    (q, p ∷ before, after, ap (λ t. p ∷ t) stands, named)

-- of distinct names, the first is none of the others
first_apart : (p : Placed) (ps : List Placed) → AreDistinct (p ∷ ps) → In p.name (texts ps) → ⊥
first_apart p ps distinct i =
    let (q, before, after, stands, named) = standing p.name ps i in
    distinct q (record { before = p ∷ before; after = after; located = ap (λ t. p ∷ t) stands; again = inl (sym named) })

-- of distinct names, the others are distinct
others_distinct : (p : Placed) (ps : List Placed) → AreDistinct (p ∷ ps) → AreDistinct ps
others_distinct p ps distinct q s =
    distinct q (record { before = p ∷ s.before; after = s.after; located = ap (λ t. p ∷ t) s.located; again = inr s.again })

-- a `where` that declares no name twice declares each name once
pub one_declared : (ds : DefinitionListView) → AreDistinct (declared_names ds) → (k : ℕ) (n : Name) (i j : ℕ) (d e : DefinitionView) →
    Declares ds k n i d → Declares ds k n j e → (i ≡ j) × (d ≡ e)
one_declared no_defs distinct k n i j d e x y = elim x [ ]
one_declared (more_defs c cs) distinct k n i j d e x y =
    let apart = first_apart (name_of c) (declared_names cs) distinct in
    let after = k + 1 + count (inner_of c) in
    let others = one_declared cs (others_distinct (name_of c) (declared_names cs) distinct) after n i j d e in
    elim (first_or_later c cs k n i d x) [
      | inl p ↦ elim (first_or_later c cs k n j e y) [
        | inl q ↦ (p.1 ∙ sym q.1, p.2 ∙ sym q.2)
        | inr q ↦ absurd (apart (subst (λ m. In m (texts (declared_names cs))) p.0 (declared_in cs after n j e q)))
      ]
      | inr p ↦ elim (first_or_later c cs k n j e y) [
        | inl q ↦ absurd (apart (subst (λ m. In m (texts (declared_names cs))) q.0 (declared_in cs after n i d p)))
        | inr q ↦ others p q
      ]
    ]

-- a scope whose `where`s declare no name twice has one binding for each name
pub one_meant : (scope : Scope) → IsDistinctScope scope → (n : Name) (i j : ℕ) (d e : DefinitionView) →
    Binds scope n i d → Binds scope n j e → (i ≡ j) × (d ≡ e)
one_meant [] distinct n i j d e x y = elim x [ ]
one_meant (w ∷ ws) distinct n i j d e (nearest x) (nearest y) = one_declared w.defs (distinct w (inl refl)) w.first n i j d e x y
one_meant (w ∷ ws) distinct n i j d e (nearest x) (outward none y) = absurd (none i d x)
one_meant (w ∷ ws) distinct n i j d e (outward none x) (nearest y) = absurd (none j e y)
one_meant (w ∷ ws) distinct n i j d e (outward none x) (outward other y) = one_meant ws (λ v h. distinct v (inr h)) n i j d e x y
