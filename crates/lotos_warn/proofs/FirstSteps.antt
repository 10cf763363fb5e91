-- The labels of the steps of a term are those that its behaviour can begin with.
use Rattle.std.proofs.Common.{◌≡◌, ◌⊎◌, ℕ, List, [], ◌∷◌, Some, None, refl, sym, subst, inl, inr}
use Rattle.std.specs.Prelude.{◌≢◌, zip}
use Rattle.lotos_check.specs.NameLists.{Name, In, IsAscendingNames}
use Rattle.lotos_check.specs.Flat.{Flat, FlatProcess, Pairwise, no_pair, one_pair}
use Rattle.lotos_check.proofs.ListIndices.{one_item}
use Rattle.lotos_check.proofs.Pairs.{pair_of_first, pair_of_second}
use Rattle.lotos_store.specs.Terms.{Process, Term, disable, enable, hide, par, relabel, stop}
use Rattle.lotos_store.specs.declared.label.Label.{Label}
use Rattle.lotos_store.specs.declared.label.Label.TheVariants as l
use Rattle.lotos_terms.specs.Numbered as n
use Rattle.lotos_terms.specs.Numbered.{AreNumbersOf, IsNumberOf, IsNumberedProcess, IsNumberedTerm}
use Rattle.lotos_terms.specs.Steps as s
use Rattle.lotos_terms.specs.Steps.{IsNotIn, IsNotTermination, Relabels, Step, Synchronizes}
use Rattle.lotos_terms.proofs.LabelTexts.{one_place}
use Rattle.lotos_warn.specs.FirstLabels as c
use Rattle.lotos_warn.specs.FirstLabels.{First, termination, internal, action, IsTogether, IsShown, Becomes, CanBegin}
use Rattle.lotos_warn.proofs.RenamedNames.{first_becomes, none_becomes}

-- the label is this one, with its gate by number
pub data IsLabelOf (names : List Name) : First → Label → Type 0 where
  exits : IsLabelOf names termination l.Exit
  moves : IsLabelOf names internal l.Internal
  acts : {m : Name} {g : ℕ} → IsNumberOf names m g → IsLabelOf names (action m) (l.Gate g)

-- a relabelling leaves termination as it is
exit_relabels : {m : List (ℕ × ℕ)} {j : Label} → Relabels m l.Exit j → j ≡ l.Exit
exit_relabels s.exit_stays = refl

-- a relabelling leaves the internal action as it is
internal_relabels : {m : List (ℕ × ℕ)} {j : Label} → Relabels m l.Internal j → j ≡ l.Internal
internal_relabels s.internal_stays = refl

-- the empty relabelling leaves a gate as it is
none_relabels : {g : ℕ} {j : Label} → Relabels [] (l.Gate g) j → j ≡ l.Gate g
none_relabels s.stays = refl

-- a gate is relabelled by the first pair of a relabelling if that pair is its own, and otherwise by the other pairs
first_relabels : {m : List (ℕ × ℕ)} {x h g : ℕ} {j : Label} → Relabels ((x, h) ∷ m) (l.Gate g) j →
    ((x ≡ g) × (j ≡ l.Gate h)) ⊎ ((x ≢ g) × Relabels m (l.Gate g) j)
first_relabels s.first = inl (refl, refl)
first_relabels (s.later apart r) = inr (apart, r)

-- termination becomes nothing but termination
termination_becomes : {pairs : List (Name × Name)} {y : First} → Becomes pairs termination y → y ≡ termination
termination_becomes c.termination_stays = refl

-- the internal action becomes nothing but the internal action
internal_becomes : {pairs : List (Name × Name)} {y : First} → Becomes pairs internal y → y ≡ internal
internal_becomes c.internal_stays = refl

-- an action of a gate becomes nothing but an action of a gate
action_becomes : {pairs : List (Name × Name)} {g : Name} {y : First} → Becomes pairs (action g) y → (h : Name) × (y ≡ action h)
action_becomes (c.stays {g = g}) = (g, refl)
action_becomes (c.at_first {h = h}) = (h, refl)
action_becomes (c.later apart b) = action_becomes b

module _ (names : List Name) (a : IsAscendingNames names) where
  -- two names with the same number are equal
  one_name : (m o : Name) (g : ℕ) → IsNumberOf names m g → IsNumberOf names o g → m ≡ o
  one_name m o g h j = one_item names g m o h j

  -- two numbers of the same name are equal
  one_number : (m : Name) (g h : ℕ) → IsNumberOf names m g → IsNumberOf names m h → g ≡ h
  one_number m g h i j = one_place names a g h m i j

  -- one label has one name, and the other way round
  one_first : (x y : First) (k : Label) → IsLabelOf names x k → IsLabelOf names y k → x ≡ y
  one_first x y k exits exits = refl
  one_first x y k moves moves = refl
  one_first x y k (acts {m = m} {g = g} i) (acts {m = o} j) = let same = one_name m o g i j in cc

  -- a label by name has one label by number at most
  one_label : (x : First) (k j : Label) → IsLabelOf names x k → IsLabelOf names x j → k ≡ j
  one_label x k j exits exits = refl
  one_label x k j moves moves = refl
  one_label x k j (acts {m = m} {g = g} i) (acts {g = h} e) = let same = one_number m g h i e in cc

  -- a label by name whose label by number is `Exit` is termination
  named_exit : (x : First) → IsLabelOf names x l.Exit → x ≡ termination
  named_exit x exits = refl

  -- a label by name whose label by number is a gate is an action of a name with the number of that gate
  named_gate : (x : First) (g : ℕ) → IsLabelOf names x (l.Gate g) → (m : Name) × (x ≡ action m) × IsNumberOf names m g
  named_gate x g (acts {m = m} i) = (m, refl, i)

  -- termination has no label by number but `Exit`
  numbered_exit : (k : Label) → IsLabelOf names termination k → k ≡ l.Exit
  numbered_exit k exits = refl

  -- a label by number of an action is a gate with the number of its name
  numbered_gate : (m : Name) (k : Label) → IsLabelOf names (action m) k → (g : ℕ) × (k ≡ l.Gate g) × IsNumberOf names m g
  numbered_gate m k (acts {g = g} i) = (g, refl, i)

  -- a gate of a list is a name of the list
  name_in : (gs : List Name) (ks : List ℕ) → AreNumbersOf names gs ks → (m : Name) (g : ℕ) → IsNumberOf names m g → In g ks → In m gs
  name_in [] [] no_pair m g is i = absurd i
  name_in (x ∷ gs) (j ∷ ks) (one_pair h hs) m g is (inl e) = inl (one_name x m g (subst (IsNumberOf names x) e h) is)
  name_in (x ∷ gs) (j ∷ ks) (one_pair h hs) m g is (inr i) = inr (name_in gs ks hs m g is i)
  name_in [] (j ∷ ks) h m g is i = elim h [ ]
  name_in (x ∷ gs) [] h m g is i = elim h [ ]

  -- if a name is in a list of names, its number is in the list of their numbers
  number_in : (gs : List Name) (ks : List ℕ) → AreNumbersOf names gs ks → (m : Name) (g : ℕ) → IsNumberOf names m g → In m gs → In g ks
  number_in [] [] no_pair m g is i = absurd i
  number_in (x ∷ gs) (j ∷ ks) (one_pair h hs) m g is (inl e) = inl (one_number m j g (subst (λ y. IsNumberOf names y j) e h) is)
  number_in (x ∷ gs) (j ∷ ks) (one_pair h hs) m g is (inr i) = inr (number_in gs ks hs m g is i)
  number_in [] (j ∷ ks) h m g is i = elim h [ ]
  number_in (x ∷ gs) [] h m g is i = elim h [ ]

  module _ (gs : List Name) (ks : List ℕ) (are : AreNumbersOf names gs ks) where
    -- what both sides of a composition with a list do together
    together : (x : First) (k : Label) → IsLabelOf names x k → Synchronizes (Some ks) k → IsTogether (Some gs) x
    together x k exits h = tt
    together x k moves h = h
    together x k (acts {m = m} {g = g} i) h = name_in gs ks are m g i h

    synchronized : (x : First) (k : Label) → IsLabelOf names x k → IsTogether (Some gs) x → Synchronizes (Some ks) k
    synchronized x k exits h = tt
    synchronized x k moves h = h
    synchronized x k (acts {m = m} {g = g} i) h = number_in gs ks are m g i h

    -- what a hiding with a list shows
    is_shown : (x : First) (k : Label) → IsLabelOf names x k → IsNotIn ks k → IsShown gs x
    is_shown x k exits h = tt
    is_shown x k moves h = tt
    is_shown x k (acts {m = m} {g = g} i) h = λ j. h (number_in gs ks are m g i j)

    not_in : (x : First) (k : Label) → IsLabelOf names x k → IsShown gs x → IsNotIn ks k
    not_in x k exits h = tt
    not_in x k moves h = tt
    not_in x k (acts {m = m} {g = g} i) h = λ j. h (name_in gs ks are m g i j)

  -- in a composition on all gates, both sides do a label together by name if they synchronize on it by number
  together_on_all : (x : First) (k : Label) → IsLabelOf names x k → Synchronizes None k → IsTogether None x
  together_on_all x k exits h = tt
  together_on_all x k moves h = h
  together_on_all x k (acts i) h = tt

  -- in a composition on all gates, both sides synchronize on a label by number if they do it together by name
  synchronized_on_all : (x : First) (k : Label) → IsLabelOf names x k → IsTogether None x → Synchronizes None k
  synchronized_on_all x k exits h = tt
  synchronized_on_all x k moves h = h
  synchronized_on_all x k (acts i) h = tt

  -- a label is not termination by name if it is not by number
  not_termination : (x : First) (k : Label) → IsLabelOf names x k → IsNotTermination k → x ≢ termination
  not_termination x k exits h = absurd h
  not_termination x k moves h = λ e. cc
  not_termination x k (acts i) h = λ e. cc

  -- a label is not termination by number if it is not by name
  is_not_termination : (x : First) (k : Label) → IsLabelOf names x k → x ≢ termination → IsNotTermination k
  is_not_termination x k exits h = absurd (h refl)
  is_not_termination x k moves h = tt
  is_not_termination x k (acts i) h = tt

  -- what relabelling makes of a gate is what a call makes of its name
  relabelled_gate : (fs : List Name) (is : List ℕ) → AreNumbersOf names fs is → (gs : List Name) (ks : List ℕ) → AreNumbersOf names gs ks →
      (m : Name) (g : ℕ) (j : Label) → IsNumberOf names m g → Relabels (zip is ks) (l.Gate g) j →
      (y : First) × Becomes (zip fs gs) (action m) y × IsLabelOf names y j
  relabelled_gate [] [] no_pair gs ks actuals m g j at r =
      (action m, c.stays, subst (IsLabelOf names (action m)) (sym (none_relabels r)) (acts at))
  relabelled_gate (f ∷ fs) (i ∷ is) (one_pair h hs) [] [] no_pair m g j at r =
      (action m, c.stays, subst (IsLabelOf names (action m)) (sym (none_relabels r)) (acts at))
  relabelled_gate (f ∷ fs) (i ∷ is) (one_pair h hs) (b ∷ gs) (k ∷ ks) (one_pair p ps) m g j at r = elim (first_relabels r) [
    | inl (here, e) ↦ (
        let same : f ≡ m = one_name f m g (subst (IsNumberOf names f) here h) at in
        (action b, subst (λ x. Becomes ((f, b) ∷ zip fs gs) (action x) (action b)) same c.at_first, subst (IsLabelOf names (action b)) (sym e) (acts p)))
    | inr (apart, after) ↦ (
        let (y, becomes, label) = relabelled_gate fs is hs gs ks ps m g j at after in
        (y, c.later (λ e. apart (one_number m i g (subst (λ x. IsNumberOf names x i) e h) at)) becomes, label))
  ]
  relabelled_gate [] (i ∷ is) h gs ks actuals m g j at r = elim h [ ]
  relabelled_gate (f ∷ fs) [] h gs ks actuals m g j at r = elim h [ ]
  relabelled_gate (f ∷ fs) (i ∷ is) h [] (k ∷ ks) actuals m g j at r = elim actuals [ ]
  relabelled_gate (f ∷ fs) (i ∷ is) h (b ∷ gs) [] actuals m g j at r = elim actuals [ ]

  -- what a call makes of the name of a gate is what relabelling makes of its number
  renamed_gate : (fs : List Name) (is : List ℕ) → AreNumbersOf names fs is → (gs : List Name) (ks : List ℕ) → AreNumbersOf names gs ks →
      (m o : Name) (g : ℕ) → IsNumberOf names m g → Becomes (zip fs gs) (action m) (action o) →
      (j : Label) × Relabels (zip is ks) (l.Gate g) j × IsLabelOf names (action o) j
  renamed_gate [] [] no_pair gs ks actuals m o g at b =
      (l.Gate g, s.stays, subst (λ x. IsLabelOf names (action x) (l.Gate g)) (none_becomes b) (acts at))
  renamed_gate (f ∷ fs) (i ∷ is) (one_pair h hs) [] [] no_pair m o g at b =
      (l.Gate g, s.stays, subst (λ x. IsLabelOf names (action x) (l.Gate g)) (none_becomes b) (acts at))
  renamed_gate (f ∷ fs) (i ∷ is) (one_pair h hs) (d ∷ gs) (k ∷ ks) (one_pair p ps) m o g at b = elim (first_becomes b) [
    | inl (here, e) ↦ (
        let same : i ≡ g = one_number m i g (subst (λ x. IsNumberOf names x i) here h) at in (
          l.Gate k,
          subst (λ x. Relabels ((i, k) ∷ zip is ks) (l.Gate x) (l.Gate k)) same s.first,
          subst (λ x. IsLabelOf names (action x) (l.Gate k)) e (acts p),
        ))
    | inr (apart, after) ↦ (
        let (j, relabels, label) = renamed_gate fs is hs gs ks ps m o g at after in
        (j, s.later (λ e. apart (one_name f m g (subst (IsNumberOf names f) e h) at)) relabels, label))
  ]
  renamed_gate [] (i ∷ is) h gs ks actuals m o g at b = elim h [ ]
  renamed_gate (f ∷ fs) [] h gs ks actuals m o g at b = elim h [ ]
  renamed_gate (f ∷ fs) (i ∷ is) h [] (k ∷ ks) actuals m o g at b = elim actuals [ ]
  renamed_gate (f ∷ fs) (i ∷ is) h (d ∷ gs) [] actuals m o g at b = elim actuals [ ]

  module _ (fs : List Name) (is : List ℕ) (formals : AreNumbersOf names fs is) (gs : List Name) (ks : List ℕ) (actuals : AreNumbersOf names gs ks) where
    relabelled : (x : First) (k j : Label) → IsLabelOf names x k → Relabels (zip is ks) k j →
        (y : First) × Becomes (zip fs gs) x y × IsLabelOf names y j
    relabelled x k j exits r = (termination, c.termination_stays, subst (IsLabelOf names termination) (sym (exit_relabels r)) exits)
    relabelled x k j moves r = (internal, c.internal_stays, subst (IsLabelOf names internal) (sym (internal_relabels r)) moves)
    relabelled x k j (acts {m = m} {g = g} at) r = relabelled_gate fs is formals gs ks actuals m g j at r

    renamed : (x y : First) (k : Label) → IsLabelOf names x k → Becomes (zip fs gs) x y →
        (j : Label) × Relabels (zip is ks) k j × IsLabelOf names y j
    renamed x y k exits b = (l.Exit, s.exit_stays, subst (λ x. IsLabelOf names x l.Exit) (sym (termination_becomes b)) exits)
    renamed x y k moves b = (l.Internal, s.internal_stays, subst (λ x. IsLabelOf names x l.Internal) (sym (internal_becomes b)) moves)
    renamed x y k (acts {m = m} {g = g} at) b =
        let (o, same) = action_becomes b in
        let (j, relabels, label) = renamed_gate fs is formals gs ks actuals m o g at (subst (Becomes (zip fs gs) (action m)) same b) in
        (j, relabels, subst (λ x. IsLabelOf names x j) (sym same) label)

  module _ (flats : List FlatProcess) (processes : List Process) (all : Pairwise (IsNumberedProcess names) flats processes) where
    -- a step of a term begins its behaviour
    pub first_of_step : (b : Flat) (t u : Term) (k : Label) → IsNumberedTerm names b t → Step processes t k u →
        (x : First) × CanBegin flats b x × IsLabelOf names x k
    first_of_step b t u k n.stops h = elim h [ ]
    first_of_step b t u k n.exits s.terminates = (termination, c.terminates, exits)
    first_of_step b t u k (n.internal r) s.acts_inside = (internal, c.acts_inside, moves)
    first_of_step b t u k (n.gate {n = m} at r) s.acts = (action m, c.acts, acts at)
    first_of_step b t u k (n.choices d e) (s.chooses_left h) = let (x, can, is) = first_of_step _ _ _ k d h in (x, c.chooses_left can, is)
    first_of_step b t u k (n.choices d e) (s.chooses_right h) = let (x, can, is) = first_of_step _ _ _ k e h in (x, c.chooses_right can, is)
    first_of_step b t u k (n.parallels {r = right} {gs = gs} {ks = ks} d are e) (s.synchronizes both h j) =
        let (x, can, is) = first_of_step _ _ _ k d h in
        let (y, also, so) = first_of_step right _ _ k e j in
        let same = one_first y x k so is in
        (x, c.together (together gs ks are x k is both) can (subst (CanBegin flats right) same also), is)
    first_of_step b t u k (n.parallels {gs = gs} {ks = ks} d are e) (s.interleaves_left alone h) =
        let (x, can, is) = first_of_step _ _ _ k d h in
        (x, c.left_alone (λ both. alone (synchronized gs ks are x k is both)) can, is)
    first_of_step b t u k (n.parallels {gs = gs} {ks = ks} d are e) (s.interleaves_right alone h) =
        let (x, can, is) = first_of_step _ _ _ k e h in
        (x, c.right_alone (λ both. alone (synchronized gs ks are x k is both)) can, is)
    first_of_step b t u k (n.on_all {r = right} d e) (s.synchronizes both h j) =
        let (x, can, is) = first_of_step _ _ _ k d h in
        let (y, also, so) = first_of_step right _ _ k e j in
        let same = one_first y x k so is in
        (x, c.together (together_on_all x k is both) can (subst (CanBegin flats right) same also), is)
    first_of_step b t u k (n.on_all d e) (s.interleaves_left alone h) =
        let (x, can, is) = first_of_step _ _ _ k d h in
        (x, c.left_alone (λ both. alone (synchronized_on_all x k is both)) can, is)
    first_of_step b t u k (n.on_all d e) (s.interleaves_right alone h) =
        let (x, can, is) = first_of_step _ _ _ k e h in
        (x, c.right_alone (λ both. alone (synchronized_on_all x k is both)) can, is)
    first_of_step b t u k (n.hidings {gs = gs} {ks = ks} {b = inside} are d) (s.hides {g = g} listed h) =
        let (x, can, is) = first_of_step inside _ _ (l.Gate g) d h in
        let (m, same, at) = named_gate x g is in
        (internal, c.hides (name_in gs ks are m g at listed) (subst (CanBegin flats inside) same can), moves)
    first_of_step b t u k (n.hidings {gs = gs} {ks = ks} are d) (s.shows visible h) =
        let (x, can, is) = first_of_step _ _ _ k d h in
        (x, c.shows (is_shown gs ks are x k is visible) can, is)
    first_of_step b t u k (n.enablings d e) (s.goes_on other h) =
        let (x, can, is) = first_of_step _ _ _ k d h in
        (x, c.goes_on (not_termination x k is other) can, is)
    first_of_step b t u k (n.enablings {l = left} d e) (s.enables h) =
        let (x, can, is) = first_of_step left _ _ l.Exit d h in
        (internal, c.enables (subst (CanBegin flats left) (named_exit x is) can), moves)
    first_of_step b t u k (n.disablings d e) (s.goes_on_undisturbed other h) =
        let (x, can, is) = first_of_step _ _ _ k d h in (x, c.undisturbed can, is)
    first_of_step b t u k (n.disablings d e) (s.ends h) = let (x, can, is) = first_of_step _ _ _ l.Exit d h in (x, c.undisturbed can, is)
    first_of_step b t u k (n.disablings d e) (s.disables h) = let (x, can, is) = first_of_step _ _ _ k e h in (x, c.disables can, is)
    first_of_step b t u k (n.calls {p = p} {gs = gs} {ks = ks} are) (s.calls {q = q} at (s.relabels {k = j} changes h)) =
        let (flat, there, is) = pair_of_second flats processes all p q at in
        let (x, can, label) = first_of_step flat.body q.body _ j is.body h in
        let (y, becomes, own) = relabelled flat.formals q.formals is.formals gs ks are x j k label changes in
        (y, c.calls there becomes can, own)

    -- what a behaviour begins with is a step of its term
    pub step_of_first : (b : Flat) (t : Term) (x : First) → IsNumberedTerm names b t → CanBegin flats b x →
        (k : Label) × (u : Term) × IsLabelOf names x k × Step processes t k u
    step_of_first b t x n.stops h = elim h [ ]
    step_of_first b t x n.exits c.terminates = (l.Exit, stop, exits, s.terminates)
    step_of_first b t x (n.internal {t = u} r) c.acts_inside = (l.Internal, u, moves, s.acts_inside)
    step_of_first b t x (n.gate {k = g} {t = u} at r) c.acts = (l.Gate g, u, acts at, s.acts)
    step_of_first b t x (n.choices d e) (c.chooses_left h) = let (k, u, is, step) = step_of_first _ _ x d h in (k, u, is, s.chooses_left step)
    step_of_first b t x (n.choices d e) (c.chooses_right h) = let (k, u, is, step) = step_of_first _ _ x e h in (k, u, is, s.chooses_right step)
    step_of_first b t x (n.parallels {gs = gs} {ks = ks} {u = right} d are e) (c.together both h j) =
        let (k, u, is, step) = step_of_first _ _ x d h in
        let (o, v, so, other) = step_of_first _ right x e j in
        let same = subst (λ k. Step processes right k v) (one_label x o k so is) other in
        (k, par u (Some ks) v, is, s.synchronizes (synchronized gs ks are x k is both) step same)
    step_of_first b t x (n.parallels {gs = gs} {ks = ks} {u = right} d are e) (c.left_alone alone h) =
        let (k, u, is, step) = step_of_first _ _ x d h in
        (k, par u (Some ks) right, is, s.interleaves_left (λ both. alone (together gs ks are x k is both)) step)
    step_of_first b t x (n.parallels {gs = gs} {ks = ks} {t = left} d are e) (c.right_alone alone h) =
        let (k, u, is, step) = step_of_first _ _ x e h in
        (k, par left (Some ks) u, is, s.interleaves_right (λ both. alone (together gs ks are x k is both)) step)
    step_of_first b t x (n.on_all {u = right} d e) (c.together both h j) =
        let (k, u, is, step) = step_of_first _ _ x d h in
        let (o, v, so, other) = step_of_first _ right x e j in
        (k, par u None v, is, s.synchronizes (synchronized_on_all x k is both) step (subst (λ k. Step processes right k v) (one_label x o k so is) other))
    step_of_first b t x (n.on_all {u = right} d e) (c.left_alone alone h) =
        let (k, u, is, step) = step_of_first _ _ x d h in
        (k, par u None right, is, s.interleaves_left (λ both. alone (together_on_all x k is both)) step)
    step_of_first b t x (n.on_all {t = left} d e) (c.right_alone alone h) =
        let (k, u, is, step) = step_of_first _ _ x e h in
        (k, par left None u, is, s.interleaves_right (λ both. alone (together_on_all x k is both)) step)
    step_of_first b t x (n.hidings {gs = gs} {ks = ks} {t = inside} are d) (c.hides {g = m} listed h) =
        let (k, u, is, step) = step_of_first _ inside (action m) d h in
        let (g, same, at) = numbered_gate m k is in
        (l.Internal, hide ks u, moves, s.hides (number_in gs ks are m g at listed) (subst (λ k. Step processes inside k u) same step))
    step_of_first b t x (n.hidings {gs = gs} {ks = ks} are d) (c.shows visible h) =
        let (k, u, is, step) = step_of_first _ _ x d h in
        (k, hide ks u, is, s.shows (not_in gs ks are x k is visible) step)
    step_of_first b t x (n.enablings {u = right} d e) (c.goes_on other h) =
        let (k, u, is, step) = step_of_first _ _ x d h in
        (k, enable u right, is, s.goes_on (is_not_termination x k is other) step)
    step_of_first b t x (n.enablings {t = left} {u = right} d e) (c.enables h) =
        let (k, u, is, step) = step_of_first _ left termination d h in
        (l.Internal, right, moves, s.enables (subst (λ k. Step processes left k u) (numbered_exit k is) step))
    step_of_first b t x (n.disablings {t = left} {u = right} d e) (c.undisturbed h) =
        let (k, u, is, step) = step_of_first _ left x d h in disturbed left right x k u is step
      where
        disturbed : (left right : Term) (x : First) (k : Label) (u : Term) → IsLabelOf names x k → Step processes left k u →
            (k : Label) × (v : Term) × IsLabelOf names x k × Step processes (disable left right) k v
        disturbed left right x k u exits step = (l.Exit, u, exits, s.ends step)
        disturbed left right x k u moves step = (l.Internal, disable u right, moves, s.goes_on_undisturbed tt step)
        disturbed left right x k u (acts {g = g} at) step = (l.Gate g, disable u right, acts at, s.goes_on_undisturbed tt step)
    step_of_first b t x (n.disablings d e) (c.disables h) = let (k, u, is, step) = step_of_first _ _ x e h in (k, u, is, s.disables step)
    step_of_first b t y (n.calls {p = p} {gs = gs} {ks = ks} are) (c.calls {process = flat} {x = x} at becomes h) =
        let (q, there, is) = pair_of_first flats processes all p flat at in
        let (k, u, label, step) = step_of_first flat.body q.body x is.body h in
        let (j, relabels, own) = renamed flat.formals q.formals is.formals gs ks are x y k label becomes in
        (j, relabel (zip q.formals ks) u, own, s.calls there (s.relabels relabels step))
