-- The warnings about the lists of a behaviour, from those of its parts.
use Rattle.std.proofs.Common.{◌≡◌, ◌↔◌, ◌⊎◌, ◌∙◌, ℕ, List, [], ◌∷◌, ap, refl, sym, subst, inl, inr}
use Rattle.lotos_text.specs.AstView.{BehaviourView, SyncView, gates, all, stop, exit, prefix, choice, par, hide, enable, disable, call}
use Rattle.lotos_text.specs.declared.ast.Placed.{Placed}
use Rattle.lotos_text.specs.declared.ast.Action.{Action}
use Rattle.lotos_check.specs.NameLists.{Name, In}
use Rattle.lotos_check.specs.Subexpressions.{IsSubexpression}
use Rattle.lotos_warn.specs.declared.warning.Side.{Side}
use Rattle.lotos_warn.specs.declared.warning.Side.TheVariants.{Left, Right}
use Rattle.lotos_warn.specs.declared.warning.Warning.{Warning}
use Rattle.lotos_warn.specs.declared.warning.Warning.TheVariants.{UncalledProcess, UnreachedProcess, NeverExits, DeadStart, UnusedGate, UnofferedGate, UnusedHidden, UnsynchronizedHidden, ExchangedGates}
use Rattle.lotos_warn.specs.Warnings.{OffersFree, IsOfferedApart, operand, IsFirstOfName, IsListWarning}
use Rattle.lotos_warn.specs.Additions.{Adds, IsApartOfHiding, IsMissingOn, IsMissingUnseen, IsMissingGate, IsMissing, names_of}
use Rattle.lotos_warn.proofs.Additions.{adds_as, adds_both, adds_nothing, adds_alone}
use Rattle.lotos_warn.proofs.PartWarnings.{WarnsFrom, part_stop, part_exit, part_call, part_prefix, part_hide, part_choice, part_par, part_enable, part_disable}

-- the behaviour has the warning itself: it is a parallel composition with the gate in its list, and that side does not
-- offer the gate; or it is a hiding with the gate in its list, and inside both sides of a composition offer the gate
-- without synchronization
pub data IsOwnListWarning : BehaviourView → Warning → Type 0 where
  lacking : {l r : BehaviourView} {gs : List Placed} {g : Placed} {s : Side} → IsFirstOfName g gs → (OffersFree (operand s l r) g.name → ⊥) →
      IsOwnListWarning (par l (gates gs) r) (UnofferedGate g s)
  apart_inside : {gs : List Placed} {b : BehaviourView} {g : Placed} → In g gs → IsOfferedApart g.name b →
      IsOwnListWarning (hide gs b) (UnsynchronizedHidden g)

-- if a part of a behaviour has the warning itself, the behaviour has it about a list
listed_in : (b : BehaviourView) (hidden : List Name) (part : BehaviourView) (w : Warning) →
    IsSubexpression [] b hidden part → IsOwnListWarning part w → IsListWarning b w
listed_in b hidden part w i (lacking {l = l} {r = r} {gs = gs} first none) =
    record { hidden = hidden; left = l; list = gs; right = r; inside = i; listed = first; unoffered = none }
listed_in b hidden part w i (apart_inside {gs = gs} {b = inner} listed apart) =
    record { hidden = hidden; list = gs; body = inner; inside = i; listed = listed; apart = apart }

-- if a behaviour has a warning about a list, the parallel composition with the list has it itself
listed_from : (b : BehaviourView) (w : Warning) → IsListWarning b w → WarnsFrom IsOwnListWarning [] b w
listed_from b (UncalledProcess p) h = absurd h
listed_from b (UnreachedProcess p) h = absurd h
listed_from b (NeverExits p) h = absurd h
listed_from b (DeadStart p) h = absurd h
listed_from b (UnusedGate g d) h = absurd h
listed_from b (UnofferedGate g s) h =
    record { hidden = h.hidden; part = par h.left (gates h.list) h.right; inside = h.inside; own = lacking h.listed h.unoffered }
listed_from b (UnusedHidden g) h = absurd h
listed_from b (UnsynchronizedHidden g) h =
    record { hidden = h.hidden; part = hide h.list h.body; inside = h.inside; own = apart_inside h.listed h.apart }
listed_from b (ExchangedGates p o) h = absurd h

-- a behaviour has a warning about a list exactly if a part of it has it itself
pub lists_by_part : (b : BehaviourView) (w : Warning) → IsListWarning b w ↔ WarnsFrom IsOwnListWarning [] b w
lists_by_part b w = (listed_from b w, (λ h. listed_in b h.hidden h.part w h.inside h.own))

-- `stop` adds no warnings about lists
pub lists_stop : (ws : List Warning) → Adds ws ws (IsListWarning stop)
lists_stop ws = part_stop IsOwnListWarning IsListWarning lists_by_part ws ws (adds_nothing ws (IsOwnListWarning stop) (λ w o. elim o [ ]))

-- `exit` adds no warnings about lists
pub lists_exit : (ws : List Warning) → Adds ws ws (IsListWarning exit)
lists_exit ws = part_exit IsOwnListWarning IsListWarning lists_by_part ws ws (adds_nothing ws (IsOwnListWarning exit) (λ w o. elim o [ ]))

-- a call adds no warnings about lists
pub lists_call : (ws : List Warning) (p : Placed) (gs : List Placed) → Adds ws ws (IsListWarning (call p gs))
lists_call ws p gs = part_call IsOwnListWarning IsListWarning lists_by_part ws ws p gs (adds_nothing ws (IsOwnListWarning (call p gs)) (λ w o. elim o [ ]))

-- a prefix adds the warnings about lists that the behaviour after its action has
pub lists_prefix : (old new : List Warning) (a : Action) (b : BehaviourView) → Adds old new (IsListWarning b) → Adds old new (IsListWarning (prefix a b))
lists_prefix old new a b h = part_prefix IsOwnListWarning IsListWarning lists_by_part old new new a b h
    (adds_nothing new (IsOwnListWarning (prefix a b)) (λ w o. elim o [ ]))

-- such a warning of a hiding itself is about a gate of its list that is among those that both sides of a composition
-- inside offer without synchronization
apart_of : (apart : List Name) (b : BehaviourView) (gs : List Placed) → ((n : Name) → In n apart ↔ IsOfferedApart n b) → (w : Warning) →
    IsOwnListWarning (hide gs b) w → IsApartOfHiding apart gs w
apart_of apart b gs same w (apart_inside {g = g} i a) = (g, refl, i, (same g.name).1 a)

-- the gates of a list that are among those that both sides of a composition in a behaviour offer without synchronization
-- are those that a hiding of it has warnings about itself
apart_own : (apart : List Name) (b : BehaviourView) (gs : List Placed) → ((n : Name) → In n apart ↔ IsOfferedApart n b) → (w : Warning) →
    IsApartOfHiding apart gs w ↔ IsOwnListWarning (hide gs b) w
apart_own apart b gs same w = (
  (λ (g, e, i, j). subst (IsOwnListWarning (hide gs b)) (sym e) (apart_inside i ((same g.name).0 j))),
  apart_of apart b gs same w,
)

-- a hiding adds the warnings about lists of the behaviour inside it, whose gates were found apart, and those about its
-- own list
pub lists_hide : (old mid new : List Warning) (empty apart : List Name) (gs : List Placed) (b : BehaviourView) → empty ≡ [] →
    Adds empty apart (λ n. IsOfferedApart n b) → Adds old mid (IsListWarning b) → Adds mid new (IsApartOfHiding apart gs) →
    Adds old new (IsListWarning (hide gs b))
lists_hide old mid new empty apart gs b none found inside own =
    part_hide IsOwnListWarning IsListWarning lists_by_part old mid new gs b inside
    (adds_as mid new (IsApartOfHiding apart gs) (IsOwnListWarning (hide gs b))
    (apart_own apart b gs (adds_alone empty apart (λ n. IsOfferedApart n b) none found)) own)

-- such a gate of the list of a hiding is the first, or one of the others
pub apart_split : (apart : List Name) (g : Placed) (gs : List Placed) (w : Warning) →
    IsApartOfHiding apart (g ∷ gs) w ↔ (IsApartOfHiding apart (g ∷ []) w ⊎ IsApartOfHiding apart gs w)
apart_split apart g gs w = (
  (λ (o, e, i, j). elim i [ inl same ↦ inl (o, e, inl same, j) | inr k ↦ inr (o, e, k, j) ]),
  (λ h. elim h [
    | inl (o, e, i, j) ↦ elim i [ inl same ↦ (o, e, inl same, j) | inr k ↦ absurd k ]
    | inr (o, e, i, j) ↦ (o, e, inr i, j)
  ]),
)

-- there is none in an empty list
pub apart_none : (apart : List Name) (w : Warning) → IsApartOfHiding apart [] w → ⊥
apart_none apart w (o, e, i, j) = i

-- the warning about a gate of a hiding that both sides of a composition offer without synchronization
pub apart_one : (apart : List Name) (gate : Placed) → In gate.name apart → (w : Warning) →
    (UnsynchronizedHidden gate ≡ w) ↔ IsApartOfHiding apart (gate ∷ []) w
apart_one apart gate some w = (
  (λ e. (gate, sym e, inl refl, some)),
  (λ (o, e, i, j). elim i [ inl same ↦ ap UnsynchronizedHidden same ∙ sym e | inr k ↦ absurd k ]),
)

-- none about another gate
pub apart_never : (apart : List Name) (gate : Placed) → (In gate.name apart → ⊥) → (w : Warning) → IsApartOfHiding apart (gate ∷ []) w → ⊥
apart_never apart gate none w (o, e, i, j) = elim i [ inl same ↦ none (subst (λ (g : Placed). In g.name apart) (sym same) j) | inr k ↦ k ]

module _ (old mid new : List Warning) (l r : BehaviourView) (first : Adds old mid (IsListWarning l)) (second : Adds mid new (IsListWarning r)) where
  -- a choice adds the warnings about lists that its sides have
  pub lists_choice : Adds old new (IsListWarning (choice l r))
  lists_choice = part_choice IsOwnListWarning IsListWarning lists_by_part old mid new new l r first second
      (adds_nothing new (IsOwnListWarning (choice l r)) (λ w o. elim o [ ]))

  -- a `>>` adds the warnings about lists that its sides have
  pub lists_enable : (at : ℕ) → Adds old new (IsListWarning (enable l at r))
  lists_enable at = part_enable IsOwnListWarning IsListWarning lists_by_part old mid new new l r first second at
      (adds_nothing new (IsOwnListWarning (enable l at r)) (λ w o. elim o [ ]))

  -- a `[>` adds the warnings about lists that its sides have
  pub lists_disable : Adds old new (IsListWarning (disable l r))
  lists_disable = part_disable IsOwnListWarning IsListWarning lists_by_part old mid new new l r first second
      (adds_nothing new (IsOwnListWarning (disable l r)) (λ w o. elim o [ ]))

-- the names of each side are those that it offers
module _ (l r : BehaviourView) (by_left by_right : List Name) (left : (n : Name) → In n by_left ↔ OffersFree l n)
    (right : (n : Name) → In n by_right ↔ OffersFree r n) where
  -- the names of either side are exactly those that it offers
  side_offers : (s : Side) (n : Name) → In n (names_of s by_left by_right) ↔ OffersFree (operand s l r) n
  side_offers Left n = left n
  side_offers Right n = right n

  -- the gates that are missing on a side are those that a parallel composition has warnings about itself
  missing_own : (sync : SyncView) (w : Warning) → IsMissing by_left by_right sync w ↔ IsOwnListWarning (par l sync r) w
  missing_own all w = ((λ h. absurd h), (λ o. elim o [ ]))
  missing_own (gates gs) (UncalledProcess p) = ((λ h. absurd h), (λ o. elim o [ ]))
  missing_own (gates gs) (UnreachedProcess p) = ((λ h. absurd h), (λ o. elim o [ ]))
  missing_own (gates gs) (NeverExits p) = ((λ h. absurd h), (λ o. elim o [ ]))
  missing_own (gates gs) (DeadStart p) = ((λ h. absurd h), (λ o. elim o [ ]))
  missing_own (gates gs) (UnusedGate g d) = ((λ h. absurd h), (λ o. elim o [ ]))
  missing_own (gates gs) (UnofferedGate g s) = (
    (λ h. lacking h.1 (λ f. h.2 ((side_offers s g.name).1 f))),
    (λ o. elim o [ lacking first none ↦ ((λ i. i), first, (λ i. none ((side_offers s g.name).0 i))) ]),
  )
  missing_own (gates gs) (UnusedHidden g) = ((λ h. absurd h), (λ o. elim o [ ]))
  missing_own (gates gs) (UnsynchronizedHidden p) = ((λ h. absurd h), (λ o. elim o [ ]))
  missing_own (gates gs) (ExchangedGates p o) = ((λ h. absurd h), (λ o. elim o [ ]))

-- a parallel composition has the warnings of its sides and those about its list
pub lists_par : (old mid more new : List Warning) (by_left by_right : List Name) (l : BehaviourView) (sync : SyncView) (r : BehaviourView) →
    Adds [] by_left (OffersFree l) → Adds [] by_right (OffersFree r) →
    Adds old mid (IsListWarning l) → Adds mid more (IsListWarning r) → Adds more new (IsMissing by_left by_right sync) →
    Adds old new (IsListWarning (par l sync r))
lists_par old mid more new by_left by_right l sync r h k first second third =
    let left = adds_alone [] by_left (OffersFree l) refl h in
    let right = adds_alone [] by_right (OffersFree r) refl k in
    part_par IsOwnListWarning IsListWarning lists_by_part old mid more new l r first second sync
    (adds_as more new (IsMissing by_left by_right sync) (IsOwnListWarning (par l sync r)) (missing_own l r by_left by_right left right sync) third)

-- after the first gate of a list its name is seen
module _ (by_left by_right seen more : List Name) (g : Placed) (gs : List Placed) (added : Adds seen more (λ n. g.name ≡ n)) where
  -- a name that is not seen, and is not that of the first gate, is not seen after that gate either
  later_seen : (other : Placed) → (In other.name seen → ⊥) → (g.name ≡ other.name → ⊥) → In other.name more → ⊥
  later_seen other none apart i = elim ((added other.name).0 i) [ inl j ↦ none j | inr e ↦ apart e ]

  -- a gate that is missing in the list after its first gate is missing in the whole list
  later_missing : (other : Placed) (place : Side) → IsMissingGate by_left by_right more gs (UnofferedGate other place) →
      IsMissingGate by_left by_right seen (g ∷ gs) (UnofferedGate other place)
  later_missing other place m = (
    (λ i. m.0 ((added other.name).1 (inl i))),
    inr ((λ e. m.0 ((added other.name).1 (inr e))), m.1),
    m.2,
  )

  -- a gate is missing on a side exactly if it is the first of the list, its name is not seen and the side lacks it, or
  -- if it is missing in the list after the first
  missing_side : (other : Placed) (place : Side) → IsMissingGate by_left by_right seen (g ∷ gs) (UnofferedGate other place) ↔
      (IsMissingUnseen by_left by_right seen g (UnofferedGate other place) ⊎ IsMissingGate by_left by_right more gs (UnofferedGate other place))
  missing_side other Left = (
    (λ h. elim h.1 [
      | inl e ↦ inl ((subst (λ (p : Placed). In p.name seen → ⊥) (sym e) h.0), inl (e, refl, h.2))
      | inr (apart, f) ↦ inr (later_seen other h.0 apart, f, h.2)
    ]),
    (λ h. elim h [
      | inl (none, inl m) ↦ (subst (λ (p : Placed). In p.name seen → ⊥) m.0 none, inl m.0, m.2)
      | inl (none, inr m) ↦ absurd (let e = m.1 in cc)
      | inr m ↦ later_missing other Left m
    ]),
  )
  missing_side other Right = (
    (λ h. elim h.1 [
      | inl e ↦ inl ((subst (λ (p : Placed). In p.name seen → ⊥) (sym e) h.0), inr (e, refl, h.2))
      | inr (apart, f) ↦ inr (later_seen other h.0 apart, f, h.2)
    ]),
    (λ h. elim h [
      | inl (none, inl m) ↦ absurd (let e = m.1 in cc)
      | inl (none, inr m) ↦ (subst (λ (p : Placed). In p.name seen → ⊥) m.0 none, inl m.0, m.2)
      | inr m ↦ later_missing other Right m
    ]),
  )

  -- a warning that is about the first gate on neither side is none about that gate
  no_missing : (w : Warning) → (IsMissingOn by_left Left g w → ⊥) → (IsMissingOn by_right Right g w → ⊥) → IsMissingUnseen by_left by_right seen g w → ⊥
  no_missing w left right (none, inl m) = left m
  no_missing w left right (none, inr m) = right m

  -- a gate of the list is missing on a side: the first, if its name is not seen, or a later one
  pub missing_split : (w : Warning) →
      IsMissingGate by_left by_right seen (g ∷ gs) w ↔ (IsMissingUnseen by_left by_right seen g w ⊎ IsMissingGate by_left by_right more gs w)
  missing_split (UncalledProcess p) = ((λ h. absurd h), (λ h. elim h [ inl m ↦ no_missing (UncalledProcess p) (λ i. i) (λ i. i) m | inr m ↦ m ]))
  missing_split (UnreachedProcess p) = ((λ h. absurd h), (λ h. elim h [ inl m ↦ no_missing (UnreachedProcess p) (λ i. i) (λ i. i) m | inr m ↦ m ]))
  missing_split (NeverExits p) = ((λ h. absurd h), (λ h. elim h [ inl m ↦ no_missing (NeverExits p) (λ i. i) (λ i. i) m | inr m ↦ m ]))
  missing_split (DeadStart p) = ((λ h. absurd h), (λ h. elim h [ inl m ↦ no_missing (DeadStart p) (λ i. i) (λ i. i) m | inr m ↦ m ]))
  missing_split (UnusedGate other d) = ((λ h. absurd h), (λ h. elim h [ inl m ↦ no_missing (UnusedGate other d) (λ i. i) (λ i. i) m | inr m ↦ m ]))
  missing_split (UnofferedGate other place) = missing_side other place
  missing_split (UnusedHidden other) = ((λ h. absurd h), (λ h. elim h [ inl m ↦ no_missing (UnusedHidden other) (λ i. i) (λ i. i) m | inr m ↦ m ]))
  missing_split (UnsynchronizedHidden p) = ((λ h. absurd h), (λ h. elim h [ inl m ↦ no_missing (UnsynchronizedHidden p) (λ i. i) (λ i. i) m | inr m ↦ m ]))
  missing_split (ExchangedGates p o) = ((λ h. absurd h), (λ h. elim h [ inl m ↦ no_missing (ExchangedGates p o) (λ i. i) (λ i. i) m | inr m ↦ m ]))

-- the warnings about a gate whose name is not seen are those of either side
pub missing_sides : (by_left by_right seen : List Name) (g : Placed) (old mid new : List Warning) → (In g.name seen → ⊥) →
    Adds old mid (IsMissingOn by_left Left g) → Adds mid new (IsMissingOn by_right Right g) → Adds old new (IsMissingUnseen by_left by_right seen g)
missing_sides by_left by_right seen g old mid new none first second =
    adds_as old new (λ w. IsMissingOn by_left Left g w ⊎ IsMissingOn by_right Right g w) (IsMissingUnseen by_left by_right seen g)
    (λ w. ((λ h. (none, h)), (λ h. h.1)))
    (adds_both old mid new (IsMissingOn by_left Left g) (IsMissingOn by_right Right g) first second)

-- there is no warning about a missing gate of an empty list
pub missing_none : (by_left by_right seen : List Name) (w : Warning) → IsMissingGate by_left by_right seen [] w → ⊥
missing_none by_left by_right seen (UncalledProcess p) h = h
missing_none by_left by_right seen (UnreachedProcess p) h = h
missing_none by_left by_right seen (NeverExits p) h = h
missing_none by_left by_right seen (DeadStart p) h = h
missing_none by_left by_right seen (UnusedGate other d) h = h
missing_none by_left by_right seen (UnofferedGate other place) h = h.1
missing_none by_left by_right seen (UnusedHidden other) h = h
missing_none by_left by_right seen (UnsynchronizedHidden p) h = h
missing_none by_left by_right seen (ExchangedGates p o) h = h

-- the warning about a gate that is not among the names of a side
pub missing_one : (names : List Name) (side : Side) (gate : Placed) → (In gate.name names → ⊥) → (w : Warning) →
    (UnofferedGate gate side ≡ w) ↔ IsMissingOn names side gate w
missing_one names side gate none (UncalledProcess p) = ((λ e. cc), (λ h. absurd h))
missing_one names side gate none (UnreachedProcess p) = ((λ e. cc), (λ h. absurd h))
missing_one names side gate none (NeverExits p) = ((λ e. cc), (λ h. absurd h))
missing_one names side gate none (DeadStart p) = ((λ e. cc), (λ h. absurd h))
missing_one names side gate none (UnusedGate other d) = ((λ e. cc), (λ h. absurd h))
missing_one names side gate none (UnusedHidden other) = ((λ e. cc), (λ h. absurd h))
missing_one names side gate none (UnofferedGate other place) = (
  (λ e. let same : gate ≡ other = cc in let there : side ≡ place = cc in (same, there, subst (λ g. In g.name names → ⊥) same none)),
  (λ h. let same = h.0 in let there = h.1 in cc),
)
missing_one names side gate none (UnsynchronizedHidden p) = ((λ e. cc), (λ h. absurd h))
missing_one names side gate none (ExchangedGates p o) = ((λ e. cc), (λ h. absurd h))

-- none about a gate that is
pub missing_never : (names : List Name) (side : Side) (gate : Placed) → In gate.name names → (w : Warning) → IsMissingOn names side gate w → ⊥
missing_never names side gate some (UncalledProcess p) h = h
missing_never names side gate some (UnreachedProcess p) h = h
missing_never names side gate some (NeverExits p) h = h
missing_never names side gate some (DeadStart p) h = h
missing_never names side gate some (UnusedGate other d) h = h
missing_never names side gate some (UnusedHidden other) h = h
missing_never names side gate some (UnofferedGate other place) h = h.2 (subst (λ g. In g.name names) h.0 some)
missing_never names side gate some (UnsynchronizedHidden p) h = h
missing_never names side gate some (ExchangedGates p o) h = h
