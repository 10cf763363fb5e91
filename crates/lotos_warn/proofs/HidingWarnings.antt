-- The warnings about the hidings of a behaviour, from those of its parts.
use Rattle.std.proofs.Common.{◌≡◌, ◌↔◌, ◌⊎◌, ℕ, List, [], ◌∷◌, subst, inl, inr}
use Rattle.lotos_text.specs.AstView.{BehaviourView, SyncView, stop, exit, prefix, choice, par, hide, enable, disable, call}
use Rattle.lotos_text.specs.declared.ast.Placed.{Placed}
use Rattle.lotos_text.specs.declared.ast.Action.{Action}
use Rattle.lotos_check.specs.NameLists.{Name, In}
use Rattle.lotos_check.specs.Subexpressions.{IsSubexpression}
use Rattle.lotos_warn.specs.declared.warning.Warning.{Warning}
use Rattle.lotos_warn.specs.declared.warning.Warning.TheVariants.{UncalledProcess, UnreachedProcess, NeverExits, DeadStart, UnusedGate, UnofferedGate, UnusedHidden, UnsynchronizedHidden, ExchangedGates}
use Rattle.lotos_warn.specs.Warnings.{UsesFree, IsHidingWarning}
use Rattle.lotos_warn.specs.Additions.{Adds, IsUnusedOfHiding}
use Rattle.lotos_warn.proofs.Additions.{adds_as, adds_nothing, adds_alone}
use Rattle.lotos_warn.proofs.PartWarnings.{WarnsFrom, part_stop, part_exit, part_call, part_prefix, part_hide, part_choice, part_par, part_enable, part_disable}

-- the behaviour has the warning itself: it is a hiding with the gate in its list, and inside the gate is not used
pub data HidesUnused : BehaviourView → Warning → Type 0 where
  unused_inside : {gs : List Placed} {b : BehaviourView} {g : Placed} → In g gs → (UsesFree b g.name → ⊥) → HidesUnused (hide gs b) (UnusedHidden g)

-- if a part of a behaviour has the warning itself, the behaviour has it about a hiding
hidden_in : (b : BehaviourView) (hidden : List Name) (part : BehaviourView) (w : Warning) →
    IsSubexpression [] b hidden part → HidesUnused part w → IsHidingWarning b w
hidden_in b hidden part w i (unused_inside {gs = gs} {b = inner} listed none) =
    record { hidden = hidden; list = gs; body = inner; inside = i; listed = listed; unused = none }

-- if a behaviour has a warning about a hiding, that hiding has it itself
hidden_from : (b : BehaviourView) (w : Warning) → IsHidingWarning b w → WarnsFrom HidesUnused [] b w
hidden_from b (UncalledProcess p) h = absurd h
hidden_from b (UnreachedProcess p) h = absurd h
hidden_from b (NeverExits p) h = absurd h
hidden_from b (DeadStart p) h = absurd h
hidden_from b (UnusedGate g d) h = absurd h
hidden_from b (UnofferedGate g s) h = absurd h
hidden_from b (UnusedHidden g) h = record { hidden = h.hidden; part = hide h.list h.body; inside = h.inside; own = unused_inside h.listed h.unused }
hidden_from b (UnsynchronizedHidden p) h = absurd h
hidden_from b (ExchangedGates p o) h = absurd h

-- a behaviour has a warning about a hiding exactly if a part of it has it itself
pub hidings_by_part : (b : BehaviourView) (w : Warning) → IsHidingWarning b w ↔ WarnsFrom HidesUnused [] b w
hidings_by_part b w = (hidden_from b w, (λ h. hidden_in b h.hidden h.part w h.inside h.own))

-- `stop` adds no warnings about hidings
pub hidings_stop : (ws : List Warning) → Adds ws ws (IsHidingWarning stop)
hidings_stop ws = part_stop HidesUnused IsHidingWarning hidings_by_part ws ws (adds_nothing ws (HidesUnused stop) (λ w o. elim o [ ]))

-- `exit` adds no warnings about hidings
pub hidings_exit : (ws : List Warning) → Adds ws ws (IsHidingWarning exit)
hidings_exit ws = part_exit HidesUnused IsHidingWarning hidings_by_part ws ws (adds_nothing ws (HidesUnused exit) (λ w o. elim o [ ]))

-- a call adds no warnings about hidings
pub hidings_call : (ws : List Warning) (p : Placed) (gs : List Placed) → Adds ws ws (IsHidingWarning (call p gs))
hidings_call ws p gs = part_call HidesUnused IsHidingWarning hidings_by_part ws ws p gs (adds_nothing ws (HidesUnused (call p gs)) (λ w o. elim o [ ]))

-- a prefix adds the warnings about hidings that the behaviour after its action has
pub hidings_prefix : (old new : List Warning) (a : Action) (b : BehaviourView) → Adds old new (IsHidingWarning b) → Adds old new (IsHidingWarning (prefix a b))
hidings_prefix old new a b h = part_prefix HidesUnused IsHidingWarning hidings_by_part old new new a b h
    (adds_nothing new (HidesUnused (prefix a b)) (λ w o. elim o [ ]))

module _ (old mid new : List Warning) (l r : BehaviourView) (first : Adds old mid (IsHidingWarning l)) (second : Adds mid new (IsHidingWarning r)) where
  -- a choice adds the warnings about hidings that its sides have
  pub hidings_choice : Adds old new (IsHidingWarning (choice l r))
  hidings_choice = part_choice HidesUnused IsHidingWarning hidings_by_part old mid new new l r first second
      (adds_nothing new (HidesUnused (choice l r)) (λ w o. elim o [ ]))

  -- a parallel composition adds the warnings about hidings that its sides have
  pub hidings_par : (s : SyncView) → Adds old new (IsHidingWarning (par l s r))
  hidings_par s = part_par HidesUnused IsHidingWarning hidings_by_part old mid new new l r first second s
      (adds_nothing new (HidesUnused (par l s r)) (λ w o. elim o [ ]))

  -- a `>>` adds the warnings about hidings that its sides have
  pub hidings_enable : (at : ℕ) → Adds old new (IsHidingWarning (enable l at r))
  hidings_enable at = part_enable HidesUnused IsHidingWarning hidings_by_part old mid new new l r first second at
      (adds_nothing new (HidesUnused (enable l at r)) (λ w o. elim o [ ]))

  -- a `[>` adds the warnings about hidings that its sides have
  pub hidings_disable : Adds old new (IsHidingWarning (disable l r))
  hidings_disable = part_disable HidesUnused IsHidingWarning hidings_by_part old mid new new l r first second
      (adds_nothing new (HidesUnused (disable l r)) (λ w o. elim o [ ]))

-- the gates of a list that are not among those that a behaviour uses are those that a hiding of it has warnings about
-- itself
unused_own : (used : List Name) (b : BehaviourView) (gs : List Placed) → ((n : Name) → In n used ↔ UsesFree b n) → (w : Warning) →
    IsUnusedOfHiding used gs w ↔ HidesUnused (hide gs b) w
unused_own used b gs same (UncalledProcess p) = ((λ h. absurd h), (λ o. elim o [ ]))
unused_own used b gs same (UnreachedProcess p) = ((λ h. absurd h), (λ o. elim o [ ]))
unused_own used b gs same (NeverExits p) = ((λ h. absurd h), (λ o. elim o [ ]))
unused_own used b gs same (DeadStart p) = ((λ h. absurd h), (λ o. elim o [ ]))
unused_own used b gs same (UnusedGate g d) = ((λ h. absurd h), (λ o. elim o [ ]))
unused_own used b gs same (UnofferedGate g s) = ((λ h. absurd h), (λ o. elim o [ ]))
unused_own used b gs same (UnusedHidden g) = (
  (λ h. unused_inside h.0 (λ u. h.1 ((same g.name).1 u))),
  (λ o. elim o [ unused_inside i none ↦ (i, (λ j. none ((same g.name).0 j))) ]),
)
unused_own used b gs same (UnsynchronizedHidden p) = ((λ h. absurd h), (λ o. elim o [ ]))
unused_own used b gs same (ExchangedGates p o) = ((λ h. absurd h), (λ o. elim o [ ]))

-- a hiding has the warnings of the behaviour inside it, whose gates were found apart, and those about its own list
pub hidings_hide : (old mid new : List Warning) (empty used : List Name) (gs : List Placed) (b : BehaviourView) → empty ≡ [] →
    Adds empty used (UsesFree b) → Adds old mid (IsHidingWarning b) → Adds mid new (IsUnusedOfHiding used gs) →
    Adds old new (IsHidingWarning (hide gs b))
hidings_hide old mid new empty used gs b none uses inside own =
    part_hide HidesUnused IsHidingWarning hidings_by_part old mid new gs b inside
    (adds_as mid new (IsUnusedOfHiding used gs) (HidesUnused (hide gs b)) (unused_own used b gs (adds_alone empty used (UsesFree b) none uses)) own)

-- an unused gate of the list of a hiding is the first, or one of the others
pub hidden_split : (used : List Name) (g : Placed) (gs : List Placed) (w : Warning) →
    IsUnusedOfHiding used (g ∷ gs) w ↔ (IsUnusedOfHiding used (g ∷ []) w ⊎ IsUnusedOfHiding used gs w)
hidden_split used g gs (UncalledProcess p) = ((λ h. absurd h), (λ h. elim h [ inl i ↦ i | inr i ↦ i ]))
hidden_split used g gs (UnreachedProcess p) = ((λ h. absurd h), (λ h. elim h [ inl i ↦ i | inr i ↦ i ]))
hidden_split used g gs (NeverExits p) = ((λ h. absurd h), (λ h. elim h [ inl i ↦ i | inr i ↦ i ]))
hidden_split used g gs (DeadStart p) = ((λ h. absurd h), (λ h. elim h [ inl i ↦ i | inr i ↦ i ]))
hidden_split used g gs (UnusedGate other d) = ((λ h. absurd h), (λ h. elim h [ inl i ↦ i | inr i ↦ i ]))
hidden_split used g gs (UnofferedGate other s) = ((λ h. absurd h), (λ h. elim h [ inl i ↦ i | inr i ↦ i ]))
hidden_split used g gs (UnusedHidden other) = (
  (λ h. elim h.0 [ inl e ↦ inl (inl e, h.1) | inr i ↦ inr (i, h.1) ]),
  (λ h. elim h [
    | inl m ↦ elim m.0 [ inl e ↦ (inl e, m.1) | inr i ↦ absurd i ]
    | inr m ↦ (inr m.0, m.1)
  ]),
)
hidden_split used g gs (UnsynchronizedHidden p) = ((λ h. absurd h), (λ h. elim h [ inl i ↦ i | inr i ↦ i ]))
hidden_split used g gs (ExchangedGates p o) = ((λ h. absurd h), (λ h. elim h [ inl i ↦ i | inr i ↦ i ]))

-- there is no warning about an unused gate of an empty list of a hiding
pub hidden_none : (used : List Name) (w : Warning) → IsUnusedOfHiding used [] w → ⊥
hidden_none used (UncalledProcess p) h = h
hidden_none used (UnreachedProcess p) h = h
hidden_none used (NeverExits p) h = h
hidden_none used (DeadStart p) h = h
hidden_none used (UnusedGate g d) h = h
hidden_none used (UnofferedGate g s) h = h
hidden_none used (UnusedHidden g) h = h.0
hidden_none used (UnsynchronizedHidden p) h = h
hidden_none used (ExchangedGates p o) h = h

-- the warning about a gate of a hiding that is not used inside
pub hidden_one : (used : List Name) (gate : Placed) → (In gate.name used → ⊥) → (w : Warning) →
    (UnusedHidden gate ≡ w) ↔ IsUnusedOfHiding used (gate ∷ []) w
hidden_one used gate none (UncalledProcess p) = ((λ e. cc), (λ h. absurd h))
hidden_one used gate none (UnreachedProcess p) = ((λ e. cc), (λ h. absurd h))
hidden_one used gate none (NeverExits p) = ((λ e. cc), (λ h. absurd h))
hidden_one used gate none (DeadStart p) = ((λ e. cc), (λ h. absurd h))
hidden_one used gate none (UnusedGate g d) = ((λ e. cc), (λ h. absurd h))
hidden_one used gate none (UnofferedGate g s) = ((λ e. cc), (λ h. absurd h))
hidden_one used gate none (UnusedHidden other) = (
  (λ e. let same : gate ≡ other = cc in (inl same, subst (λ g. In g.name used → ⊥) same none)),
  (λ h. elim h.0 [ inl same ↦ cc | inr i ↦ absurd i ]),
)
hidden_one used gate none (UnsynchronizedHidden p) = ((λ e. cc), (λ h. absurd h))
hidden_one used gate none (ExchangedGates p o) = ((λ e. cc), (λ h. absurd h))

-- none about a gate that is
pub hidden_never : (used : List Name) (gate : Placed) → In gate.name used → (w : Warning) → IsUnusedOfHiding used (gate ∷ []) w → ⊥
hidden_never used gate some (UncalledProcess p) h = h
hidden_never used gate some (UnreachedProcess p) h = h
hidden_never used gate some (NeverExits p) h = h
hidden_never used gate some (DeadStart p) h = h
hidden_never used gate some (UnusedGate g d) h = h
hidden_never used gate some (UnofferedGate g s) h = h
hidden_never used gate some (UnusedHidden other) h = elim h.0 [ inl same ↦ h.1 (subst (λ g. In g.name used) same some) | inr i ↦ i ]
hidden_never used gate some (UnsynchronizedHidden p) h = h
hidden_never used gate some (ExchangedGates p o) h = h
