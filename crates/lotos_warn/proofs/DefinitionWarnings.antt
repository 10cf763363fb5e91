-- The warnings about definitions, one after the other.
use Rattle.std.proofs.Common.{◌≡◌, ◌↔◌, ◌⊎◌, ℕ, ◌+◌, ◌<◌, suc, List, [], ◌∷◌, map, length, drop, get_or, refl, sym, ◌∙◌, subst, inl, inr, Bool, true, false, arith}
use Rattle.lotos_text.specs.AstView.{stop, DefinitionView, name_of, formals_of, declared_of, body_of}
use Rattle.lotos_text.specs.declared.ast.Placed.{Placed}
use Rattle.lotos_text.specs.declared.ast.Functionality.TheVariants.{Exit, NoExit}
use Rattle.lotos_check.specs.NameLists.{Name, In}
use Rattle.lotos_check.specs.Flat.{System}
use Rattle.lotos_check.proofs.Pairs.{drop_at}
use Rattle.lotos_warn.specs.declared.warning.Warning.{Warning}
use Rattle.lotos_warn.specs.declared.warning.Warning.TheVariants.{UncalledProcess, UnreachedProcess, NeverExits, DeadStart, UnusedGate, UnofferedGate, UnusedHidden, UnsynchronizedHidden, ExchangedGates}
use Rattle.lotos_warn.specs.ShownNames.{shown_name}
use Rattle.lotos_warn.specs.LabelSets.{IsAlive, IsDead}
use Rattle.lotos_warn.specs.Warnings.{UsesFree}
use Rattle.lotos_warn.specs.Additions.{IsUnusedAmong, IsUnusedIn, IsGateWarning, IsGateWarningOfAny, IsUncalledAt, IsUnreachedAt, IsEndlessAt, IsEndlessWhole, IsDeadIn, IsProcessWarning, IsProcessWarningOfAny}

-- an unused gate of a list is the first, or one of the others
pub unused_split : (used : List Name) (name : Name) (g : Placed) (gs : List Placed) (w : Warning) →
    IsUnusedAmong used name (g ∷ gs) w ↔ (IsUnusedAmong used name (g ∷ []) w ⊎ IsUnusedAmong used name gs w)
unused_split used name g gs (UncalledProcess p) = ((λ h. absurd h), (λ h. elim h [ inl i ↦ i | inr i ↦ i ]))
unused_split used name g gs (UnreachedProcess p) = ((λ h. absurd h), (λ h. elim h [ inl i ↦ i | inr i ↦ i ]))
unused_split used name g gs (NeverExits p) = ((λ h. absurd h), (λ h. elim h [ inl i ↦ i | inr i ↦ i ]))
unused_split used name g gs (DeadStart p) = ((λ h. absurd h), (λ h. elim h [ inl i ↦ i | inr i ↦ i ]))
unused_split used name g gs (UnofferedGate p s) = ((λ h. absurd h), (λ h. elim h [ inl i ↦ i | inr i ↦ i ]))
unused_split used name g gs (UnusedHidden p) = ((λ h. absurd h), (λ h. elim h [ inl i ↦ i | inr i ↦ i ]))
unused_split used name g gs (UnusedGate gate d) = (
  (λ h. elim h.0 [ inl e ↦ inl (inl e, h.1, h.2) | inr i ↦ inr (i, h.1, h.2) ]),
  (λ h. elim h [
    | inl m ↦ elim m.0 [ inl e ↦ (inl e, m.1, m.2) | inr i ↦ absurd i ]
    | inr m ↦ (inr m.0, m.1, m.2)
  ]),
)
unused_split used name g gs (UnsynchronizedHidden p) = ((λ h. absurd h), (λ h. elim h [ inl i ↦ i | inr i ↦ i ]))
unused_split used name g gs (ExchangedGates p o) = ((λ h. absurd h), (λ h. elim h [ inl i ↦ i | inr i ↦ i ]))

-- there is no warning about an unused gate of an empty list
pub unused_none : (used : List Name) (name : Name) (w : Warning) → IsUnusedAmong used name [] w → ⊥
unused_none used name (UncalledProcess p) h = h
unused_none used name (UnreachedProcess p) h = h
unused_none used name (NeverExits p) h = h
unused_none used name (DeadStart p) h = h
unused_none used name (UnofferedGate p s) h = h
unused_none used name (UnusedHidden p) h = h
unused_none used name (UnusedGate gate d) h = h.0
unused_none used name (UnsynchronizedHidden p) h = h
unused_none used name (ExchangedGates p o) h = h

-- the warning about a gate that is not used
pub unused_one : (used : List Name) (name : Name) (gate : Placed) → (In gate.name used → ⊥) → (w : Warning) →
    (UnusedGate gate (shown_name name) ≡ w) ↔ IsUnusedAmong used name (gate ∷ []) w
unused_one used name gate none (UncalledProcess p) = ((λ e. cc), (λ h. absurd h))
unused_one used name gate none (UnreachedProcess p) = ((λ e. cc), (λ h. absurd h))
unused_one used name gate none (NeverExits p) = ((λ e. cc), (λ h. absurd h))
unused_one used name gate none (DeadStart p) = ((λ e. cc), (λ h. absurd h))
unused_one used name gate none (UnofferedGate p s) = ((λ e. cc), (λ h. absurd h))
unused_one used name gate none (UnusedHidden p) = ((λ e. cc), (λ h. absurd h))
unused_one used name gate none (UnusedGate other d) = (
  (λ e. let same : gate ≡ other = cc in let named : d ≡ shown_name name = cc in (inl same, named, subst (λ g. In g.name used → ⊥) same none)),
  (λ h. elim h.0 [ inl same ↦ (let named = h.1 in cc) | inr i ↦ absurd i ]),
)
unused_one used name gate none (UnsynchronizedHidden p) = ((λ e. cc), (λ h. absurd h))
unused_one used name gate none (ExchangedGates p o) = ((λ e. cc), (λ h. absurd h))

-- none about a gate that is
pub unused_never : (used : List Name) (name : Name) (gate : Placed) → In gate.name used → (w : Warning) → IsUnusedAmong used name (gate ∷ []) w → ⊥
unused_never used name gate some (UncalledProcess p) h = h
unused_never used name gate some (UnreachedProcess p) h = h
unused_never used name gate some (NeverExits p) h = h
unused_never used name gate some (DeadStart p) h = h
unused_never used name gate some (UnofferedGate p s) h = h
unused_never used name gate some (UnusedHidden p) h = h
unused_never used name gate some (UnusedGate other d) h = elim h.0 [ inl same ↦ h.2 (subst (λ g. In g.name used) same some) | inr i ↦ i ]
unused_never used name gate some (UnsynchronizedHidden p) h = h
unused_never used name gate some (ExchangedGates p o) h = h

-- the names that are used are those that the body uses
pub unused_in : (d : DefinitionView) (used : List Name) → ((n : Name) → In n used ↔ UsesFree (body_of d) n) → (w : Warning) →
    IsUnusedAmong used (name_of d).name (formals_of d) w ↔ IsUnusedIn d w
unused_in d used same (UncalledProcess p) = ((λ h. h), (λ h. h))
unused_in d used same (UnreachedProcess p) = ((λ h. h), (λ h. h))
unused_in d used same (NeverExits p) = ((λ h. h), (λ h. h))
unused_in d used same (DeadStart p) = ((λ h. h), (λ h. h))
unused_in d used same (UnofferedGate p s) = ((λ h. h), (λ h. h))
unused_in d used same (UnusedHidden p) = ((λ h. h), (λ h. h))
unused_in d used same (UnusedGate gate name) = (
  (λ h. (h.0, h.1, (λ u. h.2 ((same gate.name).1 u)))),
  (λ h. (h.0, h.1, (λ i. h.2 ((same gate.name).0 i)))),
)
unused_in d used same (UnsynchronizedHidden p) = ((λ h. h), (λ h. h))
unused_in d used same (ExchangedGates p o) = ((λ h. h), (λ h. h))

-- a warning about the gates of some definition is one about the first, or about one of the others
pub gates_split : (d : DefinitionView) (ds : List DefinitionView) (w : Warning) → IsGateWarningOfAny (d ∷ ds) w ↔ (IsGateWarning d w ⊎ IsGateWarningOfAny ds w)
gates_split d ds w = (
  (λ (e, i, h). elim i [ inl same ↦ inl (subst (λ x. IsGateWarning x w) (sym same) h) | inr j ↦ inr (e, j, h) ]),
  (λ h. elim h [ inl g ↦ (d, inl refl, g) | inr (e, j, g) ↦ (e, inr j, g) ]),
)

-- the warning about a process that is not called
pub uncalled_one : (called : List ℕ) (number : ℕ) (d : DefinitionView) → (In number called → ⊥) → (w : Warning) →
    (UncalledProcess (name_of d) ≡ w) ↔ IsUncalledAt called number d w
uncalled_one called number d none (UncalledProcess p) = ((λ e. ((let named : p ≡ name_of d = cc in named), none)), (λ h. let named = h.0 in cc))
uncalled_one called number d none (UnreachedProcess p) = ((λ e. cc), (λ h. absurd h))
uncalled_one called number d none (NeverExits p) = ((λ e. cc), (λ h. absurd h))
uncalled_one called number d none (DeadStart p) = ((λ e. cc), (λ h. absurd h))
uncalled_one called number d none (UnusedGate gate name) = ((λ e. cc), (λ h. absurd h))
uncalled_one called number d none (UnofferedGate gate side) = ((λ e. cc), (λ h. absurd h))
uncalled_one called number d none (UnusedHidden gate) = ((λ e. cc), (λ h. absurd h))
uncalled_one called number d none (UnsynchronizedHidden p) = ((λ e. cc), (λ h. absurd h))
uncalled_one called number d none (ExchangedGates p o) = ((λ e. cc), (λ h. absurd h))

-- none about a process that is
pub uncalled_never : (called : List ℕ) (number : ℕ) (d : DefinitionView) → In number called → (w : Warning) → IsUncalledAt called number d w → ⊥
uncalled_never called number d some (UncalledProcess p) h = h.1 some
uncalled_never called number d some (UnreachedProcess p) h = h
uncalled_never called number d some (NeverExits p) h = h
uncalled_never called number d some (DeadStart p) h = h
uncalled_never called number d some (UnusedGate gate name) h = h
uncalled_never called number d some (UnofferedGate gate side) h = h
uncalled_never called number d some (UnusedHidden gate) h = h
uncalled_never called number d some (UnsynchronizedHidden p) h = h
uncalled_never called number d some (ExchangedGates p o) h = h

-- the warning about a process that is called and not reached
pub unreached_one : (called reached : List ℕ) (number : ℕ) (d : DefinitionView) → In number called × (In number reached → ⊥) → (w : Warning) →
    (UnreachedProcess (name_of d) ≡ w) ↔ IsUnreachedAt called reached number d w
unreached_one called reached number d here (UncalledProcess p) = ((λ e. cc), (λ h. absurd h))
unreached_one called reached number d here (UnreachedProcess p) = (
  (λ e. ((let named : p ≡ name_of d = cc in named), here.0, here.1)),
  (λ h. let named = h.0 in cc),
)
unreached_one called reached number d here (NeverExits p) = ((λ e. cc), (λ h. absurd h))
unreached_one called reached number d here (DeadStart p) = ((λ e. cc), (λ h. absurd h))
unreached_one called reached number d here (UnusedGate gate name) = ((λ e. cc), (λ h. absurd h))
unreached_one called reached number d here (UnofferedGate gate side) = ((λ e. cc), (λ h. absurd h))
unreached_one called reached number d here (UnusedHidden gate) = ((λ e. cc), (λ h. absurd h))
unreached_one called reached number d here (UnsynchronizedHidden p) = ((λ e. cc), (λ h. absurd h))
unreached_one called reached number d here (ExchangedGates p o) = ((λ e. cc), (λ h. absurd h))

-- none about one that is not called, or that is reached
pub unreached_never : (called reached : List ℕ) (number : ℕ) (d : DefinitionView) → (In number called → ⊥) ⊎ In number reached → (w : Warning) →
    IsUnreachedAt called reached number d w → ⊥
unreached_never called reached number d other (UncalledProcess p) h = h
unreached_never called reached number d other (UnreachedProcess p) h = elim other [ inl none ↦ none h.1 | inr some ↦ h.2 some ]
unreached_never called reached number d other (NeverExits p) h = h
unreached_never called reached number d other (DeadStart p) h = h
unreached_never called reached number d other (UnusedGate gate name) h = h
unreached_never called reached number d other (UnofferedGate gate side) h = h
unreached_never called reached number d other (UnusedHidden gate) h = h
unreached_never called reached number d other (UnsynchronizedHidden p) h = h
unreached_never called reached number d other (ExchangedGates p o) h = h

-- the warning about a process that is declared exit and not one that exits
pub endless_one : (exiting : List ℕ) (number : ℕ) (d : DefinitionView) → declared_of d ≡ Exit → (In number exiting → ⊥) → (w : Warning) →
    (NeverExits (name_of d) ≡ w) ↔ IsEndlessAt exiting number d w
endless_one exiting number d declared none (UncalledProcess p) = ((λ e. cc), (λ h. absurd h))
endless_one exiting number d declared none (UnreachedProcess p) = ((λ e. cc), (λ h. absurd h))
endless_one exiting number d declared none (NeverExits p) = (
  (λ e. ((let named : p ≡ name_of d = cc in named), declared, none)),
  (λ h. let named = h.0 in cc),
)
endless_one exiting number d declared none (DeadStart p) = ((λ e. cc), (λ h. absurd h))
endless_one exiting number d declared none (UnusedGate gate name) = ((λ e. cc), (λ h. absurd h))
endless_one exiting number d declared none (UnofferedGate gate side) = ((λ e. cc), (λ h. absurd h))
endless_one exiting number d declared none (UnusedHidden gate) = ((λ e. cc), (λ h. absurd h))
endless_one exiting number d declared none (UnsynchronizedHidden p) = ((λ e. cc), (λ h. absurd h))
endless_one exiting number d declared none (ExchangedGates p o) = ((λ e. cc), (λ h. absurd h))

-- none about one that is declared otherwise, or that exits
pub endless_never : (exiting : List ℕ) (number : ℕ) (d : DefinitionView) → (declared_of d ≡ NoExit) ⊎ In number exiting → (w : Warning) →
    IsEndlessAt exiting number d w → ⊥
endless_never exiting number d other (UncalledProcess p) h = h
endless_never exiting number d other (UnreachedProcess p) h = h
endless_never exiting number d other (NeverExits p) h = elim other [
  | inl declared ↦ (let e : Exit ≡ NoExit = sym h.1 ∙ declared in cc)
  | inr some ↦ h.2 some
]
endless_never exiting number d other (DeadStart p) h = h
endless_never exiting number d other (UnusedGate gate name) h = h
endless_never exiting number d other (UnofferedGate gate side) h = h
endless_never exiting number d other (UnusedHidden gate) h = h
endless_never exiting number d other (UnsynchronizedHidden p) h = h
endless_never exiting number d other (ExchangedGates p o) h = h

-- the same of the specification
pub endless_whole : (exits : Bool) (d : DefinitionView) → declared_of d ≡ Exit → exits ≡ false → (w : Warning) →
    (NeverExits (name_of d) ≡ w) ↔ IsEndlessWhole exits d w
endless_whole exits d declared none (UncalledProcess p) = ((λ e. cc), (λ h. absurd h))
endless_whole exits d declared none (UnreachedProcess p) = ((λ e. cc), (λ h. absurd h))
endless_whole exits d declared none (NeverExits p) = (
  (λ e. ((let named : p ≡ name_of d = cc in named), declared, none)),
  (λ h. let named = h.0 in cc),
)
endless_whole exits d declared none (DeadStart p) = ((λ e. cc), (λ h. absurd h))
endless_whole exits d declared none (UnusedGate gate name) = ((λ e. cc), (λ h. absurd h))
endless_whole exits d declared none (UnofferedGate gate side) = ((λ e. cc), (λ h. absurd h))
endless_whole exits d declared none (UnusedHidden gate) = ((λ e. cc), (λ h. absurd h))
endless_whole exits d declared none (UnsynchronizedHidden p) = ((λ e. cc), (λ h. absurd h))
endless_whole exits d declared none (ExchangedGates p o) = ((λ e. cc), (λ h. absurd h))

-- no warning says that a specification never terminates if it is declared noexit, or if its behaviour exits
pub endless_whole_never : (exits : Bool) (d : DefinitionView) → (declared_of d ≡ NoExit) ⊎ (exits ≡ true) → (w : Warning) → IsEndlessWhole exits d w → ⊥
endless_whole_never exits d other (UncalledProcess p) h = h
endless_whole_never exits d other (UnreachedProcess p) h = h
endless_whole_never exits d other (NeverExits p) h = elim other [
  | inl declared ↦ (let e : Exit ≡ NoExit = sym h.1 ∙ declared in cc)
  | inr some ↦ (let e : true ≡ false = sym some ∙ h.2 in cc)
]
endless_whole_never exits d other (DeadStart p) h = h
endless_whole_never exits d other (UnusedGate gate name) h = h
endless_whole_never exits d other (UnofferedGate gate side) h = h
endless_whole_never exits d other (UnusedHidden gate) h = h
endless_whole_never exits d other (UnsynchronizedHidden p) h = h
endless_whole_never exits d other (ExchangedGates p o) h = h

-- the warning about a behaviour that can do nothing
pub dead_one : (system : System) (d : DefinitionView) → (body_of d ≡ stop → ⊥) → IsDead system → (w : Warning) →
    (DeadStart (name_of d) ≡ w) ↔ IsDeadIn system d w
dead_one system d other dead (UncalledProcess p) = ((λ e. cc), (λ h. absurd h))
dead_one system d other dead (UnreachedProcess p) = ((λ e. cc), (λ h. absurd h))
dead_one system d other dead (NeverExits p) = ((λ e. cc), (λ h. absurd h))
dead_one system d other dead (DeadStart p) = (
  (λ e. ((let named : p ≡ name_of d = cc in named), other, dead)),
  (λ h. let named = h.0 in cc),
)
dead_one system d other dead (UnusedGate gate name) = ((λ e. cc), (λ h. absurd h))
dead_one system d other dead (UnofferedGate gate side) = ((λ e. cc), (λ h. absurd h))
dead_one system d other dead (UnusedHidden gate) = ((λ e. cc), (λ h. absurd h))
dead_one system d other dead (UnsynchronizedHidden p) = ((λ e. cc), (λ h. absurd h))
dead_one system d other dead (ExchangedGates p o) = ((λ e. cc), (λ h. absurd h))

-- none about one that is `stop` itself, or can do something
pub dead_never : (system : System) (d : DefinitionView) → (body_of d ≡ stop) ⊎ IsAlive system → (w : Warning) → IsDeadIn system d w → ⊥
dead_never system d other (UncalledProcess p) h = h
dead_never system d other (UnreachedProcess p) h = h
dead_never system d other (NeverExits p) h = h
dead_never system d other (DeadStart p) h = elim other [ inl same ↦ h.1 same | inr (x, can) ↦ h.2 x can ]
dead_never system d other (UnusedGate gate name) h = h
dead_never system d other (UnofferedGate gate side) h = h
dead_never system d other (UnusedHidden gate) h = h
dead_never system d other (UnsynchronizedHidden p) h = h
dead_never system d other (ExchangedGates p o) h = h

-- of the processes from a number on, one that has a warning is the first, or one of the others
pub process_next : {K : Type 0} (view : K → DefinitionView) (called reached exiting : List ℕ) (ps : List K) (n : ℕ) (d y : K) →
    n < length ps → y ≡ get_or ps n d → (w : Warning) →
    IsProcessWarningOfAny called reached exiting n (map view (drop n ps)) w
    ↔ (IsProcessWarning called reached exiting n (view y) w ⊎ IsProcessWarningOfAny called reached exiting (n + 1) (map view (drop (n + 1) ps)) w)
process_next view called reached exiting ps n d y within at w =
    let next = drop_at ps n d y within at in
    let step : suc n ≡ n + 1 = omega arith in
    let first = IsProcessWarning called reached exiting n (view y) w in
    let rest = map view (drop (n + 1) ps) in
    subst (λ xs. IsProcessWarningOfAny called reached exiting n (map view xs) w ↔ (first ⊎ IsProcessWarningOfAny called reached exiting (n + 1) rest w))
    (sym next)
    (subst (λ m. (first ⊎ IsProcessWarningOfAny called reached exiting (suc n) rest w) ↔ (first ⊎ IsProcessWarningOfAny called reached exiting m rest w)) step
    ((λ h. h), (λ h. h)))

-- there is none after the last
pub process_end : {K : Type 0} (view : K → DefinitionView) (called reached exiting : List ℕ) (n : ℕ) (ps : List K) → ps ≡ [] → (w : Warning) →
    IsProcessWarningOfAny called reached exiting n (map view ps) w → ⊥
process_end view called reached exiting n ps none w h = subst (λ xs. IsProcessWarningOfAny called reached exiting n (map view xs) w) none h
