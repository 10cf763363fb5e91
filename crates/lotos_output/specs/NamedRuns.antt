-- Runs as text, with what makes their internal steps.
use Rattle.std.specs.Prelude.{◌≡◌, ◌≢◌, ℕ, Bool, true, false, List, [], ◌∷◌, ◌++◌, codes}
use Rattle.lotos_check.specs.NameLists.{Name}
use Rattle.lotos_store.specs.Terms.{Process, Term}
use Rattle.lotos_store.specs.declared.label.Label.{Label as TermLabel}
use Rattle.lotos_store.specs.declared.label.Label.TheVariants as l
use Rattle.lotos_terms.specs.TableView.{IsPrintedAs}
use Rattle.lotos_listing.specs.Ends.{repeated}
use Rattle.lotos_listing.specs.Order.{Label}
use Rattle.lotos_listing.specs.Question.{ArePrinted}
use Rattle.lotos_origins.specs.Origins.{DerivesBy}
use Rattle.lotos_origins.specs.declared.origin.Origin.{Origin}
use Rattle.lotos_origins.specs.declared.origin.Origin.TheVariants as origin
use Rattle.lotos_origins.specs.declared.rounds.Round.{Round}
use Rattle.lotos_command.specs.declared.command.Runs.{Runs}
use Rattle.lotos_command.specs.declared.command.Runs.TheVariants.{Labels, Omitted, Origins}

-- the text of an internal step with this origin: `i`, `i(` and the gate as it is hidden and `)`, or `i(exit)`
abbrev pub IsOriginText : List Name → Origin → Label → Type 0
IsOriginText names origin.Text text = text ≡ codes "i"
IsOriginText names (origin.Hidden g) text =
    (gate : Label) × IsPrintedAs names (l.Gate g) gate × (text ≡ codes "i(" ++ gate ++ codes ")")
IsOriginText names origin.Termination text = text ≡ codes "i(exit)"

-- the text of a step by the label, where the first of the origins is that of an internal step; the others are left
pub data IsNamedStep (names : List Name) : TermLabel → List Origin → Label → List Origin → Type 0 where
  observed : {k : TermLabel} {os : List Origin} {text : Label} → k ≢ l.Internal → IsPrintedAs names k text →
      IsNamedStep names k os text os
  inside : {o : Origin} {os : List Origin} {text : Label} → IsOriginText names o text →
      IsNamedStep names l.Internal (o ∷ os) text os

-- the texts are those of steps with these labels, one for each in turn, where the internal ones have these origins in
-- turn; the other origins are left
pub data AreNamed (names : List Name) : List TermLabel → List Origin → List Label → List Origin → Type 0 where
  none_named : {os : List Origin} → AreNamed names [] os [] os
  more_named : {k : TermLabel} {ks : List TermLabel} {text : Label} {texts : List Label} {os rest left : List Origin} →
      IsNamedStep names k os text rest → AreNamed names ks rest texts left →
      AreNamed names (k ∷ ks) os (text ∷ texts) left

-- the texts are those of the row and of the loop, each with the origins of its internal steps
pub record AreRoundNamed (names : List Name) (round : Round) (row_shown turn_shown : List Label) : Type 0 where
  pub row : AreNamed names round.row.items round.row_origins.items row_shown []
  pub turn : AreNamed names round.turn.items round.turn_origins.items turn_shown []

-- whether lines have runs, by their labels or with what makes their internal steps
abbrev pub writes_runs : Runs → Bool
writes_runs Omitted = false
writes_runs Labels = true
writes_runs Origins = true

module _ (names : List Name) (processes : List Process) where
  -- steps with these labels lead from the first term to the last, and these are their texts, where those of internal
  -- steps say what makes them
  pub record DerivesNamed (t : Term) (labels : List TermLabel) (shown : List Label) (u : Term) : Type 0 where
    pub origins : List Origin
    pub derives : DerivesBy processes t labels origins u
    pub named : AreNamed names labels origins shown []

  -- for each number, the same of steps by the labels of a row and then so many times by those of a loop
  abbrev pub GoesNamed : Term → (row loop : List TermLabel) → (row_shown loop_shown : List Label) → Type 0
  GoesNamed t row loop row_shown loop_shown =
      (n : ℕ) → (u : Term) × DerivesNamed t (row ++ repeated n loop) (row_shown ++ repeated n loop_shown) u

  -- the second texts are those of a derivation by the run with the first ones, where those of internal steps say what
  -- makes them; it may end where it does. In `hide s in (i; a; s; stop)` the texts `i A i(S)` are those of a derivation
  -- by the run `i A i`
  pub record IsNamedRun (start : Term) (Ends : Term → Type 0) (run shown : List Label) : Type 0 where
    pub labels : List TermLabel
    pub printed : ArePrinted names labels run
    pub last : Term
    pub derives : DerivesNamed start labels shown last
    pub ends : Ends last
