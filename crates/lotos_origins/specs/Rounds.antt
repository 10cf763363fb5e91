-- Steps that go round, with the origins of the internal ones.
use Rattle.std.specs.Prelude.{◌≡◌, ◌≤◌, ◌++◌, ℕ, suc, List, Some, drop, length, slice_get, take}
use Rattle.lotos_check.specs.NameLists.{In}
use Rattle.lotos_store.specs.Terms.{Process, Term}
use Rattle.lotos_store.specs.declared.label.Label.{Label}
use Rattle.lotos_terms.specs.TableView.{TableView}
use Rattle.lotos_listing.specs.Ends.{repeated}
use Rattle.lotos_origins.specs.FollowedRuns.{terms_in}
use Rattle.lotos_origins.specs.Origins.{DerivesBy}
use Rattle.lotos_origins.specs.RunLayers.{HoldsAt}
use Rattle.lotos_origins.specs.declared.followed_run.FollowedRun.{FollowedRun}
use Rattle.lotos_origins.specs.declared.origin.Origin.{Origin}
use Rattle.lotos_origins.specs.declared.followed_run.Place.{Place}
use Rattle.lotos_origins.specs.declared.rounds.Round.{Round}

-- for each number there is a derivation from the term along the row and then so many times along the loop, whose
-- internal steps have the origins of the row and then so many times those of the loop
abbrev pub GoesRoundBy : List Process → Term → (row turn : List Label) → (before around : List Origin) → Type 0
GoesRoundBy system t row turn before around =
    (n : ℕ) → (u : Term) × DerivesBy system t (row ++ repeated n turn) (before ++ repeated n around) u

-- the term at the place among those of a followed run has this number
abbrev pub IsAtPlace : FollowedRun → Place → ℕ → Type 0
IsAtPlace followed place number =
    slice_get (terms_in (slice_get followed.layers.items place.count)) place.index ≡ Some number

-- each number is that of some first labels
abbrev pub AreBounds : (labels : List Label) → (bounds : List ℕ) → Type 0
AreBounds labels bounds = (at : ℕ) → In at bounds → at ≤ length labels

-- steps go round so at the term with this number; the row is the first labels, of which there are so many, and the loop
-- is the others
pub record IsRoundAt (table : TableView) (start : ℕ) (labels : List Label) (at : ℕ) (round : Round) : Type 0 where
  pub row_is : round.row.items ≡ take at labels
  pub turn_is : round.turn.items ≡ drop at labels
  pub goes_round : HoldsAt table start (λ t. GoesRoundBy table.processes t
      round.row.items round.turn.items round.row_origins.items round.turn_origins.items)

-- steps go round so at the term with this number; the row is the given one and then some times the given loop, and the
-- loop is some times the given one, at least once
pub record IsRoundFrom (table : TableView) (start : ℕ) (row turn : List Label) (round : Round) : Type 0 where
  pub before : ℕ
  pub again : ℕ
  pub row_is : round.row.items ≡ row ++ repeated before turn
  pub turn_is : round.turn.items ≡ repeated (suc again) turn
  pub goes_round : HoldsAt table start (λ t. GoesRoundBy table.processes t
      round.row.items round.turn.items round.row_origins.items round.turn_origins.items)
