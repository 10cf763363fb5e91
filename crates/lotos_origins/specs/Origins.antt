-- What makes the internal steps of terms, by the inference rules of ISO 8807:1989.
use Rattle.std.specs.Prelude.{◌≡◌, ◌≢◌, ◌<◌, ℕ, List, [], ◌∷◌, Option, Some, None, slice_get, zip}
use Rattle.lotos_check.specs.NameLists.{In}
use Rattle.lotos_store.specs.Terms.{Term, Process, prefix, choice, par, hide, enable, disable, call, relabel}
use Rattle.lotos_store.specs.declared.label.Label.{Label}
use Rattle.lotos_store.specs.declared.label.Label.TheVariants as l
use Rattle.lotos_terms.specs.Steps.{Step}
use Rattle.lotos_origins.specs.declared.origin.Origin.{Origin}
use Rattle.lotos_origins.specs.declared.origin.Origin.TheVariants as origin

-- a term has an internal step to another, and what makes it: an `i` of the text; a gate that a hiding makes internal,
-- by its name there; or the termination of the left operand of an enabling. There is a rule for each inference rule
-- that makes an internal step or passes one on, and all that pass one on keep its origin. `hide b in P [b]`, where P is
-- `process P [x] := x; P [x]`, has an internal step by B: the step of the body is one by X, which the call makes one by
-- B, and the hiding makes this internal (ISO, with origins)
pub data InternalStep (system : List Process) : Term → Origin → Term → Type 0 where
  -- the internal action of the text
  acts_inside : {b : Term} → InternalStep system (prefix None b) origin.Text b
  -- choice
  chooses_left : {a b t : Term} {o : Origin} → InternalStep system a o t → InternalStep system (choice a b) o t
  chooses_right : {a b t : Term} {o : Origin} → InternalStep system b o t → InternalStep system (choice a b) o t
  -- parallel composition: an internal step of one side, beside the other
  interleaves_left : {a b t : Term} {s : Option (List ℕ)} {o : Origin} → InternalStep system a o t →
      InternalStep system (par a s b) o (par t s b)
  interleaves_right : {a b u : Term} {s : Option (List ℕ)} {o : Origin} → InternalStep system b o u →
      InternalStep system (par a s b) o (par a s u)
  -- hiding: a gate as it is hidden, and an internal step inside
  hides : {b t : Term} {gates : List ℕ} {g : ℕ} → In g gates → Step system b (l.Gate g) t →
      InternalStep system (hide gates b) (origin.Hidden g) (hide gates t)
  shows : {b t : Term} {gates : List ℕ} {o : Origin} → InternalStep system b o t →
      InternalStep system (hide gates b) o (hide gates t)
  -- enabling: termination of the left operand
  goes_on : {a b t : Term} {o : Origin} → InternalStep system a o t → InternalStep system (enable a b) o (enable t b)
  enables : {a b t : Term} → Step system a l.Exit t → InternalStep system (enable a b) origin.Termination b
  -- disabling
  goes_on_undisturbed : {a b t : Term} {o : Origin} → InternalStep system a o t →
      InternalStep system (disable a b) o (disable t b)
  disables : {a b t : Term} {o : Origin} → InternalStep system b o t → InternalStep system (disable a b) o t
  -- process instantiation, and the relabelling that it leaves
  calls : {p : ℕ} {gates : List ℕ} {q : Process} {o : Origin} {t : Term} → slice_get system p ≡ Some q →
      InternalStep system (relabel (zip q.formals gates) q.body) o t → InternalStep system (call p gates) o t
  relabels : {m : List (ℕ × ℕ)} {b t : Term} {o : Origin} → InternalStep system b o t →
      InternalStep system (relabel m b) o (relabel m t)

-- the gate of the origin, if it has one, is one of the first gates, of which there are so many
abbrev pub IsOriginOver : (gates : ℕ) → Origin → Type 0
IsOriginOver gates origin.Text = Unit {0}
IsOriginOver gates (origin.Hidden g) = g < gates
IsOriginOver gates origin.Termination = Unit {0}

-- the run is that of a sequence of steps from the first term to the last; its labels are those of a table
abbrev pub DerivesByNumber : (system : List Process) → Term → (run : List Label) → Term → Type 0
DerivesByNumber system t [] u = t ≡ u
DerivesByNumber system t (k ∷ run) u = (v : Term) × Step system t k v × DerivesByNumber system v run u

-- steps with the labels of the run lead from the first term to the last; the origins are those of the internal ones, in
-- their order
pub data DerivesBy (system : List Process) : Term → (run : List Label) → List Origin → Term → Type 0 where
  ends : {t : Term} → DerivesBy system t [] [] t
  observably : {t u v : Term} {k : Label} {run : List Label} {origins : List Origin} → k ≢ l.Internal →
      Step system t k u → DerivesBy system u run origins v → DerivesBy system t (k ∷ run) origins v
  internally : {t u v : Term} {o : Origin} {run : List Label} {origins : List Origin} → InternalStep system t o u →
      DerivesBy system u run origins v → DerivesBy system t (l.Internal ∷ run) (o ∷ origins) v
