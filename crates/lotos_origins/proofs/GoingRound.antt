-- Loops that lead back to a term that does alike.
use Rattle.std.proofs.Common.{◌≡◌, ◌≢◌, ◌++◌, ℕ, zero, suc, List, refl}
use Rattle.lotos_store.specs.Terms.{Process, Term}
use Rattle.lotos_store.specs.declared.label.Label.{Label}
use Rattle.lotos_store.specs.declared.label.Label.TheVariants as l
use Rattle.lotos_terms.specs.Steps.{Step}
use Rattle.lotos_listing.specs.Ends.{repeated}
use Rattle.lotos_origins.specs.Contexts.{AreAlikeIn, DoAlike, Does, Event, bare, gate, inside, seen_through, termination}
use Rattle.lotos_origins.specs.Origins.{DerivesBy, ends, internally, observably}
use Rattle.lotos_origins.specs.Rounds.{GoesRoundBy}
use Rattle.lotos_origins.specs.declared.origin.Origin.{Origin}
use Rattle.lotos_origins.proofs.Contexts.{bare_follows}

-- for each step of the first of two terms that do alike there is one of the second that is seen as the same
abbrev pub AreFollowed : List Process → Type 0
AreFollowed system = (x y x' : Term) (e : Event) → AreAlikeIn system bare x bare y → Does system x e x' →
    (f : Event) × (y' : Term) × Does system y f y' × (seen_through bare e ≡ seen_through bare f) × AreAlikeIn system bare x' bare y'

module _ (system : List Process) (followed : AreFollowed system) where
  -- the second of two terms that do alike has the same step
  does_too : (x y x' : Term) (e : Event) → DoAlike system x y → Does system x e x' → (y' : Term) × Does system y e y' × DoAlike system x' y'
  does_too x y x' e alike step = bare_follows system y x' e (followed x y x' e alike step)

  -- it has the same step by a label that is not internal
  observes_too : (x y x' : Term) (k : Label) → k ≢ l.Internal → DoAlike system x y → Step system x k x' →
      (y' : Term) × Step system y k y' × DoAlike system x' y'
  observes_too x y x' l.Exit other alike step = does_too x y x' termination alike step
  observes_too x y x' l.Internal other alike step = absurd (other refl)
  observes_too x y x' (l.Gate g) other alike step = does_too x y x' (gate g) alike step

  -- the second of two terms that do alike has a derivation by the same run with the same origins
  derives_too : {x u : Term} {run : List Label} {origins : List Origin} → DerivesBy system x run origins u → (y : Term) → DoAlike system x y →
      (v : Term) × DerivesBy system y run origins v × DoAlike system u v
  derives_too ends y alike = (y, ends, alike)
  derives_too (observably {t = x} {u = x'} {k = k} other step rest) y alike =
      let (y', further, after) = observes_too x y x' k other alike step in
      let (v, derived, like) = derives_too rest y' after in
      (v, observably other further derived, like)
  derives_too (internally {t = x} {u = x'} {o = o} step rest) y alike =
      let (y', further, after) = does_too x y x' (inside o) alike step in
      let (v, derived, like) = derives_too rest y' after in
      (v, internally further derived, like)

  -- one derivation after another is a derivation
  joined : {t x : Term} {row : List Label} {before : List Origin} → DerivesBy system t row before x → (turn : List Label) (around : List Origin) (u : Term) →
      DerivesBy system x turn around u → DerivesBy system t (row ++ turn) (before ++ around) u
  joined ends turn around u further = further
  joined (observably other step rest) turn around u further = observably other step (joined rest turn around u further)
  joined (internally step rest) turn around u further = internally step (joined rest turn around u further)

  -- a loop to a term that does alike can be taken so many times
  turns_round : (n : ℕ) (x y : Term) (turn : List Label) (around : List Origin) → DerivesBy system x turn around y → DoAlike system x y →
      (u : Term) × DerivesBy system x (repeated n turn) (repeated n around) u
  turns_round zero x y turn around once alike = (x, ends)
  turns_round (suc n) x y turn around once alike =
      let (v, again, like) = derives_too once y alike in
      let (u, more) = turns_round n y v turn around again like in
      (u, joined once (repeated n turn) (repeated n around) u more)

  -- it can be taken as often as one likes, after a row
  pub goes_round : (t x y : Term) (row turn : List Label) (before around : List Origin) → DerivesBy system t row before x →
      DerivesBy system x turn around y → DoAlike system x y → GoesRoundBy system t row turn before around
  goes_round t x y row turn before around first once alike = λ n.
      let (u, more) = turns_round n x y turn around once alike in
      (u, joined first (repeated n turn) (repeated n around) u more)
