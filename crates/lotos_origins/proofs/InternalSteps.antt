-- Internal steps with an origin are the internal steps.
use Rattle.std.proofs.Common.{◌≡◌, ◌≢◌, ◌⊎◌, ℕ, List, [], ◌∷◌, inl, inr, refl, subst, sym}
use Rattle.lotos_store.specs.Terms.{Process, Term}
use Rattle.lotos_store.specs.declared.label.Label.{Label}
use Rattle.lotos_store.specs.declared.label.Label.TheVariants as l
use Rattle.lotos_terms.specs.Steps as s
use Rattle.lotos_terms.specs.Steps.{Relabels, Step}
use Rattle.lotos_origins.specs.Origins as i
use Rattle.lotos_origins.specs.Origins.{DerivesBy, DerivesByNumber, InternalStep}
use Rattle.lotos_origins.specs.declared.origin.Origin.{Origin}
use Rattle.lotos_origins.specs.declared.origin.Origin.TheVariants as origin

-- relabelling makes the internal action of that action alone
pub relabels_internal : {m : List (ℕ × ℕ)} {k : Label} → Relabels m k l.Internal → k ≡ l.Internal
relabels_internal s.internal_stays = refl
relabels_internal (s.later apart r) = absurd (let same : l.Gate _ ≡ l.Internal = relabels_internal r in cc)

module _ (system : List Process) where
  -- an internal step with an origin is a step by the internal action
  pub is_step : {t u : Term} {o : Origin} → InternalStep system t o u → Step system t l.Internal u
  is_step i.acts_inside = s.acts_inside
  is_step (i.chooses_left r) = s.chooses_left (is_step r)
  is_step (i.chooses_right r) = s.chooses_right (is_step r)
  is_step (i.interleaves_left r) = s.interleaves_left (λ h. h) (is_step r)
  is_step (i.interleaves_right r) = s.interleaves_right (λ h. h) (is_step r)
  is_step (i.hides listed r) = s.hides listed r
  is_step (i.shows r) = s.shows tt (is_step r)
  is_step (i.goes_on r) = s.goes_on tt (is_step r)
  is_step (i.enables r) = s.enables r
  is_step (i.goes_on_undisturbed r) = s.goes_on_undisturbed tt (is_step r)
  is_step (i.disables r) = s.disables (is_step r)
  is_step (i.calls at r) = s.calls at (is_step r)
  is_step (i.relabels r) = s.relabels s.internal_stays (is_step r)

  -- each step by the internal action is an internal step with some origin
  pub has_origin : {t u : Term} {k : Label} → Step system t k u → k ≡ l.Internal → (o : Origin) × InternalStep system t o u
  has_origin s.terminates e = absurd cc
  has_origin s.acts e = absurd cc
  has_origin s.acts_inside e = (origin.Text, i.acts_inside)
  has_origin (s.chooses_left r) e = let (o, inner) = has_origin r e in (o, i.chooses_left inner)
  has_origin (s.chooses_right r) e = let (o, inner) = has_origin r e in (o, i.chooses_right inner)
  has_origin (s.synchronizes {s = gates} both r q) e = absurd (subst (s.Synchronizes gates) e both)
  has_origin (s.interleaves_left not_both r) e = let (o, inner) = has_origin r e in (o, i.interleaves_left inner)
  has_origin (s.interleaves_right not_both r) e = let (o, inner) = has_origin r e in (o, i.interleaves_right inner)
  has_origin (s.hides {g = g} listed r) e = (origin.Hidden g, i.hides listed r)
  has_origin (s.shows visible r) e = let (o, inner) = has_origin r e in (o, i.shows inner)
  has_origin (s.goes_on other r) e = let (o, inner) = has_origin r e in (o, i.goes_on inner)
  has_origin (s.enables r) e = (origin.Termination, i.enables r)
  has_origin (s.goes_on_undisturbed other r) e = let (o, inner) = has_origin r e in (o, i.goes_on_undisturbed inner)
  has_origin (s.ends r) e = absurd cc
  has_origin (s.disables r) e = let (o, inner) = has_origin r e in (o, i.disables inner)
  has_origin (s.calls at r) e = let (o, inner) = has_origin r e in (o, i.calls at inner)
  has_origin (s.relabels {m = m} {k = k} changes r) e =
      let (o, inner) = has_origin r (relabels_internal (subst (Relabels m k) e changes)) in (o, i.relabels inner)

  -- a derivation with origins is a derivation by the same run
  pub derives : {t u : Term} {run : List Label} {origins : List Origin} → DerivesBy system t run origins u → DerivesByNumber system t run u
  derives i.ends = refl
  derives (i.observably {u = v} other step rest) = (v, step, derives rest)
  derives (i.internally {u = v} step rest) = (v, is_step step, derives rest)

  -- a label is the internal action or not
  internal_or_not : (k : Label) → (k ≡ l.Internal) ⊎ (k ≢ l.Internal)
  internal_or_not l.Internal = inl refl
  internal_or_not l.Exit = inr (λ e. cc)
  internal_or_not (l.Gate g) = inr (λ e. cc)

  -- each derivation by a run is one with some origins
  pub has_origins : (t u : Term) (run : List Label) → DerivesByNumber system t run u → (origins : List Origin) × DerivesBy system t run origins u
  has_origins t u [] same = ([], subst (DerivesBy system t [] []) same i.ends)
  has_origins t u (k ∷ run) (v, step, rest) =
      let (origins, after) = has_origins v u run rest in
      elim (internal_or_not k) [
        | inl is ↦
            let (o, inner) = has_origin step is in
            (o ∷ origins, subst (λ j. DerivesBy system t (j ∷ run) (o ∷ origins) u) (sym is) (i.internally inner after))
        | inr other ↦ (origins, i.observably other step after)
      ]
