-- The internal steps of each form, from those of its parts.
use Rattle.std.proofs.Common.{◌≡◌, ◌⊎◌, ℕ, List, Option, None, Some, inl, inr, refl, subst}
use Rattle.std.specs.Prelude.{slice_get, zip}
use Rattle.lotos_check.specs.NameLists.{In}
use Rattle.lotos_store.specs.Terms.{Process, Term, call, choice, disable, enable, exit, hide, par, prefix, relabel, stop}
use Rattle.lotos_store.specs.declared.label.Label.{Label}
use Rattle.lotos_store.specs.declared.label.Label.TheVariants as l
use Rattle.lotos_terms.specs.Steps as s
use Rattle.lotos_terms.specs.Steps.{Relabels, Step}
use Rattle.lotos_origins.proofs.InternalSteps.{relabels_internal}

module _ (system : List Process) where
  -- the internal steps of a term
  abbrev pub Goes : Term → Term → Type 0
  Goes t u = Step system t l.Internal u

  -- inaction has no internal step
  pub of_stop : {u : Term} → Goes stop u → ⊥
  of_stop step = elim step [ ]

  -- an internal step of a prefix is by its action, which is internal, to its body
  pub of_prefix : {a : Option ℕ} {b u : Term} → Goes (prefix a b) u → (a ≡ None) × (u ≡ b)
  of_prefix s.acts_inside = (refl, refl)

  -- an internal step of a choice is one of its left or of its right side
  pub of_choice : {a b u : Term} → Goes (choice a b) u → Goes a u ⊎ Goes b u
  of_choice (s.chooses_left r) = inl r
  of_choice (s.chooses_right r) = inr r

  -- an internal step of a parallel composition is one of a side, beside the other side
  pub of_par : {a b u : Term} {z : Option (List ℕ)} → Goes (par a z b) u →
      ((t : Term) × (u ≡ par t z b) × Goes a t) ⊎ ((t : Term) × (u ≡ par a z t) × Goes b t)
  of_par (s.synchronizes both r q) = absurd both
  of_par (s.interleaves_left {t = t} apart r) = inl (t, refl, r)
  of_par (s.interleaves_right {u = t} apart r) = inr (t, refl, r)

  -- an internal step of hiding is an internal step of the body, or a step of it by a gate of the list
  pub of_hide : {gates : List ℕ} {b u : Term} → Goes (hide gates b) u →
      (t : Term) × (u ≡ hide gates t) × (Goes b t ⊎ ((g : ℕ) × In g gates × Step system b (l.Gate g) t))
  of_hide (s.hides {t = t} {g = g} listed r) = (t, refl, inr (g, listed, r))
  of_hide (s.shows {t = t} visible r) = (t, refl, inl r)

  -- an internal step of enabling is one of its left operand, or goes to the right one as the left one terminates
  pub of_enable : {a b u : Term} → Goes (enable a b) u →
      ((t : Term) × (u ≡ enable t b) × Goes a t) ⊎ ((t : Term) × (u ≡ b) × Step system a l.Exit t)
  of_enable (s.goes_on {t = t} other r) = inl (t, refl, r)
  of_enable (s.enables {t = t} r) = inr (t, refl, r)

  -- an internal step of disabling is one of its left operand, which may still be disabled, or one of the right one
  pub of_disable : {a b u : Term} → Goes (disable a b) u → ((t : Term) × (u ≡ disable t b) × Goes a t) ⊎ Goes b u
  of_disable (s.goes_on_undisturbed {t = t} other r) = inl (t, refl, r)
  of_disable (s.disables r) = inr r

  -- a step whose label is relabelled to the internal action is an internal step
  of_changed : {m : List (ℕ × ℕ)} {b t : Term} {k : Label} → Relabels m k l.Internal → Step system b k t → Goes b t
  of_changed {b = b} {t = t} changes r = subst (λ k. Step system b k t) (relabels_internal changes) r

  -- an internal step of a relabelling is one of the body
  pub of_relabel : {m : List (ℕ × ℕ)} {b u : Term} → Goes (relabel m b) u → (t : Term) × (u ≡ relabel m t) × Goes b t
  of_relabel (s.relabels {t = t} changes r) = (t, refl, of_changed changes r)

  -- an internal step of a call is one of the body of its process, relabelled
  pub of_call : {p : ℕ} {gates : List ℕ} {u : Term} → Goes (call p gates) u →
      (q : Process) × (slice_get system p ≡ Some q) × ((t : Term) × (u ≡ relabel (zip q.formals gates) t) × Goes q.body t)
  of_call (s.calls {q = q} at r) = (q, at, of_relabel r)

-- no enabling is its own right operand
pub no_own_operand : (t b : Term) → b ≡ enable t b → ⊥
no_own_operand t stop e = cc
no_own_operand t exit e = cc
no_own_operand t (prefix a b) e = cc
no_own_operand t (choice a b) e = cc
no_own_operand t (par a z b) e = cc
no_own_operand t (hide gates b) e = cc
no_own_operand t (enable a b) e = let inner : b ≡ enable a b = cc in no_own_operand a b inner
no_own_operand t (disable a b) e = cc
no_own_operand t (call p gates) e = cc
no_own_operand t (relabel m b) e = cc
