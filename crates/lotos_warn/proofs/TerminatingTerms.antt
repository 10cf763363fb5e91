-- A step keeps a term from termination, if it cannot terminate.
use Rattle.std.proofs.Common.{◌≡◌, ℕ, List, Option, Some, refl, subst, sym}
use Rattle.std.specs.Prelude.{slice_get}
use Rattle.lotos_store.specs.Terms.{Process, Term, call, choice, disable, enable, exit, hide, par, prefix, relabel}
use Rattle.lotos_store.specs.declared.label.Label.{Label}
use Rattle.lotos_store.specs.declared.label.Label.TheVariants as l
use Rattle.lotos_terms.specs.Steps as s
use Rattle.lotos_terms.specs.Steps.{IsNotTermination, Relabels, Step, Synchronizes}
use Rattle.lotos_warn.specs.Derivations.{IsDerived, NeverTerminates, no_step, one_more}

-- the term may terminate, by its form alone: what `MayExit` says of behaviours, and a relabelling if its body may
pub data CanTerminate (system : List Process) : Term → Type 0 where
  at_exit : CanTerminate system exit
  in_prefix : {a : Option ℕ} {b : Term} → CanTerminate system b → CanTerminate system (prefix a b)
  in_left_choice : {a b : Term} → CanTerminate system a → CanTerminate system (choice a b)
  in_right_choice : {a b : Term} → CanTerminate system b → CanTerminate system (choice a b)
  in_both_sides : {a b : Term} {s : Option (List ℕ)} → CanTerminate system a → CanTerminate system b → CanTerminate system (par a s b)
  in_hiding : {gates : List ℕ} {b : Term} → CanTerminate system b → CanTerminate system (hide gates b)
  in_enabling : {a b : Term} → CanTerminate system a → CanTerminate system b → CanTerminate system (enable a b)
  in_left_disabling : {a b : Term} → CanTerminate system a → CanTerminate system (disable a b)
  in_right_disabling : {a b : Term} → CanTerminate system b → CanTerminate system (disable a b)
  in_call : {p : ℕ} {gates : List ℕ} {q : Process} → slice_get system p ≡ Some q → CanTerminate system q.body → CanTerminate system (call p gates)
  in_relabelling : {m : List (ℕ × ℕ)} {b : Term} → CanTerminate system b → CanTerminate system (relabel m b)

-- relabelling makes termination of termination alone
relabels_termination : {m : List (ℕ × ℕ)} {k : Label} → Relabels m k l.Exit → k ≡ l.Exit
relabels_termination s.exit_stays = refl
relabels_termination (s.later apart r) = absurd (let same : l.Gate _ ≡ l.Exit = relabels_termination r in cc)

module _ (system : List Process) where
  -- if a relabelling can terminate, its body can
  in_body : {m : List (ℕ × ℕ)} {b : Term} → CanTerminate system (relabel m b) → CanTerminate system b
  in_body (in_relabelling h) = h

  -- what terminates in one step can
  terminates_now : {t u : Term} {k : Label} → Step system t k u → k ≡ l.Exit → CanTerminate system t
  terminates_now s.terminates e = at_exit
  terminates_now s.acts e = absurd cc
  terminates_now s.acts_inside e = absurd cc
  terminates_now (s.chooses_left r) e = in_left_choice (terminates_now r e)
  terminates_now (s.chooses_right r) e = in_right_choice (terminates_now r e)
  terminates_now (s.synchronizes both r q) e = in_both_sides (terminates_now r e) (terminates_now q e)
  terminates_now (s.interleaves_left {s = gates} not_both r) e = absurd (not_both (subst (Synchronizes gates) (sym e) tt))
  terminates_now (s.interleaves_right {s = gates} not_both r) e = absurd (not_both (subst (Synchronizes gates) (sym e) tt))
  terminates_now (s.hides listed r) e = absurd cc
  terminates_now (s.shows visible r) e = in_hiding (terminates_now r e)
  terminates_now (s.goes_on other r) e = absurd (subst IsNotTermination e other)
  terminates_now (s.enables r) e = absurd cc
  terminates_now (s.goes_on_undisturbed other r) e = absurd (subst IsNotTermination e other)
  terminates_now (s.ends r) e = in_left_disabling (terminates_now r refl)
  terminates_now (s.disables r) e = in_right_disabling (terminates_now r e)
  terminates_now (s.calls at r) e = in_call at (in_body (terminates_now r e))
  terminates_now (s.relabels {m = m} {k = k} changes r) e =
      in_relabelling (terminates_now r (relabels_termination (subst (Relabels m k) e changes)))

  -- what can terminate after a step can before it
  before_step : {t u : Term} {k : Label} → Step system t k u → CanTerminate system u → CanTerminate system t
  before_step s.terminates h = at_exit
  before_step s.acts h = in_prefix h
  before_step s.acts_inside h = in_prefix h
  before_step (s.chooses_left r) h = in_left_choice (before_step r h)
  before_step (s.chooses_right r) h = in_right_choice (before_step r h)
  before_step (s.synchronizes both r q) (in_both_sides h j) = in_both_sides (before_step r h) (before_step q j)
  before_step (s.interleaves_left not_both r) (in_both_sides h j) = in_both_sides (before_step r h) j
  before_step (s.interleaves_right not_both r) (in_both_sides h j) = in_both_sides h (before_step r j)
  before_step (s.hides listed r) (in_hiding h) = in_hiding (before_step r h)
  before_step (s.shows visible r) (in_hiding h) = in_hiding (before_step r h)
  before_step (s.goes_on other r) (in_enabling h j) = in_enabling (before_step r h) j
  before_step (s.enables r) h = in_enabling (terminates_now r refl) h
  before_step (s.goes_on_undisturbed other r) (in_left_disabling h) = in_left_disabling (before_step r h)
  before_step (s.goes_on_undisturbed other r) (in_right_disabling h) = in_right_disabling h
  before_step (s.ends r) h = in_left_disabling (terminates_now r refl)
  before_step (s.disables r) h = in_right_disabling (before_step r h)
  before_step (s.calls at r) h = in_call at (in_body (before_step r h))
  before_step (s.relabels changes r) (in_relabelling h) = in_relabelling (before_step r h)

  -- if a derivation leads from a term to one that can terminate, the first term can terminate
  at_first : {first t : Term} → IsDerived system first t → CanTerminate system t → CanTerminate system first
  at_first no_step h = h
  at_first (one_more derived step) h = at_first derived (before_step step h)

  -- what cannot terminate never does
  pub never_terminates : (first : Term) → (CanTerminate system first → ⊥) → NeverTerminates system first
  never_terminates first cannot t u derived last = cannot (at_first derived (terminates_now last refl))
