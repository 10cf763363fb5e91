-- Runs in a table, step by step.
use Rattle.std.proofs.Common.{◌≡◌, ℕ, ◌<◌, List, [], ◌∷◌, ◌++◌, Some, length, refl, sym, subst, arith, inl, slice_get}
use Rattle.std.specs.Prelude.{Contains, None}
use Rattle.std.proofs.lemmas.List.Elements.{All-contains}
use Rattle.std.proofs.lemmas.Option.{slice_get_within, slice_get-get_or}
use Rattle.lotos_check.specs.NameLists.{In}
use Rattle.lotos_store.specs.Terms.{stop}
use Rattle.lotos_store.specs.declared.label.Label.{Label}
use Rattle.lotos_terms.specs.TableView.{AreSuccessors, Grows, IsInTable, IsLabel, TableView}
use Rattle.lotos_terms.specs.Steps.{Step}
use Rattle.uses.specs.TermRuns.{IsDeadlock, IsStep, RunTo}

first_in : {A : Type 0} (xs : List A) (x : A) → Some x ≡ slice_get xs 0 → Contains xs x × In x xs
first_in [] x e = absurd cc
first_in (y ∷ xs) x e = let same : y ≡ x = cc in ((0, omega arith, same), inl same)

none_in : {A : Type 0} (xs : List A) → None ≡ slice_get xs 0 → (x : A) → In x xs → ⊥
none_in [] e x h = h
none_in (y ∷ xs) e x h = absurd cc

-- the first item that `successors` returns is a step of the term
pub first_is_step : (old new : TableView) → Grows old new → (n : ℕ) → n < length old.terms → (xs : List (Label × ℕ)) → AreSuccessors new n xs →
    (s : Label × ℕ) → Some s ≡ slice_get xs 0 → IsStep new n s
first_is_step old new grows n lt xs answers s e =
    let stands = grows.terms n _ (slice_get-get_or old.terms n stop lt) in
    let there = first_in xs s e in
    let a = answers.only _ stands s.0 s.1 there.1 in
    record { label = (All-contains (IsInTable new) xs s answers.known there.0).0; from = _; to = a.0; located = stands; leads = a.1; derived = a.2 }

-- if `successors` returns no item, the term is a deadlock
pub none_is_dead : (old new : TableView) → Grows old new → (n : ℕ) → n < length old.terms → (xs : List (Label × ℕ)) → AreSuccessors new n xs →
    None ≡ slice_get xs 0 → IsDeadlock new n
none_is_dead old new grows n lt xs answers e =
    let stands = grows.terms n _ (slice_get-get_or old.terms n stop lt) in
    record { term = _; located = stands; none = λ k t step. let a = answers.all _ stands k t step in none_in xs e (k, a.0) a.2 }

-- a step leads to the number of a term of the table
pub leads_below : (held : TableView) (n : ℕ) (s : Label × ℕ) → IsStep held n s → s.1 < length held.terms
leads_below held n s step = slice_get_within held.terms s.1 step.to step.leads

-- in a table that has grown, and has the labels that there were
module _ (old new : TableView) (grows : Grows old new) (labels : (k : Label) → IsLabel old k → IsLabel new k) where
  step_grows : (n : ℕ) (s : Label × ℕ) → IsStep old n s → IsStep new n s
  step_grows n s step = record {
    label = labels s.0 step.label;
    from = step.from;
    to = step.to;
    located = grows.terms n step.from step.located;
    leads = grows.terms s.1 step.to step.leads;
    derived = subst (λ p. Step p step.from s.0 step.to) (sym grows.processes) step.derived;
  }

  run_same : (n : ℕ) (steps : List (Label × ℕ)) (m : ℕ) → RunTo old n steps m → RunTo new n steps m
  run_same n [] m e = e
  run_same n (s ∷ steps) m r = (step_grows n s r.0, run_same s.1 steps m r.1)

  -- a run from the start is a run from the start
  pub run_grows : (steps : List (Label × ℕ)) (m : ℕ) → RunTo old old.start steps m → RunTo new new.start steps m
  run_grows steps m r = subst (λ n. RunTo new n steps m) (sym grows.start) (run_same old.start steps m r)

-- a run with one more step at its end is a run
pub run_push : (held : TableView) (n : ℕ) (steps : List (Label × ℕ)) (m : ℕ) (s : Label × ℕ) → RunTo held n steps m → IsStep held m s →
    RunTo held n (steps ++ s ∷ []) s.1
run_push held n [] m s e step = (subst (λ k. IsStep held k s) (sym e) step, refl)
run_push held n (x ∷ steps) m s r step = (r.0, run_push held x.1 steps m s r.1 step)
