-- The steps of a term, listed by the number that they lead to.
use Rattle.std.proofs.Common.{◌≡◌, ◌<◌, ℕ, Bool, false, true, List, ap, length, subst, sym}
use Rattle.std.specs.Prelude.{MatchBool}
use Rattle.lotos_check.specs.NameLists.{In}
use Rattle.lotos_check.proofs.ListIndices.{get_some}
use Rattle.lotos_store.specs.declared.label.Label.{Label}
use Rattle.lotos_terms.specs.Steps.{Step}
use Rattle.lotos_terms.specs.TableView.{AreSuccessors, Grows, IsSoundView, TableView}
use Rattle.lotos_origins.specs.OriginSearch.{LeadsBy}

-- a listed step is a label and a number
abbrev pair : Label → ℕ → Label × ℕ
pair k n = (k, n)

-- the listed steps are the same
abbrev pub IsSameStep : Label × ℕ → Label × ℕ → Type 0
IsSameStep s r = s ≡ r

module _ (v : TableView) (sound : IsSoundView v) (n : ℕ) (below : n < length v.terms) (list : List (Label × ℕ)) (steps : AreSuccessors v n list)
    (k : Label) (m : ℕ) where
  -- what is listed is a step
  pub listed_leads : In {X = Label × ℕ} (k, m) list → LeadsBy v k n m
  listed_leads listed =
      let (t, at) = get_some v.terms n below in
      let (u, there, step) = steps.only t at k m listed in
      record { from = t; to = u; located = at; leads = there; step = step }

  -- and a step is listed
  pub leads_listed : LeadsBy v k n m → In {X = Label × ℕ} (k, m) list
  leads_listed leads =
      let (j, there, listed) = steps.all leads.from leads.located k leads.to leads.step in
      subst (λ i. In {X = Label × ℕ} (k, i) list) (sound.distinct j m leads.to there leads.leads) listed

  -- so there is one exactly if there is the other
  pub leads_or_not : (b : Bool) → MatchBool b (In {X = Label × ℕ} (k, m) list) (In {X = Label × ℕ} (k, m) list → ⊥) →
      MatchBool b (LeadsBy v k n m) (LeadsBy v k n m → ⊥)
  leads_or_not true listed = listed_leads listed
  leads_or_not false never = λ leads. never (leads_listed leads)

-- a step stays in a table with more terms
pub leads_grow : (old new : TableView) → Grows old new → (k : Label) (n m : ℕ) → LeadsBy old k n m → LeadsBy new k n m
leads_grow old new grows k n m leads = record {
  from = leads.from;
  to = leads.to;
  located = grows.terms n leads.from leads.located;
  leads = grows.terms m leads.to leads.leads;
  step = subst (λ p. Step p leads.from k leads.to) (sym grows.processes) leads.step;
}

-- listed steps with the same label and the same number are the same, and the other way round
pub step_same : (k j : Label) (n m : ℕ) → k ≡ j → n ≡ m → IsSameStep (k, n) (j, m)
step_same k j n m label number = subst (λ h. IsSameStep (k, n) (h, m)) label (ap (λ i. pair k i) number)

-- listed steps that are the same have the same label and the same number
pub same_step : (k j : Label) (n m : ℕ) → IsSameStep (k, n) (j, m) → (k ≡ j) × (n ≡ m)
same_step k j n m same = (ap (λ (s : Label × ℕ). s.0) same, ap (λ (s : Label × ℕ). s.1) same)
