-- The internal step of a node's term, after the table has grown.
use Rattle.std.proofs.Common.{◌≡◌, ◌∙◌, ◌<◌, ℕ, Option, Some, ap, arith, get_or, subst, sym}
use Rattle.std.specs.Prelude.{Err, IfOk, IfSome, Ok, Result, slice_get}
use Rattle.std.proofs.lemmas.Option.{get_or_from_slice_get, slice_get-get_or, slice_get_within}
use Rattle.lotos_check.proofs.ListIndices.{one_item}
use Rattle.lotos_store.specs.Terms.{Term, stop}
use Rattle.lotos_store.specs.StoreView.{StoreView, term_with}
use Rattle.lotos_store.specs.declared.label.Label.TheVariants as l
use Rattle.lotos_terms.specs.Steps.{Step}
use Rattle.lotos_terms.specs.TableView.{Grows, TableView}
use Rattle.lotos_origins.specs.OriginSearch.{LeadsInternally}
use Rattle.lotos_origins.specs.Parts.{IsPart}
use Rattle.lotos_origins.proofs.InternalCases.{Goes}

-- what follows from what is said of a value says the same of a result
pub if_ok : {X E : Type 0} (P Q : X → Type 0) (r : Result X E) → ((x : X) → P x → Q x) → IfOk r P → IfOk r Q
if_ok P Q (Ok x) follows says = follows x says
if_ok P Q (Err e) follows says = tt

module _ (old new : TableView) (grows : Grows old new) (store : StoreView) (same : store.terms ≡ old.terms) (n m : ℕ) (leads : LeadsInternally old n m) where
  -- a term of the store has its number in the new table
  stored : (k : ℕ) (t : Term) → slice_get store.terms k ≡ Some t → slice_get new.terms k ≡ Some t
  stored k t at = grows.terms k t (subst (λ ts. slice_get ts k ≡ Some t) same at)

  -- the target has its number
  pub target : slice_get new.terms m ≡ Some leads.to
  target = grows.terms m leads.to leads.leads

  -- and so has the node's term
  pub here : (t : Term) → slice_get store.terms n ≡ Some t → slice_get new.terms n ≡ Some t
  here = stored n

  -- whose internal step leads to the target
  pub goes : (t : Term) → slice_get store.terms n ≡ Some t → Goes new.processes t leads.to
  goes t at =
      let is : leads.from ≡ t = one_item old.terms n leads.from t leads.located (subst (λ ts. slice_get ts n ≡ Some t) same at) in
      subst (λ p. Step p t l.Internal leads.to) (sym grows.processes) (subst (λ x. Step old.processes x l.Internal leads.to) is leads.step)

  -- a part of the node
  pub part : (t : Term) (k : ℕ) → slice_get store.terms n ≡ Some t → k < n → IsPart new.terms n (get_or store.terms k stop) k
  part t k at less =
      let within = slice_get_within store.terms n t at in
      (less, stored k _ (slice_get-get_or store.terms k stop (omega (arith, less, within))))

  -- a part of the target
  pub target_part : (f : Term → Option Term) (k : ℕ) → IfSome (f (term_with store m)) (λ t. IsPart store.terms m t k) →
      (t : Term) → f leads.to ≡ Some t → IsPart new.terms m t k
  target_part f k says t is =
      let at : slice_get store.terms m ≡ Some leads.to = subst (λ ts. slice_get ts m ≡ Some leads.to) (sym same) leads.leads in
      let read : term_with store m ≡ leads.to = get_or_from_slice_get store.terms m leads.to stop at in
      let found : f (term_with store m) ≡ Some t = ap f read ∙ is in
      let (less, located) = subst (λ o. IfSome o (λ x. IsPart store.terms m x k)) found says in
      (less, stored k t located)
