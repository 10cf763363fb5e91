-- One turn of the search for an origin: tables that grow, and the measure.
use Rattle.std.proofs.Common.{◌≡◌, ◌⊎◌, ◌<◌, ◌+◌, ◌*◌, ℕ, arith, inl, inr, Some, subst, sym}
use Rattle.std.proofs.Math.Nat.{mul-le-mul_right}
use Rattle.std.specs.Prelude.{slice_get}
use Rattle.lotos_check.proofs.ListIndices.{one_item}
use Rattle.lotos_terms.specs.TableView.{Grows, TableView}
use Rattle.lotos_normal.specs.ProcessBodies.{HasBodiesBelow}
use Rattle.lotos_origins.specs.Origins.{InternalStep}
use Rattle.lotos_origins.specs.OriginSearch.{IsFinding, IsInner, IsOriginIn, LeadsInternally}
use Rattle.lotos_origins.specs.declared.origin.Origin.{Origin}
use Rattle.lotos_origins.specs.declared.origin_search.Finding.{Finding}
use Rattle.lotos_origins.specs.declared.origin_search.Finding.TheVariants as finding

-- an origin in a table with more terms is one in the table, if it has the step
pub was_origin : (old new : TableView) → Grows old new → (n m : ℕ) → LeadsInternally old n m → (o : Origin) → IsOriginIn new n m o → IsOriginIn old n m o
was_origin old new grows n m leads o is =
    let from : is.from ≡ leads.from = one_item new.terms n is.from leads.from is.located (grows.terms n leads.from leads.located) in
    let to : is.to ≡ leads.to = one_item new.terms m is.to leads.to is.leads (grows.terms m leads.to leads.leads) in
    record {
      from = leads.from;
      to = leads.to;
      located = leads.located;
      leads = leads.leads;
      step = subst (λ p. InternalStep p leads.from o leads.to) grows.processes
          (subst (λ z. InternalStep new.processes leads.from o z) to (subst (λ z. InternalStep new.processes z o is.to) from is.step));
    }

-- the bodies stay where they are
pub bodies_grow : (old new : TableView) (bound : ℕ) → Grows old new → HasBodiesBelow old bound → HasBodiesBelow new bound
bodies_grow old new bound grows bodies p q listed =
    let (k, less, located) = bodies p q (subst (λ ps. slice_get ps p ≡ Some q) grows.processes listed) in
    (k, less, grows.terms k q.body located)

-- what is found, by its variant
pub found_made : (v : TableView) (n m : ℕ) (o : Origin) (found : Finding) → found ≡ finding.Made o → IsFinding v n m found → IsOriginIn v n m o
found_made v n m o found is says = subst (IsFinding v n m) is says

-- if the finding is an internal step from `a` to `b`, this is further inside the step from `n` to `m`
pub found_inner : (v : TableView) (n m a b : ℕ) (found : Finding) → found ≡ finding.Inner a b → IsFinding v n m found → IsInner v n m a b
found_inner v n m a b found is says = subst (IsFinding v n m) is says

-- the pair of the target's number and the term's number falls
pub pair_falls : (a b n m bound : ℕ) → a < bound → (b < m) ⊎ ((b ≡ m) × (a < n)) → b * bound + a < m * bound + n
pair_falls a b n m bound within (inl less) = omega (arith, mul-le-mul_right bound less, within)
pair_falls a b n m bound within (inr (same, less)) = subst (λ k. k * bound + a < m * bound + n) (sym same) (omega (arith, less))
