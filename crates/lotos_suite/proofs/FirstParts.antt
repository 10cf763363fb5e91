-- First sequences are parts of a suite.
use Rattle.std.proofs.Common.{◌≡◌, ◌∙◌, ◌<◌, ℕ, suc, List, [], ◌∷◌, Some, length, ap, arith, inl, refl}
use Rattle.lotos_check.proofs.ListIndices.{get_some}
use Rattle.lotos_listing.specs.Order.{Label}
use Rattle.lotos_suite.specs.Machines.{Machine}
use Rattle.lotos_suite.specs.SuiteLines.{AreFirstAccesses, AreFirstParts, IsFirstAccess}
use Rattle.lotos_suite.specs.Suites.{AreAccessSequences, AreSuiteParts, SuiteParts}

-- the first sequence that leads to the first state is empty
first_empty : (m : Machine) (r : List Label) → IsFirstAccess m 0 r → r ≡ []
first_empty m [] first = refl
first_empty m (x ∷ r) first = absurd (first.first [] refl (inl (let z : 0 < suc (length r) = omega arith in z)))

-- the first sequences that lead to states are access sequences
pub are_access_sequences : (m : Machine) (access : List (List Label)) → 0 < m.states → AreFirstAccesses m access → AreAccessSequences m access
are_access_sequences m access some are = record {
  counted = are.counted;
  leads = λ k r at. (are.firsts k r at).leads;
  starts =
      let counted = are.counted in
      let (r, at) = get_some access 0 (let z : 0 < length access = omega arith in z) in
      at ∙ ap (λ z. Some z) (first_empty m r (are.firsts 0 r at));
}

-- such parts are those of a suite
pub are_parts : (m : Machine) (labels : List Label) (extra : ℕ) (parts : SuiteParts) → 0 < m.states → AreFirstParts m labels extra parts → AreSuiteParts m parts
are_parts m labels extra parts some first = record {
  access = are_access_sequences m parts.access some first.access;
  apart = λ j k low less other. let (w, i, is) = first.apart.all j k low less other in (w, i, is.apart);
}
