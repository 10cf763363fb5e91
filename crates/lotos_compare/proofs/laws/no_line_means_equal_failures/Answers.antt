use Rattle.std.proofs.Common.{false, refl, true}
use Rattle.lotos_compare.proofs.BehaviourObservations.{included_back, included_of, no_difference}
use Rattle.lotos_compare.proofs.laws.no_line_means_equal_failures.Goals as goal

pub returns : goal.returns
returns c = record {
  equal = λ b c. (
    (λ none. (
      included_of b c (record { within = false; refusals = true }) refl none,
      included_back b c (record { within = false; refusals = true }) refl refl none,
    )),
    (λ (there, back). no_difference b c (record { within = false; refusals = true }) there (λ asked. back)),
  );
  within = λ b c. (
    (λ none. included_of b c (record { within = true; refusals = true }) refl none),
    (λ there. no_difference b c (record { within = true; refusals = true }) there (λ asked. cc)),
  );
}
