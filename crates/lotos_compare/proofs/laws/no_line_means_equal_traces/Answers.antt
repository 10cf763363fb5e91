use Rattle.std.proofs.Common.{false, refl, true}
use Rattle.lotos_compare.proofs.BehaviourObservations.{no_label, traces_back, traces_of}
use Rattle.lotos_compare.proofs.laws.no_line_means_equal_traces.Goals as goal

pub returns : goal.returns
returns c = record {
  equal = λ b c. (
    (λ none. (traces_of b c (record { within = false; refusals = false }) none, traces_back b c (record { within = false; refusals = false }) refl none)),
    (λ (there, back). no_label b c (record { within = false; refusals = false }) refl there (λ asked. back)),
  );
  within = λ b c. (
    (λ none. traces_of b c (record { within = true; refusals = false }) none),
    (λ there. no_label b c (record { within = true; refusals = false }) refl there (λ asked. cc)),
  );
}
