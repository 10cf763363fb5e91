use Rattle.std.proofs.Common.{arith, inl, inr, length}
use Rattle.lotos_compare.specs.Comparisons.{observations_of}
use Rattle.lotos_compare.specs.Differences as d
use Rattle.lotos_compare.proofs.BehaviourObservations.{are_observations}
use Rattle.lotos_compare.proofs.FirstSequences.{none_before}
use Rattle.lotos_compare.proofs.laws.first_line_is_of_the_first_sequence.Goals as goal

pub returns : goal.returns
returns c = record {
  either = λ b c kind line l both first is s alone before. elim alone [
    | inl one ↦ none_before (observations_of b) (observations_of c) (are_observations b) (are_observations c) kind line l first is (length s) d.first tt s
        (omega arith) one before
    | inr other ↦ none_before (observations_of b) (observations_of c) (are_observations b) (are_observations c) kind line l first is (length s) d.second
        both s (omega arith) other before
  ];
  first = λ b c kind line l first is s alone before.
      none_before (observations_of b) (observations_of c) (are_observations b) (are_observations c) kind line l first is (length s) d.first tt s
      (omega arith) alone before;
}
