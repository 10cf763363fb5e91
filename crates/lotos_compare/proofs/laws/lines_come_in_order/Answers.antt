use Rattle.std.proofs.Common.{inl, inr}
use Rattle.lotos_compare.specs.Comparisons.{observations_of}
use Rattle.lotos_compare.proofs.LineOrder.{before_not, before_on, lines_ordered}
use Rattle.lotos_compare.proofs.laws.lines_come_in_order.Goals as goal

pub returns : goal.returns
returns c = record {
  total = λ b c kind l m h k. lines_ordered (observations_of b) (observations_of c) kind l m h k;
  irreflexive = before_not;
  transitive = before_on;
  unique = λ b c kind l m h k. elim (lines_ordered (observations_of b) (observations_of c) kind l m h.is_line k.is_line) [
    | inl before ↦ absurd (k.first l h.is_line before)
    | inr (inl same) ↦ same
    | inr (inr after) ↦ absurd (h.first m k.is_line after)
  ];
}
