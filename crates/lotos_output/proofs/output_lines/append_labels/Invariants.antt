use Rattle.std.proofs.Common.{◌++◌, ◌∷◌, IsUtf8, List, drop}
use Rattle.std.specs.List.{flat_map}
use Rattle.lotos_listing.specs.Order.{Label}
use Rattle.lotos_listing.specs.Question.{ArePrinted}
use Rattle.lotos_output.specs.OutputLines.{IsLeft}
use Rattle.lotos_output.proofs.output_lines.append_labels.Given as goal

-- the bytes so far are text, and with a blank and the printed text of each label that is left they make up the whole
abbrev pub invariant-loop-label : goal.invariant-loop-label
invariant-loop-label l = record {
  utf8 : IsUtf8 l.bytes.items;
  left : (s : List Label) → ArePrinted l.gates l.labels s →
      IsLeft l.gates (drop l.label-index l.labels) l.bytes.items (l.fn.bytes.items ++ flat_map (λ m. 32 ∷ m) s);
}
