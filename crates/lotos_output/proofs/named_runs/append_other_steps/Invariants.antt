use Rattle.std.proofs.Common.{◌++◌, ◌∷◌, List, drop, string_bytes}
use Rattle.std.specs.List.{flat_map}
use Rattle.lotos_listing.specs.Order.{Label}
use Rattle.lotos_output.specs.NamedRuns.{AreNamed}
use Rattle.lotos_origins.specs.declared.origin.Origin.{Origin}
use Rattle.lotos_output.proofs.NamedLines.{IsNamedLeft}
use Rattle.lotos_output.proofs.named_runs.append_other_steps.Given as goal

-- the text so far, with a blank and the text of each step that is left, makes up the whole
abbrev pub invariant-loop-label : goal.invariant-loop-label
invariant-loop-label l = (texts : List Label) (rest : List Origin) → AreNamed l.gates l.labels (drop l.used l.origins) texts rest →
    IsNamedLeft l.gates (drop l.label-index l.labels) (drop l.now l.origins) (string_bytes l.line)
    (string_bytes l.fn.line ++ flat_map (λ m. 32 ∷ m) texts) rest
