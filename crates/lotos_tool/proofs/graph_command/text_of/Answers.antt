use Rattle.std.proofs.Common.{refl, sym}
use Rattle.std.proofs.lemmas.List.{length-map}
use Rattle.lotos_check.proofs.SameFault.{passed_on}
use Rattle.lotos_tool.specs.ExplorationParts.{IsMemoryHalt}
use Rattle.lotos_tool.proofs.graph_command.text_of.Goals as goal

pub returns-in_err-text-clause-halts : goal.returns-in_err-text-clause-halts
returns-in_err-text-clause-halts c = passed_on IsMemoryHalt c.from_residual.result _ c.from_residual.ensures.1 (refl, refl)

pub returns-clause-made : goal.returns-clause-made
returns-clause-made c = record {
  states = sym (length-map c.args.graph.now (λ v. v.items));
  transitions = c.count_transitions.ensures;
  text = c.in_ok-text.ensures;
}
