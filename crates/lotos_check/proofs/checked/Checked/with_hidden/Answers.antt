use Rattle.std.proofs.Common.{map, refl, ap}
use Rattle.lotos_check.specs.HiddenGates.{IsHiddenIn}
use Rattle.lotos_check.specs.CheckedView.{flat_of, process_of, system_of}
use Rattle.lotos_check.proofs.HiddenGates.{hidden_more}
use Rattle.lotos_check.proofs.checked.Checked.with_hidden.Goals.{In_ok-start}
use Rattle.lotos_check.proofs.checked.Checked.with_hidden.Goals as goal

-- the gates are hidden in the system
hidden : (c : In_ok-start) → IsHiddenIn c.args.gates.now (system_of c.args.self) (record {
  formals = c.remove_names.new.names.items;
  start = flat_of c.in_ok-start.start.value;
  processes = map process_of c.args.self.processes.items;
})
hidden c = record {
  names = c.in_ok-hidden.hidden.items;
  ascends = c.in_ok-hidden.ensures.ascends;
  same = c.in_ok-hidden.ensures.same;
  start = ap flat_of c.in_ok-start.ensures.ok;
  formals = c.remove_names.ensures;
  processes = refl;
}

pub invariant_of-result : goal.invariant_of-result
invariant_of-result c = record { kept = hidden_more _ _ _ _ c.args.self.kept (hidden (goal.at.invariant_of-result c).In_ok-start) }

pub returns-clause-system : goal.returns-clause-system
returns-clause-system c = hidden (goal.at.returns-clause-system c).In_ok-start
