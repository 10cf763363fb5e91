use Rattle.std.proofs.Common.{◌⊎◌}
use Rattle.lotos_check.specs.CheckedView.{system_of}
use Rattle.lotos_warn.specs.Additions.{ContainsCallOf, IsCalledByAny, IsCalledByBody}
use Rattle.lotos_warn.proofs.Additions.{adds_as, adds_both, adds_alone}
use Rattle.lotos_warn.proofs.CalledNames.{called_in}
use Rattle.lotos_warn.proofs.process_calls.called_processes.Goals as goal

pub returns : goal.returns
returns c =
    let system = system_of c.args.system.now in
    let old = c.new-called.result.keys in
    let new = c.add_calls_of_all.new.called.keys in
    adds_alone old new (IsCalledByBody system) c.new-called.ensures.empty
    (adds_as old new (λ k. ContainsCallOf system.start k ⊎ IsCalledByAny system.processes k) (IsCalledByBody system) (called_in system)
    (adds_both old c.add_calls.new.called.keys new (ContainsCallOf system.start) (IsCalledByAny system.processes)
    (rw c.start.ensures.start at c.in_ok-add_calls.ensures.adds) (rw c.processes.ensures at c.in_ok-add_calls_of_all.ensures)))
