use Rattle.std.proofs.Common.{map, subst}
use Rattle.std.proofs.lemmas.Result.{on_ok_weaker}
use Rattle.lotos_check.specs.FlatOf.{process_of}
use Rattle.lotos_check.proofs.ListIndices.{one_item}
use Rattle.lotos_warn.specs.Additions.{Adds, IsCalledByNumber}
use Rattle.lotos_warn.proofs.process_calls.add_calls_of_next.Goals as goal

pub returns-clause-adds : goal.returns-clause-adds
returns-clause-adds c =
    let old = c.args.reached.now.keys in
    on_ok_weaker c.add_calls_of.result
    (λ h caller at. subst (λ k. Adds old c.add_calls_of.new.called.keys (IsCalledByNumber (map process_of c.args.processes.now) k))
    (one_item old c.args.index c.number_at-caller.result caller c.number_at-caller.ensures at) h)
    c.add_calls_of.ensures.adds
