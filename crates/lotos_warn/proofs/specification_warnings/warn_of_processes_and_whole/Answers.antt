use Rattle.std.proofs.Common.{◌⊎◌, subst}
use Rattle.indexmap.proofs.MapLemmas.{OnOk-map}
use Rattle.lotos_text.specs.AstOf.{definition_view}
use Rattle.lotos_text.specs.AstView.{inner_of}
use Rattle.lotos_check.specs.CheckedView.{system_of}
use Rattle.lotos_check.specs.Scope.{definitions_in_list}
use Rattle.lotos_warn.specs.Termination.{exits_by}
use Rattle.lotos_warn.specs.Additions.{Adds, IsDeadIn, IsEndlessWhole, IsProcessWarningOfAny}
use Rattle.lotos_warn.proofs.Additions.{adds_both}
use Rattle.lotos_warn.proofs.WholeWarnings.{after_first}
use Rattle.lotos_warn.proofs.specification_warnings.warn_of_processes_and_whole.Goals as goal

pub returns : goal.returns
returns c =
    let whole = definition_view c.args.whole.now in
    let system = system_of c.args.system.now in
    let sets = c.args.sets.now in
    let old = c.args.warnings.now.items in
    let mid = c.warn_of_processes.new.warnings.items in
    let more = c.warn_if_endless_whole.new.warnings.items in
    let new = c.warn_if_dead.new.warnings.items in
    let any = IsProcessWarningOfAny sets.called.keys sets.reached.keys sets.exiting.keys 0 in
    let inner = after_first (λ d. definition_view d.now) c.args.definitions.now whole c.requires in
    let calls = subst (λ ds. Adds old mid (any ds)) inner c.in_ok-warn_of_processes.ensures in
    let processes = any (definitions_in_list (inner_of whole)) in
    let exits = exits_by sets.exiting.keys system.start in
    let endless = subst (λ e. Adds mid more (IsEndlessWhole e whole)) (rw c.start.ensures.start at c.may_exit-exits.ensures)
    c.in_ok-warn_if_endless_whole.ensures in
    let dead = IsDeadIn system whole in
    OnOk-map c.warn_if_dead.result (Adds more new dead) (Adds old new (λ w. processes w ⊎ (IsEndlessWhole exits whole w ⊎ dead w)))
    (λ added. adds_both old mid new processes (λ w. IsEndlessWhole exits whole w ⊎ dead w) calls
    (adds_both mid more new (IsEndlessWhole exits whole) dead endless added))
    c.warn_if_dead.ensures
