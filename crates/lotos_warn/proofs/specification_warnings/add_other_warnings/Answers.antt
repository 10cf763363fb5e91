use Rattle.std.proofs.Common.{refl, ◌≡◌, ◌↔◌, ◌⊎◌, ℕ, Some, slice_get, subst}
use Rattle.indexmap.proofs.MapLemmas.{OnOk-map}
use Rattle.lotos_text.specs.AstOf.{definition_view}
use Rattle.lotos_check.specs.CheckedView.{system_of}
use Rattle.lotos_check.specs.NameLists.{In}
use Rattle.lotos_check.specs.Scope.{ScopedDefinition, processes_of, definitions_in, definitions_in_list}
use Rattle.lotos_warn.specs.Termination.{MayTerminate, exits_by}
use Rattle.lotos_text.specs.AstView.{body_of, inner_of}
use Rattle.lotos_warn.specs.Warnings.{IsCalled, IsReached}
use Rattle.lotos_warn.specs.CallSites.{IsOtherWarning}
use Rattle.lotos_warn.specs.Additions.{Adds, IsDeadIn, IsEndlessWhole, IsGateWarningOfAny, IsProcessWarningOfAny}
use Rattle.lotos_warn.proofs.Additions.{adds_as, adds_both}
use Rattle.lotos_warn.proofs.DeadStarts.{dead_by_name}
use Rattle.lotos_warn.proofs.CalledNames.{called_by_name, reached_by_name}
use Rattle.lotos_warn.proofs.ExitingNumbers.{both_ways, whole_exits}
use Rattle.lotos_warn.proofs.TerminatingNames.{process_by_name, whole_by_name}
use Rattle.lotos_warn.proofs.WholeWarnings.{all_warnings}
use Rattle.lotos_warn.specs.declared.warning.Warning.{Warning}
use Rattle.lotos_warn.proofs.specification_warnings.add_other_warnings.Goals as goal

pub returns : goal.returns
returns c =
    let whole = definition_view c.args.whole.now in
    let system = system_of c.args.system.now in
    let called = c.in_ok-sets.sets.called.keys in
    let by_number = called_by_name c.binding_is_unique.ensures c.calls_fit.ensures.named whole system c.requires.accepted in
    let by_name : (k : ℕ) → In k called ↔ IsCalled whole k = λ k. both_ways (c.in_ok-sets.ensures.called k) (by_number k) in
    let reached = c.in_ok-sets.sets.reached.keys in
    let in_system = reached_by_name c.binding_is_unique.ensures c.calls_fit.ensures.named whole system c.requires.accepted in
    let by_reach : (k : ℕ) → In k reached ↔ IsReached whole k = λ k. both_ways (c.in_ok-sets.ensures.reached k) (in_system k) in
    let exiting = c.in_ok-sets.sets.exiting.keys in
    let in_numbers = c.in_ok-sets.ensures.exiting in
    let by_exit : (k : ℕ) (v : ScopedDefinition) → slice_get (processes_of whole) k ≡ Some v →
    In k exiting ↔ MayTerminate whole v.scope (body_of v.definition) = λ k v at. both_ways (in_numbers k)
    (process_by_name c.binding_is_unique.ensures whole system c.requires.accepted k v at) in
    let exits = exits_by exiting system.start in
    let by_start = both_ways (whole_exits system.processes exiting in_numbers system.start exits refl)
    (whole_by_name c.binding_is_unique.ensures whole system c.requires.accepted) in
    let old = c.args.warnings.now.items in
    let mid = c.warn_of_gates.new.warnings.items in
    let new = c.warn_of_processes_and_whole.new.warnings.items in
    let gates = subst (λ ds. Adds old mid (IsGateWarningOfAny ds)) c.requires.definitions c.in_ok-warn_of_gates.ensures in
    let others : Warning → Type 0 = λ w. IsProcessWarningOfAny called reached exiting 0 (definitions_in_list (inner_of whole)) w
    ⊎ (IsEndlessWhole exits whole w ⊎ IsDeadIn system whole w) in
    OnOk-map c.warn_of_processes_and_whole.result (Adds mid new others) (Adds old new (IsOtherWarning whole)) (λ added.
    adds_as old new (λ w. IsGateWarningOfAny (definitions_in whole) w ⊎ others w) (IsOtherWarning whole)
    (all_warnings whole called reached exiting by_name by_reach by_exit exits by_start system
    (dead_by_name c.flat_system_is_unique.ensures whole system c.requires.accepted))
    (adds_both old mid new (IsGateWarningOfAny (definitions_in whole)) others gates added))
    c.warn_of_processes_and_whole.ensures
