use Rattle.std.proofs.Common.{◌⊎◌, ◌+◌, ◌<◌, ◌≤◌, length, map, drop, arith}
use Rattle.std.proofs.lemmas.List.{drop_all}
use Rattle.lotos_text.specs.AstOf.{definition_view}
use Rattle.lotos_warn.specs.Additions.{IsProcessWarning, IsProcessWarningOfAny, IsUncalledAt, IsUnreachedAt, IsEndlessAt}
use Rattle.lotos_warn.proofs.Additions.{adds_both, adds_next, adds_end}
use Rattle.lotos_warn.proofs.DefinitionWarnings.{process_next, process_end}
use Rattle.lotos_warn.proofs.definition_warnings.warn_of_processes.Goals as goal

pub loop-number-preserved : goal.loop-number-preserved
loop-number-preserved c =
    let within : c.loop-number.number < length c.args.processes.now = omega arith in
    let called = c.args.called.now.keys in
    let reached = c.args.reached.now.keys in
    let exiting = c.args.exiting.now.keys in
    let n = c.loop-number.number in
    let d = definition_view c.index-processes-number.result.now in
    let old = c.loop-number.warnings.items in
    let mid = c.warn_if_uncalled.new.warnings.items in
    let more = c.warn_if_unreached.new.warnings.items in
    let new = c.warn_if_endless.new.warnings.items in
    adds_next c.args.warnings.now.items old new
    (IsProcessWarningOfAny called reached exiting n (map (λ d. definition_view d.now) (drop n c.args.processes.now)))
    (IsProcessWarningOfAny called reached exiting 0 (map (λ d. definition_view d.now) c.args.processes.now))
    (IsProcessWarning called reached exiting n d)
    (IsProcessWarningOfAny called reached exiting (n + 1) (map (λ d. definition_view d.now) (drop (n + 1) c.args.processes.now)))
    c.loop-number.invariant
    (adds_both old mid new (IsUncalledAt called n d) (λ w. IsUnreachedAt called reached n d w ⊎ IsEndlessAt exiting n d w) c.in_ok-warn_if_uncalled.ensures
    (adds_both mid more new (IsUnreachedAt called reached n d) (IsEndlessAt exiting n d) c.in_ok-warn_if_unreached.ensures c.in_ok-warn_if_endless.ensures))
    (process_next (λ d. definition_view d.now) called reached exiting
    c.args.processes.now n _ c.index-processes-number.result within c.index-processes-number.is)

pub returns : goal.returns
returns c =
    let done : length c.args.processes.now ≤ c.loop-number.number = omega arith in
    let called = c.args.called.now.keys in
    let reached = c.args.reached.now.keys in
    let exiting = c.args.exiting.now.keys in
    let n = c.loop-number.number in
    adds_end c.args.warnings.now.items c.loop-number.warnings.items
    (IsProcessWarningOfAny called reached exiting n (map (λ d. definition_view d.now) (drop n c.args.processes.now)))
    (IsProcessWarningOfAny called reached exiting 0 (map (λ d. definition_view d.now) c.args.processes.now))
    c.loop-number.invariant
    (process_end (λ d. definition_view d.now) called reached exiting n (drop n c.args.processes.now) (drop_all n c.args.processes.now done))
