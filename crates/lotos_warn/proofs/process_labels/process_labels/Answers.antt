use Rattle.std.proofs.Common.{◌≡◌, ◌<◌, ◌≤◌, Some, length, get_or, slice_get, ap, sym, ◌∙◌, subst, arith}
use Rattle.std.specs.List.Sorted.{IsNonDecreasingBy}
use Rattle.std.proofs.lemmas.List.{length-map}
use Rattle.std.proofs.lemmas.Option.{slice_get-get_or}
use Rattle.lotos_check.specs.CheckedView.{process_of, ranks_of, system_of}
use Rattle.lotos_check.proofs.ListIndices.{get_in}
use Rattle.lotos_warn.specs.LabelSets.{AreRankedBy}
use Rattle.lotos_warn.proofs.RankedLabels.{known_start, known_next, known_all, ranked_number}
use Rattle.lotos_warn.proofs.process_labels.process_labels.Goals as goal

pub loop-process-init : goal.loop-process-init
loop-process-init c =
    let ranks = ranks_of c.args.system.now in
    let same = sym c.deref-process-items.ensures.value in
    let given = c.processes.result.now in
    record {
      counted = c.in_ok-known.ensures ∙ sym (length-map given process_of) ∙ ap length c.processes.ensures;
      known = known_start (system_of c.args.system.now) ranks c.requires.kept c.deref-process-items.result.now
          (subst (AreRankedBy ranks) same c.in_ok-order.ensures.all) (subst (IsNonDecreasingBy (λ p. p.rank)) same c.in_ok-order.ensures.ordered)
          c.in_ok-known.known.items;
    }

pub loop-process-preserved : goal.loop-process-preserved
loop-process-preserved c =
    let ranks = ranks_of c.args.system.now in
    let same = sym c.deref-process-items.ensures.value in
    let list = c.deref-process-items.result.now in
    let index = c.loop-process.process-index in
    let within : index < length list = omega arith in
    let process = get_or list index (record { rank = 0; number = 0 }) in
    let at : slice_get list index ≡ Some process = slice_get-get_or list index (record { rank = 0; number = 0 }) within in
    record {
      counted = c.in_ok-set_labels.ensures.counted ∙ c.loop-process.invariant.counted;
      known = known_next (system_of c.args.system.now) ranks c.requires.kept list
          (subst (AreRankedBy ranks) same c.in_ok-order.ensures.all) (subst (IsNonDecreasingBy (λ p. p.rank)) same c.in_ok-order.ensures.ordered)
          c.loop-process.known.items c.set_labels.new.known.items index process at
          (rw c.processes-in-loop-process.ensures at c.in_ok-set_labels.ensures.set) c.in_ok-set_labels.ensures.others c.loop-process.invariant.known;
    }

pub returns : goal.returns
returns c =
    let ranks = ranks_of c.args.system.now in
    let same = sym c.deref-process-items.ensures.value in
    let list = c.deref-process-items.result.now in
    let done : length list ≤ c.loop-process.process-index = omega arith in
    known_all (system_of c.args.system.now) ranks c.requires.kept list
    (subst (AreRankedBy ranks) same c.in_ok-order.ensures.all) (subst (IsNonDecreasingBy (λ p. p.rank)) same c.in_ok-order.ensures.ordered)
    c.loop-process.known.items c.loop-process.process-index done c.loop-process.invariant.known

pub set_labels-requires-clause-process : goal.set_labels-requires-clause-process
set_labels-requires-clause-process c =
    let ranks = ranks_of c.args.system.now in
    let same = sym c.deref-process-items.ensures.value in
    let list = c.deref-process-items.result.now in
    let index = c.loop-process.process-index in
    let within : index < length list = omega arith in
    let process = get_or list index (record { rank = 0; number = 0 }) in
    let at : slice_get list index ≡ Some process = slice_get-get_or list index (record { rank = 0; number = 0 }) within in
    let below = ranked_number (system_of c.args.system.now) ranks list process c.requires.kept
    (subst (AreRankedBy ranks) same c.in_ok-order.ensures.all) (get_in list index process at) in
    let given = c.processes-in-loop-process.result.now in
    let counted = sym (length-map given process_of) ∙ ap length c.processes-in-loop-process.ensures in
    omega arith

pub set_labels-requires-clause-within : goal.set_labels-requires-clause-within
set_labels-requires-clause-within c =
    let ranks = ranks_of c.args.system.now in
    let same = sym c.deref-process-items.ensures.value in
    let list = c.deref-process-items.result.now in
    let index = c.loop-process.process-index in
    let within : index < length list = omega arith in
    let process = get_or list index (record { rank = 0; number = 0 }) in
    let at : slice_get list index ≡ Some process = slice_get-get_or list index (record { rank = 0; number = 0 }) within in
    let below = ranked_number (system_of c.args.system.now) ranks list process c.requires.kept
    (subst (AreRankedBy ranks) same c.in_ok-order.ensures.all) (get_in list index process at) in
    let counted = c.loop-process.invariant.counted in
    omega arith
