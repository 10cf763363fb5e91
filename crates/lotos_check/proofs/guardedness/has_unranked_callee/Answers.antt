use Rattle.std.proofs.Common.{rules, ◌≡◌, ℕ, Some, get_or, below_more, arith}
use Rattle.std.specs.Prelude.{slice_get}
use Rattle.lotos_check.proofs.ListIndices.{in_read, each_in}
use Rattle.lotos_check.proofs.RankedProcesses.{numbered_at, unnumbered_at}
use Rattle.lotos_check.proofs.guardedness.has_unranked_callee.Goals as goal

pub bounds-ranks-process : goal.bounds-ranks-process
bounds-ranks-process c = c.requires _ (in_read c.args.calls.now c.loop-process.process-index 0 c.loop-process-test.true)

pub offset_bounds-ranks-process : goal.offset_bounds-ranks-process
offset_bounds-ranks-process c =
    let within = c.requires _ (in_read c.args.calls.now c.loop-process.process-index 0 c.loop-process-test.true) in
    search rules

pub returns-then-is_none : goal.returns-then-is_none
returns-then-is_none c =
    let stands = in_read c.args.calls.now c.loop-process.process-index 0 c.loop-process-test.true in (
      get_or c.args.calls.now c.loop-process.process-index 0,
      stands,
      unnumbered_at c.args.ranks.now _ (c.requires _ stands) (search rules),
    )

pub loop-process-preserved : goal.loop-process-preserved
loop-process-preserved c =
    let stands = in_read c.args.calls.now c.loop-process.process-index 0 c.loop-process-test.true in
    below_more (λ k. (s : ℕ) × (slice_get c.args.ranks.now (get_or c.args.calls.now k 0) ≡ Some (Some s))) _
    c.loop-process.invariant (numbered_at c.args.ranks.now _ (c.requires _ stands) (search rules))

pub returns : goal.returns
returns c = each_in (λ q. (s : ℕ) × (slice_get c.args.ranks.now q ≡ Some (Some s))) c.args.calls.now 0
    (λ k h. c.loop-process.invariant k (omega (arith, c.loop-process-test.false)))
