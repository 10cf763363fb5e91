use Rattle.std.proofs.Common.{rules, ◌≡◌, ◌<◌, length, arith}
use Rattle.std.proofs.lemmas.List.{length-map}
use Rattle.lotos_check.proofs.RankedProcesses.{unnumbered_at, number_there}
use Rattle.lotos_check.proofs.RankRounds.{ordered_set}
use Rattle.lotos_check.proofs.guardedness.try_rank.Goals as goal
use Rattle.lotos_check.proofs.guardedness.try_rank.Goals.{then-is_some-via-then-is_some, then-is_some-via-else-is_some+then-has_unranked_callee}
use Rattle.lotos_check.proofs.ListIndices.{map_read}

pub has_unranked_callee-requires : goal.has_unranked_callee-requires
has_unranked_callee-requires c = λ q stands.
    let calls = c.index-edges-process.result in
    let list = map_read (λ v. v.items) c.args.edges.now c.args.process calls c.requires.within c.index-edges-process.is in
    let called = rw c.as_slice.ensures.value at stands in
    let within = c.requires.in_range c.args.process q (calls.items, list, called) in
    let sized = c.requires.ordered.sized in
    omega arith

pub returns-then-is_some-clause-stuck : goal.returns-then-is_some-clause-stuck
returns-then-is_some-clause-stuck c = λ same waits.
    let sized = c.requires.ordered.sized in
    let lengths = length-map c.args.edges.now (λ v. v.items) in
    let within : c.args.process < length c.args.ranks.now = omega (arith, c.requires.within) in
    elim c.then-is_some.branch [
      | then-is_some-via-then-is_some w ↦ absurd (number_there c.args.ranks.now c.args.process within (search rules) waits)
      | then-is_some-via-else-is_some+then-has_unranked_callee w ↦
          let calls = w.index-edges-process.result in
          let is = w.index-edges-process.is in
          let list = map_read (λ v. v.items) c.args.edges.now c.args.process calls c.requires.within is in
          let found = w.if-has_unranked_callee.ensures in
          (found.0, (calls.items, list, rw w.as_slice.ensures.value at found.1), found.2)
    ]

pub returns-clause-ordered : goal.returns-clause-ordered
returns-clause-ordered c =
    let calls = c.index-edges-process.result in
    let list = map_read (λ v. v.items) c.args.edges.now c.args.process calls c.requires.within c.index-edges-process.is in
    let sized = c.requires.ordered.sized in
    let lengths = length-map c.args.edges.now (λ v. v.items) in
    let within : c.args.process < length c.args.ranks.now = omega (arith, c.requires.within) in
    let waits = unnumbered_at c.args.ranks.now c.args.process within (search rules) in
    ordered_set _ c.args.ranks.now c.args.next c.args.process c.requires.ordered waits (λ q lists.
    let same : calls.items ≡ lists.0 = cc in
    c.if-has_unranked_callee.ensures q (rw (c.as_slice.ensures.value, same) lists.2))
