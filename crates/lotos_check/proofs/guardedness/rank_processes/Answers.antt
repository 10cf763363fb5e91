use Rattle.std.proofs.Common.{rules, ◌≡◌, None, map, length, drop, replicate, refl, sym, arith}
use Rattle.std.proofs.lemmas.List.{length-map, take_at}
use Rattle.lotos_check.specs.CheckedView.{process_of}
use Rattle.lotos_check.proofs.CallLists.{in_range, none_numbered}
use Rattle.lotos_check.proofs.UnguardedSets.{are_ranks, is_unguarded}
use Rattle.lotos_check.proofs.guardedness.rank_processes.Goals as goal

pub assign_ranks-requires-clause-in_range : goal.assign_ranks-requires-clause-in_range
assign_ranks-requires-clause-in_range c =
    let count = sym (length-map c.args.processes.now process_of) in
    rw c.as_slice-2.ensures.value (in_range _ (map process_of c.args.processes.now) _ count c.in_ok-edges.ensures c.requires)

pub assign_ranks-requires-clause-begin : goal.assign_ranks-requires-clause-begin
assign_ranks-requires-clause-begin c =
    let none : c.in_ok-ranks.ranks.items ≡ replicate (length c.args.processes.now) None = search rules in
    let count = sym (length-map c.args.processes.now process_of) in
    let begins = none_numbered _ (map process_of c.args.processes.now) _ count c.in_ok-edges.ensures in
    rw (c.as_slice-2.ensures.value, c.as_mut_slice.ensures.value, none) begins

pub assign_ranks-requires-clause-within : goal.assign_ranks-requires-clause-within
assign_ranks-requires-clause-within c = λ p i.
    let stands = rw c.as_slice-3.ensures.value at i in
    let below = rw c.as_slice.ensures.value at (c.in_ok-order.ensures p stands) in
    rw c.as_slice-2.ensures.value below

pub returns-then-is_empty : goal.returns-then-is_empty
returns-then-is_empty c =
    let ranks = c.assign_ranks.new.ranks in
    let kept = c.assign_ranks.auto.ranks in
    let sized = c.as_mut_slice.ensures.len in
    let whole = take_at ranks (drop (length ranks) c.in_ok-ranks.ranks.items) c.in_ok-ranks.ranks.len (omega arith) in
    let after : c.as_slice-then-is_empty.result.now ≡ ranks = rw whole at c.as_slice-then-is_empty.ensures.value in
    let numbered = rw c.as_slice-2.ensures.value at c.assign_ranks.ensures in
    let numbers = rw after at c.in_ok-all_ranks.ensures in
    are_ranks _ (map process_of c.args.processes.now) ranks c.in_ok-edges.ensures numbered c.in_ok-all_ranks.all_ranks.items numbers

pub returns : goal.returns
returns c =
    let ranks = c.assign_ranks.new.ranks in
    let kept = c.assign_ranks.auto.ranks in
    let sized = c.as_mut_slice.ensures.len in
    let whole = take_at ranks (drop (length ranks) c.in_ok-ranks.ranks.items) c.in_ok-ranks.ranks.len (omega arith) in
    let after : c.as_slice-4.result.now ≡ ranks = rw whole at c.as_slice-4.ensures.value in
    let numbered = rw c.as_slice-2.ensures.value at c.assign_ranks.ensures in
    let waiting = rw after at c.in_ok-unranked.ensures in
    let found = c.in_ok-unranked.unranked.items in
    is_unguarded _ (map process_of c.args.processes.now) ranks c.in_ok-edges.ensures numbered found waiting (λ e.
    let some = c.if-is_empty.ensures in
    let count = c.in_ok-unranked.unranked.ok.0 in
    let none : length c.in_ok-unranked.unranked.items ≡ 0 = rw e refl in
    grind arith)
