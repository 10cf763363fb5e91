use Rattle.std.proofs.Common.{◌<◌, ◌≤◌, length, sym, arith, subst, refl}
use Rattle.std.proofs.lemmas.List.{drop_all}
use Rattle.lotos_check.specs.NameLists.{IsDuplicate}
use Rattle.lotos_check.proofs.Pairs.{drop_at}
use Rattle.lotos_check.proofs.VisitedNames.{seen_more, seen_again, seen_all}
use Rattle.lotos_check.proofs.duplicates.find_repeated.Goals as goal

pub returns-then-not-branch : goal.returns-then-not-branch
returns-then-not-branch c =
    let within : c.loop-placed.placed-index < length c.args.names.now = omega arith in
    let next = drop_at c.args.names.now c.loop-placed.placed-index _ c.placed-item.result within c.placed-item.is in
    let second = seen_again (λ k. k.now)
    c.loop-placed.seen.keys c.insert.new.self.keys c.text.result c.args.names.now _ _ c.placed-item.result c.text.result.now
    c.loop-placed.invariant next c.text.ensures.bytes _ c.in_ok-insert.ensures.added c.if-not-branch.true in
    subst (λ p. IsDuplicate p c.args.names.now) (sym c.in_ok-copy.ensures) second

pub loop-placed-preserved : goal.loop-placed-preserved
loop-placed-preserved c =
    let within : c.loop-placed.placed-index < length c.args.names.now = omega arith in
    let next = drop_at c.args.names.now c.loop-placed.placed-index _ c.placed-item.result within c.placed-item.is in
    seen_more (λ k. k.now)
    c.loop-placed.seen.keys c.insert.new.self.keys c.text.result c.args.names.now _ _ c.placed-item.result c.text.result.now
    c.loop-placed.invariant next c.text.ensures.bytes _ c.in_ok-insert.ensures.added c.if-not-branch.false refl c.in_ok-insert.ensures.keys

pub returns : goal.returns
returns c =
    let done : length c.args.names.now ≤ c.loop-placed.placed-index = omega arith in
    seen_all _ c.args.names.now _ c.loop-placed.invariant (drop_all c.loop-placed.placed-index c.args.names.now done)
