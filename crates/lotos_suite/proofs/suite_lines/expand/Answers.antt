use Rattle.std.proofs.Common.{◌+◌, ap, arith, length, refl, subst, sym}
use Rattle.std.proofs.lemmas.Option.{slice_get_read}
use Rattle.lotos_suite.proofs.LevelLines.{leaf_added, lines_next, next_level, next_more, next_none}
use Rattle.lotos_suite.specs.SuiteSearch.{AreNext}
use Rattle.lotos_suite.proofs.suite_lines.expand.Goals as goal

pub loop-prefix-init : goal.loop-prefix-init
loop-prefix-init c = λ s parts sequences d set table level lines. (
  subst (AreNext s parts sequences c.args.level.now 0) (sym c.new-longer.ensures.items)
      (next_none s c.args.extra parts c.args.steps.now sequences set c.args.level.now),
  lines,
)

pub add_longer-requires : goal.add_longer-requires
add_longer-requires c =
    let (s, parts, sequences, d, set, table, level, lines) = c.requires in
    let at = slice_get_read c.args.level.now _ _ _ refl c.loop-prefix-test.true c.prefix-item.is in
    let (u, is, long) = level.each c.loop-prefix.prefix-index _ at in
    (s, parts, sequences, u, set, table, is)

pub loop-prefix-preserved : goal.loop-prefix-preserved
loop-prefix-preserved c = λ s parts sequences d set table level lines.
    let l = c.loop-prefix in
    let at = slice_get_read c.args.level.now _ _ _ refl c.loop-prefix-test.true c.prefix-item.is in
    let (u, is, long) = level.each l.prefix-index _ at in
    let (next, before) = l.invariant s parts sequences d set table level lines in
    let (more, joined, are) = c.in_ok-add_longer.ensures s parts sequences u set table is in
    let all = next_more s c.args.extra parts c.args.steps.now sequences set c.args.level.now d level l.prefix-index _ u l.longer.items more at is next are in (
      subst (AreNext s parts sequences c.args.level.now (l.prefix-index + 1)) (sym joined) all,
      leaf_added s c.args.extra parts c.args.steps.now sequences set c.args.level.now d level l.prefix-index _ u l.longer.items more _ _ l.lines.items
          c.add_leaf.new.lines.items at is before are (let e = ap length joined in omega (arith, e, c.len.ensures, c.add_longer.new.longer.ok))
          (omega (arith, c.len-count.ensures, l.longer.ok)) c.in_ok-add_leaf.ensures,
    )

pub returns : goal.returns
returns c = λ s parts sequences d set table level lines.
    let l = c.loop-prefix in
    let (next, before) = l.invariant s parts sequences d set table level lines in
    let end = c.loop-prefix-test.false in (
      next_level s c.args.extra parts c.args.steps.now sequences set c.args.level.now d level l.prefix-index l.longer.items (omega arith) next,
      lines_next s c.args.extra parts c.args.steps.now sequences set c.args.level.now d level l.prefix-index l.longer.items l.lines.items (omega arith) before,
    )
