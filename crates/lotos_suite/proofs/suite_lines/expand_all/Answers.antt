use Rattle.std.proofs.Common.{◌∙◌, ◌<◌, ◌+◌, ◌++◌, ◌∷◌, [], ap, arith, length, subst, sym}
use Rattle.std.specs.Bool.{◌==◌}
use Rattle.lotos_check.proofs.ListIndices.{in_get}
use Rattle.lotos_suite.proofs.SuiteBounds.{fewer_left, left_at, lines_many, no_items, some_items}
use Rattle.lotos_suite.proofs.SuiteStart.{all_lines, first_level, no_lines}
use Rattle.lotos_suite.specs.SuiteSearch.{AreLevel, AreLinesTo}
use Rattle.lotos_suite.proofs.suite_lines.expand_all.Goals as goal

pub loop-alloc-init : goal.loop-alloc-init
loop-alloc-init c = record {
  searched = λ s parts sequences set table.
      let is = c.empty_prefix.ensures s c.args.extra parts c.args.steps.now sequences set in
      let level = c.in_ok-push.ensures.items ∙ ap (λ xs. xs ++ c.empty_prefix.result ∷ []) c.new-level.ensures.items in (
        0,
        subst (AreLevel s parts sequences 0) (sym level) (first_level s c.args.extra parts c.args.steps.now sequences set c.empty_prefix.result is),
        subst (AreLinesTo s parts sequences 0 c.push.new.self.items 0) (sym c.new-lines.ensures.items)
            (no_lines s c.args.extra parts c.args.steps.now sequences set c.push.new.self.items),
      );
  few = λ e.
      let level = ap length (c.in_ok-push.ensures.items ∙ ap (λ xs. xs ++ c.empty_prefix.result ∷ []) c.new-level.ensures.items) in
      absurd (omega arith);
}

pub returns-then-len-most-clause-too_many : goal.returns-then-len-most-clause-too_many
returns-then-len-most-clause-too_many c = λ e s parts sequences lines set table are.
    let l = c.loop-alloc in
    let (d, level, found) = l.invariant.searched s parts sequences set table in
    let same = sym c.as_slice.ensures.value in
    let (next, now) = c.in_ok-level.ensures s parts sequences d set table (subst (AreLevel s parts sequences d) same level)
    (subst (λ ns. AreLinesTo s parts sequences d ns 0 l.lines.items) same found) in
    let many = lines_many s c.args.extra parts c.args.steps.now sequences set (d + 1) c.in_ok-level.level.items c.expand.new.lines.items lines next now are in
    omega (arith, many, c.if-len-most.true, c.len.ensures, c.len-in-loop-alloc.ensures, c.in_ok-level.level.ok, c.expand.new.lines.ok)

pub loop-alloc-smaller : goal.loop-alloc-smaller
loop-alloc-smaller c =
    let l = c.loop-alloc in
    let (s, parts, sequences, set, table) = c.requires in
    let (d, level, found) = l.invariant.searched s parts sequences set table in
    let same = sym c.as_slice.ensures.value in
    let (next, now) = c.in_ok-level.ensures s parts sequences d set table (subst (AreLevel s parts sequences d) same level)
    (subst (λ ns. AreLinesTo s parts sequences d ns 0 l.lines.items) same found) in
    let fewer = fewer_left s c.args.extra parts c.args.steps.now sequences set d l.level.items c.in_ok-level.level.items level next
    (some_items l.level.items (c.loop-alloc-test.ensures ∙ ap (λ n. n == 0) l.level.ok.0)) in
    subst (λ n. left_at (n + c.args.extra + 1 + length c.args.steps.now) c.in_ok-level.level.items <
    left_at (n + c.args.extra + 1 + length c.args.steps.now) l.level.items) (sym table.counted) fewer

pub loop-alloc-preserved : goal.loop-alloc-preserved
loop-alloc-preserved c = record {
  searched = λ s parts sequences set table.
      let l = c.loop-alloc in
      let (d, level, found) = l.invariant.searched s parts sequences set table in
      let same = sym c.as_slice.ensures.value in
      let (next, now) = c.in_ok-level.ensures s parts sequences d set table (subst (AreLevel s parts sequences d) same level)
      (subst (λ ns. AreLinesTo s parts sequences d ns 0 l.lines.items) same found) in
      (d + 1, next, now);
  few = λ e. omega (arith, e, c.if-len-most.false, c.len.ensures, c.len-in-loop-alloc.ensures, c.in_ok-level.level.ok, c.expand.new.lines.ok);
}

pub returns-clause-lines : goal.returns-clause-lines
returns-clause-lines c = λ s parts sequences set table.
    let l = c.loop-alloc in
    let (d, level, found) = l.invariant.searched s parts sequences set table in
    all_lines s c.args.extra parts c.args.steps.now sequences set d l.level.items l.lines.items
    (no_items l.level.items (c.loop-alloc-test.ensures ∙ ap (λ n. n == 0) l.level.ok.0)) level found

pub returns-clause-known : goal.returns-clause-known
returns-clause-known c = λ s parts sequences set table line i n j.
    let l = c.loop-alloc in
    let (d, level, found) = l.invariant.searched s parts sequences set table in
    let (k, at) = in_get l.lines.items line i in
    found.known k line at n j
