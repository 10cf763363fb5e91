use Rattle.std.proofs.Common.{◌≡◌, [], arith, length, subst, sym}
use Rattle.std.proofs.lemmas.List.{append-nil}
use Rattle.std.proofs.lemmas.Option.{slice_get-get_or}
use Rattle.lotos_suite.proofs.LevelLines.{longer_added, longer_none}
use Rattle.lotos_check.proofs.ListIndices.{get_some}
use Rattle.lotos_suite.specs.SuitePrefixes.{AreLonger, HasAdded, IsExtension}
use Rattle.lotos_suite.proofs.suite_lines.add_by_row.Goals as goal

pub loop-label-init : goal.loop-label-init
loop-label-init c = λ s parts sequences u j set prefix row state.
    ([], sym (append-nil c.args.longer.now.items), longer_none s c.args.extra parts c.args.steps.now sequences set u)

pub add_with_label-requires : goal.add_with_label-requires
add_with_label-requires c =
    let (s, parts, sequences, u, j, set, prefix, row, state) = c.requires in
    let wide = row.wide in
    let less = c.loop-label-test.true in
    let (x, at) = get_some s.labels c.loop-label.label (omega arith) in (
      s,
      parts,
      sequences,
      u,
      x,
      record {
        setting = set;
        prefix = prefix;
        label_is = at;
        state = j;
        state_is = state;
        leads = row.moves c.loop-label.label x _ (slice_get-get_or c.args.row.now c.loop-label.label _ less) at;
      },
    )

pub loop-label-preserved : goal.loop-label-preserved
loop-label-preserved c = λ s parts sequences u j set prefix row state.
    let wide = row.wide in
    let less = c.loop-label-test.true in
    let (x, at) = get_some s.labels c.loop-label.label (omega arith) in
    let ext : IsExtension s parts sequences c.args.steps.now c.args.extra c.args.prefix.now u c.loop-label.label x _ = record {
      setting = set;
      prefix = prefix;
      label_is = at;
      state = j;
      state_is = state;
      leads = row.moves c.loop-label.label x _ (slice_get-get_or c.args.row.now c.loop-label.label _ less) at;
    } in
    let (more, is, are) = c.loop-label.invariant s parts sequences u j set prefix row state in
    let added = subst (λ xs. HasAdded s parts sequences u x xs c.add_with_label.new.longer.items) is
    (c.in_ok-add_with_label.ensures s parts sequences u x ext) in
    longer_added s c.args.extra parts c.args.steps.now sequences set u c.loop-label.label x more c.args.longer.now.items
    c.add_with_label.new.longer.items at are added

pub returns : goal.returns
returns c = λ s parts sequences u j set prefix row state.
    let (more, is, are) = c.loop-label.invariant s parts sequences u j set prefix row state in
    let end = c.loop-label-test.false in
    let stop = c.loop-label.auto.label-end in
    let wide = row.wide in
    let whole : c.loop-label.label ≡ length s.labels = omega arith in
    (more, is, subst (λ n. AreLonger s parts sequences u n more) whole are)
