use Rattle.std.proofs.Common.{subst, sym}
use Rattle.lotos_check.proofs.ListIndices.{map_read}
use Rattle.lotos_suite.proofs.RowMoves.{row_of}
use Rattle.lotos_store.specs.Interning.{plain_lists}
use Rattle.lotos_suite.specs.SuiteSearch.{IsRowOf}
use Rattle.lotos_suite.proofs.suite_lines.add_from_state.Goals as goal

pub add_by_row-requires : goal.add_by_row-requires
add_by_row-requires c =
    let (s, parts, sequences, u, set, table, prefix, state) = c.requires.prefix in
    let read = map_read (λ v. v.items) c.args.rows.now c.args.state c.index-rows-state.result c.requires.below c.index-rows-state.is in
    let row = row_of s (plain_lists c.args.rows.now) table c.args.state c.index-rows-state.result.items read in
    (s, parts, sequences, u, c.args.state, set, prefix, subst (IsRowOf s c.args.state) (sym c.as_slice.ensures.value) row, state)

pub returns : goal.returns
returns c = λ s parts sequences u set table prefix state.
    let read = map_read (λ v. v.items) c.args.rows.now c.args.state c.index-rows-state.result c.requires.below c.index-rows-state.is in
    let row = row_of s (plain_lists c.args.rows.now) table c.args.state c.index-rows-state.result.items read in
    c.in_ok-add_by_row.ensures s parts sequences u c.args.state set prefix (subst (IsRowOf s c.args.state) (sym c.as_slice.ensures.value) row) state
