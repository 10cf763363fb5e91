use Rattle.std.proofs.Common.{◌∙◌, [], arith, length, sym}
use Rattle.std.proofs.lemmas.List.{append-nil, length-map}
use Rattle.lotos_suite.proofs.LevelLines.{longer_stuck}
use Rattle.lotos_suite.proofs.RowMoves.{row_inside}
use Rattle.lotos_store.specs.Interning.{plain_lists}
use Rattle.lotos_suite.proofs.suite_lines.add_longer.Goals as goal

pub add_from_state-requires-clause-below : goal.add_from_state-requires-clause-below
add_from_state-requires-clause-below c =
    let (s, parts, sequences, u, set, table, prefix) = c.requires in
    let many = length-map c.args.rows.now (λ v. v.items) in
    let less = row_inside s c.args.extra parts c.args.steps.now sequences set
    (plain_lists c.args.rows.now) table c.args.prefix.now u prefix c.in-Some.state c.in-Some.is in
    omega arith

pub add_from_state-requires-clause-prefix : goal.add_from_state-requires-clause-prefix
add_from_state-requires-clause-prefix c =
    let (s, parts, sequences, u, set, table, prefix) = c.requires in
    (s, parts, sequences, u, set, table, prefix, c.in-Some.is)

pub returns-in_ok-add_from_state-in-Some : goal.returns-in_ok-add_from_state-in-Some
returns-in_ok-add_from_state-in-Some c = λ s parts sequences u set table prefix.
    c.in_ok-add_from_state-in-Some.ensures s parts sequences u set table prefix c.in-Some.is

pub returns-in-None : goal.returns-in-None
returns-in-None c = λ s parts sequences u set table prefix. (
  [],
  sym (append-nil c.args.longer.now.items),
  longer_stuck s c.args.extra parts c.args.steps.now sequences set u (length s.labels) (prefix.state ∙ c.in-None.is),
)
