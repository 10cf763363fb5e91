use Rattle.std.proofs.Common.{◌∙◌, arith, sym}
use Rattle.std.proofs.lemmas.List.{length-map}
use Rattle.lotos_store.specs.Interning.{plain_lists}
use Rattle.lotos_suite.proofs.GraphTables.{sequences_apart, table_is}
use Rattle.lotos_suite.proofs.suite.rows_of.Goals as goal

pub rows_by-requires-clause-distinct : goal.rows_by-requires-clause-distinct
rows_by-requires-clause-distinct c =
    let (b, access, is, are) = c.requires.automaton in
    sequences_apart b (plain_lists c.args.graph.now) access is c.in_ok-access.access (c.in_ok-access.ensures b access is)

pub rows_by-requires-clause-counted : goal.rows_by-requires-clause-counted
rows_by-requires-clause-counted c =
    let (b, access, is, are) = c.requires.automaton in
    (c.in_ok-access.ensures b access is).counted ∙ is.explored.counted ∙ length-map c.args.graph.now (λ v. v.items)

pub rows_by-requires-clause-inside : goal.rows_by-requires-clause-inside
rows_by-requires-clause-inside c = λ j list l m at i.
    let (b, access, is, are) = c.requires.automaton in
    let counted = (c.in_ok-access.ensures b access is).counted in
    let states = is.explored.counted in
    let less = (is.explored.deterministic j list at).inside l m i in
    omega arith

pub returns : goal.returns
returns c = λ b access is are.
    let rows = plain_lists c.in_ok-rows.rows.items in
    let many = length-map c.in_ok-rows.rows.items (λ v. v.items) ∙ c.in_ok-rows.ensures.counted ∙ sym (length-map c.args.graph.now (λ v. v.items)) in
    table_is b (plain_lists c.args.graph.now) access is c.args.labels.now are (c.label_text_is_unique.ensures b.names are.named) c.in_ok-access.access
    (c.in_ok-access.ensures b access is) rows many c.in_ok-rows.ensures.rows
