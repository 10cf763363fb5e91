use Rattle.std.proofs.Common.{◌∙◌, ap, subst, sym}
use Rattle.lotos_terms.specs.TableView.{TableView}
use Rattle.lotos_compare.specs.FoundLines.{IsFound}
use Rattle.lotos_tool.specs.CompareParts.{question_of}
use Rattle.lotos_tool.proofs.compare_command.compared.Goals as goal

pub halt_of-requires : goal.halt_of-requires
halt_of-requires g c =
    let names = c.gates-in-Err.ensures ∙ ap (λ (t : TableView). t.names) c.table-in-Err.ensures ∙ c.find_first_difference.ensures.keeps_first.table.names in
    (question_of c.args.first.now c.args.second.now c.args.within c.args.pairs, sym names, c.in-Err.ensures.stops)

pub returns-in_ok-format_difference-in-Ok-Differs-clause-found : goal.returns-in_ok-format_difference-in-Ok-Differs-clause-found
returns-in_ok-format_difference-in-Ok-Differs-clause-found g c =
    let q = question_of c.args.first.now c.args.second.now c.args.within c.args.pairs in
    let names = λ (t : TableView). t.names in
    let kept = c.find_first_difference.ensures in
    let firsts = c.gates.ensures ∙ ap names c.table.ensures ∙ kept.keeps_first.table.names in
    let seconds = c.gates-in-Ok-Differs.ensures ∙ ap names c.table-in-Ok-Differs.ensures ∙ kept.keeps_second.table.names in
    let (line, printed, is) = subst (IsFound q.pair q.kind) c.in-Ok-Differs.field-0-is c.in-Ok-Differs.ensures.found in
    (line, is, c.in_ok-format_difference-in-Ok-Differs.ensures q.pair line (sym firsts) (sym seconds) printed)
