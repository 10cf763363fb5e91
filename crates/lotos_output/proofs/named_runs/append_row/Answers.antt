use Rattle.std.proofs.Common.{◌≡◌, ◌∙◌, [], ap, false, length, nat_eq, true}
use Rattle.lotos_output.proofs.NamedLines.{row_named}
use Rattle.lotos_output.proofs.named_runs.append_row.Goals as goal

pub returns : goal.returns
returns c = λ r named.
    let (same, grown) = c.in_ok-append_sequence.ensures r [] named in
    row_named c.args.gates.now c.args.row.now c.args.origins.now r [] _ _ _ named
    (λ none. let clash : false ≡ true = c.if-is_empty.ensures ∙ ap (λ ls. nat_eq (length ls) 0) none in cc) grown c.in_ok-push_str.ensures.bytes
