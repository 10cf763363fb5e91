use Rattle.std.proofs.Common.{◌∙◌, ◌++◌, [], ap, codes, string_bytes}
use Rattle.lotos_output.specs.OutputLines.{row_text, sequence_text}
use Rattle.lotos_output.proofs.NamedLines.{round_joined}
use Rattle.lotos_output.proofs.named_runs.append_named_round.Goals as goal

pub returns : goal.returns
returns c = λ r s named.
    let row = c.in_ok-append_row.ensures r (rw (c.as_slice.ensures.value, c.as_slice-2.ensures.value) named.row) in
    let (all, turn) = c.in_ok-append_sequence.ensures s [] (rw (c.as_slice-3.ensures.value, c.as_slice-4.ensures.value) named.turn) in
    let begun = c.in_ok-push_str.ensures.bytes in
    let opened = c.in_ok-push_str-2.ensures.bytes in
    let closed = c.in_ok-push_str-3.ensures.bytes in
    closed ∙ ap (λ x. x ++ codes "]") (turn ∙ ap (λ x. x ++ sequence_text s) (opened ∙ ap (λ x. x ++ codes "[") (row ∙ ap (λ x. x ++ row_text r) begun)))
    ∙ round_joined (string_bytes c.args.line.now) (codes " <forever> ") (row_text r) (codes "[") (sequence_text s) (codes "]")
