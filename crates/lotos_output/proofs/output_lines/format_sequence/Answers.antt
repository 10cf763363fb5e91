use Rattle.std.proofs.Common.{◌∙◌, ◌++◌, IsUtf8, ap, refl, rules, subst, sym}
use Rattle.std.proofs.lemmas.Result.{IfOk-weaker}
use Rattle.lotos_output.proofs.FormattedLines.{left_at_first, left_joined, none_spelled}
use Rattle.lotos_output.proofs.output_lines.format_sequence.Goals as goal

pub append_labels-requires-clause-utf8 : goal.append_labels-requires-clause-utf8
append_labels-requires-clause-utf8 c =
    subst IsUtf8 (sym (c.in_ok-append_text.ensures ∙ ap (λ b. b ++ c.label_text-shown.result.now) c.in_ok-bytes.ensures.items)) c.label_text-shown.utf8

pub append_labels-requires-clause-printed : goal.append_labels-requires-clause-printed
append_labels-requires-clause-printed c =
    let (s, all) = c.requires in
    let (left, printed, is) = left_at_first _ _ _ _ _ _ (search rules) c.label_text-shown.ensures refl s all in (left, printed)

pub returns : goal.returns
returns c =
    let written = c.in_ok-append_text.ensures ∙ ap (λ b. b ++ c.label_text-shown.result.now) c.in_ok-bytes.ensures.items in
    IfOk-weaker c.append_labels.result _ _ (λ text joined s all.
    left_joined _ _ _ _ _ (left_at_first _ _ _ _ _ _ (search rules) c.label_text-shown.ensures written s all) joined) c.append_labels.ensures

pub returns-in_default : goal.returns-in_default
returns-in_default c = IfOk-weaker c.from_str.result _ _ (λ text h. none_spelled _ _ _ (search rules) h) c.from_str.ensures.ok
