use Rattle.std.proofs.Common.{◌∙◌, ◌++◌, [], ◌∷◌, ap, inl, map, refl, subst, sym}
use Rattle.std.proofs.lemmas.Result.{IfOk-weaker}
use Rattle.lotos_listing.specs.Lookups.{text_of}
use Rattle.lotos_listing.specs.Question.{ArePrinted}
use Rattle.lotos_output.specs.OutputLines.{sequence_text}
use Rattle.lotos_tool.proofs.SuiteTexts.{line_printed, sign_shown}
use Rattle.lotos_tool.proofs.suite_command.format_line.Goals as goal

pub format_marked-requires : goal.format_marked-requires
format_marked-requires c =
    let line = c.args.line.now in
    let names = c.args.gates.now in
    let texts = map (text_of names) line.labels.items in
    (texts, subst (λ ls. ArePrinted names ls texts) (sym c.as_slice.ensures.value) (line_printed names line (line ∷ []) c.requires (inl refl)))

pub returns : goal.returns
returns c =
    let line = c.args.line.now in
    let names = c.args.gates.now in
    let texts = map (text_of names) line.labels.items in
    let printed = subst (λ ls. ArePrinted names ls texts) (sym c.as_slice.ensures.value) (line_printed names line (line ∷ []) c.requires (inl refl)) in
    let sign = ap (λ m. m ++ sequence_text texts) c.sign_of.ensures in
    IfOk-weaker c.format_marked.result _ _
    (λ text h. h texts printed ∙ sign ∙ sign_shown names line.labels.items line.is_refused) c.format_marked.ensures
