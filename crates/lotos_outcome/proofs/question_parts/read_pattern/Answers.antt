use Rattle.std.proofs.Common.{◌≡◌, ◌∙◌, ap, map, string_bytes, subst}
use Rattle.lotos_check.proofs.SameFault.{passed_on}
use Rattle.lotos_pattern.specs.PatternFaults.{IsCause, SpellsNone}
use Rattle.lotos_pattern.specs.Spelling.{texts_of}
use Rattle.lotos_outcome.specs.QuestionParts.{words_of}
use Rattle.lotos_outcome.specs.RefusalCauses.{IsPatternRefusal}
use Rattle.lotos_outcome.specs.Rejections.{IsRejectionBy, pattern_rejection}
use Rattle.lotos_outcome.specs.declared.rejection.Rejection.TheVariants.{Memory}
use Rattle.lotos_outcome.proofs.Rejections.{pattern_rejected_for}
use Rattle.lotos_outcome.proofs.question_parts.read_pattern.Goals as goal

pub returns-in_err-texts-clause-rejected : goal.returns-in_err-texts-clause-rejected
returns-in_err-texts-clause-rejected c =
    passed_on (IsRejectionBy (IsPatternRefusal c.args.strong (words_of c.args.words.now))) c.from_residual.result Memory c.from_residual.ensures.1 tt

pub returns-in_err-read-clause-rejected : goal.returns-in_err-read-clause-rejected
returns-in_err-read-clause-rejected c =
    let fault = c.in_err-read.field-0.0 in
    let r = c.from_residual-in_err-read in
    let same : texts_of c.as_slice-2.result.now ≡ words_of c.args.words.now =
    ap texts_of c.as_slice-2.ensures.value ∙ c.in_ok-texts.ensures ∙ ap (map string_bytes) c.as_slice.ensures.value in
    passed_on (IsRejectionBy (IsPatternRefusal c.args.strong (words_of c.args.words.now))) r.result (pattern_rejection fault) r.ensures.1
    (pattern_rejected_for c.args.strong (words_of c.args.words.now) fault (subst (λ words. IsCause c.args.strong words fault) same c.in_err-read.ensures.cause)
    (subst (λ words. SpellsNone c.args.strong words fault) same c.in_err-read.ensures.nothing))
