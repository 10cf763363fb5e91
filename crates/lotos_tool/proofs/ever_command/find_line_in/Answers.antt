use Rattle.std.proofs.Common.{ap, refl, subst, sym, ◌∙◌}
use Rattle.std.specs.Prelude.{Err}
use Rattle.std.proofs.lemmas.Result.{err_from_is_err_and}
use Rattle.lotos_runs.specs.MatchQuestions.{match_question_of}
use Rattle.lotos_ever.specs.MatchAnswers.{IsEndedAnswer, IsEndedMatch}
use Rattle.lotos_runs.proofs.TableQuestions.{question_same}
use Rattle.lotos_tool.specs.EverParts.{IsEverQuestionFor}
use Rattle.lotos_tool.specs.EverOutcome.{EverQuestion, IsMatchLine}
use Rattle.lotos_tool.proofs.MatchOutcomes.{handed_on, out_of_memory}
use Rattle.lotos_tool.proofs.ever_command.find_line_in.Goals as goal

pub returns-in_err-ended-clause-none : goal.returns-in_err-ended-clause-none
returns-in_err-ended-clause-none g c = λ system is.
    let halt = err_from_is_err_and c.from_residual.result c.from_residual.ensures.1 in
    let p = c.args.pattern.now in
    let q : EverQuestion = record { matches = match_question_of c.args.table.now p.pattern; kind = p.kind } in
    let asked : IsEverQuestionFor system p q = record {
      question = c.table_has_match_question.ensures system c.args.table.now p.pattern is c.recall_sound.ensures.sound;
      pattern = refl;
    } in
    handed_on _ c.in_err-ended.field-0.0 c.args.request.now system p q (halt.1 ∙ ap (λ v. Err v) halt.2) asked c.in_err-ended.ensures.too_many_states

pub format_match-requires : goal.format_match-requires
format_match-requires g c =
    let p = c.args.pattern.now in
    let old = c.args.table.now in
    let new = c.find_shortest_match_with_end.new.table in
    let same = question_same old new p.pattern c.in_ok-ended.ensures.grows c.recall_sound.ensures.start in
    subst (λ q. IsEndedMatch q p.kind c.in-Some.ended) (sym same)
    (subst (IsEndedAnswer (match_question_of old p.pattern) p.kind) c.in-Some.is c.in_ok-ended.ensures.answer)

pub returns-in_err-format_match-in-Some-clause-none :
    goal.returns-in_err-format_match-in-Some-clause-none
returns-in_err-format_match-in-Some-clause-none g c = λ system is.
    let r = c.from_residual-in_err-format_match-in-Some in
    let halt = err_from_is_err_and r.result r.ensures.1 in
    out_of_memory _ _ c.args.request.now system c.args.pattern.now halt.1 halt.2

pub returns-in_ok-format_match-in-Some-clause-line : goal.returns-in_ok-format_match-in-Some-clause-line
returns-in_ok-format_match-in-Some-clause-line g c = λ system is.
    let p = c.args.pattern.now in
    let old = c.args.table.now in
    let new = c.find_shortest_match_with_end.new.table in
    let q : EverQuestion = record { matches = match_question_of old p.pattern; kind = p.kind } in
    let asked : IsEverQuestionFor system p q = record {
      question = c.table_has_match_question.ensures system old p.pattern is c.recall_sound.ensures.sound;
      pattern = refl;
    } in
    let same = question_same old new p.pattern c.in_ok-ended.ensures.grows c.recall_sound.ensures.start in
    let line : IsMatchLine c.args.request.now.runs q c.in_ok-format_match-in-Some.field-0.items =
    subst (λ m. IsMatchLine c.args.request.now.runs (record { matches = m; kind = p.kind }) c.in_ok-format_match-in-Some.field-0.items) same
    c.in_ok-format_match-in-Some.ensures in
    (q, asked, line)

pub returns-in-None-clause-line : goal.returns-in-None-clause-line
returns-in-None-clause-line g c = λ system is.
    let p = c.args.pattern.now in
    let q : EverQuestion = record { matches = match_question_of c.args.table.now p.pattern; kind = p.kind } in
    let asked : IsEverQuestionFor system p q = record {
      question = c.table_has_match_question.ensures system c.args.table.now p.pattern is c.recall_sound.ensures.sound;
      pattern = refl;
    } in
    (q, asked, subst (IsEndedAnswer q.matches q.kind) c.in-None.is c.in_ok-ended.ensures.answer)
