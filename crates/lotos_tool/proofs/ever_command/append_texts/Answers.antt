use Rattle.std.proofs.Common.{refl, string_bytes, subst, sym}
use Rattle.std.proofs.lemmas.Result.{on_ok_weaker}
use Rattle.lotos_terms.proofs.GrowingTables.{grows_same}
use Rattle.lotos_runs.specs.MatchQuestions.{match_question_of}
use Rattle.lotos_ever.specs.NamedRuns.{EndsAsDemanded}
use Rattle.lotos_tool.specs.EverParts.{HasTexts, IsRoundOf, question_about}
use Rattle.lotos_tool.proofs.MatchOutcomes.{label_texts, omitted_texts, origin_texts, round_of}
use Rattle.lotos_tool.proofs.ever_command.append_texts.Goals as goal

pub append_labels-requires-clause-round : goal.append_labels-requires-clause-round
append_labels-requires-clause-round c =
    let q = question_about c.args.table.now c.args.pattern.now in
    let is = c.requires in
    let round = round_of q c.args.ended.now.lasso is.found.first.matches.last is.lasso in
    (round.0, subst (λ names. IsRoundOf names c.args.ended.now.lasso round.0) (sym c.gates.ensures) round.1)

pub append_origins-requires : goal.append_origins-requires
append_origins-requires c =
    let held = c.args.table.now in
    let p = c.args.pattern.now in
    subst (λ run. EndsAsDemanded (match_question_of held p.pattern) p.kind run) (sym c.as_slice.ensures.value)
    (c.matches_end_as_demanded.ensures held held p.pattern p.kind c.args.ended.now.found c.recall_sound.ensures.sound (grows_same held) c.requires.found)

pub returns-in-Omitted : goal.returns-in-Omitted
returns-in-Omitted c = λ is.
    let q = question_about c.args.table.now c.args.pattern.now in
    subst (λ r. HasTexts r q is.found.run is.found.first.matches.last (string_bytes c.args.line.now) (string_bytes c.args.line.now)) (sym c.in-Omitted.is)
    (omitted_texts q c.args.ended.now is (string_bytes c.args.line.now) (string_bytes c.args.line.now) refl)

pub returns-in-Labels : goal.returns-in-Labels
returns-in-Labels c =
    let q = question_about c.args.table.now c.args.pattern.now in
    let old = string_bytes c.args.line.now in
    let new = string_bytes c.append_labels.new.line in
    on_ok_weaker c.append_labels.result (λ written is.
    subst (λ r. HasTexts r q is.found.run is.found.first.matches.last old new) (sym c.in-Labels.is)
    (label_texts q c.args.ended.now is old new (rw c.gates.ensures at written))) c.append_labels.ensures

pub returns-in-Origins : goal.returns-in-Origins
returns-in-Origins c =
    let q = question_about c.args.table.now c.args.pattern.now in
    let old = string_bytes c.args.line.now in
    let new = string_bytes c.append_origins.new.line in
    on_ok_weaker c.append_origins.result (λ written is.
    let (texts, named, made) = rw c.as_slice.ensures.value at written in
    subst (λ r. HasTexts r q is.found.run is.found.first.matches.last old new) (sym c.in-Origins.is)
    (origin_texts q c.args.ended.now is old new texts named made)) c.append_origins.ensures
