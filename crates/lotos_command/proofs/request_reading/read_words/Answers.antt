use Rattle.std.proofs.Common.{ap, codes, ◌∙◌, [], map, string_bytes, List, Option}
use Rattle.std.specs.Option.{unwrap_or}
use Rattle.std.proofs.lemmas.Result.{IfOk-weaker}
use Rattle.clap.specs.Words.{Text, found_of}
use Rattle.clap.proofs.WalkLemmas.{raw_values-rows}
use Rattle.lotos_command.specs.PatternWords.{pattern_words}
use Rattle.lotos_command.proofs.request_reading.read_words.Goals as goal

pub returns-in-Some : goal.returns-in-Some
returns-in-Some c =
    let given = c.in-Some.ensures ∙ raw_values-rows (found_of c.args.found.now) (codes "words") in
    IfOk-weaker c.split_texts.result _ _ (λ v h. h ∙ ap (λ o. pattern_words (unwrap_or o [])) given) c.split_texts.ensures

pub returns-in-None : goal.returns-in-None
returns-in-None c =
    let given = c.in-None.ensures ∙ raw_values-rows (found_of c.args.found.now) (codes "words") in
    ap (map string_bytes) c.new.ensures.items ∙ ap (λ (o : Option (List Text)). pattern_words (unwrap_or o [])) given
