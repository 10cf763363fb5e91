use Rattle.std.proofs.Common.{◌≤◌, ◌∙◌, ap, arith, length, map}
use Rattle.std.proofs.lemmas.List.{length-map, map-append, take_all}
use Rattle.lotos_pattern.specs.EverPatterns.{word_for_refusal}
use Rattle.lotos_pattern.specs.Spelling.{texts_of}
use Rattle.lotos_pattern.proofs.EverPatterns.{one_word_more}
use Rattle.lotos_pattern.proofs.Words.{word_at}
use Rattle.lotos_pattern.proofs.ever_pattern.words_for_refusal.Goals as goal

pub loop-word-preserved : goal.loop-word-preserved
loop-word-preserved c =
    one_word_more (texts_of c.args.words.now) c.loop-word.word-index _ (word_at c.args.words.now c.loop-word.word-index _ c.loop-word-test.true)
    (texts_of c.loop-word.for_refusal.items) _ c.word_for_refusal.result.now c.word_for_refusal.ensures c.loop-word.invariant
    (ap texts_of c.in_ok-push.ensures.items ∙ map-append (λ word. word.now) c.loop-word.for_refusal.items _)

pub returns : goal.returns
returns c =
    let words = texts_of c.args.words.now in
    let long : length words ≤ c.loop-word.word-index = let h = length-map c.args.words.now (λ word. word.now) in omega arith in
    c.loop-word.invariant ∙ ap (map word_for_refusal) (take_all c.loop-word.word-index words long)
