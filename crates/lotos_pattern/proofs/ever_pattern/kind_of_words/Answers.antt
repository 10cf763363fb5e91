use Rattle.std.proofs.Common.{arith}
use Rattle.std.proofs.lemmas.List.{length-map}
use Rattle.lotos_pattern.specs.Spelling.{texts_of}
use Rattle.lotos_pattern.proofs.EverPatterns.{kind_here, kind_later, kind_of_none}
use Rattle.lotos_pattern.proofs.Words.{word_at}
use Rattle.lotos_pattern.proofs.ever_pattern.kind_of_words.Goals as goal

pub returns-then-is_of_future : goal.returns-then-is_of_future
returns-then-is_of_future c =
    kind_here (texts_of c.args.words.now) c.loop-word.word-index _ (word_at c.args.words.now c.loop-word.word-index _ c.loop-word-test.true)
    c.kind_of_word-kind.result c.kind_of_word-kind.ensures c.if-is_of_future.ensures c.loop-word.invariant

pub loop-word-preserved : goal.loop-word-preserved
loop-word-preserved c =
    kind_later (texts_of c.args.words.now) c.loop-word.word-index _ (word_at c.args.words.now c.loop-word.word-index _ c.loop-word-test.true)
    c.kind_of_word-kind.result c.kind_of_word-kind.ensures c.if-is_of_future.ensures c.loop-word.invariant

pub returns : goal.returns
returns c =
    let long = length-map c.args.words.now (λ word. word.now) in
    kind_of_none (texts_of c.args.words.now) c.loop-word.word-index (omega (arith, c.loop-word-test.false, c.loop-word.auto.word-index-end))
    c.loop-word.invariant
