use Rattle.std.specs.Prelude.{None, map}
use Rattle.lotos_explain.proofs.SimilarNames.{from_more, from_nothing, word_located}
use Rattle.lotos_explain.proofs.similar_names.similar_word.Goals as goal

pub loop-word-preserved : goal.loop-word-preserved
loop-word-preserved c =
    let words = map (λ v. v.now) c.args.words.now in
    let (before, similar) = c.loop-word.invariant in (
      from_more (λ k. k.now) None c.loop-word.closest c.in_ok-closest.closest words _
          (word_located c.args.words.now c.loop-word.word-index _ c.loop-word-test.true) before c.in_ok-closest.ensures.from,
      c.in_ok-closest.ensures.similar similar,
    )

pub returns-clause-among : goal.returns-clause-among
returns-clause-among c = from_nothing (λ k. k.now) c.loop-word.closest (map (λ v. v.now) c.args.words.now) c.loop-word.invariant.0
