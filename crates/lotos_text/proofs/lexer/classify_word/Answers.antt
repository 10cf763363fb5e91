use Rattle.std.proofs.lemmas.Bool.{iff_false}
use Rattle.lotos_text.proofs.Reserved.{row_out}
use Rattle.lotos_text.proofs.lexer.classify_word.Goals as goal

pub loop-word-preserved : goal.loop-word-preserved
loop-word-preserved c =
    row_out _ c.loop-word.word-index _ _ c.loop-word-test.true (iff_false c.eq_ignore_ascii_case.ensures.test c.if-eq_ignore_ascii_case.false)
    c.loop-word.invariant
