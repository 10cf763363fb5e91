use Rattle.std.proofs.Common.{◌∙◌, map, string_bytes, subst}
use Rattle.lotos_tool.specs.ProgramRuns.{ProgramRan}
use Rattle.lotos_tool.proofs.arguments.run_args.Goals as goal

pub returns : goal.returns
returns g c =
    let words = c.as_slice.ensures.value ∙ c.in-Ok-words_of.ensures in
    rw c.in-Ok.is (subst (λ ws. ProgramRan (map string_bytes ws) (g.R.Source.state c.args.reader.now) (g.R.Source.state c.run_words.new.reader)
    (g.W.Sink.state c.args.out.now) (g.W.Sink.state c.run_words.new.out) c.run_words.result) words c.run_words.ensures)
