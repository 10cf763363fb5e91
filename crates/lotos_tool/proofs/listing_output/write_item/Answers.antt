use Rattle.std.proofs.Common.{◌≡◌, ◌∙◌, ◌++◌, ◌∷◌, [], ap, subst, sym}
use Rattle.std.specs.Io.KnownBytes.{Appends}
use Rattle.lotos_listing.specs.Question.{ArePrinted}
use Rattle.lotos_device.specs.ByteOutput.{AppendsPart}
use Rattle.lotos_output.specs.ItemRuns.{AreRunTexts, runs_of, runs_view}
use Rattle.lotos_output.specs.NamedRuns.{writes_runs}
use Rattle.lotos_output.specs.OutputLines.{run_text}
use Rattle.lotos_tool.specs.ListingQuestions.{names_of}
use Rattle.lotos_tool.specs.WrittenItems.{item_line}
use Rattle.lotos_tool.proofs.listing_output.write_item.Goals as goal

pub returns-in-Ok-write_bytes-clause-whole : goal.returns-in-Ok-write_bytes-clause-whole
returns-in-Ok-write_bytes-clause-whole g c =
    let names = names_of (g.S.ListingSearch.state c.args.search.now).question in
    let view = runs_view c.args.runs.now in
    let (item, printed) = c.requires.printed in
    let (w, texts, made) = c.in-Ok-complete_line.ensures.whole in
    let shown = subst (λ ns. ArePrinted ns c.as_slice-sequence.result.now item.sequence) (sym c.gates-gates.ensures)
    (subst (λ ks. ArePrinted names ks item.sequence) (sym c.as_slice-sequence.ensures.value) printed.sequence) in
    let begun = c.in-Ok.ensures item.sequence shown in
    let texts_are = subst (λ ns. AreRunTexts ns view c.args.found.now.word.items w) c.gates-gates.ensures
    (subst (λ ks. AreRunTexts c.gates-gates.result.now view ks w) c.as_slice.ensures.value texts) in
    let line : c.as_bytes.result.now ≡ item_line view (record { sequence = item.sequence; run = w }) =
    c.as_bytes.ensures.value ∙ made ∙ ap (λ x. x ++ run_text (writes_runs (runs_of view)) w ++ 10 ∷ []) begun in (
      record { sequence = item.sequence; run = w },
      record { sequence = printed.sequence; run = texts_are },
      subst (Appends (g.W.Sink.state c.args.writer.now).written (g.W.Sink.state c.write_bytes.new.writer).written) line c.in-Ok-write_bytes.ensures.whole,
    )

pub returns-in-Err-clause-part : goal.returns-in-Err-clause-part
returns-in-Err-clause-part g c = λ write.
    let names = names_of (g.S.ListingSearch.state c.args.search.now).question in
    let view = runs_view c.args.runs.now in
    let (item, printed) = c.requires.printed in
    let (w, texts, made) = c.in-Ok-complete_line.ensures.whole in
    let shown = subst (λ ns. ArePrinted ns c.as_slice-sequence.result.now item.sequence) (sym c.gates-gates.ensures)
    (subst (λ ks. ArePrinted names ks item.sequence) (sym c.as_slice-sequence.ensures.value) printed.sequence) in
    let begun = c.in-Ok.ensures item.sequence shown in
    let texts_are = subst (λ ns. AreRunTexts ns view c.args.found.now.word.items w) c.gates-gates.ensures
    (subst (λ ks. AreRunTexts c.gates-gates.result.now view ks w) c.as_slice.ensures.value texts) in
    let line : c.as_bytes.result.now ≡ item_line view (record { sequence = item.sequence; run = w }) =
    c.as_bytes.ensures.value ∙ made ∙ ap (λ x. x ++ run_text (writes_runs (runs_of view)) w ++ 10 ∷ []) begun in (
      record { sequence = item.sequence; run = w },
      record { sequence = printed.sequence; run = texts_are },
      subst (AppendsPart (g.W.Sink.state c.args.writer.now).written (g.W.Sink.state c.write_bytes.new.writer).written) line c.in-Err.ensures.part,
    )
