use Rattle.std.proofs.Common.{◌≡◌, ◌++◌, ◌∷◌, [], rules, string_bytes, subst, sym}
use Rattle.lotos_listing.specs.Derivations.{observed}
use Rattle.lotos_listing.specs.Question.{ArePrinted}
use Rattle.lotos_tool.specs.EverParts.{question_about}
use Rattle.lotos_tool.proofs.MatchOutcomes.{line_made}
use Rattle.lotos_tool.proofs.ever_command.format_match.Goals as goal

pub returns : goal.returns
returns c =
    let q = question_about c.args.table.now c.args.pattern.now in
    let is = c.requires in
    let shown = observed c.args.pattern.now.pattern.strong is.found.run in
    let begun = c.in_ok-line.ensures shown
    (subst (λ names. ArePrinted names c.as_slice.result.now shown) (sym c.gates.ensures)
    (subst (λ ks. ArePrinted q.matches.names ks shown) (sym c.as_slice.ensures.value) is.found.sequence)) in
    let made : c.into_bytes.result.items ≡ string_bytes c.append_texts.new.line ++ 10 ∷ [] =
    search (rules, c.into_bytes.ensures.value, c.in_ok-push.ensures.bytes) in
    line_made c.args.runs q c.args.ended.now is (string_bytes c.in_ok-line.line) (string_bytes c.append_texts.new.line) c.into_bytes.result.items begun
    (c.in_ok-append_texts.ensures is) made
