use Rattle.std.proofs.Common.{false}
use Rattle.lotos_pattern.specs.Places.{Accepts}
use Rattle.lotos_pattern.specs.Spelling.{texts_of}
use Rattle.uses.proofs.PatternPlaces.{not_matched}
use Rattle.uses.proofs.pattern_matching.matches.Goals as goal
use Rattle.uses.proofs.pattern_matching.matches.Goals.{in-Some, in-None}

pub returns-clause-answer : goal.returns-clause-answer
returns-clause-answer c =
    let words = texts_of c.args.words.now in
    let p = c.in_ok-pattern.pattern in
    let s = texts_of c.args.sequence.now in
    let spelled = c.in_ok-pattern.ensures.pattern in
    let accepts : Accepts p s c.match-place_of.result =
    elim c.match-place_of.branch [
      | in-Some w ↦ rw w.result-is (w.accepts.ensures s w.in-Some.ensures)
      | in-None w ↦ rw w.result-is (not_matched p s w.in-None.ensures)
    ] in
    record {
      pattern = p;
      spelled = spelled;
      only = λ other h. c.pattern_is_unique.ensures false words other p h spelled;
      accepts = accepts;
    }
