use Rattle.std.proofs.Common.{[], subst, sym}
use Rattle.lotos_suite.specs.CoverListings.{IsCoverQuestionOf}
use Rattle.lotos_suite.proofs.laws.begun_cover_search_has_question.Goals as goal

pub returns : goal.returns
returns c = λ system held strong terms states mark s table sound begun.
    let is = c.table_has_match_question.ensures system held (record { elements = []; strong = strong }) table sound in
    subst (IsCoverQuestionOf system) (sym begun.question) (record { named = is.named; gates = is.gates; processes = is.processes; start = is.start })
