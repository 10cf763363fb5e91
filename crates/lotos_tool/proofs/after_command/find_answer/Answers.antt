use Rattle.std.proofs.Common.{[]}
use Rattle.std.proofs.lemmas.Result.{IfOk-weaker}
use Rattle.lotos_check.proofs.SameFault.{passed_on}
use Rattle.lotos_check.specs.CheckedView.{system_of}
use Rattle.lotos_pattern.specs.Patterns.{Pattern}
use Rattle.lotos_sets.specs.Behaviours.{IsFirstOversized, behaviour_of}
use Rattle.lotos_sets.specs.Following.{IfTooMany}
use Rattle.lotos_sets.specs.declared.follow_fault.FollowFault.TheVariants.{Memory}
use Rattle.lotos_tool.specs.AfterOutcome.{IsAfterQuestionOf}
use Rattle.lotos_tool.specs.AfterParts.{HasNoAnswer}
use Rattle.lotos_outcome.specs.QuestionParts.{words_of}
use Rattle.lotos_tool.proofs.AfterAnswers.{behaviour_is, err_more, no_answer}
use Rattle.lotos_tool.proofs.KnownWords.{have_gates}
use Rattle.lotos_tool.proofs.after_command.find_answer.Goals as goal

pub follow_words-requires : goal.follow_words-requires
follow_words-requires g c =
    let (s, sequence) = c.requires.sequence in
    let request = c.args.request.now in
    record {
      sequence = (request.strong, s, rw c.as_slice.ensures.value sequence.named);
      gates = rw (c.as_slice.ensures.value, c.new-sets.ensures.table)
          (have_gates request.strong (system_of c.args.system) c.in_ok-table.table (words_of request.words) s c.in_ok-table.ensures sequence.named
          sequence.known_gates);
    }

pub returns-in_err-table-clause-none : goal.returns-in_err-table-clause-none
returns-in_err-table-clause-none g c =
    passed_on (HasNoAnswer c.args.request.now (system_of c.args.system)) c.from_residual.result Memory c.from_residual.ensures.1 tt

pub returns-clause-answer : goal.returns-clause-answer
returns-clause-answer g c =
    let (s, sequence) = c.requires.sequence in
    let request = c.args.request.now in
    let system = system_of c.args.system in
    let v = c.new-sets.result in
    let p : Pattern = record { elements = []; strong = request.strong } in
    let is = c.table_has_match_question.ensures system c.in_ok-table.table p c.in_ok-table.ensures c.recall_sound.ensures.sound in
    let asked : IsAfterQuestionOf request system (record { behaviour = behaviour_of v; sequence = s }) = record {
      behaviour = behaviour_is system c.in_ok-table.table p v is c.new-sets.ensures.table c.new-sets.ensures.start;
      strong = c.new-sets.ensures.strong;
      sequence = sequence;
    } in
    IfOk-weaker c.follow_words.result _ _ (λ a h. (record { behaviour = behaviour_of v; sequence = s }, asked, h))
    (c.follow_words.ensures.answer request.strong s (rw c.as_slice.ensures.value sequence.named))

pub returns-clause-none : goal.returns-clause-none
returns-clause-none g c =
    let (s, sequence) = c.requires.sequence in
    let request = c.args.request.now in
    let system = system_of c.args.system in
    let v = c.new-sets.result in
    let p : Pattern = record { elements = []; strong = request.strong } in
    let is = c.table_has_match_question.ensures system c.in_ok-table.table p c.in_ok-table.ensures c.recall_sound.ensures.sound in
    let asked : IsAfterQuestionOf request system (record { behaviour = behaviour_of v; sequence = s }) = record {
      behaviour = behaviour_is system c.in_ok-table.table p v is c.new-sets.ensures.table c.new-sets.ensures.start;
      strong = c.new-sets.ensures.strong;
      sequence = sequence;
    } in
    err_more c.follow_words.result (λ f. IfTooMany f (IsFirstOversized (behaviour_of v) v.bound s)) (HasNoAnswer request system)
    (no_answer request system (behaviour_of v) s v.bound asked c.new-sets.ensures.bound)
    (c.follow_words.ensures.none request.strong s (rw c.as_slice.ensures.value sequence.named))
