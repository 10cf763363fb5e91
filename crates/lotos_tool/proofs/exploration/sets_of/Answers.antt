use Rattle.std.proofs.Common.{[]}
use Rattle.lotos_check.specs.CheckedView.{system_of}
use Rattle.lotos_pattern.specs.Patterns.{Pattern}
use Rattle.lotos_tool.proofs.AfterAnswers.{behaviour_is}
use Rattle.lotos_tool.proofs.exploration.sets_of.Goals as goal

pub returns : goal.returns
returns c =
    let system = system_of c.args.system in
    let v = c.new-2.result in
    let p : Pattern = record { elements = []; strong = c.args.strong } in
    let is = c.table_has_match_question.ensures system c.in_ok-table.table p c.in_ok-table.ensures c.recall_sound.ensures.sound in
    record {
      behaviour = behaviour_is system c.in_ok-table.table p v is c.new-2.ensures.table c.new-2.ensures.start;
      observed = c.new-2.ensures.strong;
      bound = c.new-2.ensures.bound;
    }
