use Rattle.std.proofs.Common.{◌∙◌, ap, sym}
use Rattle.lotos_terms.specs.TableView.{TableView}
use Rattle.lotos_automaton.specs.BoundedBehaviours.{bounded_of}
use Rattle.lotos_tool.proofs.exploration.explore_all.Goals as goal

pub returns-in-Ok-clause-automaton : goal.returns-in-Ok-clause-automaton
returns-in-Ok-clause-automaton g c =
    let (access, is) = c.in-Ok.ensures.automaton in record {
      access = access;
      automaton = is;
      clear = c.in-Ok.ensures.whole;
      names = c.find_automaton.ensures.keeps.table.names;
    }

pub halt_of-requires : goal.halt_of-requires
halt_of-requires g c =
    let names = c.gates.ensures ∙ ap (λ (t : TableView). t.names) c.table.ensures ∙ c.find_automaton.ensures.keeps.table.names in
    (bounded_of c.args.sets.now c.args.states, sym names, c.in-Err.ensures.stops)

pub returns-in-Err-clause-halts : goal.returns-in-Err-clause-halts
returns-in-Err-clause-halts g c =
    let names = c.gates.ensures ∙ ap (λ (t : TableView). t.names) c.table.ensures ∙ c.find_automaton.ensures.keeps.table.names in
    c.halt_of.ensures (bounded_of c.args.sets.now c.args.states) (sym names) c.in-Err.ensures.stops
