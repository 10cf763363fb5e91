use Rattle.std.proofs.Common.{inl, refl}
use Rattle.std.proofs.lemmas.Result.{IfErr-weaker, IfOk-weaker}
use Rattle.lotos_check.specs.CheckedView.{system_of}
use Rattle.lotos_check.proofs.SameFault.{passed_on}
use Rattle.lotos_automaton.specs.BoundedBehaviours.{bounded_of}
use Rattle.lotos_tool.specs.ExplorationParts.{IsHalt}
use Rattle.lotos_tool.specs.GraphParts.{HasHalt}
use Rattle.lotos_tool.proofs.GraphAnswers.{halts_for, question_of}
use Rattle.lotos_tool.proofs.graph_command.find_text.Goals as goal

pub returns-in_err-sets-clause-halts : goal.returns-in_err-sets-clause-halts
returns-in_err-sets-clause-halts g c =
    passed_on (HasHalt c.args.request.now (system_of c.args.system)) c.from_residual.result _ c.from_residual.ensures.1 (inl (refl, refl))

pub returns-clause-automaton : goal.returns-clause-automaton
returns-clause-automaton g c =
    let request = c.args.request.now in
    let v = c.in_ok-sets.sets in
    let asked = question_of request (system_of c.args.system) v c.in_ok-sets.ensures in
    IfOk-weaker c.explored_text.result _ _ (λ a h. (bounded_of v request.states, asked, h)) c.explored_text.ensures.automaton

pub returns-clause-halts : goal.returns-clause-halts
returns-clause-halts g c =
    let request = c.args.request.now in
    let system = system_of c.args.system in
    let v = c.in_ok-sets.sets in
    let asked = question_of request system v c.in_ok-sets.ensures in
    IfErr-weaker c.explored_text.result (IsHalt (bounded_of v request.states)) (HasHalt request system)
    (λ h. halts_for request system (bounded_of v request.states) h asked) c.explored_text.ensures.halts
