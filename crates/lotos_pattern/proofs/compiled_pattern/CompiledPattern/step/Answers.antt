use Rattle.lotos_pattern.proofs.CompiledPatterns.{answer_within, leads_within}
use Rattle.lotos_pattern.proofs.compiled_pattern.CompiledPattern.step.Goals as goal

pub returns-in-Some-clause-within : goal.returns-in-Some-clause-within
returns-in-Some-clause-within c =
    leads_within c.args.self.now c.args.self.now c.args.place c.args.label c.in-Some.next c.requires.place c.requires.label c.in-Some.ensures

pub returns-clause-within : goal.returns-clause-within
returns-clause-within c =
    answer_within c.args.self.now c.compute_step.new.self c.args.place c.args.label c.compute_step.result c.requires.place c.requires.label
    c.compute_step.ensures.leads
