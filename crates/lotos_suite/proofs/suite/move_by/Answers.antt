use Rattle.lotos_suite.proofs.suite.move_by.Goals as goal

pub leads_to-is_first-requires-clause-to : goal.leads_to-is_first-requires-clause-to
leads_to-is_first-requires-clause-to c = c.requires.inside c.args.label c.in-Some.target c.in-Some.ensures
