use Rattle.lotos_check.proofs.Faults.{repeat_faulty, misnamed_faulty, untyped_faulty, unguarded_faulty}
use Rattle.lotos_check.proofs.Rules.{walked, well_typed, flat_system}
use Rattle.lotos_check.proofs.pass_laws.passes_decide_static_rules.Goals as goal

pub returns-clause-typed : goal.returns-clause-typed
returns-clause-typed c whole found distinct adds typed = well_typed whole found distinct (walked whole found adds) typed

pub returns-clause-flat : goal.returns-clause-flat
returns-clause-flat c whole found formals start processes adds flattened named =
    flat_system whole found formals start processes (walked whole found adds) flattened named

pub returns-clause-repeated : goal.returns-clause-repeated
returns-clause-repeated c = repeat_faulty

pub returns-clause-name_fault : goal.returns-clause-name_fault
returns-clause-name_fault c = misnamed_faulty

pub returns-clause-functionality_fault : goal.returns-clause-functionality_fault
returns-clause-functionality_fault c whole found fault adds untyped = untyped_faulty whole found fault (walked whole found adds) untyped

pub returns-clause-unguarded : goal.returns-clause-unguarded
returns-clause-unguarded c = unguarded_faulty
