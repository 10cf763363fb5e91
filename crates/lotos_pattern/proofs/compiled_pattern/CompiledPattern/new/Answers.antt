use Rattle.lotos_pattern.proofs.CompiledPatterns.{begun, only_end}
use Rattle.lotos_pattern.proofs.compiled_pattern.CompiledPattern.new.Goals as goal

pub invariant_of-result : goal.invariant_of-result
invariant_of-result c =
    let first = c.begin-first.ensures in
    begun _ c.begin-first.result c.accepts.result _ _ _ _ (record { begins = first.begins; viable = first.viable; states = first.states }) first.place_value
    c.accepts.ensures
    c.new-places.ensures.empty c.in_ok-number_of.ensures.put (only_end _ _ _ c.in_ok-push.ensures.items c.new-ends.ensures.items) c.new.ensures
