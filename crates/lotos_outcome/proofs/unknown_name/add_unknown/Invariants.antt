use Rattle.lotos_pattern.specs.Spelling.{texts_of}
use Rattle.lotos_outcome.specs.UnknownNames.{AddsUnknown}
use Rattle.lotos_outcome.proofs.UnknownNames.{HasUnknownBefore}
use Rattle.lotos_outcome.proofs.unknown_name.add_unknown.Given as goal

-- the unknown names before the index are in the list
abbrev pub invariant-loop-name : goal.invariant-loop-name
invariant-loop-name l =
    AddsUnknown (HasUnknownBefore l.name-index l.gates (texts_of l.name-items)) l.number l.fn.unknown.items l.unknown.items
