use Rattle.std.proofs.Common.{◌≡◌, ◌+◌, drop}
use Rattle.lotos_text.specs.AstView.{inner_of}
use Rattle.lotos_text.specs.AstOf.{definition_view, definitions_view}
use Rattle.lotos_check.specs.Scope.{count}
use Rattle.lotos_check.proofs.process_scope.+count_inner.Given as goal

abbrev pub decreases-count_inner : goal.decreases-count_inner
decreases-count_inner l = goal.size-count_inner l

abbrev pub invariant-loop-inner : goal.invariant-loop-inner
invariant-loop-inner l = l.total + count (definitions_view (drop l.inner-index l.inner-items))
    ≡ count (inner_of (definition_view l.definition))
