use Rattle.std.proofs.Common.{drop}
use Rattle.std.specs.HashMap.{get_by}
use Rattle.std.specs.Str.{bytes_eq}
use Rattle.lotos_text.specs.AstOf.{definitions_view}
use Rattle.lotos_check.proofs.Bindings.{Built}
use Rattle.lotos_check.proofs.process_scope.bind_definitions.Given as goal

abbrev pub invariant-loop-definition : goal.invariant-loop-definition
invariant-loop-definition l =
    Built (definitions_view l.definitions) l.first (λ n. get_by (λ k. bytes_eq n k.now) l.bindings) l.process
    (definitions_view (drop l.definition-index l.definitions))
