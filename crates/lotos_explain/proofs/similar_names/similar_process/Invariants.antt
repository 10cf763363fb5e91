use Rattle.std.specs.Prelude.{IfSome, option_map}
use Rattle.lotos_text.specs.AstOf.{definitions_view}
use Rattle.lotos_check.specs.NameLists.{texts}
use Rattle.lotos_check.specs.Scope.{declared_names}
use Rattle.lotos_explain.specs.SimilarNames.{IsFrom}
use Rattle.lotos_explain.proofs.similar_names.similar_process.Given as goal

-- the closest so far is `best` or one of the names
abbrev pub invariant-loop-definition : goal.invariant-loop-definition
invariant-loop-definition l =
    IfSome l.closest (λ n. IsFrom (option_map (λ m. m.now) l.fn.best) (texts (declared_names (definitions_view l.fn.definitions))) n.now)
