use Rattle.std.specs.Prelude.{IfSome, option_map}
use Rattle.lotos_check.specs.NameLists.{texts}
use Rattle.lotos_explain.specs.SimilarNames.{IsFrom}
use Rattle.lotos_explain.proofs.similar_names.similar_gate.Given as goal

-- the closest so far is `best` or one of the gates
abbrev pub invariant-loop-gate : goal.invariant-loop-gate
invariant-loop-gate l = IfSome l.closest (λ n. IsFrom (option_map (λ m. m.now) l.fn.best) (texts l.fn.gates) n.now)
