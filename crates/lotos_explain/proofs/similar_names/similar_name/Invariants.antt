use Rattle.std.specs.Prelude.{IfSome, None}
use Rattle.lotos_explain.specs.SimilarNames.{IsFrom, IsSimilar}
use Rattle.lotos_explain.proofs.similar_names.similar_name.Given as goal

-- the closest so far is one of the names, and similar
abbrev pub invariant-loop-other : goal.invariant-loop-other
invariant-loop-other l = IfSome l.closest (λ n. IsFrom None l.fn.names n.now) × IfSome l.closest (λ n. IsSimilar l.fn.name n.now)
