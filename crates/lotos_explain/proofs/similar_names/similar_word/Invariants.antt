use Rattle.std.specs.Prelude.{IfSome, None, map}
use Rattle.lotos_explain.specs.SimilarNames.{IsFrom, IsSimilar}
use Rattle.lotos_explain.proofs.similar_names.similar_word.Given as goal

-- the closest so far is one of the words, and similar
abbrev pub invariant-loop-word : goal.invariant-loop-word
invariant-loop-word l = IfSome l.closest (λ w. IsFrom None (map (λ v. v.now) l.fn.words) w.now) × IfSome l.closest (λ w. IsSimilar l.fn.name w.now)
