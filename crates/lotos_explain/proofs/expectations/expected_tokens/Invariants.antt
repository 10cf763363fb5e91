use Rattle.std.specs.List.{AllByRecursion}
use Rattle.lotos_explain.specs.ExpectedTokens.{CouldBeAt}
use Rattle.lotos_explain.proofs.expectations.expected_tokens.Given as goal

-- each word so far could be at the offset
abbrev pub invariant-loop-candidate : goal.invariant-loop-candidate
invariant-loop-candidate l = AllByRecursion (λ c. CouldBeAt l.text l.at c.now) l.found.items
