use Rattle.std.proofs.Common.{◌≤◌, ◌∙◌, arith, length, subst, sym}
use Rattle.std.specs.Prelude.{All}
use Rattle.std.proofs.lemmas.List.{length-map}
use Rattle.lotos_pattern.specs.Patterns.{IsObservable}
use Rattle.lotos_pattern.specs.Spelling.{texts_of}
use Rattle.lotos_pattern.proofs.ExactPatterns.{exact_demands, exact_is_pattern, exact_matches}
use Rattle.lotos_pattern.proofs.pattern.Pattern.exactly.Goals as goal

pub invariant_of-result : goal.invariant_of-result
invariant_of-result c =
    let seen = subst (λ p. All (IsObservable p.strong) (texts_of c.args.labels.now)) (sym c.self.view_is) c.requires.observable in
    let count = length-map c.args.labels.now (λ label. label.now) in
    let requested = c.requires.short in
    let short : length (texts_of c.args.labels.now) ≤ 255 = omega arith in
    exact_is_pattern _ _ _ _ c.in_ok-elements.ensures short seen

pub returns-clause-matches : goal.returns-clause-matches
returns-clause-matches c =
    let seen = subst (λ p. All (IsObservable p.strong) (texts_of c.args.labels.now)) (sym c.self.view_is) c.requires.observable in
    exact_matches _ _ _ _ c.in_ok-elements.ensures seen

pub returns-clause-refusal : goal.returns-clause-refusal
returns-clause-refusal c = exact_demands c.self.inside.strong _ _ _ c.in_ok-elements.ensures ∙ c.refusal.ensures
