use Rattle.std.proofs.Common.{subst}
use Rattle.std.specs.Prelude.{All}
use Rattle.lotos_pattern.specs.ElementView.{CanOccur}
use Rattle.lotos_pattern.proofs.pattern.Pattern.recall_observable.Goals as goal

pub returns : goal.returns
returns c = subst (λ p. All (CanOccur p.strong) p.elements) c.self.view_is c.self.invariant.observable
