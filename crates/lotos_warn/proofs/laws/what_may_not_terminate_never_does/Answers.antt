use Rattle.lotos_text.specs.AstView.{body_of}
use Rattle.lotos_warn.proofs.NumberedTermination.{never_by_text}
use Rattle.lotos_warn.proofs.laws.what_may_not_terminate_never_does.Goals as goal

pub returns-clause-text : goal.returns-clause-text
returns-clause-text c = never_by_text

pub returns-clause-warning : goal.returns-clause-warning
returns-clause-warning c = λ whole name warning processes term.
    never_by_text whole warning.scope (body_of warning.definition) processes term warning.never
