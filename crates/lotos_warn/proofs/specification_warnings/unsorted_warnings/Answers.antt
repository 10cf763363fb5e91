use Rattle.lotos_text.specs.AstOf.{definition_view}
use Rattle.lotos_warn.specs.Warnings.{IsWarning}
use Rattle.lotos_warn.proofs.Additions.{adds_alone}
use Rattle.lotos_warn.proofs.specification_warnings.unsorted_warnings.Goals as goal

pub returns : goal.returns
returns c = adds_alone c.new-warnings.result.items c.add_warnings.new.warnings.items (IsWarning (definition_view c.args.whole.now))
    c.new-warnings.ensures.items c.in_ok-add_warnings.ensures
