use Rattle.std.proofs.Common.{◌≡◌, ◌<◌, ◌≤◌, ◌∙◌, ap, length, get_or, refl, arith}
use Rattle.std.specs.Prelude.{string_bytes}
use Rattle.std.proofs.lemmas.List.{take_all}
use Rattle.lotos_warn.specs.ShownNames.{shown_names}
use Rattle.lotos_warn.proofs.ShownTexts.{shown_to}
use Rattle.lotos_warn.proofs.shown_name.ShownNames.of.Goals as goal

pub loop-index-preserved : goal.loop-index-preserved
loop-index-preserved c =
    shown_to c.args.names.now c.loop-index.index c.index-names-index.result (get_or c.args.names.now c.loop-index.index c.index-names-index.result)
    (string_bytes c.loop-index.text) (string_bytes c.push_shown.new.text)
    (omega arith) refl c.loop-index.invariant (let added = c.in_ok-push_shown.ensures in let item = c.index-names-index.is in cc)

pub returns : goal.returns
returns c =
    c.loop-index.invariant ∙ ap shown_names (take_all c.loop-index.index c.args.names.now (omega arith))
