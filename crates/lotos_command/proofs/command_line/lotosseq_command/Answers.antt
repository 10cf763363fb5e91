use Rattle.std.proofs.Common.{◌≡◌, ◌∙◌, ap, true, codes, rules}
use Rattle.std.proofs.lemmas.Result.{IfOk-weaker}
use Rattle.clap.specs.Words.{App, app_of, new_app}
use Rattle.clap.specs.Simple.{on_top}
use Rattle.lotos_command.specs.CommandRules.{subcommand_apps, with_subcommands}
use Rattle.lotos_command.proofs.CommandParts.{gets_subcommands}
use Rattle.lotos_command.proofs.command_line.lotosseq_command.Goals as goal

abbrev bare_app : App
bare_app = on_top (λ s. record s { has_version = true; subcommand_required = true }) (new_app (codes "lotosseq"))

pub returns : goal.returns
returns c =
    let bare : app_of c.subcommand_required.result ≡ bare_app = search rules in
    IfOk-weaker c.subcommands-2.result _ _
    (λ m h. gets_subcommands _ _ subcommand_apps _ h c.in_ok-subcommands.ensures ∙ ap (λ (app : App). with_subcommands app subcommand_apps) bare)
    c.subcommands-2.ensures
