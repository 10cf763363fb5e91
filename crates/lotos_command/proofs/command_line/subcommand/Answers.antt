use Rattle.std.proofs.Common.{◌≡◌, refl, false, rules}
use Rattle.std.proofs.lemmas.Result.{IfOk-weaker}
use Rattle.clap.specs.Words.{app_of, new_app}
use Rattle.clap.specs.declared.builder.command.Command.TheViews.{out-Command}
use Rattle.lotos_command.proofs.CommandParts.{gets_these_rules, stays_local}
use Rattle.lotos_command.proofs.command_line.subcommand.Goals as goal

pub returns : goal.returns
returns c =
    let bare : app_of c.after_help.result ≡ new_app c.args.name.now = search rules in
    let local : (out-Command c.after_help.result).has_globals ≡ false = search rules in
    IfOk-weaker c.args-2.result _ _ (λ m h. (gets_these_rules _ _ _ _ _ h bare refl c.requires, stays_local _ _ _ _ h refl c.requires local))
    c.args-2.ensures
