-- What a command is after arguments or subcommands were added to it in turn.
use Rattle.std.proofs.Common.{◌≡◌, ◌∙◌, ◌||◌, Bool, true, false, sym, ap, ap₂, subst, rules, List, [], ◌∷◌, map}
use Rattle.std.specs.List.{list_all}
use Rattle.clap.specs.Words.{AddsArg, AddsInTurn, AddsSubcommand, App, Rule, app_of, rule_of, with_subcommand}
use Rattle.clap.specs.Walk.{is_simple_arg}
use Rattle.clap.specs.declared.builder.arg.Arg.{Arg}
use Rattle.clap.specs.declared.builder.command.Command.{Command}
use Rattle.clap.specs.declared.builder.command.Command.TheViews.{out-Command}
use Rattle.clap.proofs.WalkLemmas.{both}
use Rattle.lotos_command.specs.CommandRules.{AreCommandsOf, with_rules, with_subcommands}

-- an argument whose rule is simple is not global
not_global : (a : Arg) → is_simple_arg a ≡ true → a.global ≡ false
not_global a simple = search rules

abbrev all_simple : List Rule → Bool
all_simple = list_all (λ r. r.is_simple)

-- a command that gets arguments in turn gets their rules
gets_rules : (old new : Command) (args : List Arg) → AddsInTurn AddsArg old args new → all_simple (map rule_of args) ≡ true
    → app_of new ≡ with_rules (app_of old) (map rule_of args)
gets_rules old new [] h simple = ap app_of (sym h)
gets_rules old new (a ∷ args) h simple =
    let each = both _ _ simple in
    gets_rules h.0 new args h.2 each.1 ∙ ap (λ app. with_rules app (map rule_of args)) (h.1.shape (not_global a each.0))

-- the same for rules that are known
pub gets_these_rules : (old new : Command) (args : List Arg) (app : App) (rules : List Rule) → AddsInTurn AddsArg old args new → app_of old ≡ app
    → map rule_of args ≡ rules → all_simple rules ≡ true → app_of new ≡ with_rules app rules
gets_these_rules old new args app rules h was are simple = gets_rules old new args h (ap all_simple are ∙ simple) ∙ ap₂ with_rules was are

-- and it gets no global argument
stays_local_by : (old new : Command) (args : List Arg) → AddsInTurn AddsArg old args new → all_simple (map rule_of args) ≡ true
    → (out-Command old).has_globals ≡ false → (out-Command new).has_globals ≡ false
stays_local_by old new [] h simple local = subst (λ c. (out-Command c).has_globals ≡ false) h local
stays_local_by old new (a ∷ args) h simple local =
    let each = both _ _ simple in
    stays_local_by h.0 new args h.2 each.1 (h.1.globals ∙ ap₂ (λ (x y : Bool). x || y) local (not_global a each.0))

-- a command without global arguments has none after arguments with these rules, all simple, are added in turn
pub stays_local : (old new : Command) (args : List Arg) (rules : List Rule) → AddsInTurn AddsArg old args new
    → map rule_of args ≡ rules → all_simple rules ≡ true → (out-Command old).has_globals ≡ false → (out-Command new).has_globals ≡ false
stays_local old new args rules h are simple = stays_local_by old new args h (ap all_simple are ∙ simple)

-- a command that gets subcommands in turn, none of them with a global argument, gets what they are
pub gets_subcommands : (old new : Command) (apps : List App) (commands : List Command) → AddsInTurn AddsSubcommand old commands new
    → AreCommandsOf apps commands → app_of new ≡ with_subcommands (app_of old) apps
gets_subcommands old new [] [] h are = ap app_of (sym h)
gets_subcommands old new [] (c ∷ commands) h are = absurd are
gets_subcommands old new (a ∷ apps) [] h are = absurd are
gets_subcommands old new (a ∷ apps) (c ∷ commands) h are =
    gets_subcommands h.0 new apps commands h.2 are.1
    ∙ ap (λ app. with_subcommands app apps) (h.1.shape are.0.1 ∙ ap (λ (its : App). with_subcommand (app_of old) its.top) are.0.0)
