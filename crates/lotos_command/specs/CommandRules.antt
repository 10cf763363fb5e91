-- The command line of the program, in clap's definitions.
use Rattle.std.specs.Prelude.{◌≡◌, ℕ, List, [], ◌∷◌, Some, true, false, codes, pos, ⊤}
use Rattle.clap.specs.Words.{App, Rule, Text, app_of, new_app, new_rule, with_rule, with_subcommand}
use Rattle.clap.specs.Lexer.{usize_max}
use Rattle.clap.specs.Simple.{on_top}
use Rattle.clap.specs.declared.builder.command.Command.{Command}
use Rattle.clap.specs.declared.builder.command.Command.TheViews.{out-Command as fields_of}
use Rattle.clap.specs.declared.builder.action.ArgAction.TheVariants.{Append, Set, SetTrue}
use Rattle.clap.specs.declared.builder.value_parser.ValueParser.TheVariants.{Signed}

-- `--NAME VALUE`, with any text
abbrev pub option_rule : Text → Rule
option_rule name = record (new_rule name) {
  long = Some name;
  action = Some Set;
  value_names = 1;
}

-- `--depth N` or `--length N`, with a number from 0 to 255
abbrev pub extent_rule : Text → Rule
extent_rule name = record (option_rule name) { parser = Some (Signed (pos 0) (pos 255)) }

-- `--NAME N`, with a number from 1 to this one
abbrev pub number_rule : Text → ℕ → Rule
number_rule name most = record (option_rule name) { parser = Some (Signed (pos 1) (pos most)) }

-- `--terms N`, with a number from 1 to 1,000,000; 100,000 if it is not given
abbrev pub terms_rule : Rule
terms_rule = record (number_rule (codes "terms") 1000000) { defaults = codes "100000" ∷ [] }

-- `--states N`, with a number from 1 to 100,000,000; 1,000,000 if it is not given
abbrev pub states_rule : Rule
states_rule = record (number_rule (codes "states") 100000000) { defaults = codes "1000000" ∷ [] }

-- `--extra K`, with a number from 0 to 3; 0 if it is not given
abbrev pub extra_rule : Rule
extra_rule = record (option_rule (codes "extra")) {
  parser = Some (Signed (pos 0) (pos 3));
  defaults = codes "0" ∷ [];
}

-- `--NAME`, which takes no value
abbrev pub flag_rule : Text → Rule
flag_rule name = record (new_rule name) {
  long = Some name;
  action = Some SetTrue;
}

-- `WORD ..`, any number of words that are no option, in order
abbrev pub words_rule : Rule
words_rule = record (new_rule (codes "words")) {
  action = Some Append;
  range = Some (record { start_inclusive = 0; end_inclusive = usize_max });
  value_names = 1;
}

-- the command with these arguments added, in this order
abbrev pub with_rules : App → List Rule → App
with_rules app [] = app
with_rules app (rule ∷ rules) = with_rules (with_rule app rule) rules

-- the arguments of `search [--depth N] [--length N] [--limit N] [--terms N] [--after LINE] [--explain] [--hidden]
-- [--hide GATES] [--only GATES] [--strong] [--known] [--progress] [--brief] [WORD ..]`; just one of the depth and the
-- length, and at most one of `--hide` and `--only`, make a request
abbrev pub search_rules : List Rule
search_rules =
    extent_rule (codes "depth") ∷ extent_rule (codes "length") ∷ number_rule (codes "limit") 1000000000 ∷ terms_rule
    ∷ option_rule (codes "after") ∷ flag_rule (codes "explain") ∷ flag_rule (codes "hidden")
    ∷ option_rule (codes "hide") ∷ option_rule (codes "only") ∷ flag_rule (codes "strong") ∷ flag_rule (codes "known")
    ∷ flag_rule (codes "progress") ∷ flag_rule (codes "brief") ∷ words_rule ∷ []

-- the arguments of `check [--explain] [--warn] [--brief]`
abbrev pub check_rules : List Rule
check_rules = flag_rule (codes "explain") ∷ flag_rule (codes "warn") ∷ flag_rule (codes "brief") ∷ []

-- the arguments of `ever [--states N] [--explain] [--hidden] [--hide GATES] [--only GATES] [--strong] [--progress]
-- [--brief] [WORD ..]`; at most one of `--hide` and `--only` makes a request
abbrev pub ever_rules : List Rule
ever_rules =
    states_rule ∷ flag_rule (codes "explain") ∷ flag_rule (codes "hidden") ∷ option_rule (codes "hide")
    ∷ option_rule (codes "only") ∷ flag_rule (codes "strong") ∷ flag_rule (codes "progress") ∷ flag_rule (codes "brief")
    ∷ words_rule ∷ []

-- the arguments of `after [--terms N] [--hide GATES] [--only GATES] [--strong] [--progress] [--brief] [LABEL ..]`; at
-- most one of `--hide` and `--only` makes a request
abbrev pub after_rules : List Rule
after_rules =
    terms_rule ∷ option_rule (codes "hide") ∷ option_rule (codes "only") ∷ flag_rule (codes "strong")
    ∷ flag_rule (codes "progress") ∷ flag_rule (codes "brief") ∷ words_rule ∷ []

-- the arguments of `cover [--limit N] [--terms N] [--states N] [--after LINE] [--hide GATES] [--only GATES] [--strong]
-- [--progress] [--brief]`; at most one of `--hide` and `--only` makes a request
abbrev pub cover_rules : List Rule
cover_rules =
    number_rule (codes "limit") 1000000000 ∷ terms_rule ∷ states_rule ∷ option_rule (codes "after")
    ∷ option_rule (codes "hide") ∷ option_rule (codes "only") ∷ flag_rule (codes "strong")
    ∷ flag_rule (codes "progress") ∷ flag_rule (codes "brief") ∷ []

-- the arguments of `graph [--terms N] [--states N] [--hide GATES] [--only GATES] [--strong] [--progress] [--brief]`; at
-- most one of `--hide` and `--only` makes a request
abbrev pub graph_rules : List Rule
graph_rules =
    terms_rule ∷ states_rule ∷ option_rule (codes "hide") ∷ option_rule (codes "only") ∷ flag_rule (codes "strong")
    ∷ flag_rule (codes "progress") ∷ flag_rule (codes "brief") ∷ []

-- the arguments of `suite [--extra K] [--limit N] [--terms N] [--states N] [--after LINE] [--hide GATES] [--only GATES]
-- [--strong] [--progress] [--brief]`; at most one of `--hide` and `--only` makes a request
abbrev pub suite_rules : List Rule
suite_rules =
    extra_rule ∷ number_rule (codes "limit") 1000000000 ∷ terms_rule ∷ states_rule ∷ option_rule (codes "after")
    ∷ option_rule (codes "hide") ∷ option_rule (codes "only") ∷ flag_rule (codes "strong")
    ∷ flag_rule (codes "progress") ∷ flag_rule (codes "brief") ∷ []

-- the arguments of `compare [--within] [--terms N] [--states N] [--hide GATES] [--only GATES] [--strong]
-- [--progress] [--brief]`; at most one of `--hide` and `--only` makes a request
abbrev pub compare_rules : List Rule
compare_rules =
    flag_rule (codes "within") ∷ terms_rule ∷ states_rule ∷ option_rule (codes "hide") ∷ option_rule (codes "only")
    ∷ flag_rule (codes "strong") ∷ flag_rule (codes "progress") ∷ flag_rule (codes "brief") ∷ []

-- the subcommand with this name and these arguments, which are in the order of its help
abbrev pub subcommand_app : Text → List Rule → App
subcommand_app name rules = with_rules (new_app name) rules

-- the command with these subcommands added, in this order
abbrev pub with_subcommands : App → List App → App
with_subcommands app [] = app
with_subcommands app (subcommand ∷ subcommands) = with_subcommands (with_subcommand app subcommand.top) subcommands

-- the subcommands, in the order of the help
abbrev pub subcommand_apps : List App
subcommand_apps =
    subcommand_app (codes "search") search_rules ∷ subcommand_app (codes "check") check_rules
    ∷ subcommand_app (codes "ever") ever_rules ∷ subcommand_app (codes "after") after_rules
    ∷ subcommand_app (codes "cover") cover_rules ∷ subcommand_app (codes "graph") graph_rules
    ∷ subcommand_app (codes "suite") suite_rules ∷ subcommand_app (codes "compare") compare_rules ∷ []

-- `lotosseq`, the command line as clap reads it: it has a version and needs one of its subcommands
abbrev pub lotosseq : App
lotosseq =
    with_subcommands
    (on_top (λ s. record s { has_version = true; subcommand_required = true }) (new_app (codes "lotosseq")))
    subcommand_apps

-- the command is this one, and no argument of it is global
abbrev pub IsCommandOf : App → Command → Type 0
IsCommandOf app command = (app_of command ≡ app) × ((fields_of command).has_globals ≡ false)

-- the commands are these, in this order
abbrev pub AreCommandsOf : List App → List Command → Type 0
AreCommandsOf [] [] = ⊤
AreCommandsOf [] (command ∷ commands) = ⊥
AreCommandsOf (app ∷ apps) [] = ⊥
AreCommandsOf (app ∷ apps) (command ∷ commands) = IsCommandOf app command × AreCommandsOf apps commands
