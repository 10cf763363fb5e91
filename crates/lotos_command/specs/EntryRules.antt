-- Which entries that clap finds in a command line can be read.
use Rattle.std.specs.Prelude.{◌≡◌, ◌⊎◌, ◌≤◌, ◌||◌, ℕ, true, List, Option, Some, None, codes, IfSome}
use Rattle.std.specs.Str.{bytes_eq}
use Rattle.std.specs.Str.Parse.{IsNumeral, without_leading_plus}
use Rattle.clap.specs.Words.{Row, Text, one_of}
use Rattle.lotos_command.specs.Request.{number}

-- a decimal numeral, perhaps after a plus sign, of a number within the bounds
pub record IsNumberIn (low high : ℕ) (text : Text) : Type 0 where
  pub numeral : IsNumeral 10 (without_leading_plus text)
  pub least : low ≤ number text
  pub most : number text ≤ high

-- the text of a flag: `true` or `false`
abbrev pub IsTruthText : Text → Type 0
IsTruthText text = (bytes_eq text (codes "true") || bytes_eq text (codes "false")) ≡ true

-- the entries of a subcommand can be read: numbers are within the bounds of their options, and flags have a truth value
pub record AreReadable (rows : List Row) : Type 0 where
  pub depth : IfSome (one_of (codes "depth") rows) (IsNumberIn 0 255)
  pub length : IfSome (one_of (codes "length") rows) (IsNumberIn 0 255)
  pub limit : IfSome (one_of (codes "limit") rows) (IsNumberIn 1 1000000000)
  pub terms : IfSome (one_of (codes "terms") rows) (IsNumberIn 1 1000000)
  pub states : IfSome (one_of (codes "states") rows) (IsNumberIn 1 100000000)
  pub extra : IfSome (one_of (codes "extra") rows) (IsNumberIn 0 3)
  pub explain : IfSome (one_of (codes "explain") rows) IsTruthText
  pub hidden : IfSome (one_of (codes "hidden") rows) IsTruthText
  pub strong : IfSome (one_of (codes "strong") rows) IsTruthText
  pub known : IfSome (one_of (codes "known") rows) IsTruthText
  pub progress : IfSome (one_of (codes "progress") rows) IsTruthText
  pub warn : IfSome (one_of (codes "warn") rows) IsTruthText
  pub within : IfSome (one_of (codes "within") rows) IsTruthText
  pub brief : IfSome (one_of (codes "brief") rows) IsTruthText

-- the name of one of the subcommands that have no pattern
abbrev pub IsOtherSubcommand : Text → Type 0
IsOtherSubcommand name =
    (name ≡ codes "after") ⊎ ((name ≡ codes "cover") ⊎ ((name ≡ codes "graph") ⊎ ((name ≡ codes "suite")
    ⊎ (name ≡ codes "compare"))))

-- the name of one of the subcommands
abbrev pub IsSubcommand : Text → Type 0
IsSubcommand name =
    (name ≡ codes "search") ⊎ ((name ≡ codes "check") ⊎ ((name ≡ codes "ever") ⊎ IsOtherSubcommand name))

-- a subcommand was given, and its entries can be read
abbrev pub FitsRequest : Option (Text × List Row) → Type 0
FitsRequest None = ⊥
FitsRequest (Some p) = IsSubcommand p.0 × AreReadable p.1
