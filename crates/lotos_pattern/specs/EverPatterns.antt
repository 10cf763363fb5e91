-- Patterns as `ever` has them: the demand on the end may be about what can come after it.
use Rattle.std.specs.Prelude.{List, [], ◌∷◌, codes}
use Rattle.std.specs.Bool.{if◌then◌else◌}
use Rattle.std.specs.Str.{str_eq_ignore_ascii_case}
use Rattle.lotos_pattern.specs.Spelling.{Text}
use Rattle.lotos_pattern.specs.declared.ever_pattern.EndKind.{EndKind}
use Rattle.lotos_pattern.specs.declared.ever_pattern.EndKind.TheVariants as kind

-- what the word demands of what can come after the end: `<livelock>`, `<forever>` and `<never>` demand something of it,
-- and no other word does
abbrev pub kind_of_word : Text → EndKind
kind_of_word word =
    if str_eq_ignore_ascii_case word (codes "<livelock>") then kind.Livelock else
    (if str_eq_ignore_ascii_case word (codes "<forever>") then kind.Forever else
    (if str_eq_ignore_ascii_case word (codes "<never>") then kind.Never else kind.Refuses))

-- the first of the words that demands something of what can come after the end decides
abbrev pub first_kind : EndKind → EndKind → EndKind
first_kind kind.Refuses later = later
first_kind kind.Livelock later = kind.Livelock
first_kind kind.Forever later = kind.Forever
first_kind kind.Never later = kind.Never

-- what the words demand of what can come after the end: what the first of them does that demands something of it
abbrev pub kind_of_words : List Text → EndKind
kind_of_words [] = kind.Refuses
kind_of_words (word ∷ words) = first_kind (kind_of_word word) (kind_of_words words)

-- the word that stands in the place of a word of this kind where the end must refuse a set: `<livelock>` stands as
-- `<deadlock>` does, without a set, and `<forever>` and `<never>` as `<refuses>` does, before one
abbrev pub word_by_kind : EndKind → Text → Text
word_by_kind kind.Refuses word = word
word_by_kind kind.Livelock word = codes "<deadlock>"
word_by_kind kind.Forever word = codes "<refuses>"
word_by_kind kind.Never word = codes "<refuses>"

-- the word that stands in its place where the end must refuse a set: `<deadlock>` for `<livelock>`, `<refuses>` for
-- `<forever>` and `<never>`
abbrev pub word_for_refusal : Text → Text
word_for_refusal word = word_by_kind (kind_of_word word) word
