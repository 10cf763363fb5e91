-- Which words of a pattern the words of the command line hold. Blanks are ASCII white space: the space, the tab, the
-- line feed, the form feed and the carriage return.
use Rattle.std.specs.Prelude.{Bool, true, false, List, [], ◌∷◌}
use Rattle.std.specs.Char.{is_ascii_whitespace}
use Rattle.std.specs.List.{filter, flat_map, slice_split}
use Rattle.clap.specs.Words.{Text}

-- whether the text has any byte
abbrev pub has_bytes : Text → Bool
has_bytes [] = false
has_bytes (b ∷ bs) = true

-- the parts of a word between its blanks, without the empty ones
abbrev pub parts_between_blanks : Text → List Text
parts_between_blanks word = filter has_bytes (slice_split is_ascii_whitespace word)

-- these parts, or the word itself if there are none
abbrev pub parts_or_itself : (word : Text) → List Text → List Text
parts_or_itself word [] = word ∷ []
parts_or_itself word (part ∷ parts) = part ∷ parts

-- the words of a pattern in a word of the command line: its parts between blanks; a word without any is itself one
abbrev pub pattern_words_in : Text → List Text
pattern_words_in word = parts_or_itself word (parts_between_blanks word)

-- the words of a pattern in these words of the command line: those in each of them, in order
abbrev pub pattern_words : List Text → List Text
pattern_words words = flat_map pattern_words_in words
