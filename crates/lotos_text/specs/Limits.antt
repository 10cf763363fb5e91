-- The limits of this project's profile.
use Rattle.std.specs.Prelude.{ℕ}

-- the most bytes that a text may have: 1,048,576
abbrev pub max_text_length : ℕ
max_text_length = 1048576

-- the most constructs that may be open at once: 200
abbrev pub max_nesting : ℕ
max_nesting = 200
