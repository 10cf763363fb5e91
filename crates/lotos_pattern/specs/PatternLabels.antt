-- Labels as printed texts.
use Rattle.std.specs.Prelude.{ℕ, List, codes}

-- a label by its printed text: a gate's name, `exit` or `i` (ISO; the printed texts are own)
abbrev pub Label : Type 0
Label = List ℕ

-- successful termination (ISO; its printed text is own)
abbrev pub termination : Label
termination = codes "exit"

-- the internal action, which is not observed (ISO; its printed text is own)
abbrev pub internal : Label
internal = codes "i"
