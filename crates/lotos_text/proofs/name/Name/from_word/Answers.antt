use Rattle.std.proofs.Common.{map, sym, ap, ◌∙◌, subst}
use Rattle.std.proofs.lemmas.Str.{IsUtf8-from_ascii}
use Rattle.std.specs.Char.{to_ascii_uppercase}
use Rattle.lotos_text.specs.Names.{IsName}
use Rattle.lotos_text.proofs.WordBytes.{word_ascii, word_raised}
use Rattle.lotos_text.proofs.name.Name.from_word.Goals as goal

pub invariant_of-result : goal.invariant_of-result
invariant_of-result c =
    let raised = c.in_ok-text-in-Ok.ensures.ok ∙ ap (map to_ascii_uppercase) c.in-Ok.ensures.cases.0 in
    subst IsName (sym raised) (word_raised c.args.word.now c.requires)

pub unreachable-requires : goal.unreachable-requires
unreachable-requires c = c.in-Err.ensures.cases.0 (IsUtf8-from_ascii c.args.word.now (word_ascii c.args.word.now c.requires))
