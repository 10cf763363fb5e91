use Rattle.std.proofs.Common.{◌≡◌, map, refl, subst, sym, true}
use Rattle.std.specs.Char.{to_ascii_uppercase}
use Rattle.std.specs.String.{string_bytes}
use Rattle.lotos_pattern.specs.PatternLabels.{internal, termination}
use Rattle.lotos_pattern.specs.Spelling.{IsWord, Names, EqualsIgnoringCase}
use Rattle.lotos_pattern.proofs.Words.{if_ok, names_exit, names_gate, names_internal}
use Rattle.lotos_pattern.proofs.pattern_parser.printed_label.Goals as goal

pub returns-then-eq_ignore_ascii_case : goal.returns-then-eq_ignore_ascii_case
returns-then-eq_ignore_ascii_case c =
    let word = c.args.word.now in
    let reads : EqualsIgnoringCase word termination = c.if-eq_ignore_ascii_case.ensures.test.0 refl in
    if_ok (λ text. string_bytes text ≡ termination) (λ text. IsWord word → Names true word (string_bytes text))
    (λ text is spelled. subst (Names true word) (sym is) (names_exit true word spelled reads))
    c.from_str.result c.from_str.ensures.ok

pub returns-then-eq_ignore_ascii_case-2 : goal.returns-then-eq_ignore_ascii_case-2
returns-then-eq_ignore_ascii_case-2 c =
    let word = c.args.word.now in
    let reads : EqualsIgnoringCase word internal = c.if-eq_ignore_ascii_case-2.ensures.test.0 refl in
    if_ok (λ text. string_bytes text ≡ internal) (λ text. IsWord word → Names true word (string_bytes text))
    (λ text is spelled. subst (Names true word) (sym is) (names_internal word spelled reads))
    c.from_str-then-eq_ignore_ascii_case-2.result c.from_str-then-eq_ignore_ascii_case-2.ensures.ok

pub returns : goal.returns
returns c =
    let word = c.args.word.now in
    let no_exit : EqualsIgnoringCase word termination → ⊥ = λ reads. let equal = c.if-eq_ignore_ascii_case.ensures.test.1 reads in let z : ⊥ = cc in z in
    let no_internal : EqualsIgnoringCase word internal → ⊥ = λ reads. let equal = c.if-eq_ignore_ascii_case-2.ensures.test.1 reads in let z : ⊥ = cc in z in
    if_ok (λ text. string_bytes text ≡ map to_ascii_uppercase word) (λ text. IsWord word → Names true word (string_bytes text))
    (λ text is spelled. subst (Names true word) (sym is) (names_gate true word spelled no_exit no_internal)) c.to_ascii_uppercase.result
    c.to_ascii_uppercase.ensures.ok
