use Rattle.std.proofs.Common.{◌≡◌, Some, false, map, rules, string_bytes, subst, sym, true}
use Rattle.std.specs.Prelude.{slice_get}
use Rattle.lotos_pattern.specs.PatternLabels.{Label, internal}
use Rattle.lotos_pattern.specs.Spelling.{EqualsIgnoringCase, IsWord, Names}
use Rattle.lotos_pattern.proofs.Words.{names_internal}
use Rattle.lotos_pattern.proofs.LabelWords.{first_word, named_more, names_some, no_internal, no_word, none_named, text_at}
use Rattle.lotos_pattern.proofs.label_words.check_label_words.Goals as goal

pub returns-then-not-is_word-clause-nothing : goal.returns-then-not-is_word-clause-nothing
returns-then-not-is_word-clause-nothing c =
    let n = c.loop-index.index in
    let text = c.as_str-word.result.now in
    let at : slice_get (map string_bytes c.args.words.now) n ≡ Some text =
    text_at c.args.words.now n _ text c.loop-index-test.true c.index-words-index.is c.as_str-word.ensures.value in
    let none : IsWord text → ⊥ = search rules in
    none_named c.args.strong (map string_bytes c.args.words.now) n text at (no_word c.args.strong text none)

pub returns-then-is_unobserved_internal-clause-cause : goal.returns-then-is_unobserved_internal-clause-cause
returns-then-is_unobserved_internal-clause-cause c =
    let n = c.loop-index.index in
    let text = c.as_str-word.result.now in
    let at : slice_get (map string_bytes c.args.words.now) n ≡ Some text =
    text_at c.args.words.now n _ text c.loop-index-test.true c.index-words-index.is c.as_str-word.ensures.value in
    let spelled : IsWord text = search rules in
    let hidden : (c.args.strong ≡ false) × EqualsIgnoringCase text internal = rw c.if-is_unobserved_internal.true at c.is_unobserved_internal.ensures in (
      hidden.0,
      first_word c.args.strong (map string_bytes c.args.words.now) n text at (λ word. Names true word internal) c.loop-index.invariant
          (names_internal text spelled hidden.1),
    )

pub returns-then-is_unobserved_internal-clause-nothing : goal.returns-then-is_unobserved_internal-clause-nothing
returns-then-is_unobserved_internal-clause-nothing c =
    let n = c.loop-index.index in
    let text = c.as_str-word.result.now in
    let at : slice_get (map string_bytes c.args.words.now) n ≡ Some text =
    text_at c.args.words.now n _ text c.loop-index-test.true c.index-words-index.is c.as_str-word.ensures.value in
    let hidden : (c.args.strong ≡ false) × EqualsIgnoringCase text internal = rw c.if-is_unobserved_internal.true at c.is_unobserved_internal.ensures in
    none_named c.args.strong (map string_bytes c.args.words.now) n text at
    (subst (λ strong. (l : Label) → Names strong text l → ⊥) (sym hidden.0) (no_internal text hidden.1))

pub loop-index-preserved : goal.loop-index-preserved
loop-index-preserved c =
    let n = c.loop-index.index in
    let text = c.as_str-word.result.now in
    let at : slice_get (map string_bytes c.args.words.now) n ≡ Some text =
    text_at c.args.words.now n _ text c.loop-index-test.true c.index-words-index.is c.as_str-word.ensures.value in
    let spelled : IsWord text = search rules in
    let seen : c.args.strong ≡ false → EqualsIgnoringCase text internal → ⊥ = rw c.if-is_unobserved_internal.false at c.is_unobserved_internal.ensures in
    let (l, names) = names_some c.args.strong text spelled seen in
    named_more c.args.strong (map string_bytes c.args.words.now) n text at c.loop-index.invariant l names
