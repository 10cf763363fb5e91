use Rattle.std.proofs.Common.{◌≡◌, ◌≤◌, ◌∙◌, List, Some, [], ◌∷◌, ◌++◌, ap, arith, get_or, length, map, refl, string_bytes, subst, sym, take, true}
use Rattle.std.specs.Prelude.{slice_get}
use Rattle.std.proofs.lemmas.List.{length-map, map-append, take_all}
use Rattle.lotos_pattern.specs.PatternLabels.{Label}
use Rattle.lotos_pattern.specs.Spelling.{IsWord, NamesEach, Text, texts_of}
use Rattle.lotos_pattern.proofs.LabelNames.{each_is_word, names_more}
use Rattle.lotos_pattern.proofs.Words.{take_at, word_at}
use Rattle.lotos_pattern.proofs.pattern_parser.printed_labels.Goals as goal

pub returns-then-not-is_word : goal.returns-then-not-is_word
returns-then-not-is_word c labels h =
    let here = word_at c.args.names.now c.loop-name.name-index _ c.loop-name-test.true in
    let spelled = each_is_word true (texts_of c.args.names.now) labels c.loop-name.name-index _ here h in
    let no = c.if-not-is_word.ensures.1 (subst IsWord (sym c.as_bytes.ensures.value) spelled) in
    let z : ⊥ = cc in z

pub loop-name-preserved : goal.loop-name-preserved
loop-name-preserved c =
    let names = texts_of c.args.names.now in
    let i = c.loop-name.name-index in
    let word : Text = (get_or c.args.names.now i (record { ref_ptr = (0, 0); now = [] })).now in
    let here : slice_get names i ≡ Some word = word_at c.args.names.now i _ c.loop-name-test.true in
    let spelled : IsWord word = subst IsWord c.as_bytes.ensures.value (c.if-not-is_word.ensures.0 refl) in
    let more = names_more true (take i names) (map string_bytes c.loop-name.labels.items) word (string_bytes c.in_ok-printed_label.field-0)
    c.loop-name.invariant (c.in_ok-printed_label.ensures spelled) in
    let labels : map string_bytes c.push.new.self.items ≡ map string_bytes c.loop-name.labels.items ++ string_bytes c.in_ok-printed_label.field-0 ∷ [] =
    ap (map string_bytes) c.in_ok-push.ensures.items ∙ map-append string_bytes c.loop-name.labels.items (c.in_ok-printed_label.field-0 ∷ []) in
    subst (λ (ns : List Text). NamesEach true ns (map string_bytes c.push.new.self.items)) (sym (take_at names i word here))
    (subst (λ (ls : List Label). NamesEach true (take i names ++ word ∷ []) ls) (sym labels) more)

pub returns : goal.returns
returns c =
    let names = texts_of c.args.names.now in
    let long : length names ≤ c.loop-name.name-index = let h = length-map c.args.names.now (λ name. name.now) in omega arith in
    subst (λ (ns : List Text). NamesEach true ns (map string_bytes c.loop-name.labels.items)) (take_all c.loop-name.name-index names long) c.loop-name.invariant
