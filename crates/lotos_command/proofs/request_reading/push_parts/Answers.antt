use Rattle.std.proofs.Common.{◌∙◌, ◌∷◌, ◌++◌, [], ap, map, refl, string_bytes}
use Rattle.std.proofs.lemmas.List.{map-append}
use Rattle.lotos_command.specs.PatternWords.{parts_between_blanks}
use Rattle.std.specs.Str.Iter.{split_ascii_whitespace_text}
use Rattle.lotos_command.proofs.SplitWords.{no_more_part, one_more_part, yields_parts}
use Rattle.lotos_command.proofs.request_reading.push_parts.Goals as goal

pub loop-part-init : goal.loop-part-init
loop-part-init c =
    let text = ap split_ascii_whitespace_text c.into_iter-part-iterator.ensures.into_iter_gives ∙ c.split_ascii_whitespace-part-items.ensures.text in
    (parts_between_blanks c.args.text.now, yields_parts c.into_iter-part-iterator.result c.args.text.now text, refl)

pub loop-part-preserved : goal.loop-part-preserved
loop-part-preserved c =
    let before = c.loop-part.invariant in
    let pushed = ap (map string_bytes) c.in_ok-push.ensures.items ∙ map-append string_bytes c.loop-part.all.items (c.in_ok-from_str.field-0 ∷ [])
    ∙ ap (λ t. map string_bytes c.loop-part.all.items ++ t ∷ []) c.in_ok-from_str.ensures.ok in
    one_more_part c.next.new.self (map string_bytes c.loop-part.all.items) c.in-Some.part _ _ before.0 before.1 before.2 c.in-Some.ensures.steps pushed

pub returns : goal.returns
returns c =
    let before = c.loop-part.invariant in
    no_more_part c.next.new.self (map string_bytes c.loop-part.all.items) _ before.0 before.1 before.2 c.in-None.ensures.steps
