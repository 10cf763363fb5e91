use Rattle.std.proofs.Common.{◌≤◌, ◌∙◌, ap, arith, length, map}
use Rattle.std.proofs.lemmas.List.{length-map, take_all}
use Rattle.lotos_pattern.specs.Spelling.{texts_of}
use Rattle.lotos_pattern.specs.ExactPatterns.{label_element}
use Rattle.lotos_pattern.proofs.ExactPatterns.{one_more_made}
use Rattle.lotos_pattern.proofs.Words.{word_at}
use Rattle.lotos_pattern.proofs.element.label_elements.Goals as goal

pub loop-label-preserved : goal.loop-label-preserved
loop-label-preserved c =
    let here = word_at c.args.labels.now c.loop-label.label-index _ c.loop-label-test.true in
    one_more_made (texts_of c.args.labels.now) _ _ c.loop-label.label-index _ _ here
    c.loop-label.invariant c.in_ok-label_element.ensures c.in_ok-push.ensures.items

pub returns : goal.returns
returns c =
    let names = texts_of c.args.labels.now in
    let long : length names ≤ c.loop-label.label-index = let h = length-map c.args.labels.now (λ name. name.now) in omega arith in
    c.loop-label.invariant ∙ ap (map label_element) (take_all c.loop-label.label-index names long)
