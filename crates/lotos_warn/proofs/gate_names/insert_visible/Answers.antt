use Rattle.std.proofs.Common.{map, ap}
use Rattle.std.proofs.lemmas.Result.{on_ok_weaker}
use Rattle.lotos_check.specs.NameLists.{In, texts}
use Rattle.lotos_warn.specs.Additions.{IsVisible}
use Rattle.lotos_warn.proofs.Additions.{adds_as, adds_alone}
use Rattle.lotos_warn.proofs.NameTests.{visible_as}
use Rattle.lotos_warn.proofs.gate_names.insert_visible.Goals as goal

pub returns : goal.returns
returns c =
    let names = map (λ k. k.now) c.args.from.now in
    let hidden = map (λ k. k.now) c.insert_names.new.into.keys in
    let alone = adds_alone (map (λ k. k.now) c.new-hidden.result.keys) hidden (λ n. In n (texts c.args.gates.now))
    (ap (map (λ k. k.now)) c.new-hidden.ensures.empty) c.in_ok-insert_names.ensures in
    on_ok_weaker c.insert_others.result
    (λ h. adds_as (map (λ k. k.now) c.args.into.now.keys) (map (λ k. k.now) c.insert_others.new.into.keys)
    (λ n. IsVisible hidden names n) (λ n. IsVisible (texts c.args.gates.now) names n) (visible_as hidden (texts c.args.gates.now) names alone) h)
    c.insert_others.ensures
