use Rattle.std.proofs.Common.{lit<, refl}
use Rattle.std.proofs.lemmas.Iterator.Splits.{YieldsList-from_str_split}
use Rattle.lotos_pattern.specs.Spelling.{parts_of}
use Rattle.lotos_pattern.proofs.SplitNames.{all_split, one_more_split}
use Rattle.lotos_pattern.proofs.label_names.split_names.Goals as goal

pub loop-name-init : goal.loop-name-init
loop-name-init c =
    let all = YieldsList-from_str_split 44 c.args.word.now (lit< tt) c.split-name-items.ensures.text c.split-name-items.ensures.has_more
    c.split-name-items.ensures.pattern in
    (parts_of c.args.word.now, rw c.into_iter-name-iterator.ensures.into_iter_gives all, rw c.new-names.ensures.items refl)

pub loop-name-preserved : goal.loop-name-preserved
loop-name-preserved c =
    let before = c.loop-name.invariant in
    one_more_split c.loop-name.names.items c.in-Some.name c.push.new.self.items (parts_of c.args.word.now) before.0 before.1 before.2
    c.in-Some.ensures.steps c.in_ok-push.ensures.items

pub returns : goal.returns
returns c = let before = c.loop-name.invariant in all_split c.loop-name.names.items (parts_of c.args.word.now) before.0 before.1 before.2
    c.in-None.ensures.steps
