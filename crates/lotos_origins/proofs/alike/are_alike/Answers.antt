use Rattle.std.proofs.Common.{◌∙◌, ◌<◌, ◌≤◌, ◌++◌, [], ◌∷◌, ap, arith, length}
use Rattle.lotos_origins.proofs.Likenesses.{depends_on, one_pair, pairs_within, settled}
use Rattle.lotos_origins.proofs.alike.are_alike.Goals as goal

pub loop-index-init : goal.loop-index-init
loop-index-init c =
    let (pairs, depends) = one_pair c.args.table.now.processes c.args.table.now.terms c.push.new.self.items (c.args.first, c.args.second)
    (c.in_ok-push.ensures.items ∙ ap (λ ps. ps ++ (c.args.first, c.args.second) ∷ []) c.new-pairs.ensures.items) (c.requires.first, c.requires.second) in
    record { pairs = pairs; depends = depends }

pub loop-index-preserved : goal.loop-index-preserved
loop-index-preserved c =
    let system = c.args.table.now.processes in
    let terms = c.args.table.now.terms in
    let so_far = c.loop-index.invariant in
    let old = c.loop-index.pairs.items in
    let new = c.add_parts.new.pairs.items in
    let p = c.index.result.now in
    let known = c.in_ok-likeness.ensures in
    let below : c.loop-index.index < length old = omega (arith, c.loop-index-test.true, c.len.ensures) in
    let added = c.in_ok-add_parts.ensures c.if-not-branch.false in
    record {
      pairs = pairs_within system terms p.0 p.1 old new c.in_ok-likeness.likeness so_far.pairs known added;
      depends = depends_on system terms (c.args.first, c.args.second) old new c.loop-index.index p c.in_ok-likeness.likeness below c.index.ensures known
          added so_far.depends;
    }

pub returns : goal.returns
returns c = λ _ t u first second.
    let ps = c.loop-index.pairs.items in
    let past : length ps ≤ c.loop-index.index = omega (arith, c.loop-index-test.false, c.len.ensures) in
    settled c.args.table.now.processes c.args.table.now.terms c.args.first c.args.second c.loop-index.index ps t u past c.loop-index.invariant.depends first
    second
