use Rattle.std.proofs.Common.{◌≡◌, ◌++◌, ◌∷◌, [], MatchBool, is_none, subst, sym}
use Rattle.lotos_suite.specs.declared.suite_lines.CutLine.{CutLine}
use Rattle.lotos_suite.proofs.suite_lines.add_leaf.Goals as goal

pub returns-in_ok-push : goal.returns-in_ok-push
returns-in_ok-push c = subst (λ b. MatchBool b ((l : CutLine) × (c.push.new.self.items ≡ c.args.lines.now.items ++ l ∷ []) ×
    (l.labels.items ≡ c.args.prefix.now.labels.items) × (l.is_refused ≡ is_none c.args.prefix.now.state)) (c.push.new.self.items ≡ c.args.lines.now.items))
    (sym c.if-is_leaf.true) (c.in_ok-line.line, c.in_ok-push.ensures.items, c.in_ok-line.ensures.labels, c.in_ok-line.ensures.refused)
