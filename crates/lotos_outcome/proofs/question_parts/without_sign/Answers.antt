use Rattle.std.proofs.Common.{codes}
use Rattle.lotos_outcome.proofs.SignedLines.{after_minus, after_plus, strip_decides}
use Rattle.lotos_outcome.proofs.question_parts.without_sign.Goals as goal

pub returns-in-Some : goal.returns-in-Some
returns-in-Some c =
    let line = c.args.line.now in
    let h = rw c.in-Some.is at (strip_decides (codes "+ ") line c.strip_prefix.result c.strip_prefix.ensures.cases) in
    after_plus line c.in-Some.rest.now h.0 h.1

pub returns-in-None : goal.returns-in-None
returns-in-None c =
    let line = c.args.line.now in
    let h = rw c.in-None.is at (strip_decides (codes "+ ") line c.strip_prefix.result c.strip_prefix.ensures.cases) in
    after_minus c.args.line c.strip_prefix-in-None.result c.unwrap_or.result h
    (strip_decides (codes "- ") line c.strip_prefix-in-None.result c.strip_prefix-in-None.ensures.cases) c.unwrap_or.ensures
