use Rattle.std.proofs.Common.{rules}
use Rattle.lotos_pattern.proofs.PlacesOfPrefixes.{matched, unmatched}
use Rattle.lotos_pattern.proofs.pattern.Pattern.accepts.Goals as goal

pub returns-then-not-is_accepting : goal.returns-then-not-is_accepting
returns-then-not-is_accepting c r stands = unmatched _ r c.args.place stands c.if-not-is_accepting.ensures

pub returns-then-is_some : goal.returns-then-is_some
returns-then-is_some c r stands =
    (matched _ r c.args.place stands c.if-not-is_accepting.ensures, search (rules, c.refusal.ensures, c.if-is_some.ensures))

pub returns-else-is_some : goal.returns-else-is_some
returns-else-is_some c r stands =
    (matched _ r c.args.place stands c.if-not-is_accepting.ensures, search (rules, c.refusal.ensures, c.if-is_some.ensures))
