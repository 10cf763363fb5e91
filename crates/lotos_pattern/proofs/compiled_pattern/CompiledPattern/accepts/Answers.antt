use Rattle.std.proofs.Common.{arith, get_or, subst, ◌≡◌}
use Rattle.lotos_pattern.specs.CompiledInvariant.{IsCompiled}
use Rattle.lotos_pattern.proofs.CompiledPatterns.{end_read}
use Rattle.lotos_pattern.proofs.compiled_pattern.CompiledPattern.accepts.Goals as goal

pub index-requires : goal.index-requires
index-requires c =
    let is = subst (λ v. IsCompiled v c.self.inside.ends.items c.self.inside.rows) c.self.view_is c.self.invariant in
    let enough = is.enough_ends in
    let long = c.self.inside.ends.ok.0 in
    omega arith

pub returns : goal.returns
returns c = λ from r at stands.
    let is = subst (λ v. IsCompiled v c.self.inside.ends.items c.self.inside.rows) c.self.view_is c.self.invariant in
    let read = subst (λ n. c.index.result.now ≡ get_or c.self.inside.ends.items n c.index.result.now) c.number.ensures c.index.ensures in
    end_read c.args.self.now c.self.inside.ends.items c.self.inside.rows c.args.place c.index.result.now from r is read at stands
