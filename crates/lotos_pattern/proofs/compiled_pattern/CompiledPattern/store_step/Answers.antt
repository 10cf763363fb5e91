use Rattle.std.proofs.Common.{subst, sym}
use Rattle.lotos_pattern.specs.StepRows.{AddsOnly}
use Rattle.lotos_pattern.specs.CompiledInvariant.{IsCompiled}
use Rattle.lotos_pattern.proofs.CompiledPatterns.{entry_added}
use Rattle.lotos_pattern.proofs.compiled_pattern.CompiledPattern.store_step.Goals as goal

pub invariant_of-self : goal.invariant_of-self
invariant_of-self c =
    let ends = c.self.inside.ends.items in
    let is = subst (λ v. IsCompiled v ends c.self.inside.rows) c.self.view_is c.self.invariant in
    let only = subst (λ n. AddsOnly c.self.inside.rows c.store.new.self n c.args.label c.args.next) c.number.ensures c.store.ensures in
    subst (λ v. IsCompiled v ends c.store.new.self) (sym c.self.view_is)
    (entry_added c.args.self.now ends c.self.inside.rows c.store.new.self c.args.place c.args.label c.args.next is c.requires.place c.requires.leads only)
