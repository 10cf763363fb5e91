use Rattle.std.proofs.Common.{rules, sym}
use Rattle.lotos_check.proofs.Bindings.{found_here, found_outside}
use Rattle.lotos_check.proofs.process_scope.+find_binding.Goals as goal

pub returns-in-Some-get : goal.returns-in-Some-get
returns-in-Some-get t c =
    found_here (λ k. k.now)
    c.args.name.now c.in-Some.outer.now c.in-Some.nearest.now c.in-Some-get.binding.now c.args.scopes.now (search rules)
    (sym c.in-Some-get.ensures.value)

pub returns-in-None-get : goal.returns-in-None-get
returns-in-None-get t c =
    found_outside (λ k. k.now) c.args.name.now c.in-Some.outer.now c.in-Some.nearest.now c.find_binding.result c.args.scopes.now
    (search rules) (search rules)
    c.find_binding.ensures
