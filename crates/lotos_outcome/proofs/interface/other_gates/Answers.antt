use Rattle.std.proofs.Common.{◌≡◌, rules, subst}
use Rattle.lotos_check.specs.HiddenGates.{IsWithout}
use Rattle.lotos_check.proofs.HiddenGates.{retain_is_without}
use Rattle.lotos_outcome.proofs.interface.other_gates.Goals as goal

pub returns : goal.returns
returns c =
    let kept = c.args.kept.now in
    let copied : c.append_names.new.all.items ≡ c.args.gates.now = search (rules, c.in_ok-append_names.ensures) in
    subst (λ names. IsWithout kept names c.retain.new.self.items) copied
    (retain_is_without _ kept _ (λ n b g k. search rules) c.append_names.new.all.items c.retain.new.self.items c.retain.ensures.filtered)
