use Rattle.std.proofs.Common.{refl, subst, ◌≡◌}
use Rattle.lotos_warn.specs.Additions.{AddsNames}
use Rattle.lotos_warn.proofs.NameTests.{inserted_name, new_name}
use Rattle.lotos_warn.proofs.gate_names.insert_new.Goals as goal

pub returns-clause-adds : goal.returns-clause-adds
returns-clause-adds c =
    subst (λ n. AddsNames (λ k. k.now) c.args.into.now.keys c.insert.new.self.keys (λ m. n ≡ m)) c.text.ensures.bytes
    (inserted_name (λ k. k.now) c.args.into.now.keys c.insert.new.self.keys c.text.result c.text.result.now refl c.in_ok-new.ensures.keys)

pub returns-clause-new : goal.returns-clause-new
returns-clause-new c =
    new_name (λ k. k.now) c.args.into.now.keys c.text.result.now c.args.name.now c.in_ok-new.new c.text.ensures.bytes c.in_ok-new.ensures.added
