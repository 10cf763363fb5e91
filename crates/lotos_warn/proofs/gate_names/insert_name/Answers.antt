use Rattle.std.proofs.Common.{refl, subst, ◌≡◌}
use Rattle.lotos_warn.specs.Additions.{AddsNames}
use Rattle.lotos_warn.proofs.NameTests.{inserted_name}
use Rattle.lotos_warn.proofs.gate_names.insert_name.Goals as goal

pub returns : goal.returns
returns c =
    subst (λ n. AddsNames (λ k. k.now) c.args.into.now.keys c.insert.new.self.keys (λ m. n ≡ m)) c.text.ensures.bytes
    (inserted_name (λ k. k.now) c.args.into.now.keys c.insert.new.self.keys c.text.result c.text.result.now refl c.in_ok-insert.ensures.keys)
