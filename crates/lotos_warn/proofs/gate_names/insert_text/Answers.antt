use Rattle.std.proofs.Common.{refl}
use Rattle.lotos_warn.proofs.NameTests.{inserted_name}
use Rattle.lotos_warn.proofs.gate_names.insert_text.Goals as goal

pub returns : goal.returns
returns c = inserted_name (λ k. k.now) c.args.into.now.keys c.insert.new.self.keys c.args.name c.args.name.now refl c.in_ok-insert.ensures.keys
