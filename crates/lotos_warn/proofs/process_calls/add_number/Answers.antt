use Rattle.lotos_warn.proofs.NameTests.{inserted_number, kept_indices}
use Rattle.lotos_warn.proofs.process_calls.add_number.Goals as goal

pub returns-clause-adds : goal.returns-clause-adds
returns-clause-adds c = inserted_number c.args.called.now.keys c.insert.new.self.keys c.args.process c.in_ok-insert.ensures.keys

pub returns-clause-keeps : goal.returns-clause-keeps
returns-clause-keeps c = kept_indices c.args.called.now.keys c.insert.new.self.keys c.args.process c.in_ok-insert.ensures.keys
