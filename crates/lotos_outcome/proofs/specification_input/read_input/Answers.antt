use Rattle.std.proofs.Common.{rules}
use Rattle.lotos_outcome.specs.RefusalCauses.IsUnreadInput.{too_long, unreadable}
use Rattle.lotos_outcome.proofs.specification_input.read_input.Goals as goal

pub returns-in-Err-Device-clause-refused : goal.returns-in-Err-Device-clause-refused
returns-in-Err-Device-clause-refused g c = unreadable (c.in-Err-Device.ensures.device (search rules))

pub returns-in-Err-TooLong-clause-refused : goal.returns-in-Err-TooLong-clause-refused
returns-in-Err-TooLong-clause-refused g c = too_long (c.in-Err-TooLong.ensures.too_long (search rules))
