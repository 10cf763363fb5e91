use Rattle.std.proofs.Common.{subst}
use Rattle.lotos_tool.specs.ListingParts.{HasLastText}
use Rattle.lotos_tool.proofs.ListingProgress.{text_of_none}
use Rattle.lotos_tool.proofs.listing_output.text_of_last.Goals as goal

pub returns-in-None : goal.returns-in-None
returns-in-None c = λ names labels h. text_of_none names labels _ (subst (HasLastText names labels) c.in-None.is h)
