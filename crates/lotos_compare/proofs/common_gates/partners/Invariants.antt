use Rattle.lotos_compare.proofs.PartnerLabels.{ArePartnersTo}
use Rattle.lotos_compare.proofs.common_gates.partners.Given as goal

abbrev pub invariant-loop-name : goal.invariant-loop-name
invariant-loop-name l = ArePartnersTo l.names l.others l.name-index l.list.items
