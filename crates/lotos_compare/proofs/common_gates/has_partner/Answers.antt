use Rattle.lotos_compare.proofs.PartnerLabels.{partner_tells}
use Rattle.lotos_compare.proofs.common_gates.has_partner.Goals as goal

pub returns-in-Some : goal.returns-in-Some
returns-in-Some c = λ own other named named' are over.
    partner_tells own other c.args.label c.in-Some.other c.args.others.now (c.label_text_is_unique.ensures other named')
    (c.in-Some.ensures own other named named' are over) c.is_listed.result c.is_listed.ensures
