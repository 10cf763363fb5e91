use Rattle.lotos_store.specs.contracts.label.LabelOrd.TheImpl.Laws.{total-law}
use Rattle.lotos_listing.proofs.LabelOrder.{CmpOf}
use Rattle.lotos_compare.proofs.PartnerLabels.{search_tells}
use Rattle.lotos_compare.proofs.common_gates.is_listed.Goals as goal

pub returns : goal.returns
returns c =
    let found = c.binary_search.ensures in
    search_tells CmpOf total-law c.args.labels.now c.requires c.args.label c.equal_labels.ensures c.binary_search.result found.bound found.ok found.position
    c.is_ok.result c.is_ok.ensures.value
