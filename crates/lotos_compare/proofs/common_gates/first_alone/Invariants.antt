use Rattle.std.specs.Prelude.{List}
use Rattle.lotos_check.specs.NameLists.{In, Name}
use Rattle.lotos_store.specs.declared.label.Label.{Label as TermLabel}
use Rattle.lotos_terms.specs.TableView.{AreGateNames}
use Rattle.lotos_compare.specs.CommonLabels.{ArePartners, IsLabelOver}
use Rattle.lotos_compare.proofs.PartnerLabels.{HavePartnersTo}
use Rattle.lotos_compare.proofs.common_gates.first_alone.Given as goal

abbrev pub invariant-loop-label : goal.invariant-loop-label
invariant-loop-label l = (own other : List Name) → AreGateNames own → AreGateNames other → ArePartners own other l.partners →
    ((k : TermLabel) → In k l.labels → IsLabelOver own k) → HavePartnersTo own other l.labels l.others l.label-index
