use Rattle.std.proofs.Common.{◌≡◌, ◌∙◌, [], ap, get_or, subst, sym}
use Rattle.std.proofs.lemmas.Option.{get_or_from_slice_get}
use Rattle.std.proofs.lemmas.Slice.Eq.{slice_eq-Decides}
use Rattle.lotos_store.proofs.GatePairs.{pair_Decides}
use Rattle.lotos_origins.specs.Contexts.{with_relabelling}
use Rattle.lotos_origins.specs.Wrappers.{with_wrapper}
use Rattle.lotos_origins.proofs.wrappers.is_relabelling_by.Goals as goal

pub returns-in-Relabelling : goal.returns-in-Relabelling
returns-in-Relabelling c = λ equal context.
    let store = c.args.nodes.now in
    let pairs = c.args.pairs.now in
    let others = c.pairs.result.now in
    let same : pairs ≡ others = (slice_eq-Decides pair_Decides pairs others _ c.eq.ensures).0 equal in
    let listed : get_or store.pairs c.in-Relabelling.others [] ≡ others = get_or_from_slice_get store.pairs c.in-Relabelling.others _ [] c.pairs.ensures in
    subst (λ w. with_relabelling context pairs ≡ with_wrapper store context w) (sym c.in-Relabelling.is)
    (ap (λ ps. with_relabelling context ps) (same ∙ sym listed))
