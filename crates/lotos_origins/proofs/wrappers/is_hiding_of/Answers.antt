use Rattle.std.proofs.Common.{◌≡◌, ◌∙◌, [], ap, get_or, subst, sym}
use Rattle.std.proofs.lemmas.Bool.Decides.{Decides-eqb}
use Rattle.std.proofs.lemmas.Option.{get_or_from_slice_get}
use Rattle.std.proofs.lemmas.Slice.Eq.{slice_eq-Decides}
use Rattle.lotos_origins.specs.Contexts.{with_hiding}
use Rattle.lotos_origins.specs.Wrappers.{with_wrapper}
use Rattle.lotos_origins.proofs.wrappers.is_hiding_of.Goals as goal

pub returns-in-Hiding : goal.returns-in-Hiding
returns-in-Hiding c = λ equal context.
    let store = c.args.nodes.now in
    let gates = c.args.gates.now in
    let others = c.gates.result.now in
    let same : gates ≡ others = (slice_eq-Decides Decides-eqb gates others _ c.eq.ensures).0 equal in
    let listed : get_or store.gates c.in-Hiding.others [] ≡ others = get_or_from_slice_get store.gates c.in-Hiding.others _ [] c.gates.ensures in
    subst (λ w. with_hiding context gates ≡ with_wrapper store context w) (sym c.in-Hiding.is) (ap (λ gs. with_hiding context gs) (same ∙ sym listed))
