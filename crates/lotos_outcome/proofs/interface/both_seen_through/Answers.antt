use Rattle.std.proofs.Common.{◌≡◌, ◌∙◌, ◌++◌, List, ap₂, subst}
use Rattle.lotos_check.specs.CheckedView.{system_of}
use Rattle.lotos_check.specs.NameLists.{Name}
use Rattle.lotos_outcome.specs.Interfaces.{AreGatesOf, gates_of_both, names_given}
use Rattle.lotos_outcome.proofs.interface.both_seen_through.Goals as goal

pub returns-clause-asked : goal.returns-clause-asked
returns-clause-asked c =
    let both : c.as_slice.result.now ≡ gates_of_both (system_of c.args.first, system_of c.args.second) =
    c.as_slice.ensures.value ∙ c.in_ok-gates.ensures ∙ ap₂ (λ (xs ys : List Name). xs ++ ys) c.gates.ensures c.gates-2.ensures in
    record {
      known = subst (λ (gates : List Name). AreGatesOf gates (names_given c.args.interface.now)) both c.in_ok-named.ensures.known;
      first = c.in_ok-one.ensures (c.as_slice-2.ensures.value ∙ c.in_ok-named.ensures.named);
      second = c.in_ok-other.ensures (c.as_slice-3.ensures.value ∙ c.in_ok-named.ensures.named);
    }
