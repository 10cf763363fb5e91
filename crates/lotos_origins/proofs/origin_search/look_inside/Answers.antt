use Rattle.std.proofs.Common.{◌≡◌, ◌∙◌, Some, [], ap, arith, get_or, length, subst, sym}
use Rattle.std.specs.Prelude.{slice_get}
use Rattle.std.proofs.lemmas.Option.{get_or_from_slice_get, slice_get_within}
use Rattle.lotos_store.specs.Terms.{hide, stop}
use Rattle.lotos_terms.proofs.GrowingTables.{grows_same}
use Rattle.lotos_origins.specs.Parts.{first_part_of, second_part_of}
use Rattle.lotos_origins.proofs.InnerSteps.{call_found, choice_found, disable_found, enable_found, hide_found, hide_goes, par_found, prefix_found}
use Rattle.lotos_origins.proofs.InnerSteps.{relabel_found}
use Rattle.lotos_origins.proofs.InternalCases.{of_call}
use Rattle.lotos_origins.proofs.NodeSteps.{goes, here, if_ok, part, target, target_part}
use Rattle.lotos_origins.proofs.origin_search.look_inside.Goals as goal

pub look_in_hiding-requires-clause-some : goal.look_in_hiding-requires-clause-some
look_in_hiding-requires-clause-some c =
    let old = c.args.table.now in
    let store = c.nodes-nodes.result.now in
    let same = c.nodes-nodes.ensures in
    let listed : get_or store.gates c.in-Hide.gates [] ≡ c.as_slice.result.now =
    get_or_from_slice_get store.gates c.in-Hide.gates _ [] c.gates.ensures ∙ sym c.in_ok-hidden-in-Hide.ensures.items ∙ sym c.as_slice.ensures.value in
    let at = subst (λ gs. slice_get store.terms c.args.from ≡ Some (hide gs (get_or store.terms c.in-Hide.body stop))) listed c.in-Hide.ensures.term in
    let still = grows_same old in
    hide_goes old c.recall_sound.ensures.sound c.args.from c.args.to c.requires.to c.requires.leads c.in-Hide.body c.first_part-inner.result _
    (part old old still store same c.args.from c.args.to c.requires _ c.in-Hide.body at c.in-Hide.ensures.parts.1) c.as_slice.result.now
    (goes old old still store same c.args.from c.args.to c.requires _ at)
    (λ t to. target_part old old still store same c.args.from c.args.to c.requires first_part_of _ c.first_part-inner.ensures t (ap first_part_of to))

pub first_of-requires-in-Disable : goal.first_of-requires-in-Disable
first_of-requires-in-Disable c =
    let old = c.args.table.now in
    let store = c.nodes-nodes.result.now in
    let same = c.nodes-nodes.ensures in
    let within = slice_get_within store.terms c.args.from _ c.in-Disable.ensures.term in
    let less = c.in-Disable.ensures.parts.1 in
    let sized : length store.terms ≡ length old.terms = ap length same in
    omega (arith, less, within, sized)

pub body-requires : goal.body-requires
body-requires c =
    let old = c.args.table.now in
    let store = c.nodes-nodes.result.now in
    let same = c.nodes-nodes.ensures in
    let at = c.in-Call.ensures.term in
    let (q, listed, rest) = of_call old.processes (goes old old (grows_same old) store same c.args.from c.args.to c.requires _ at) in
    slice_get_within old.processes c.in-Call.process q listed

pub returns-in-Prefix-clause-found : goal.returns-in-Prefix-clause-found
returns-in-Prefix-clause-found c =
    let old = c.args.table.now in
    let store = c.nodes-nodes.result.now in
    let at = c.in-Prefix.ensures.term in
    prefix_found old c.recall_sound.ensures.sound c.args.from c.args.to c.requires.to c.requires.leads _ _
    (here old old (grows_same old) store c.nodes-nodes.ensures c.args.from c.args.to c.requires _ at)
    (goes old old (grows_same old) store c.nodes-nodes.ensures c.args.from c.args.to c.requires _ at)

pub returns-in-Choice-clause-found : goal.returns-in-Choice-clause-found
returns-in-Choice-clause-found c =
    let old = c.args.table.now in
    let store = c.nodes-nodes.result.now in
    let same = c.nodes-nodes.ensures in
    let new = c.first_of.new.table in
    let grows = c.first_of.ensures.grows in
    let at = c.in-Choice.ensures.term in
    let parts = c.in-Choice.ensures.parts in
    if_ok _ _ c.first_of.result (choice_found new c.first_of.ensures.sound c.args.from c.args.to c.requires.to
    (target old new grows store same c.args.from c.args.to c.requires) c.in-Choice.left c.in-Choice.right _ _
    (part old new grows store same c.args.from c.args.to c.requires _ c.in-Choice.left at parts.0)
    (part old new grows store same c.args.from c.args.to c.requires _ c.in-Choice.right at parts.1)
    (here old new grows store same c.args.from c.args.to c.requires _ at) (goes old new grows store same c.args.from c.args.to c.requires _ at))
    c.first_of.ensures.found

pub returns-in-Par-clause-found : goal.returns-in-Par-clause-found
returns-in-Par-clause-found c =
    let old = c.args.table.now in
    let store = c.nodes-nodes.result.now in
    let same = c.nodes-nodes.ensures in
    let new = c.look_in_parallel.new.table in
    let grows = c.look_in_parallel.ensures.grows in
    let at = c.in-Par.ensures.term in
    let parts = c.in-Par.ensures.parts in
    if_ok _ _ c.look_in_parallel.result (par_found new c.look_in_parallel.ensures.sound c.args.from c.args.to c.requires.to
    (target old new grows store same c.args.from c.args.to c.requires) c.in-Par.left c.in-Par.right _ _
    (part old new grows store same c.args.from c.args.to c.requires _ c.in-Par.left at parts.0)
    (part old new grows store same c.args.from c.args.to c.requires _ c.in-Par.right at parts.2) _ c.first_part-inner.result c.second_part-other.result
    (λ x y to. (
      target_part old new grows store same c.args.from c.args.to c.requires first_part_of _ c.first_part-inner.ensures x (ap first_part_of to),
      target_part old new grows store same c.args.from c.args.to c.requires second_part_of _ c.second_part-other.ensures y (ap second_part_of to),
    ))
    (here old new grows store same c.args.from c.args.to c.requires _ at) (goes old new grows store same c.args.from c.args.to c.requires _ at))
    c.look_in_parallel.ensures.found

pub returns-in_ok-hidden-in-Hide-clause-found : goal.returns-in_ok-hidden-in-Hide-clause-found
returns-in_ok-hidden-in-Hide-clause-found c =
    let old = c.args.table.now in
    let store = c.nodes-nodes.result.now in
    let same = c.nodes-nodes.ensures in
    let listed : get_or store.gates c.in-Hide.gates [] ≡ c.as_slice.result.now =
    get_or_from_slice_get store.gates c.in-Hide.gates _ [] c.gates.ensures ∙ sym c.in_ok-hidden-in-Hide.ensures.items ∙ sym c.as_slice.ensures.value in
    let at = subst (λ gs. slice_get store.terms c.args.from ≡ Some (hide gs (get_or store.terms c.in-Hide.body stop))) listed c.in-Hide.ensures.term in
    let new = c.look_in_hiding.new.table in
    let grows = c.look_in_hiding.ensures.grows in
    if_ok _ _ c.look_in_hiding.result (hide_found new c.look_in_hiding.ensures.sound c.args.from c.args.to c.requires.to
    (target old new grows store same c.args.from c.args.to c.requires) c.in-Hide.body c.first_part-inner.result _
    (part old new grows store same c.args.from c.args.to c.requires _ c.in-Hide.body at c.in-Hide.ensures.parts.1) c.as_slice.result.now
    (here old new grows store same c.args.from c.args.to c.requires _ at) (goes old new grows store same c.args.from c.args.to c.requires _ at)
    (λ t to. target_part old new grows store same c.args.from c.args.to c.requires first_part_of _ c.first_part-inner.ensures t (ap first_part_of to)))
    c.look_in_hiding.ensures.found

pub returns-in-Enable-clause-found : goal.returns-in-Enable-clause-found
returns-in-Enable-clause-found c =
    let old = c.args.table.now in
    let store = c.nodes-nodes.result.now in
    let at = c.in-Enable.ensures.term in
    let parts = c.in-Enable.ensures.parts in
    let same = c.nodes-nodes.ensures in
    let still = grows_same old in
    enable_found old c.recall_sound.ensures.sound c.args.from c.args.to c.requires.to c.requires.leads c.in-Enable.left c.in-Enable.right _ _
    (part old old still store same c.args.from c.args.to c.requires _ c.in-Enable.left at parts.0)
    (part old old still store same c.args.from c.args.to c.requires _ c.in-Enable.right at parts.1)
    (here old old still store same c.args.from c.args.to c.requires _ at) (goes old old still store same c.args.from c.args.to c.requires _ at)
    c.first_part-inner.result
    (λ t to. target_part old old still store same c.args.from c.args.to c.requires first_part_of _ c.first_part-inner.ensures t (ap first_part_of to))
    _ c.look_in_enabling.ensures

pub returns-in-Disable-clause-found : goal.returns-in-Disable-clause-found
returns-in-Disable-clause-found c =
    let old = c.args.table.now in
    let store = c.nodes-nodes.result.now in
    let same = c.nodes-nodes.ensures in
    let new = c.first_of-in-Disable.new.table in
    let grows = c.first_of-in-Disable.ensures.grows in
    let at = c.in-Disable.ensures.term in
    let parts = c.in-Disable.ensures.parts in
    if_ok _ _ c.first_of-in-Disable.result (disable_found new c.first_of-in-Disable.ensures.sound c.args.from c.args.to c.requires.to
    (target old new grows store same c.args.from c.args.to c.requires) c.in-Disable.left c.in-Disable.right _ _
    (part old new grows store same c.args.from c.args.to c.requires _ c.in-Disable.left at parts.0)
    (part old new grows store same c.args.from c.args.to c.requires _ c.in-Disable.right at parts.1)
    (here old new grows store same c.args.from c.args.to c.requires _ at) (goes old new grows store same c.args.from c.args.to c.requires _ at)
    c.first_part-inner.result
    (λ t to. target_part old new grows store same c.args.from c.args.to c.requires first_part_of _ c.first_part-inner.ensures t (ap first_part_of to)))
    c.first_of-in-Disable.ensures.found

pub returns-in-Call-clause-found : goal.returns-in-Call-clause-found
returns-in-Call-clause-found c =
    let old = c.args.table.now in
    let store = c.nodes-nodes.result.now in
    let at = c.in-Call.ensures.term in
    let same = c.nodes-nodes.ensures in
    let still = grows_same old in
    call_found old c.recall_sound.ensures.sound c.args.from c.args.to c.requires.to c.requires.leads c.in-Call.process _ c.body.result
    c.first_part-inner.result (here old old still store same c.args.from c.args.to c.requires _ at)
    (goes old old still store same c.args.from c.args.to c.requires _ at) c.body.ensures
    (λ pairs t to. target_part old old still store same c.args.from c.args.to c.requires first_part_of _ c.first_part-inner.ensures t (ap first_part_of to))

pub returns-in-Relabel-clause-found : goal.returns-in-Relabel-clause-found
returns-in-Relabel-clause-found c =
    let old = c.args.table.now in
    let store = c.nodes-nodes.result.now in
    let at = c.in-Relabel.ensures.term in
    let same = c.nodes-nodes.ensures in
    let still = grows_same old in
    relabel_found old c.recall_sound.ensures.sound c.args.from c.args.to c.requires.to c.requires.leads c.in-Relabel.body
    c.first_part-inner.result _ (part old old still store same c.args.from c.args.to c.requires _ c.in-Relabel.body at c.in-Relabel.ensures.parts.1) _
    (here old old still store same c.args.from c.args.to c.requires _ at) (goes old old still store same c.args.from c.args.to c.requires _ at)
    (λ t to. target_part old old still store same c.args.from c.args.to c.requires first_part_of _ c.first_part-inner.ensures t (ap first_part_of to))
