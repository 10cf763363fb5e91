use Rattle.std.proofs.Common.{◌≡◌, ◌∙◌, ◌<◌, ℕ, List, Some, [], ap, length, subst, sym}
use Rattle.std.specs.Prelude.{slice_get}
use Rattle.std.proofs.lemmas.Option.{get_or_from_slice_get}
use Rattle.lotos_store.specs.StoreView.{StoreView, term_with}
use Rattle.lotos_store.specs.Terms.{call, stop}
use Rattle.lotos_terms.specs.TableView.{IsSoundView, TableView}
use Rattle.lotos_origins.specs.Contexts.{AreAlikeIn, bare}
use Rattle.lotos_origins.specs.Wrappers.{within}
use Rattle.lotos_origins.proofs.Likenesses.{calls_alike}
use Rattle.lotos_origins.proofs.alike.are_alike_calls.Goals as goal

-- a call in a sound table is one of a process of the table
process_known : (table : TableView) → IsSoundView table → (store : StoreView) → store.terms ≡ table.terms → (n p : ℕ) (gates : List ℕ) →
    slice_get store.terms n ≡ Some (call p gates) → p < length table.processes
process_known table sound store same n p gates at = (sound.terms n (call p gates) (subst (λ ts. slice_get ts n ≡ Some (call p gates)) same at)).0

pub formals-requires : goal.formals-requires
formals-requires c =
    let store = c.args.nodes.now in
    process_known c.args.table.now c.recall_sound.ensures.sound store c.requires.nodes c.args.first.now.core c.in-Call.process _ c.in-Call.ensures.term

pub returns : goal.returns
returns c = λ is.
    let store = c.args.nodes.now in
    let system = c.args.table.now.processes in
    let first = c.args.first.now in
    let second = c.args.second.now in
    let p = c.in-Call.process in
    let o = c.in-Call-node.other in
    let called : term_with store first.core ≡ call p c.gates-actual.result.now =
    get_or_from_slice_get store.terms first.core _ stop c.in-Call.ensures.term ∙
    ap (λ gs. call p gs) (get_or_from_slice_get store.gates c.in-Call.gates _ [] c.gates-actual.ensures) in
    let other_called : term_with store second.core ≡ call o c.gates.result.now =
    get_or_from_slice_get store.terms second.core _ stop c.in-Call-node.ensures.term ∙
    ap (λ gs. call o gs) (get_or_from_slice_get store.gates c.in-Call-node.others _ [] c.gates.ensures) in
    let alike = calls_alike system c.recall_sound.ensures.closed (term_with store first.core) (term_with store second.core) p o c.gates-actual.result.now
    c.gates.result.now c.formals.result.now (within store bare c.as_slice.result.now) (within store bare c.as_slice-2.result.now) called other_called
    (sym c.number.ensures ∙ c.if-number.false ∙ c.number-2.ensures)
    (process_known c.args.table.now c.recall_sound.ensures.sound store c.requires.nodes first.core p _ c.in-Call.ensures.term)
    c.formals.ensures c.if-actual-formals.false (c.have_the_same_images.ensures is) in
    subst (λ ws. AreAlikeIn system (within store bare ws) (term_with store first.core) (within store bare second.wrappers.items) (term_with store second.core))
    c.as_slice.ensures.value (subst (λ ws. AreAlikeIn system (within store bare c.as_slice.result.now) (term_with store first.core) (within store bare ws)
    (term_with store second.core)) c.as_slice-2.ensures.value alike)
