use Rattle.std.proofs.Common.{◌≡◌, ◌∙◌, ◌+◌, ◌++◌, ◌∷◌, [], ℕ, Some, ap, arith, length, length-append, refl, subst, sym, slice_get}
use Rattle.std.proofs.lemmas.List.{length-map, map-append}
use Rattle.lotos_suite.proofs.ApartRounds.{tried_in_vain, tried_well}
use Rattle.lotos_check.proofs.ListIndices.{get_some, map_read}
use Rattle.lotos_suite.proofs.StateClasses.{more_apart}
use Rattle.lotos_suite.specs.ApartSearch.{AreAlike, AreFlags, AreSplit, HasSearched}
use Rattle.lotos_store.specs.Interning.{plain_lists}
use Rattle.lotos_suite.specs.declared.apart_sequences.ApartStep.{ApartStep}
use Rattle.lotos_suite.proofs.apart_sequences.ApartSequences.try_sequence.Goals as goal

pub states_that_can-requires : goal.states_that_can-requires
states_that_can-requires c =
    let a = c.args.self.now in
    let (s, d, from, to, is, table, less, above, below, h) = c.requires.searched in
    let (x, at_x) = get_some s.labels c.args.label less in
    let within = h.within in
    let counted = h.flags.counted in
    let many = length-map a.can.items (λ v. v.items) in
    let (w, at_w) = get_some h.sequences c.args.rest (omega arith) in
    let read = map_read (λ v. v.items) a.can.items c.args.rest c.index.result.now (omega arith) c.index.ensures in
    let flags = h.flags.each c.args.rest w c.index.result.now.items at_w read in
    (s, x, w, is, table, at_x, subst (AreFlags s.machine w) (sym c.as_slice.ensures.value) flags)

pub tells_apart-requires-clause-counted : goal.tells_apart-requires-clause-counted
tells_apart-requires-clause-counted c =
    let a = c.args.self.now in
    let (s, d, from, to, is, table, less, above, below, h) = c.requires.searched in
    let (x, at_x) = get_some s.labels c.args.label less in
    let within = h.within in
    let counted = h.flags.counted in
    let many = length-map a.can.items (λ v. v.items) in
    let (w, at_w) = get_some h.sequences c.args.rest (omega arith) in
    let read = map_read (λ v. v.items) a.can.items c.args.rest c.index.result.now (omega arith) c.index.ensures in
    let flags = h.flags.each c.args.rest w c.index.result.now.items at_w read in
    let are = c.in_ok-can.ensures s x w is table at_x (subst (AreFlags s.machine w) (sym c.as_slice.ensures.value) flags) in
    ap length c.as_slice-3.ensures.value ∙ are.counted ∙ sym h.classed.counted ∙ sym (ap length c.as_slice-2.ensures.value)

pub tells_apart-requires-clause-classed : goal.tells_apart-requires-clause-classed
tells_apart-requires-clause-classed c =
    let (s, d, from, to, is, table, less, above, below, h) = c.requires.searched in
    record {
      counted = refl;
      closed = subst (λ xs. (j k : ℕ) → slice_get xs j ≡ Some k → slice_get xs k ≡ Some k) (sym c.as_slice-2.ensures.value) h.classed.closed;
    }

pub split-requires-clause-counted : goal.split-requires-clause-counted
split-requires-clause-counted c =
    let a = c.args.self.now in
    let (s, d, from, to, is, table, less, above, below, h) = c.requires.searched in
    let (x, at_x) = get_some s.labels c.args.label less in
    let within = h.within in
    let counted = h.flags.counted in
    let many = length-map a.can.items (λ v. v.items) in
    let (w, at_w) = get_some h.sequences c.args.rest (omega arith) in
    let read = map_read (λ v. v.items) a.can.items c.args.rest c.index.result.now (omega arith) c.index.ensures in
    let flags = h.flags.each c.args.rest w c.index.result.now.items at_w read in
    let are = c.in_ok-can.ensures s x w is table at_x (subst (AreFlags s.machine w) (sym c.as_slice.ensures.value) flags) in
    ap length c.as_slice-then-tells_apart-2.ensures.value ∙ are.counted ∙ sym h.classed.counted ∙ sym (ap length c.as_slice-then-tells_apart.ensures.value)

pub split-requires-clause-classed : goal.split-requires-clause-classed
split-requires-clause-classed c =
    let (s, d, from, to, is, table, less, above, below, h) = c.requires.searched in
    record {
      counted = refl;
      closed = subst (λ xs. (j k : ℕ) → slice_get xs j ≡ Some k → slice_get xs k ≡ Some k) (sym c.as_slice-then-tells_apart.ensures.value) h.classed.closed;
    }

pub returns-in_ok-push-2-clause-searched : goal.returns-in_ok-push-2-clause-searched
returns-in_ok-push-2-clause-searched c = λ s d from to is table less above below h.
    let a = c.args.self.now in
    let (x, at_x) = get_some s.labels c.args.label less in
    let within = h.within in
    let counted = h.flags.counted in
    let many = length-map a.can.items (λ v. v.items) in
    let (w, at_w) = get_some h.sequences c.args.rest (omega arith) in
    let read = map_read (λ v. v.items) a.can.items c.args.rest c.index.result.now (omega arith) c.index.ensures in
    let before = h.flags.each c.args.rest w c.index.result.now.items at_w read in
    let flags = c.in_ok-can.can.items in
    let are = c.in_ok-can.ensures s x w is table at_x (subst (AreFlags s.machine w) (sym c.as_slice.ensures.value) before) in
    let new = c.in_ok-self.field-0.items in
    let split = subst (λ xs. AreSplit xs a.classes.items new) c.as_slice-then-tells_apart-2.ensures.value
    (subst (λ xs. AreSplit c.as_slice-then-tells_apart-2.result.now xs new) c.as_slice-then-tells_apart.ensures.value c.in_ok-self.ensures) in
    let (j, k, at, unlike) = c.if-tells_apart.ensures in
    let at' = subst (λ xs. slice_get xs j ≡ Some k) c.as_slice-2.ensures.value at in
    let unlike' = λ (g : AreAlike flags j k). unlike (subst (λ xs. AreAlike xs j k) (sym c.as_slice-3.ensures.value) g) in
    let steps = c.in_ok-push.ensures.items in
    let lists = ap plain_lists c.in_ok-push-2.ensures.items ∙ map-append (λ v. v.items) a.can.items (c.in_ok-can.can ∷ []) in
    let step : ApartStep = record { label = c.args.label; rest = c.args.rest } in
    let next = tried_well s is a.steps.items (plain_lists a.can.items) a.classes.items d from to c.args.label c.args.rest h above below x w at_x at_w flags are
    new split j k at' unlike' step refl refl in
    subst (λ xs. HasSearched s xs (plain_lists c.push-then-tells_apart.new.self.items) new d from to c.args.label (c.args.rest + 1)) (sym steps)
    (subst (λ ys. HasSearched s (a.steps.items ++ Some step ∷ []) ys new d from to c.args.label (c.args.rest + 1)) (sym lists) next)

pub returns-in_ok-push-2-clause-fewer : goal.returns-in_ok-push-2-clause-fewer
returns-in_ok-push-2-clause-fewer c =
    let a = c.args.self.now in
    let new = c.in_ok-self.field-0.items in
    let split = subst (λ xs. AreSplit c.as_slice-then-tells_apart-2.result.now xs new) c.as_slice-then-tells_apart.ensures.value c.in_ok-self.ensures in
    let (j, k, at, unlike) = c.if-tells_apart.ensures in
    let at' = subst (λ xs. slice_get xs j ≡ Some k) c.as_slice-2.ensures.value at in
    let unlike' = λ (g : AreAlike c.as_slice-then-tells_apart-2.result.now j k). unlike (subst (λ xs. AreAlike xs j k)
    (c.as_slice-then-tells_apart-2.ensures.value ∙ sym c.as_slice-3.ensures.value) g) in
    let few = more_apart c.as_slice-then-tells_apart-2.result.now a.classes.items new split j k at' unlike' in
    let long = length-append a.can.items (c.in_ok-can.can ∷ []) in
    let pushed = ap length c.in_ok-push-2.ensures.items in
    omega arith

pub returns-else-tells_apart-clause-searched : goal.returns-else-tells_apart-clause-searched
returns-else-tells_apart-clause-searched c = λ s d from to is table less above below h.
    let a = c.args.self.now in
    let (x, at_x) = get_some s.labels c.args.label less in
    let within = h.within in
    let counted = h.flags.counted in
    let many = length-map a.can.items (λ v. v.items) in
    let (w, at_w) = get_some h.sequences c.args.rest (omega arith) in
    let read = map_read (λ v. v.items) a.can.items c.args.rest c.index.result.now (omega arith) c.index.ensures in
    let before = h.flags.each c.args.rest w c.index.result.now.items at_w read in
    let flags = c.in_ok-can.can.items in
    let are = c.in_ok-can.ensures s x w is table at_x (subst (AreFlags s.machine w) (sym c.as_slice.ensures.value) before) in
    tried_in_vain s is a.steps.items (plain_lists a.can.items) a.classes.items d from to c.args.label c.args.rest h above below x w at_x at_w flags are
    (λ j k at. subst (λ xs. AreAlike xs j k) c.as_slice-3.ensures.value
    (c.if-tells_apart.ensures j k (subst (λ xs. slice_get xs j ≡ Some k) (sym c.as_slice-2.ensures.value) at)))
