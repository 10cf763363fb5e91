-- The machine of a graph does what the graph does, by the texts of its labels.
use Rattle.std.proofs.Common.{◌≡◌, ◌↔◌, ◌∙◌, ℕ, List, [], ◌∷◌, ◌++◌, Bool, true, false, if◌then◌else◌, Option, None, Some, ap, arith, inl, inr, refl, subst, sym, slice_get}
use Rattle.std.specs.Prelude.{bytes_eq}
use Rattle.std.specs.Option.{unwrap_or}
use Rattle.std.proofs.lemmas.Slice.Eq.{bytes_eq-Decides}
use Rattle.std.proofs.lemmas.Option.{slice_get_within}
use Rattle.lotos_check.specs.NameLists.{In, Name}
use Rattle.lotos_check.proofs.ListIndices.{each_in, one_item}
use Rattle.lotos_check.proofs.NameOrder.{below_irrefl}
use Rattle.lotos_store.specs.declared.label.Label.{Label as TermLabel}
use Rattle.lotos_terms.specs.TableView.{IsPrintedAs}
use Rattle.lotos_listing.specs.Lookups.{text_of}
use Rattle.lotos_listing.specs.Order.{Before, Below, Label, UpTo}
use Rattle.lotos_listing.specs.PrefixWalk.{IsAscending}
use Rattle.lotos_listing.specs.Question.{ArePrinted, more_printed, none_printed}
use Rattle.lotos_listing.proofs.AscendingLabels.{text_is}
use Rattle.lotos_listing.proofs.SequenceOrder.{before_irrefl, before_trans}
use Rattle.lotos_sets.specs.Behaviours.{Behaviour, CanBeObserved}
use Rattle.lotos_automaton.specs.Automata.{IsAutomatonOf}
use Rattle.lotos_automaton.specs.Explorations.{CanDoTexts, IsExplorationOf, LeadsByTexts, SameFuture, texts_of}
use Rattle.lotos_automaton.specs.Graphs.{Graph, Leads, LeadsBy, first, none}
use Rattle.lotos_suite.specs.GraphMachines.{AreSuiteLabels, label_texts, machine_of, state_by}
use Rattle.lotos_suite.specs.Machines.{CanDo, CanDoFrom, IsMachineOver, Machine, onward, state_after}
use Rattle.lotos_suite.specs.SuiteLines.{AreAccesses}
use Rattle.lotos_suite.proofs.MachineRuns.{can_both, can_rest, some_apart}

module _ (names : List Name) where
  -- the text of a transition's label is one of the texts
  text_in : (list : List (TermLabel × ℕ)) (l : TermLabel) (m : ℕ) → In (l, m) list → In (text_of names l) (texts_of names list)
  text_in [] l m i = absurd i
  text_in (t ∷ list) l m (inl same) = inl (ap (λ u. text_of names u.0) same)
  text_in (t ∷ list) l m (inr i) = inr (text_in list l m i)

  -- the state of a transition, found by its text, as no other has this text
  pub state_by_in : (list : List (TermLabel × ℕ)) → IsAscending (texts_of names list) → (l : TermLabel) (m : ℕ) → In (l, m) list →
      state_by names list (text_of names l) ≡ Some m
  state_by_in [] ascends l m i = absurd i
  state_by_in (t ∷ list) ascends l m (inl same) =
      let equal : text_of names t.0 ≡ text_of names l = ap (λ u. text_of names u.0) same in
      let number : t.1 ≡ m = ap (λ u. u.1) same in
      ap (λ b. if b then Some t.1 else state_by names list (text_of names l)) ((bytes_eq-Decides (text_of names t.0) (text_of names l)).1 equal) ∙
      ap (λ z. Some z) number
  state_by_in (t ∷ list) (all, rest) l m (inr i) = by (bytes_eq (text_of names t.0) (text_of names l)) refl (state_by_in list rest l m i)
    where
      by : (b : Bool) → bytes_eq (text_of names t.0) (text_of names l) ≡ b → state_by names list (text_of names l) ≡ Some m →
          (if b then Some t.1 else state_by names list (text_of names l)) ≡ Some m
      by true e passed =
          let equal = (bytes_eq-Decides (text_of names t.0) (text_of names l)).0 e in
          let low = each_in (λ y. Below (text_of names t.0) y) (texts_of names list) [] (λ k less. all k [] less) (text_of names l) (text_in list l m i) in
          absurd (below_irrefl (text_of names l) (subst (λ z. Below z (text_of names l)) equal low))
      by false e passed = passed

  -- a state that is found by a text is that of a transition
  pub in_state_by : (list : List (TermLabel × ℕ)) (x : Label) (m : ℕ) → state_by names list x ≡ Some m →
      (l : TermLabel) × In (l, m) list × (text_of names l ≡ x)
  in_state_by [] x m e = absurd (some_apart e)
  in_state_by (t ∷ list) x m e = by (bytes_eq (text_of names t.0) x) refl e (λ passed. in_state_by list x m passed)
    where
      by : (b : Bool) → bytes_eq (text_of names t.0) x ≡ b → (if b then Some t.1 else state_by names list x) ≡ Some m →
          (state_by names list x ≡ Some m → (l : TermLabel) × In (l, m) list × (text_of names l ≡ x)) →
          (l : TermLabel) × In (l, m) (t ∷ list) × (text_of names l ≡ x)
      by true same is go = let number : t.1 ≡ m = cc in (t.0, inl (λ i. (t.0, number i)), (bytes_eq-Decides (text_of names t.0) x).0 same)
      by false other is go = let (l, i, text) = go is in (l, inr i, text)

module _ (b : Behaviour) (graph : Graph TermLabel) (access : List (List Label)) (explored : IsExplorationOf b graph access) where
  abbrev M : Machine
  M = machine_of b.names graph

  -- a transition is a step of the machine
  step_forth : (k m : ℕ) (l : TermLabel) → Leads graph k l m → M.next k (text_of b.names l) ≡ Some m
  step_forth k m l (list, at, i) =
      ap (λ o. state_by b.names (unwrap_or o []) (text_of b.names l)) at ∙ state_by_in b.names list (explored.in_order k list at) l m i

  -- and the other way round
  step_back : (k m : ℕ) (x : Label) → M.next k x ≡ Some m → (l : TermLabel) × Leads graph k l m × IsPrintedAs b.names l x
  step_back k m x step = by (slice_get graph k) refl step
    where
      by : (o : Option (List (TermLabel × ℕ))) → slice_get graph k ≡ o → state_by b.names (unwrap_or o []) x ≡ Some m →
          (l : TermLabel) × Leads graph k l m × IsPrintedAs b.names l x
      by None at is = absurd (some_apart is)
      by (Some list) at is =
          let (l, i, text) = in_state_by b.names list x m is in
          (l, (list, at, i), subst (IsPrintedAs b.names l) text (explored.printed k list l m at i))

  -- transitions by printed labels lead where the machine goes by the texts
  leads_forth : (labels : List TermLabel) (w : List Label) (k m : ℕ) → ArePrinted b.names labels w → LeadsBy graph k labels m → state_after M k w ≡ Some m
  leads_forth [] [] k m none_printed none = refl
  leads_forth [] (x ∷ w) k m printed leads = elim printed [ ]
  leads_forth (l ∷ labels) [] k m printed leads = elim printed [ ]
  leads_forth (l ∷ labels) (x ∷ w) k m (more_printed shown printed) (first {m = r} lead rest) =
      let step : M.next k x ≡ Some r = ap (λ z. M.next k z) (sym (text_is b.names l x shown)) ∙ step_forth k r l lead in
      ap (λ o. onward o (λ r. state_after M r w)) step ∙ leads_forth labels w r m printed rest

  -- and the other way round
  leads_back : (w : List Label) (k m : ℕ) → state_after M k w ≡ Some m → LeadsByTexts b.names graph k w m
  leads_back [] k m e = let same : k ≡ m = cc in ([], none_printed, subst (LeadsBy graph k []) same none)
  leads_back (x ∷ w) k m e = by (M.next k x) refl e (λ r h. leads_back w r m h)
    where
      by : (o : Option ℕ) → M.next k x ≡ o → onward o (λ r. state_after M r w) ≡ Some m →
          ((r : ℕ) → state_after M r w ≡ Some m → LeadsByTexts b.names graph r w m) → LeadsByTexts b.names graph k (x ∷ w) m
      by None is h go = absurd (some_apart h)
      by (Some r) is h go =
          let (l, lead, shown) = step_back k r x is in
          let (labels, printed, rest) = go r h in
          (l ∷ labels, more_printed shown printed, first lead rest)

  -- what a state of the graph can do, one of the machine can do
  texts_can : (k : ℕ) (w : List Label) → CanDoTexts b.names graph k w ↔ CanDoFrom M k w
  texts_can k w = (
    λ (labels, printed, (m, leads)). (m, leads_forth labels w k m printed leads),
    λ (m, e). let (labels, printed, leads) = leads_back w k m e in (labels, printed, (m, leads)),
  )

  -- after an access sequence the same can be observed as its state can do
  pub futures : (k : ℕ) (r : List Label) → slice_get access k ≡ Some r → (w : List Label) → CanBeObserved b (r ++ w) ↔ CanDoFrom M k w
  futures k r at w = (λ seen. (texts_can k w).0 ((explored.futures k r at w).0 seen), λ can. (explored.futures k r at w).1 ((texts_can k w).1 can))

  -- the machine can do exactly what can be observed
  pub machine_observed : (s : List Label) → CanDo M s ↔ CanBeObserved b s
  machine_observed s = ((futures 0 [] explored.empty s).1, (futures 0 [] explored.empty s).0)

  -- an access sequence leads to its state
  access_leads : (k : ℕ) (r : List Label) → slice_get access k ≡ Some r → state_after M 0 r ≡ Some k
  access_leads k r at = let (labels, printed, leads) = explored.reached k r at in leads_forth labels r 0 k printed leads

  -- the machine is over the labels of a suite
  pub machine_over : (labels : List TermLabel) → AreSuiteLabels b.names graph labels → IsMachineOver (label_texts b.names labels) M
  machine_over labels are = record {
    start = let within = slice_get_within access 0 [] explored.empty in let counted = explored.counted in omega arith;
    below = λ q r x step.
        let (l, (list, at, i), shown) = step_back q r x step in
        (explored.deterministic q list at).inside l r i;
    known = λ q r x step.
        let (l, (list, at, i), shown) = step_back q r x step in
        subst (λ z. In z (label_texts b.names labels)) (text_is b.names l x shown) (mapped labels l (are.all q list l r at i));
  }
    where
      mapped : (labels : List TermLabel) (l : TermLabel) → In l labels → In (text_of b.names l) (label_texts b.names labels)
      mapped [] l i = absurd i
      mapped (k ∷ labels) l (inl same) = inl (ap (λ z. text_of b.names z) same)
      mapped (k ∷ labels) l (inr i) = inr (mapped labels l i)

module _ (b : Behaviour) (graph : Graph TermLabel) (access : List (List Label)) (is : IsAutomatonOf b graph access) where
  abbrev N : Machine
  N = machine_of b.names graph

  -- the access sequences of the automaton are those of its machine
  pub machine_accesses : AreAccesses N access
  machine_accesses = record {
    firsts = record {
      counted = is.explored.counted;
      firsts = λ k r at. record { leads = access_leads b graph access is.explored k r at; first = λ s leads early. never k r at s leads early };
    };
    ascending = is.explored.ascending;
  }
    where
      never : (k : ℕ) (r : List Label) → slice_get access k ≡ Some r → (s : List Label) → state_after N 0 s ≡ Some k → Before s r → ⊥
      never k r at s leads early = by ((machine_observed b graph access is.explored s).0 (k, leads))
        where
          same : (t : List Label) → SameFuture b t s → SameFuture b t r
          same t future w = (
            (λ seen.
                let (z, e) = (machine_observed b graph access is.explored (s ++ w)).1 ((future w).0 seen) in
                (futures b graph access is.explored k r at w).1 (can_rest N 0 k s w leads (z, e))),
            (λ seen.
                (future w).1 ((machine_observed b graph access is.explored (s ++ w)).0
                (can_both N 0 k s w leads ((futures b graph access is.explored k r at w).0 seen)))),
          )

          by : CanBeObserved b s → ⊥
          by seen =
              let (j, t, there, up_to, future) = is.explored.first s seen in
              let number : j ≡ k = is.apart j k t r there at (same t future) in
              let equal : t ≡ r = one_item access k t r (subst (λ z. slice_get access z ≡ Some t) number there) at in
              order (subst (λ z. UpTo s z) equal up_to)
            where
              order : UpTo s r → ⊥
              order (inl later) = before_irrefl s (before_trans s r s early later)
              order (inr equal) = before_irrefl s (subst (λ z. Before s z) equal early)
