-- The table of the automaton's graph, for the labels of a suite.
use Rattle.std.proofs.Common.{◌≡◌, ◌↔◌, ◌∙◌, ◌<◌, ◌++◌, ℕ, Bool, true, false, MatchBool, List, [], ◌∷◌, Option, None, Some, length, ap, arith, inl, inr, refl, subst, sym, slice_get}
use Rattle.std.specs.Option.{unwrap_or}
use Rattle.std.proofs.lemmas.List.{length-map}
use Rattle.std.proofs.lemmas.Option.{slice_get_within}
use Rattle.lotos_check.specs.NameLists.{In}
use Rattle.lotos_check.proofs.ListIndices.{get_in, get_map, get_some}
use Rattle.lotos_check.proofs.NameOrder.{nat_says, one_of_three}
use Rattle.lotos_store.specs.NumberedItems.{AreDistinct}
use Rattle.lotos_store.specs.declared.label.Label.{Label as TermLabel}
use Rattle.lotos_terms.specs.TableView.{IsPrintedAs}
use Rattle.lotos_listing.specs.Lookups.{text_of}
use Rattle.lotos_listing.specs.Order.{Before, Label}
use Rattle.lotos_listing.specs.Question.{ArePrinted}
use Rattle.lotos_listing.proofs.PrintedSequences.{shown_push}
use Rattle.lotos_listing.proofs.SequenceOrder.{before_irrefl}
use Rattle.lotos_sets.specs.Behaviours.{Behaviour}
use Rattle.lotos_automaton.specs.AccessSequences.{sequence_at}
use Rattle.lotos_automaton.specs.Automata.{IsAutomatonOf}
use Rattle.lotos_automaton.specs.AutomatonSequences.{AreSequencesOf}
use Rattle.lotos_automaton.specs.Graphs.{Graph}
use Rattle.lotos_suite.specs.GraphMachines.{AreSuiteLabels, state_by}
use Rattle.lotos_suite.specs.Machines.{CanDoFrom}
use Rattle.lotos_suite.specs.SuiteResults.{IsMoveBy, IsRowBy, IsStepBetween, subject_of}
use Rattle.lotos_suite.specs.SuiteTables.{IsAccessMove, IsMove, IsSubject, IsTableOf, Subject}
use Rattle.lotos_suite.specs.Suites.{TellsApart}
use Rattle.lotos_suite.specs.declared.moves.Move.{Move}
use Rattle.lotos_suite.proofs.CoverPrinted.{one_printed, texts_are}
use Rattle.lotos_suite.proofs.GraphMachines.{futures, in_state_by, machine_accesses, machine_over, state_by_in}
use Rattle.lotos_suite.proofs.MachineRuns.{can_or_not}

-- the labels of different states' sequences are different
pub sequences_apart : (b : Behaviour) (graph : Graph TermLabel) (access : List (List Label)) → IsAutomatonOf b graph access →
    (sequences : List (List TermLabel)) → AreSequencesOf b.names sequences access → AreDistinct sequences
sequences_apart b graph access is sequences of i j labels at there =
    let (r, here) = get_some access i (let k = slice_get_within sequences i labels at in let n = of.counted in omega arith) in
    let (s, found) = get_some access j (let k = slice_get_within sequences j labels there in let n = of.counted in omega arith) in
    let same : r ≡ s = sym (texts_are b.names labels r (of.printed i labels r at here)) ∙ texts_are b.names labels s (of.printed j labels s there found) in
    elim (one_of_three ◌<◌ i j _ (nat_says i j)) [
      | inl less ↦ absurd (before_irrefl s (subst (λ z. Before z s) same (is.explored.ascending i j r s less here found)))
      | inr (inl equal) ↦ equal
      | inr (inr more) ↦ absurd (before_irrefl s (subst (Before s) same (is.explored.ascending j i s r more found here)))
    ]

module _ (b : Behaviour) (graph : Graph TermLabel) (access : List (List Label)) (is : IsAutomatonOf b graph access) (labels : List TermLabel)
    (are : AreSuiteLabels b.names graph labels) where
  abbrev S : Subject
  S = subject_of b.names graph labels access

  -- states that nothing tells apart are one
  one_state : (j k : ℕ) → j < length graph → k < length graph → ((w : List Label) → TellsApart S.machine j k w → ⊥) → j ≡ k
  one_state j k less less_too alike =
      let counted = is.explored.counted in
      let (r, at) = get_some access j (omega arith) in
      let (s, there) = get_some access k (omega arith) in
      is.apart j k r s at there (λ w. (
        (λ seen. (futures b graph access is.explored k s there w).1 (forth j k w alike ((futures b graph access is.explored j r at w).0 seen))),
        (λ seen. (futures b graph access is.explored j r at w).1 (back j k w alike ((futures b graph access is.explored k s there w).0 seen))),
      ))
    where
      forth : (j k : ℕ) (w : List Label) → ((v : List Label) → TellsApart S.machine j k v → ⊥) → CanDoFrom S.machine j w → CanDoFrom S.machine k w
      forth j k w alike can = elim (can_or_not S.machine k w) [ inl too ↦ too | inr cannot ↦ absurd (alike w (inl (can, cannot))) ]

      back : (j k : ℕ) (w : List Label) → ((v : List Label) → TellsApart S.machine j k v → ⊥) → CanDoFrom S.machine k w → CanDoFrom S.machine j w
      back j k w alike can = elim (can_or_not S.machine j w) [ inl too ↦ too | inr cannot ↦ absurd (alike w (inr (can, cannot))) ]

  -- the automaton, with the labels of a suite
  pub subject_is : IsSubject S
  subject_is = record {
    over = machine_over b graph access is.explored labels are;
    ascending = are.ascending;
    access = (machine_accesses b graph access is).firsts;
    apart = one_state;
  }

  module _ (unique : (k j : TermLabel) (text : Label) → IsPrintedAs b.names k text → IsPrintedAs b.names j text → k ≡ j)
      (sequences : List (List TermLabel)) (of : AreSequencesOf b.names sequences access) where
    -- the labels of a state, with one more, are printed as its access sequence with the label's text
    printed_next : (j : ℕ) (r : List Label) (l : TermLabel) → slice_get access j ≡ Some r → IsPrintedAs b.names l (text_of b.names l) →
        ArePrinted b.names (sequence_at sequences j ++ l ∷ []) (r ++ text_of b.names l ∷ [])
    printed_next j r l at shown =
        let within = slice_get_within access j r at in
        let counted = of.counted in
        let (ls, here) = get_some sequences j (omega arith) in
        let same : sequence_at sequences j ≡ ls = ap (λ o. unwrap_or o []) here in
        shown_push b.names (sequence_at sequences j) l r (text_of b.names l)
        (subst (λ z. ArePrinted b.names z r) (sym same) (of.printed j ls r here at)) shown

    -- a sequence with one more label is the access sequence with its text
    step_forth : (j m : ℕ) (l : TermLabel) → j < length graph → IsPrintedAs b.names l (text_of b.names l) → IsStepBetween sequences j l m →
        IsAccessMove S j (text_of b.names l) m
    step_forth j m l less shown there =
        let counted = is.explored.counted in
        let many = of.counted in
        let within = slice_get_within sequences m (sequence_at sequences j ++ l ∷ []) there in
        let (r, at) = get_some access j (omega arith) in
        let (s, at_m) = get_some access m (omega arith) in
        let printed = printed_next j r l at shown in
        let same : s ≡ r ++ text_of b.names l ∷ [] = sym (texts_are b.names (sequence_at sequences j ++ l ∷ []) s
        (of.printed m (sequence_at sequences j ++ l ∷ []) s there at_m))
        ∙ texts_are b.names (sequence_at sequences j ++ l ∷ []) (r ++ text_of b.names l ∷ []) printed in
        record { before = r; from = at; leads = at_m ∙ ap (λ z. Some z) same }

    -- and back
    step_back : (j m : ℕ) (l : TermLabel) → IsPrintedAs b.names l (text_of b.names l) → IsAccessMove S j (text_of b.names l) m →
        IsStepBetween sequences j l m
    step_back j m l shown h =
        let many = of.counted in
        let within = slice_get_within access m (h.before ++ text_of b.names l ∷ []) h.leads in
        let (ls, at) = get_some sequences m (omega arith) in
        at ∙ ap (λ z. Some z) (one_printed b.names unique ls (sequence_at sequences j ++ l ∷ []) (h.before ++ text_of b.names l ∷ [])
        (of.printed m ls (h.before ++ text_of b.names l ∷ []) at h.leads) (printed_next j h.before l h.from shown))

    -- where a label leads by the transitions is where the machine goes
    move_is : (j : ℕ) (list : List (TermLabel × ℕ)) (l : TermLabel) (entry : Option Move) → slice_get graph j ≡ Some list → In l labels →
        IsMoveBy sequences j list l entry → IsMove S j (text_of b.names l) entry
    move_is j list l None at known none = by (state_by b.names list (text_of b.names l)) refl
      where
        next_is : S.machine.next j (text_of b.names l) ≡ state_by b.names list (text_of b.names l)
        next_is = ap (λ o. state_by b.names (unwrap_or o []) (text_of b.names l)) at

        by : (o : Option ℕ) → state_by b.names list (text_of b.names l) ≡ o → S.machine.next j (text_of b.names l) ≡ None
        by None e = next_is ∙ e
        by (Some m) e =
            let (k, there, text) = in_state_by b.names list (text_of b.names l) m e in
            let same : k ≡ l = unique k l (text_of b.names l) (subst (IsPrintedAs b.names k) text (is.explored.printed j list k m at there))
            (are.printed l known) in
            absurd (none m (subst (λ z. In (z, m) list) same there))
    move_is j list l (Some move) at known (there, first) = (
      ap (λ o. state_by b.names (unwrap_or o []) (text_of b.names l)) at ∙ state_by_in b.names list (is.explored.in_order j list at) l move.state there,
      by move.is_first first,
    )
      where
        by : (o : Bool) → MatchBool o (IsStepBetween sequences j l move.state) (IsStepBetween sequences j l move.state → ⊥) →
            (o ≡ true) ↔ IsAccessMove S j (text_of b.names l) move.state
        by true h = ((λ e. step_forth j move.state l (slice_get_within graph j list at) (are.printed l known) h), (λ h. refl))
        by false h = ((λ e. absurd (let z : false ≡ true = e in cc)), (λ g. absurd (h (step_back j move.state l (are.printed l known) g))))

    -- rows by the transitions of all states are a table
    pub table_is : (rows : List (List (Option Move))) → length rows ≡ length graph →
        ((j : ℕ) (list : List (TermLabel × ℕ)) (row : List (Option Move)) → slice_get graph j ≡ Some list → slice_get rows j ≡ Some row →
        IsRowBy sequences j list labels row) → IsTableOf S rows
    table_is rows counted each = record {
      counted = counted;
      wide = λ j row at.
          let within = slice_get_within rows j row at in
          let (list, has) = get_some graph j (omega arith) in
          (each j list row has at).wide ∙ sym (length-map labels (text_of b.names));
      moves = λ j i x entry has label.
          let within = slice_get_within rows j has.row has.at in
          let (list, there) = get_some graph j (omega arith) in
          let (l, here, text) = get_map (text_of b.names) labels i x label in
          subst (λ z. IsMove S j z entry) text
          (move_is j list l entry there (get_in labels i l here) ((each j list has.row there has.at).moves i l entry here has.is));
    }
