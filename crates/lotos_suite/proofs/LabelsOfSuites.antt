-- The labels of a suite, from labels that are gathered and sorted.
use Rattle.std.proofs.Common.{◌≡◌, ◌∙◌, ◌⊎◌, ◌↔◌, ◌+◌, ◌++◌, ◌∷◌, ◌≤◌, ℕ, List, [], Some, Ordering, ap, inl, inr, length, refl, slice_get, subst, sym, take}
use Rattle.std.specs.Option.{unwrap_or}
use Rattle.std.specs.List.Sorted.{IsStrictlySortedBy}
use Rattle.std.specs.declared.cmp.Ordering.TheVariants.{Less}
use Rattle.std.proofs.lemmas.List.{take_all, take_more}
use Rattle.std.proofs.lemmas.Option.{get_or_from_slice_get, slice_get_within}
use Rattle.lotos_check.specs.NameLists.{Below, In, Name}
use Rattle.lotos_check.proofs.JoinedLists.{in_added, in_back, in_front}
use Rattle.lotos_check.proofs.ListIndices.{get_added, get_front, get_last}
use Rattle.lotos_check.proofs.MappedLists.{in_map}
use Rattle.lotos_store.specs.declared.label.Label.{Label as TermLabel}
use Rattle.lotos_store.specs.declared.label.Label.TheVariants.{Gate}
use Rattle.lotos_terms.specs.TableView.{AreGateNames, IsPrintedAs}
use Rattle.lotos_listing.specs.Lookups.{text_of}
use Rattle.lotos_listing.specs.Order.{Label}
use Rattle.lotos_listing.proofs.AscendingLabels.{rising}
use Rattle.lotos_automaton.specs.Graphs.{Graph}
use Rattle.lotos_suite.specs.GatheredLabels.{AddsGate, AddsGates, AddsRow, AddsTransitions, IsGateCalled}
use Rattle.lotos_suite.specs.GraphMachines.{label_texts}
use Rattle.lotos_suite.specs.SuiteLabels.{AreLabelsOf, HasPrintedLabels, IsOnTransition}

-- the first items of a list, with one more
with_next : {X : Type 0} (xs : List X) (i : ℕ) (x : X) → slice_get xs i ≡ Some x → take (i + 1) xs ≡ take i xs ++ x ∷ []
with_next xs i x at = take_more xs i x (slice_get_within xs i x at) ∙ ap (λ y. take i xs ++ y ∷ []) (get_or_from_slice_get xs i x x at)

-- no label is added for no transitions
pub row_none : (old : List TermLabel) → AddsRow [] old old
row_none old = record { kept = λ l i. i; only = λ l i. inl i; all = λ l m i. absurd i }

-- the label of one transition more is added
row_more : (row : List (TermLabel × ℕ)) (l : TermLabel) (m : ℕ) (old now : List TermLabel) → AddsRow row old now →
    AddsRow (row ++ (l, m) ∷ []) old (now ++ l ∷ [])
row_more row l m old now before = record {
  kept = λ k i. in_front k now (l ∷ []) (before.kept k i);
  only = λ k i. elim (in_added k now l i) [
    | inr same ↦ inr (m, subst (λ z. In (z, m) (row ++ (l, m) ∷ [])) same (in_back (l, m) row ((l, m) ∷ []) (inl refl)))
    | inl there ↦ elim (before.only k there) [
      | inl old_one ↦ inl old_one
      | inr (n, j) ↦ inr (n, in_front (k, n) row ((l, m) ∷ []) j)
    ]
  ];
  all = λ k n i. elim (in_added (k, n) row (l, m) i) [
    | inl earlier ↦ in_front k now (l ∷ []) (before.all k n earlier)
    | inr same ↦ in_back k now (l ∷ []) (inl (ap (λ (t : TermLabel × ℕ). t.0) same))
  ];
}

-- the same for the next transition of a list
pub row_next : (row : List (TermLabel × ℕ)) (i : ℕ) (l : TermLabel) (m : ℕ) (old now new : List TermLabel) → slice_get row i ≡ Some (l, m) →
    AddsRow (take i row) old now → new ≡ now ++ l ∷ [] → AddsRow (take (i + 1) row) old new
row_next row i l m old now new at before is =
    subst (AddsRow (take (i + 1) row) old) (sym is)
    (subst (λ r. AddsRow r old (now ++ l ∷ [])) (sym (with_next row i (l, m) at)) (row_more (take i row) l m old now before))

-- all transitions of the list
pub row_whole : (row : List (TermLabel × ℕ)) (i : ℕ) (old new : List TermLabel) → length row ≤ i → AddsRow (take i row) old new → AddsRow row old new
row_whole row i old new end = subst (λ r. AddsRow r old new) (take_all i row end)

-- no label is added for no states
pub transitions_none : (old : List TermLabel) → AddsTransitions [] old old
transitions_none old = record { kept = λ l i. i; only = λ l i. inl i; all = λ l (k, m, list, at, i). absurd (nowhere k list at) }
  where
    nowhere : (k : ℕ) (list : List (TermLabel × ℕ)) → slice_get [] k ≡ Some list → ⊥
    nowhere k list at = cc

-- the labels of one state more are added
transitions_more : (graph : Graph TermLabel) (row : List (TermLabel × ℕ)) (old now new : List TermLabel) → AddsTransitions graph old now → AddsRow row now new →
    AddsTransitions (graph ++ row ∷ []) old new
transitions_more graph row old now new before here = record {
  kept = λ l i. here.kept l (before.kept l i);
  only = λ l i. elim (here.only l i) [
    | inr (m, j) ↦ inr (length graph, m, row, get_last graph row, j)
    | inl there ↦ elim (before.only l there) [
      | inl old_one ↦ inl old_one
      | inr (k, m, list, at, j) ↦ inr (k, m, list, get_front graph (row ∷ []) k list at, j)
    ]
  ];
  all = λ l (k, m, list, at, i). elim (get_added graph row k list at) [
    | inl earlier ↦ here.kept l (before.all l (k, m, list, earlier, i))
    | inr (last, same) ↦ here.all l m (subst (In (l, m)) (sym same) i)
  ];
}

-- the same for the next state of a graph
pub transitions_next : (graph : Graph TermLabel) (k : ℕ) (row : List (TermLabel × ℕ)) (old now new : List TermLabel) → slice_get graph k ≡ Some row →
    AddsTransitions (take k graph) old now → AddsRow row now new → AddsTransitions (take (k + 1) graph) old new
transitions_next graph k row old now new at before here =
    subst (λ g. AddsTransitions g old new) (sym (with_next graph k row at)) (transitions_more (take k graph) row old now new before here)

-- all states of the graph
pub transitions_whole : (graph : Graph TermLabel) (k : ℕ) (old new : List TermLabel) → length graph ≤ k → AddsTransitions (take k graph) old new →
    AddsTransitions graph old new
transitions_whole graph k old new end = subst (λ g. AddsTransitions g old new) (take_all k graph end)

module _ (names : List Name) where
  -- the text of the gate with a name is this name
  called_text : (n : Name) (l : TermLabel) → IsGateCalled names n l → text_of names l ≡ n
  called_text n l (g, is, at) = ap (text_of names) is ∙ ap (λ o. unwrap_or o []) at

  -- and it is printed so
  called_printed : (n : Name) (l : TermLabel) → IsGateCalled names n l → IsPrintedAs names l (text_of names l)
  called_printed n l (g, is, at) = subst (λ k. IsPrintedAs names k (text_of names k)) (sym is) (at ∙ ap Some (sym (ap (λ o. unwrap_or o []) at)))

  -- no gate is added for no name
  pub no_gates : (old : List TermLabel) → AddsGates names [] old old
  no_gates old = record { kept = λ l i. i; only = λ l i. inl i; all = λ n i. absurd i }

  -- the gate with the name is added
  pub gate_added : (n : Name) (old new : List TermLabel) (g : ℕ) → slice_get names g ≡ Some n → new ≡ old ++ Gate g ∷ [] → AddsGate names n old new
  gate_added n old new g at is = subst (AddsGate names n old) (sym is) (record {
    kept = λ l i. in_front l old (Gate g ∷ []) i;
    only = λ l i. elim (in_added l old (Gate g) i) [
      | inl before ↦ inl before
      | inr same ↦ inr (g, sym same, at)
    ];
    all = λ i. (Gate g, in_back (Gate g) old (Gate g ∷ []) (inl refl), (g, refl, at));
  })

  -- there is none
  pub gate_missing : (n : Name) (old : List TermLabel) → (In n names → ⊥) → AddsGate names n old old
  gate_missing n old none = record { kept = λ l i. i; only = λ l i. inl i; all = λ i. absurd (none i) }

  -- the gate of one name more is added
  pub gates_more : (own : List Name) (n : Name) (old now new : List TermLabel) → AddsGates names own old now → AddsGate names n now new →
      AddsGates names (own ++ n ∷ []) old new
  gates_more own n old now new before here = record {
    kept = λ l i. here.kept l (before.kept l i);
    only = λ l i. elim (here.only l i) [
      | inr called ↦ inr (n, in_back n own (n ∷ []) (inl refl), called)
      | inl there ↦ elim (before.only l there) [
        | inl old_one ↦ inl old_one
        | inr (m, j, called) ↦ inr (m, in_front m own (n ∷ []) j, called)
      ]
    ];
    all = λ m i j. elim (in_added m own n i) [
      | inl earlier ↦ let (l, there, called) = before.all m earlier j in (l, here.kept l there, called)
      | inr same ↦ let (l, there, called) = here.all (subst (λ k. In k names) (sym same) j) in (l, there, subst (λ k. IsGateCalled names k l) same called)
    ];
  }

  -- the same for the next name of a list
  pub gates_next : (own : List Name) (i : ℕ) (n : Name) (old now new : List TermLabel) → slice_get own i ≡ Some n → AddsGates names (take i own) old now →
      AddsGate names n now new → AddsGates names (take (i + 1) own) old new
  gates_next own i n old now new at before here =
      subst (λ o. AddsGates names o old new) (sym (with_next own i n at)) (gates_more (take i own) n old now new before here)

  -- all names of the list
  pub gates_whole : (own : List Name) (i : ℕ) (old new : List TermLabel) → length own ≤ i → AddsGates names (take i own) old new → AddsGates names own old new
  gates_whole own i old new end = subst (λ o. AddsGates names o old new) (take_all i own end)

  module _ (own : List Name) (graph : Graph TermLabel) (named : AreGateNames names) (printed : HasPrintedLabels names graph)
      (cmp : TermLabel → TermLabel → Ordering)
      (law : (k j : TermLabel) (text other : Label) → IsPrintedAs names k text → IsPrintedAs names j other → cmp k j ≡ Less → Below text other)
      (gates gathered labels : List TermLabel) (from_own : AddsGates names own [] gates) (from_graph : AddsTransitions graph gates gathered)
      (same : (l : TermLabel) → In l labels ↔ In l gathered) (sorted : IsStrictlySortedBy cmp labels) where
    -- where a label comes from
    origin : (l : TermLabel) → In l labels → ((n : Name) × In n own × IsGateCalled names n l) ⊎ IsOnTransition graph l
    origin l i = elim (from_graph.only l ((same l).0 i)) [
      | inr on ↦ inr on
      | inl gate ↦ elim (from_own.only l gate) [
        | inl none ↦ absurd none
        | inr called ↦ inl called
      ]
    ]

    -- it is printed
    shown : (l : TermLabel) → In l labels → IsPrintedAs names l (text_of names l)
    shown l i = elim (origin l i) [
      | inl (n, j, called) ↦ called_printed n l called
      | inr on ↦ printed l on
    ]

    -- sorted labels of both kinds are those of a suite
    pub labels_of : AreLabelsOf names own graph labels
    labels_of = record {
      suite = record {
        named = named;
        printed = shown;
        ascending = rising names cmp law labels (λ l i. (text_of names l, shown l i)) sorted;
        all = λ k list l m at i. (same l).1 (from_graph.all l (k, m, list, at, i));
      };
      own_gates = λ n i j.
          let (l, there, called) = from_own.all n i j in
          subst (λ t. In t (label_texts names labels)) (called_text n l called)
          (in_map (text_of names) l labels ((same l).1 (from_graph.kept l there)));
      only = λ l i. elim (origin l i) [
        | inl (n, j, called) ↦ inl (subst (λ t. In t own) (sym (called_text n l called)) j)
        | inr on ↦ inr on
      ];
    }
