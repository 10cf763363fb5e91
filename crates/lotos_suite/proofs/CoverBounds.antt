-- A line has at most as many labels as there may be sets of normal forms, and after it fewer sequences remain.
use Rattle.std.proofs.Common.{◌∙◌, ◌<◌, ◌≤◌, List, [], ◌∷◌, ◌++◌, Option, Some, length, ap, inl, inr, arith}
use Rattle.std.proofs.lemmas.Bool.{cases_lt}
use Rattle.std.proofs.lemmas.List.{length-append}
use Rattle.lotos_check.specs.NameLists.{In}
use Rattle.lotos_normal.specs.NormalForms.{normal_form_of}
use Rattle.lotos_listing.specs.Order.{After, Label}
use Rattle.lotos_listing.specs.Remaining.{labels_of, remaining}
use Rattle.lotos_listing.proofs.RemainingCount.{sequence_lowers, shown_in}
use Rattle.lotos_sets.specs.Behaviours.{CanBeObserved}
use Rattle.lotos_sets.proofs.ReachedLabels.{reached_printed}
use Rattle.lotos_automaton.specs.BoundedBehaviours.{BoundedBehaviour, IsObserved, ReachTheSame}
use Rattle.lotos_automaton.specs.Explorations.{SameFuture}
use Rattle.lotos_automaton.specs.TransitionCovers.{IsAccessSequence}
use Rattle.lotos_automaton.proofs.CoverLaws.{cover_laws}
use Rattle.lotos_automaton.proofs.ObservedGraphs.{IsSeen, seen_same}
use Rattle.lotos_suite.specs.CoverListings.{IsListedLine}
use Rattle.lotos_suite.proofs.CoverLengths.{beyond_fronts}

module _ (q : BoundedBehaviour) (seen : IsSeen q.behaviour) where
  -- the first sequence with a future is the first that reaches the same normal forms
  access_by_forms : (r : List Label) → IsAccessSequence (CanBeObserved q.behaviour) (SameFuture q.behaviour) r →
      IsAccessSequence (IsObserved q.behaviour) (ReachTheSame q.behaviour) r
  access_by_forms r first = record {
    observed = (seen r).0 first.observed;
    first = λ s same before. first.first s (λ w. (
      λ h. (seen (r ++ w)).1 (seen_same q.behaviour s r same w ((seen (s ++ w)).0 h)),
      λ h. (seen (s ++ w)).1 (seen_same q.behaviour r s ((cover_laws q.behaviour).back s r same) w ((seen (r ++ w)).0 h)),
    )) before;
  }

  module _ (s : List Label) (listed : IsListedLine q s) where
    -- the labels of a line are those of the question
    line_labels : (l : Label) → In l s → In l (labels_of q.behaviour.names)
    line_labels l there =
        let b = q.behaviour in
        let (t, reached) = (seen s).0 listed.line.covers.observed in
        let (k, shown) = reached_printed b.names b.processes (normal_form_of b.processes) b.strong b.start s t reached l there in
        shown_in b.names k l shown

    -- there are at most as many as there may be sets
    line_short : length s ≤ q.states
    line_short =
        let covers = listed.line.covers in
        let r = covers.access in
        let count = ap length covers.is ∙ length-append r (covers.next_label ∷ []) in
        elim (cases_lt (length r) q.states) [
          | inl short ↦ omega arith
          | inr long ↦ absurd (listed.whole r
              (inr (beyond_fronts (IsObserved q.behaviour) (ReachTheSame q.behaviour) (cover_laws q.behaviour) r (access_by_forms r covers.leads) q.states
              long)))
        ]

    -- so fewer sequences remain after it
    pub line_lowers : (cursor : Option (List Label)) → After cursor s →
        remaining q.behaviour.names q.states (Some s) < remaining q.behaviour.names q.states cursor
    line_lowers cursor after = sequence_lowers q.behaviour.names q.states cursor s line_short line_labels after
