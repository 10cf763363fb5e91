-- Comparisons without a line, and what is included then.
use Rattle.std.proofs.Common.{◌≡◌, suc, Bool, true, false, List, [], ◌∷◌, ◌++◌, length, refl, subst, sym, arith}
use Rattle.std.specs.Prelude.{not}
use Rattle.std.proofs.lemmas.List.{append_assoc, append-nil}
use Rattle.lotos_check.specs.NameLists.{In}
use Rattle.lotos_check.proofs.NameTests.{listed, not_listed}
use Rattle.lotos_listing.specs.Order.{Label}
use Rattle.lotos_listing.specs.PrefixWalk.{IsAscending}
use Rattle.lotos_compare.specs.Differences.{ComparisonKind, Difference, Differs, HasNoLine, IsObservedAlone, IsRefusedAlone, IsShared}
use Rattle.lotos_compare.specs.Differences.{LivelocksAlone, Observations, OffersFewest}
use Rattle.lotos_compare.specs.Differences as d
use Rattle.lotos_compare.proofs.FewestLabels.{has_label, offers_none}

-- what holds of the observations of a system: the empty sequence is observed, and each that an observed one begins with;
-- and sequences after which something else is found out are observed
pub record AreObservations (o : Observations) : Type 0 where
  pub begins : o.Observed []
  pub shorter : (s : List Label) (l : Label) → o.Observed (s ++ l ∷ []) → o.Observed s
  pub offered : (s labels : List Label) → o.MayOffer s labels → o.Observed s
  pub ascends : (s labels : List Label) → o.MayOffer s labels → IsAscending labels
  pub turned : (s : List Label) → o.MayLivelock s → o.Observed s

-- a label, in a sequence that goes on
joined : (r w : List Label) (l : Label) → (r ++ l ∷ []) ++ w ≡ r ++ l ∷ w
joined r w l = append_assoc r (l ∷ []) w

-- what an observed sequence begins with is observed
front : (o : Observations) → AreObservations o → (w r : List Label) → o.Observed (r ++ w) → o.Observed r
front o ok [] r seen = subst o.Observed (append-nil r) seen
front o ok (l ∷ w) r seen = ok.shorter r l (front o ok w (r ++ l ∷ []) (subst o.Observed (sym (joined r w l)) seen))

module _ (one other : Observations) (mine : AreObservations one) (theirs : AreObservations other) where
  -- if the one never goes on alone, no sequence is observed of it alone that goes on from one that both can do
  none_alone_from : ((s : List Label) (l : Label) → Differs one other s (d.comes l) → ⊥) → (w r : List Label) → IsShared one other r →
      IsObservedAlone one other (r ++ w) → ⊥
  none_alone_from none [] r shared (seen, unseen) = unseen (subst other.Observed (sym (append-nil r)) shared.1)
  none_alone_from none (l ∷ w) r shared (seen, unseen) =
      let again : one.Observed ((r ++ l ∷ []) ++ w) = subst one.Observed (sym (joined r w l)) seen in
      let next : one.Observed (r ++ l ∷ []) = front one mine w (r ++ l ∷ []) again in
      none r l (
        shared,
        (
          next,
          λ also. none_alone_from none w (r ++ l ∷ []) (next, also) (again, λ there. unseen (subst other.Observed (joined r w l) there)),
        ),
      )

  -- nor any other
  pub none_alone : ((s : List Label) (l : Label) → Differs one other s (d.comes l) → ⊥) → (s : List Label) → IsObservedAlone one other s → ⊥
  none_alone none s = none_alone_from none s [] (mine.begins, theirs.begins)

  module _ (none : (s : List Label) (e : Difference) → Differs one other s e → ⊥) where
    -- what can be said of a sequence that both can do can be said of one that the one can do
    shared_of : (s : List Label) → one.Observed s → (IsShared one other s → ⊥) → ⊥
    shared_of s seen never = none_alone (λ r l. none r (d.comes l)) s (seen, λ also. never (seen, also))

    -- if the one differs in nothing, no set is refused by it alone
    pub none_refused : (s : List Label) (set : Label → Bool) → IsRefusedAlone one other s set → ⊥
    none_refused s set (may, may_not) = shared_of s (mine.offered s may.labels may.offers) (λ shared.
        offers_none one other mine.ascends s (λ labels fewest. none s (d.refuses_all_but labels) (shared, fewest)) (suc (length may.labels)) may.labels
        (omega arith) (record {
          offers = may.offers;
          none = λ fewer there among. may_not (record { labels = fewer; offers = there; none = λ l i has. may.none l (among l i) has });
        }))

    -- and it does not livelock alone
    pub none_livelocks : (s : List Label) → LivelocksAlone one other s → ⊥
    none_livelocks s (turns, stays) = shared_of s (mine.turned s turns) (λ shared. none s d.livelocks (shared, (turns, stays)))

-- the labels that are not in the list
abbrev all_but : List Label → Label → Bool
all_but labels l = not (has_label labels l)

-- none of them is in the list
none_in : (labels : List Label) (l : Label) → In l labels → all_but labels l ≡ true → ⊥
none_in labels l i = by (has_label labels l) refl
  where
    by : (b : Bool) → has_label labels l ≡ b → not b ≡ true → ⊥
    by true e h = cc
    by false e h = not_listed l labels e i

-- and a label that is none of them is
rest_in : (labels : List Label) (l : Label) → (all_but labels l ≡ true → ⊥) → In l labels
rest_in labels l never = by (has_label labels l) refl never
  where
    by : (b : Bool) → has_label labels l ≡ b → (not b ≡ true → ⊥) → In l labels
    by true e h = listed l labels e
    by false e h = absurd (h refl)

module _ (one other : Observations) where
  -- a least set of labels that the one offers is a set of labels that it may refuse alone: all but these
  refused_alone : (s labels : List Label) → OffersFewest one other s labels → IsRefusedAlone one other s (all_but labels)
  refused_alone s labels fewest = (
    record { labels = labels; offers = fewest.so_few.offers; none = none_in labels },
    λ there. fewest.so_few.none there.labels there.offers (λ l i. rest_in labels l (there.none l i)),
  )

  -- if nothing is found out about the one alone, it does not differ
  pub differs_in_none : ((s : List Label) → IsObservedAlone one other s → ⊥) → ((s : List Label) (set : Label → Bool) → IsRefusedAlone one other s set → ⊥) →
      ((s : List Label) → LivelocksAlone one other s → ⊥) → (s : List Label) (e : Difference) → Differs one other s e → ⊥
  differs_in_none traces refusals livelocks s (d.comes l) (shared, alone) = traces (s ++ l ∷ []) alone
  differs_in_none traces refusals livelocks s (d.refuses_all_but labels) (shared, fewest) = refusals s (all_but labels) (refused_alone s labels fewest)
  differs_in_none traces refusals livelocks s d.livelocks (shared, alone) = livelocks s alone

-- a system does not differ from itself
pub differs_not : (o : Observations) (s : List Label) (e : Difference) → Differs o o s e → ⊥
differs_not o s (d.comes l) (shared, (can, cannot)) = cannot can
differs_not o s (d.refuses_all_but labels) (shared, fewest) = fewest.so_few.none labels fewest.so_few.offers (λ l i. i)
differs_not o s d.livelocks (shared, (can, cannot)) = cannot can

module _ (one other : Observations) (kind : ComparisonKind) (no_line : HasNoLine one other kind) where
  -- without a line, the first system never goes on alone
  pub first_goes_on : (s : List Label) (l : Label) → Differs one other s (d.comes l) → ⊥
  first_goes_on s l h =
      no_line (record { side = d.first; sequence = s; difference = d.comes l }) (record { side_asked = tt; difference_asked = tt; differs = h })

  -- nor the second, if it is asked about
  pub second_goes_on : kind.within ≡ false → (s : List Label) (l : Label) → Differs other one s (d.comes l) → ⊥
  second_goes_on asked s l h =
      no_line (record { side = d.second; sequence = s; difference = d.comes l }) (record { side_asked = asked; difference_asked = tt; differs = h })

  -- if the comparison is about refusals, the first differs in nothing
  pub first_differs : kind.refusals ≡ true → (s : List Label) (e : Difference) → Differs one other s e → ⊥
  first_differs asked s (d.comes l) h = first_goes_on s l h
  first_differs asked s (d.refuses_all_but labels) h =
      no_line (record { side = d.first; sequence = s; difference = d.refuses_all_but labels })
      (record { side_asked = tt; difference_asked = asked; differs = h })
  first_differs asked s d.livelocks h =
      no_line (record { side = d.first; sequence = s; difference = d.livelocks }) (record { side_asked = tt; difference_asked = asked; differs = h })

  -- nor the second, if it is asked about
  pub second_differs : kind.within ≡ false → kind.refusals ≡ true → (s : List Label) (e : Difference) → Differs other one s e → ⊥
  second_differs both asked s (d.comes l) h = second_goes_on both s l h
  second_differs both asked s (d.refuses_all_but labels) h =
      no_line (record { side = d.second; sequence = s; difference = d.refuses_all_but labels })
      (record { side_asked = both; difference_asked = asked; differs = h })
  second_differs both asked s d.livelocks h =
      no_line (record { side = d.second; sequence = s; difference = d.livelocks }) (record { side_asked = both; difference_asked = asked; differs = h })
