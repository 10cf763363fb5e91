-- Runs that come back to a term that does as one on the way.
use Rattle.std.proofs.Common.{◌≡◌, ◌<◌, ◌≤◌, ◌+◌, ℕ, List, Some, arith, drop, length, subst, sym, take}
use Rattle.std.specs.Prelude.{slice_get}
use Rattle.std.proofs.lemmas.List.{length-take-le, take-take}
use Rattle.lotos_check.proofs.ListIndices.{get_in, get_some}
use Rattle.lotos_store.specs.Terms.{Process, Term}
use Rattle.lotos_store.specs.declared.label.Label.{Label}
use Rattle.lotos_terms.specs.TableView.{Grows, TableView}
use Rattle.lotos_origins.specs.Contexts.{DoAlike}
use Rattle.lotos_origins.specs.FollowedRuns.{IsFollowed, ends_of, terms_in}
use Rattle.lotos_origins.specs.Origins.{DerivesBy}
use Rattle.lotos_origins.specs.Rounds.{GoesRoundBy, IsRoundAt}
use Rattle.lotos_origins.specs.RunLayers.{AreLayers, AreOriginsFrom, AreOriginsTo, HoldsAt, IsIndexAt, IsIndexIn}
use Rattle.lotos_origins.specs.declared.followed_run.FollowedRun.{FollowedRun}
use Rattle.lotos_origins.specs.declared.origin.Origin.{Origin}
use Rattle.lotos_origins.specs.declared.rounds.Round.{Round}
use Rattle.lotos_origins.specs.declared.run_layers.Layer.{Layer}
use Rattle.lotos_origins.proofs.AlongRuns.{get_taken, layers_grow, layers_kept, taken_get}
use Rattle.lotos_origins.proofs.FollowedRuns.{ends_at_last}

-- the first layers are those of the first labels
pub first_layers_of : (table : TableView) (start : ℕ) (labels : List Label) (layers : List Layer) (at : ℕ) → AreLayers table start labels layers →
    AreLayers table start (take at labels) (take (at + 1) layers)
first_layers_of table start labels layers at are =
    layers_kept table start labels (take at labels) at layers (sym (take-take at at labels (omega arith))) are

module _ (labels : List Label) (layers : List Layer) (at : ℕ) (within : at ≤ length labels) where
  -- the last of the first layers is the one at that index
  first_last : (l : Layer) → slice_get layers at ≡ Some l → slice_get (take (at + 1) layers) (length (take at labels)) ≡ Some l
  first_last l l_at = subst (λ i. slice_get (take (at + 1) layers) i ≡ Some l) (sym (length-take-le at labels within))
      (get_taken layers (at + 1) at l (omega arith) l_at)

  -- an index of that layer is one of the last of them
  pub index_in_first : (index : ℕ) → IsIndexAt index at layers → IsIndexIn index (take at labels) (take (at + 1) layers)
  index_in_first index below last last_at =
      let here : slice_get (take (at + 1) layers) at ≡ Some last =
      subst (λ i. slice_get (take (at + 1) layers) i ≡ Some last) (length-take-le at labels within) last_at in
      below last (taken_get layers (at + 1) at last here).1

-- what is at the two ends of a loop
record AreLoopEnds (table : TableView) (labels : List Label) (layers : List Layer) (at index end : ℕ) (l last : Layer) (x y : ℕ) (t u : Term) : Type 0 where
  pub l_at : slice_get layers at ≡ Some l
  pub last_at : slice_get layers (length labels) ≡ Some last
  pub x_at : slice_get l.terms.items index ≡ Some x
  pub y_at : slice_get last.terms.items end ≡ Some y
  pub t_at : slice_get table.terms x ≡ Some t
  pub u_at : slice_get table.terms y ≡ Some u

module _ (first : TableView) (start : ℕ) (labels : List Label) (followed : FollowedRun) (is : IsFollowed first start labels followed)
    (at index end : ℕ) (within : at ≤ length labels) (below : IsIndexAt index at followed.layers.items) (in_ends : end < length (ends_of followed)) where
  -- there are terms at both ends of the loop
  loop_ends : (l last : Layer) × (x y : ℕ) × (t u : Term) × AreLoopEnds first labels followed.layers.items at index end l last x y t u
  loop_ends =
      let layers = followed.layers.items in
      let (l, l_at) = get_some layers at (omega (arith, within, is.count)) in
      let (last, last_at) = get_some layers (length labels) (omega (arith, is.count)) in
      let (x, x_at) = get_some l.terms.items index (below l l_at) in
      let (y, y_in) = get_some (ends_of followed) end in_ends in
      let y_at = subst (λ ys. slice_get ys end ≡ Some y) (ends_at_last followed labels is.count last last_at) y_in in
      let (t, t_at) = get_some first.terms x ((is.along at l l_at).0 x (get_in l.terms.items index x x_at)) in
      let (u, u_at) = get_some first.terms y (is.known y (get_in (ends_of followed) end y y_in)) in
      (l, last, x, y, t, u, record { l_at = l_at; last_at = last_at; x_at = x_at; y_at = y_at; t_at = t_at; u_at = u_at })

  -- if they do alike, steps go round
  pub closes : (now last : TableView) → Grows first now → Grows now last → (before around : List Origin) →
      ((system : List Process) (t x y : Term) (row turn : List Label) (before around : List Origin) → DerivesBy system t row before x →
      DerivesBy system x turn around y → DoAlike system x y → GoesRoundBy system t row turn before around) →
      AreOriginsFrom first labels followed.layers.items at index end around →
      ((x y : ℕ) (t u : Term) → slice_get (terms_in (slice_get followed.layers.items at)) index ≡ Some x →
      slice_get (terms_in (slice_get followed.layers.items (length labels))) end ≡ Some y → slice_get now.terms x ≡ Some t → slice_get now.terms y ≡ Some u →
      DoAlike now.processes t u) → AreOriginsTo now (take at labels) (take (at + 1) followed.layers.items) index before →
      HoldsAt last start (λ t. GoesRoundBy last.processes t (take at labels) (drop at labels) before around)
  closes now last grows more before around law turn alike row =
      let layers = followed.layers.items in
      let (l, z, x, y, t, u, are) = loop_ends in
      let (s, s_at) = get_some first.terms start is.numbered in
      let x_there = subst (λ o. slice_get (terms_in o) index ≡ Some x) (sym are.l_at) are.x_at in
      let y_there = subst (λ o. slice_get (terms_in o) end ≡ Some y) (sym are.last_at) are.y_at in
      let t_now = grows.terms x t are.t_at in
      let to_loop : DerivesBy now.processes s (take at labels) before t =
      row start x s t l (first_layers_of now start labels layers at (layers_grow first now grows start labels layers is.layers)) (grows.terms start s s_at)
      (first_last labels layers at within l are.l_at) are.x_at t_now in
      let loop : DerivesBy now.processes t (drop at labels) around u =
      subst (λ (ps : List Process). DerivesBy ps t (drop at labels) around u) (sym grows.processes)
      (turn x y t u l z are.l_at are.x_at are.t_at are.last_at are.y_at are.u_at) in
      let goes = law now.processes s t u (take at labels) (drop at labels) before around to_loop loop
      (alike x y t u x_there y_there t_now (grows.terms y u are.u_at)) in (
        s,
        more.terms start s (grows.terms start s s_at),
        subst (λ (ps : List Process). GoesRoundBy ps s (take at labels) (drop at labels) before around) (sym more.processes) goes,
      )

-- so they are the round that is wanted
pub round_at : (table : TableView) (start : ℕ) (labels : List Label) (at : ℕ) (round : Round) → round.row.items ≡ take at labels →
    round.turn.items ≡ drop at labels → HoldsAt table start
    (λ t. GoesRoundBy table.processes t (take at labels) (drop at labels) round.row_origins.items round.turn_origins.items) →
    IsRoundAt table start labels at round
round_at table start labels at round row_is turn_is (t, located, goes) =
    let before = round.row_origins.items in
    let around = round.turn_origins.items in
    let turned : GoesRoundBy table.processes t (take at labels) round.turn.items before around =
    subst (λ ks. GoesRoundBy table.processes t (take at labels) ks before around) (sym turn_is) goes in
    record {
      row_is = row_is;
      turn_is = turn_is;
      goes_round = (t, located, subst (λ ks. GoesRoundBy table.processes t ks round.turn.items before around) (sym row_is) turned);
    }
