-- Where turns of a loop begin.
use Rattle.std.proofs.Common.{◌≡◌, ◌∙◌, ◌≤◌, ◌++◌, ◌∷◌, [], ℕ, suc, zero, List, arith, ap, drop, inl, inr, length, subst, sym, take}
use Rattle.std.proofs.lemmas.List.{append-nil, append_assoc, drop-append-le, length-append, take-append-le}
use Rattle.std.proofs.Math.Seq.{drop-append_seam, take-append_seam}
use Rattle.lotos_check.specs.NameLists.{In}
use Rattle.lotos_check.proofs.JoinedLists.{in_added}
use Rattle.lotos_listing.specs.Ends.{repeated}

module _ {X : Type 0} where
  -- one more list behind those that are repeated is one more
  pub repeated_more : (n : ℕ) (list : List X) → repeated n list ++ list ≡ repeated (suc n) list
  repeated_more zero list = sym (append-nil list)
  repeated_more (suc n) list = append_assoc list (repeated n list) list ∙ ap (λ xs. list ++ xs) (repeated_more n list)

  -- a row and some turns, and one more turn behind them, are the row and one more turn
  pub turns_more : (row turn labels : List X) (n : ℕ) → labels ≡ row ++ repeated n turn → labels ++ turn ≡ row ++ repeated (suc n) turn
  turns_more row turn labels n are =
      ap (λ xs. xs ++ turn) are ∙ append_assoc row (repeated n turn) turn ∙ ap (λ xs. row ++ xs) (repeated_more n turn)

  -- a turn begins after so many labels: those are the row and some turns, and the others are turns, at least one
  pub record IsBoundOf (row turn labels : List X) (at : ℕ) : Type 0 where
    pub within : at ≤ length labels
    pub before : ℕ
    pub again : ℕ
    pub row_is : take at labels ≡ row ++ repeated before turn
    pub turn_is : drop at labels ≡ repeated (suc again) turn

  -- the labels are the row and some turns, and each number is that of the labels before a turn
  pub record AreTurnsOf (row turn labels : List X) (bounds : List ℕ) : Type 0 where
    pub count : ℕ
    pub are : labels ≡ row ++ repeated count turn
    pub each : (at : ℕ) → In at bounds → IsBoundOf row turn labels at

  -- so it is before any turn
  pub no_turns : (row turn labels : List X) (bounds : List ℕ) → labels ≡ row → bounds ≡ [] → AreTurnsOf row turn labels bounds
  no_turns row turn labels bounds labels_are bounds_are = record {
    count = 0;
    are = labels_are ∙ sym (append-nil row);
    each = λ at there. absurd (subst (In at) bounds_are there);
  }

  -- and after one turn more
  module _ (row turn labels : List X) where
    -- a turn that begins before another one begins there after it too
    bound_stays : (at : ℕ) → IsBoundOf row turn labels at → IsBoundOf row turn (labels ++ turn) at
    bound_stays at is = record {
      within = omega (arith, is.within, length-append labels turn);
      before = is.before;
      again = suc is.again;
      row_is = take-append-le at labels turn is.within ∙ is.row_is;
      turn_is = drop-append-le at labels turn is.within ∙ ap (λ xs. xs ++ turn) is.turn_is ∙ repeated_more (suc is.again) turn;
    }

    -- the new one begins behind all labels that there were
    bound_added : (n : ℕ) → labels ≡ row ++ repeated n turn → IsBoundOf row turn (labels ++ turn) (length labels)
    bound_added n are = record {
      within = omega (arith, length-append labels turn);
      before = n;
      again = 0;
      row_is = take-append_seam labels turn ∙ are;
      turn_is = drop-append_seam labels turn ∙ sym (append-nil turn);
    }

    -- and so it is of all of them
    pub turn_added : (bounds : List ℕ) (longer : List X) (more : List ℕ) → longer ≡ labels ++ turn → more ≡ bounds ++ length labels ∷ [] →
        AreTurnsOf row turn labels bounds → AreTurnsOf row turn longer more
    turn_added bounds longer more longer_is more_is turns =
        let each : (at : ℕ) → In at (bounds ++ length labels ∷ []) → IsBoundOf row turn (labels ++ turn) at =
        λ at there. elim (in_added at bounds (length labels) there) [
          | inl before ↦ bound_stays at (turns.each at before)
          | inr last ↦ subst (λ i. IsBoundOf row turn (labels ++ turn) i) last (bound_added turns.count turns.are)
        ] in
        subst (λ xs. AreTurnsOf row turn xs more) (sym longer_is)
        (subst (λ bs. AreTurnsOf row turn (labels ++ turn) bs) (sym more_is) (record {
          count = suc turns.count;
          are = turns_more row turn labels turns.count turns.are;
          each = each;
        }))
