-- Where labels lead by the table of a machine.
use Rattle.std.proofs.Common.{◌≡◌, ◌∙◌, ◌<◌, ◌∷◌, ℕ, Bool, true, false, MatchBool, List, Option, None, Some, MatchOption, length, arith, subst, sym, slice_get}
use Rattle.std.proofs.lemmas.Option.{slice_get_within}
use Rattle.lotos_check.proofs.ListIndices.{get_some}
use Rattle.lotos_suite.proofs.MachineRuns.{first_step, one_number, some_apart, step_then}
use Rattle.lotos_suite.specs.ApartSearch.{AreFlags}
use Rattle.lotos_suite.specs.Machines.{CanDoFrom}
use Rattle.lotos_listing.specs.Order.{Label}
use Rattle.lotos_suite.specs.SuiteTables.{HasEntry, IsSubject, IsTableOf, Subject}
use Rattle.lotos_suite.specs.declared.moves.Move.{Move}

module _ (s : Subject) (rows : List (List (Option Move))) (table : IsTableOf s rows) where
  -- a state has an entry for each label
  pub has_entry : (j i : ℕ) (x : Label) → j < length rows → slice_get s.labels i ≡ Some x → (entry : Option Move) × HasEntry rows j i entry
  has_entry j i x less at =
      let (row, at_row) = get_some rows j less in
      let within = slice_get_within s.labels i x at in
      let wide = table.wide j row at_row in
      let (entry, at_entry) = get_some row i (omega arith) in
      (entry, record { row = row; at = at_row; is = at_entry })

module _ (s : Subject) (is : IsSubject s) (rows : List (List (Option Move))) (table : IsTableOf s rows) where
  -- it leads to a state that has a flag
  pub move_inside : (j i : ℕ) (x : Label) (entry : Option Move) → slice_get s.labels i ≡ Some x → HasEntry rows j i entry →
      (w : List Label) (flags : List Bool) → AreFlags s.machine w flags → MatchOption entry (Unit {0}) (λ m. m.state < length flags)
  move_inside j i x None at has w flags are = tt
  move_inside j i x (Some move) at has w flags are =
      let leads = (table.moves j i x (Some move) has at).0 in
      let low = is.over.below j move.state x leads in
      let many = are.counted in
      omega arith

  -- the flag after it is that of the label and the sequence
  pub flag_after : (j i : ℕ) (x : Label) (entry : Option Move) → slice_get s.labels i ≡ Some x → HasEntry rows j i entry →
      (w : List Label) (flags : List Bool) → AreFlags s.machine w flags → (flag : Bool) →
      MatchOption entry (flag ≡ false) (λ m. slice_get flags m.state ≡ Some flag) →
      MatchBool flag (CanDoFrom s.machine j (x ∷ w)) (CanDoFrom s.machine j (x ∷ w) → ⊥)
  flag_after j i x None at has w flags are flag none =
      let step = table.moves j i x None has at in
      subst (λ b. MatchBool b (CanDoFrom s.machine j (x ∷ w)) (CanDoFrom s.machine j (x ∷ w) → ⊥)) (sym none)
      (λ can. let (r, leads, rest) = first_step s.machine j x w can in some_apart (sym step ∙ leads))
  flag_after j i x (Some move) at has w flags are flag here =
      by flag (are.each move.state flag here)
    where
      leads : s.machine.next j x ≡ Some move.state
      leads = (table.moves j i x (Some move) has at).0

      by : (b : Bool) → MatchBool b (CanDoFrom s.machine move.state w) (CanDoFrom s.machine move.state w → ⊥) →
          MatchBool b (CanDoFrom s.machine j (x ∷ w)) (CanDoFrom s.machine j (x ∷ w) → ⊥)
      by true can = step_then s.machine j move.state x w leads can
      by false cannot = λ can.
          let (r, to, rest) = first_step s.machine j x w can in
          cannot (subst (λ z. CanDoFrom s.machine z w) (one_number r move.state (sym to ∙ leads)) rest)
