use Rattle.std.proofs.Common.{◌≡◌, false, MatchOption, ◌∙◌, ◌∷◌, [], Some, length, subst, arith, sym, inl, inr, ap, slice_get, length-append}
use Rattle.std.proofs.lemmas.List.{length-map}
use Rattle.lotos_check.proofs.ListIndices.{get_added}
use Rattle.lotos_suite.proofs.TableMoves.{flag_after, has_entry, move_inside}
use Rattle.lotos_store.specs.Interning.{plain_lists}
use Rattle.lotos_suite.specs.SuiteTables.{HasEntry}
use Rattle.lotos_suite.proofs.apart_sequences.states_that_can.Goals as goal

pub move_at-requires : goal.move_at-requires
move_at-requires c =
    let (s, x, w, is, table, at, flags) = c.requires in
    let many = length-map c.args.rows.now (λ v. v.items) in
    let end = c.loop-state-test.true in
    record { within = has_entry s (plain_lists c.args.rows.now) table c.loop-state.state c.args.label x (omega arith) at }

pub can_after-requires : goal.can_after-requires
can_after-requires c =
    let (s, x, w, is, table, at, flags) = c.requires in
    move_inside s is (plain_lists c.args.rows.now) table c.loop-state.state c.args.label x c.move_at.result at c.move_at.ensures w c.args.can.now flags

pub loop-state-preserved : goal.loop-state-preserved
loop-state-preserved c =
    let l = c.loop-state in
    let pushed = c.in_ok-push.ensures.items in
    let count = l.invariant.counted in
    let long = length-append l.states.items (c.can_after.result ∷ []) in
    record {
      counted = let e = ap length pushed in omega arith;
      each = λ s x w is table at flags j flag here.
          elim (get_added l.states.items c.can_after.result j flag (subst (λ xs. slice_get xs j ≡ Some flag) pushed here)) [
            | inl before ↦ l.invariant.each s x w is table at flags j flag before
            | inr (last, same) ↦
                let e : j ≡ l.state = last ∙ count in
                flag_after s is (plain_lists c.args.rows.now) table j c.args.label x c.move_at.result at
                (subst (λ n. HasEntry (plain_lists c.args.rows.now) n c.args.label c.move_at.result) (sym e) c.move_at.ensures) w c.args.can.now flags flag
                (subst (λ f. MatchOption c.move_at.result (f ≡ false) (λ m. slice_get c.args.can.now m.state ≡ Some f)) same c.can_after.ensures)
          ];
    }
