use Rattle.std.proofs.Common.{map, sym, ap, subst}
use Rattle.std.specs.Prelude.{MatchBool}
use Rattle.lotos_check.specs.NameLists.{In, texts}
use Rattle.lotos_warn.proofs.Additions.{adds_alone}
use Rattle.lotos_warn.proofs.ExchangedSites.{AreSame, same_tested, same_lost}
use Rattle.lotos_warn.proofs.exchanged_gates.have_same_names.Goals.{then-have_names, else-have_names}
use Rattle.lotos_warn.proofs.exchanged_gates.have_same_names.Goals as goal

pub returns : goal.returns
returns c =
    let names = texts c.args.gates.now in
    let others = c.args.names.now in
    let given = map (λ k. k.now) c.insert_names.new.into.keys in
    let own = map (λ k. k.now) c.insert_each.new.into.keys in
    let is_given = adds_alone (map (λ k. k.now) c.new-given.result.keys) given (λ n. In n names) (ap (map (λ k. k.now)) c.new-given.ensures.empty)
    c.in_ok-insert_names.ensures in
    let is_own = adds_alone (map (λ k. k.now) c.new-own.result.keys) own (λ n. In n others) (ap (map (λ k. k.now)) c.new-own.ensures.empty)
    c.in_ok-insert_each.ensures in
    let same = AreSame names others given own is_given is_own in
    elim c.if-have_names.branch [
      | then-have_names w ↦ subst (λ b. MatchBool b same (same → ⊥)) (sym w.result-is)
          (same_tested names others given own is_given is_own w.are_among.result w.if-have_names.ensures w.are_among.ensures)
      | else-have_names w ↦ subst (λ b. MatchBool b same (same → ⊥)) (sym w.result-is)
          (same_lost names others given own is_given is_own c.have_names.result w.if-have_names.false w.if-have_names.ensures)
    ]
