use Rattle.std.proofs.Common.{◌≡◌, ◌+◌, arith, length, subst, sym}
use Rattle.std.proofs.lemmas.List.{length-map}
use Rattle.lotos_suite.proofs.ApartRounds.{all_apart, next_layer}
use Rattle.lotos_suite.specs.ApartSearch.{HasSearchedTo}
use Rattle.lotos_store.specs.Interning.{plain_lists}
use Rattle.lotos_suite.proofs.apart_sequences.ApartSequences.find.Goals as goal

pub add_longer-requires : goal.add_longer-requires
add_longer-requires c =
    let (s, is, table, many) = c.requires in
    let (d, h) = c.loop-from.invariant.searched s is table many in
    record { searched = (s, d, is, table, many, h) }

pub loop-from-smaller : goal.loop-from-smaller
loop-from-smaller c =
    let fewer = c.in_ok-add_longer.ensures.fewer in
    let counted = c.loop-from.invariant.counted in
    let some = c.loop-from-test.true in
    let (s, is, table, many) = c.requires in
    let (d, h) = c.loop-from.invariant.searched s is table many in
    let g = c.in_ok-add_longer.ensures.searched s d is table many h in
    let within = g.within in
    let flags = g.flags.counted in
    let long = length-map c.add_longer.new.self.can.items (λ v. v.items) in
    let now : c.len-to.result ≡ length c.add_longer.new.self.can.items = omega (arith, c.len-to.ensures, c.add_longer.new.self.can.ok) in
    omega (arith, fewer, counted, some, within, flags, long, now)

pub loop-from-preserved : goal.loop-from-preserved
loop-from-preserved c = record {
  counted = omega (arith, c.len-to.ensures, c.add_longer.new.self.can.ok);
  searched = λ s is table many.
      let l = c.loop-from in
      let a = c.add_longer.new.self in
      let (d, h) = l.invariant.searched s is table many in
      let g = c.in_ok-add_longer.ensures.searched s d is table many h in
      let whole = subst (λ n. HasSearchedTo s a d l.from l.to n l.from) (sym many) g in
      let ordered = h.ordered in (
        d + 1,
        next_layer s is a.steps.items (plain_lists a.can.items) a.classes.items d l.from l.to l.from l.to whole c.len-to.result
            (let many = length-map a.can.items (λ v. v.items) in omega (arith, many, c.len-to.ensures, a.can.ok)) (omega arith),
      );
}

pub returns : goal.returns
returns c = λ s is table many.
    let l = c.loop-from in
    let (d, h) = l.invariant.searched s is table many in
    let end = c.loop-from-test.false in
    all_apart s is l.found.steps.items (plain_lists l.found.can.items) l.found.classes.items d l.from l.to 0 l.from (omega arith) h
