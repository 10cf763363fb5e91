use Rattle.std.proofs.Common.{◌≡◌, arith, subst}
use Rattle.lotos_suite.proofs.ApartRounds.{next_label}
use Rattle.lotos_suite.specs.ApartSearch.{HasSearchedTo}
use Rattle.lotos_store.specs.Interning.{plain_lists}
use Rattle.lotos_suite.proofs.apart_sequences.ApartSequences.add_with_label.Goals as goal

pub try_sequence-requires : goal.try_sequence-requires
try_sequence-requires c =
    let (s, d, is, table, less, h) = c.requires.searched in
    record {
      searched = (
        s,
        d,
        c.args.from,
        c.args.to,
        is,
        table,
        less,
        c.loop-rest.invariant.above,
        c.loop-rest-test.true,
        c.loop-rest.invariant.searched s d is table less h,
      );
    }

pub returns-clause-searched : goal.returns-clause-searched
returns-clause-searched c = λ s d is table less h.
    let l = c.loop-rest in
    let stop = l.auto.rest-end in
    let end = c.loop-rest-test.false in
    let ordered = h.ordered in
    let last : l.rest ≡ c.args.to = omega arith in
    next_label s is l.self.steps.items (plain_lists l.self.can.items) l.self.classes.items d c.args.from c.args.to c.args.label
    (subst (λ n. HasSearchedTo s l.self d c.args.from c.args.to c.args.label n) last (l.invariant.searched s d is table less h))
