use Rattle.std.proofs.Common.{◌≡◌, ◌+◌, arith, length}
use Rattle.std.proofs.lemmas.List.{length-map}
use Rattle.lotos_pattern.specs.Spelling.{IsNot, complement, texts_of}
use Rattle.lotos_pattern.proofs.SpellingFaults.{angle_names_none, fault_not_alone, fault_not_internal, fault_not_none, future_names_none}
use Rattle.lotos_pattern.proofs.SpellingFaults.{nothing_names_none, numbered}
use Rattle.lotos_pattern.proofs.Words.{word_at}
use Rattle.lotos_pattern.proofs.pattern_parser.parse_complement.Goals as goal

pub returns-then-second-words-clause-fault : goal.returns-then-second-words-clause-fault
returns-then-second-words-clause-fault c =
    let last : length (texts_of c.args.words.now) ≡ c.args.index + 1 = let h = length-map c.args.words.now (λ word. word.now) in omega arith in
    fault_not_alone c.args.strong (texts_of c.args.words.now) c.args.index _ (numbered _ _ IsNot c.requires.complement) c.requires.complement.such last

pub returns-in-Labels-clause-set : goal.returns-in-Labels-clause-set
returns-in-Labels-clause-set c =
    let names = rw c.in-Labels.is at c.in_ok-labels.ensures in
    record {
      first = _;
      second = _;
      first_at = numbered _ _ IsNot c.requires.complement;
      second_at = word_at c.args.words.now (c.args.index + 1) _ (omega arith);
      spelling = complement c.requires.complement.such names;
    }

pub returns-in-Internal-clause-fault : goal.returns-in-Internal-clause-fault
returns-in-Internal-clause-fault c =
    let is = rw c.in-Internal.is at c.in_ok-labels.ensures in
    fault_not_internal c.args.strong (texts_of c.args.words.now) c.args.index _ (numbered _ _ IsNot c.requires.complement) _
    (word_at c.args.words.now (c.args.index + 1) _ (omega arith)) is.1
    c.requires.complement.such is.0

pub returns-in-Any-clause-fault : goal.returns-in-Any-clause-fault
returns-in-Any-clause-fault c =
    let is = rw c.in-Any.is at c.in_ok-labels.ensures in
    fault_not_none c.args.strong (texts_of c.args.words.now) c.args.index _ (numbered _ _ IsNot c.requires.complement) _
    (word_at c.args.words.now (c.args.index + 1) _ (omega arith))
    c.requires.complement.such (angle_names_none _ _ _ is)

pub returns-in-Not-clause-fault : goal.returns-in-Not-clause-fault
returns-in-Not-clause-fault c =
    let is = rw c.in-Not.is at c.in_ok-labels.ensures in
    fault_not_none c.args.strong (texts_of c.args.words.now) c.args.index _ (numbered _ _ IsNot c.requires.complement) _
    (word_at c.args.words.now (c.args.index + 1) _ (omega arith))
    c.requires.complement.such (angle_names_none _ _ _ is)

pub returns-in-Until-clause-fault : goal.returns-in-Until-clause-fault
returns-in-Until-clause-fault c =
    let is = rw c.in-Until.is at c.in_ok-labels.ensures in
    fault_not_none c.args.strong (texts_of c.args.words.now) c.args.index _ (numbered _ _ IsNot c.requires.complement) _
    (word_at c.args.words.now (c.args.index + 1) _ (omega arith))
    c.requires.complement.such (angle_names_none _ _ _ is)

pub returns-in-While-clause-fault : goal.returns-in-While-clause-fault
returns-in-While-clause-fault c =
    let is = rw c.in-While.is at c.in_ok-labels.ensures in
    fault_not_none c.args.strong (texts_of c.args.words.now) c.args.index _ (numbered _ _ IsNot c.requires.complement) _
    (word_at c.args.words.now (c.args.index + 1) _ (omega arith))
    c.requires.complement.such (angle_names_none _ _ _ is)

pub returns-in-Deadlock-clause-fault : goal.returns-in-Deadlock-clause-fault
returns-in-Deadlock-clause-fault c =
    let is = rw c.in-Deadlock.is at c.in_ok-labels.ensures in
    fault_not_none c.args.strong (texts_of c.args.words.now) c.args.index _ (numbered _ _ IsNot c.requires.complement) _
    (word_at c.args.words.now (c.args.index + 1) _ (omega arith))
    c.requires.complement.such (angle_names_none _ _ _ is)

pub returns-in-Refuses-clause-fault : goal.returns-in-Refuses-clause-fault
returns-in-Refuses-clause-fault c =
    let is = rw c.in-Refuses.is at c.in_ok-labels.ensures in
    fault_not_none c.args.strong (texts_of c.args.words.now) c.args.index _ (numbered _ _ IsNot c.requires.complement) _
    (word_at c.args.words.now (c.args.index + 1) _ (omega arith))
    c.requires.complement.such (angle_names_none _ _ _ is)

pub returns-in-Future-clause-fault : goal.returns-in-Future-clause-fault
returns-in-Future-clause-fault c =
    let is = rw c.in-Future.is at c.in_ok-labels.ensures in
    fault_not_none c.args.strong (texts_of c.args.words.now) c.args.index _ (numbered _ _ IsNot c.requires.complement) _
    (word_at c.args.words.now (c.args.index + 1) _ (omega arith))
    c.requires.complement.such (future_names_none _ _ is)

pub returns-in-Unknown-clause-fault : goal.returns-in-Unknown-clause-fault
returns-in-Unknown-clause-fault c =
    let is = rw c.in-Unknown.is at c.in_ok-labels.ensures in
    fault_not_none c.args.strong (texts_of c.args.words.now) c.args.index _ (numbered _ _ IsNot c.requires.complement) _
    (word_at c.args.words.now (c.args.index + 1) _ (omega arith))
    c.requires.complement.such (nothing_names_none _ _ is)
