use Rattle.std.proofs.Common.{◌≡◌, ◌+◌, arith, inl, length}
use Rattle.std.proofs.lemmas.List.{length-map}
use Rattle.std.proofs.lemmas.Result.{err_from_is_err_and}
use Rattle.lotos_pattern.specs.Spelling.{IsUntil, Spelling, deadlock, named, texts_of, until_end, until_set}
use Rattle.lotos_pattern.proofs.SpellingFaults.{any_ends_none, awaits_after_until, fault_future, fault_internal, fault_until_alone, fault_until_none}
use Rattle.lotos_pattern.proofs.SpellingFaults.{nothing_ends_none, numbered, until_ends_none, while_ends_none}
use Rattle.lotos_pattern.proofs.Growth.{complement_spelled, spelled_after, spelled_by_two}
use Rattle.lotos_pattern.proofs.Words.{word_at}
use Rattle.lotos_pattern.proofs.pattern_parser.parse_until.Goals as goal

pub returns-then-second-words-clause-fault : goal.returns-then-second-words-clause-fault
returns-then-second-words-clause-fault c =
    let last : length (texts_of c.args.words.now) ≡ c.args.index + 1 = let h = length-map c.args.words.now (λ word. word.now) in omega arith in
    fault_until_alone c.args.strong (texts_of c.args.words.now) c.args.index _ (numbered _ _ IsUntil c.requires.until) c.requires.until.such last

pub returns-in-Labels-clause-element : goal.returns-in-Labels-clause-element
returns-in-Labels-clause-element c =
    let names = rw c.in-Labels.is at c.in_ok-labels.ensures in
    spelled_by_two (texts_of c.args.words.now) c.args.index _ (numbered _ _ IsUntil c.requires.until) (Spelling c.args.strong _) _
    (word_at c.args.words.now (c.args.index + 1) _ (omega arith))
    (until_set c.requires.until.such (named names))

pub returns-in-Deadlock-clause-element : goal.returns-in-Deadlock-clause-element
returns-in-Deadlock-clause-element c =
    let reads = rw c.in-Deadlock.is at c.in_ok-labels.ensures in
    rw c.new.ensures.items (spelled_by_two (texts_of c.args.words.now) c.args.index _ (numbered _ _ IsUntil c.requires.until) (Spelling c.args.strong _) _
    (word_at c.args.words.now (c.args.index + 1) _ (omega arith))
    (until_end c.requires.until.such (deadlock reads)))

pub returns-in-Internal-clause-fault : goal.returns-in-Internal-clause-fault
returns-in-Internal-clause-fault c begins =
    let is = rw c.in-Internal.is at c.in_ok-labels.ensures in
    fault_internal c.args.strong (texts_of c.args.words.now) (c.args.index + 1) _ (word_at c.args.words.now (c.args.index + 1) _ (omega arith)) is.1 is.0
    (inl (awaits_after_until c.args.strong (texts_of c.args.words.now) c.args.index _ (numbered _ _ IsUntil c.requires.until) c.requires.until.such begins))

pub returns-in-Any-clause-fault : goal.returns-in-Any-clause-fault
returns-in-Any-clause-fault c =
    let is = rw c.in-Any.is at c.in_ok-labels.ensures in
    fault_until_none c.args.strong (texts_of c.args.words.now) c.args.index _ (numbered _ _ IsUntil c.requires.until) _
    (word_at c.args.words.now (c.args.index + 1) _ (omega arith))
    c.requires.until.such (any_ends_none _ _ is)

pub returns-in-Until-clause-fault : goal.returns-in-Until-clause-fault
returns-in-Until-clause-fault c =
    let is = rw c.in-Until.is at c.in_ok-labels.ensures in
    fault_until_none c.args.strong (texts_of c.args.words.now) c.args.index _ (numbered _ _ IsUntil c.requires.until) _
    (word_at c.args.words.now (c.args.index + 1) _ (omega arith))
    c.requires.until.such (until_ends_none _ _ is)

pub returns-in-While-clause-fault : goal.returns-in-While-clause-fault
returns-in-While-clause-fault c =
    let is = rw c.in-While.is at c.in_ok-labels.ensures in
    fault_until_none c.args.strong (texts_of c.args.words.now) c.args.index _ (numbered _ _ IsUntil c.requires.until) _
    (word_at c.args.words.now (c.args.index + 1) _ (omega arith))
    c.requires.until.such (while_ends_none _ _ is)

pub returns-in-Unknown-clause-fault : goal.returns-in-Unknown-clause-fault
returns-in-Unknown-clause-fault c =
    let is = rw c.in-Unknown.is at c.in_ok-labels.ensures in
    fault_until_none c.args.strong (texts_of c.args.words.now) c.args.index _ (numbered _ _ IsUntil c.requires.until) _
    (word_at c.args.words.now (c.args.index + 1) _ (omega arith))
    c.requires.until.such (nothing_ends_none _ _ is)

pub returns-in_ok-set-in-Not-clause-element : goal.returns-in_ok-set-in-Not-clause-element
returns-in_ok-set-in-Not-clause-element c =
    let at = c.in_ok-set-in-Not.ensures.set in
    spelled_after (texts_of c.args.words.now) c.args.index _ (numbered _ _ IsUntil c.requires.until) (Spelling c.args.strong _) _ _
    (λ own. until_set c.requires.until.such)
    (complement_spelled c.args.strong (texts_of c.args.words.now) (c.args.index + 1) _ at)

pub returns-in_err-set-in-Not-clause-fault : goal.returns-in_err-set-in-Not-clause-fault
returns-in_err-set-in-Not-clause-fault c =
    let p = err_from_is_err_and c.from_residual-in_err-set-in-Not.result c.from_residual-in_err-set-in-Not.ensures.1 in
    rw (p.1, p.2) (λ begins. c.in_err-set-in-Not.ensures.fault (inl
    (awaits_after_until c.args.strong (texts_of c.args.words.now) c.args.index _ (numbered _ _ IsUntil c.requires.until) c.requires.until.such begins)))

pub returns-in_err-refused-in-Refuses-clause-fault : goal.returns-in_err-refused-in-Refuses-clause-fault
returns-in_err-refused-in-Refuses-clause-fault c =
    let p = err_from_is_err_and c.from_residual-in_err-refused-in-Refuses.result c.from_residual-in_err-refused-in-Refuses.ensures.1 in
    rw (p.1, p.2) (λ begins. c.in_err-refused-in-Refuses.ensures.fault
    (awaits_after_until c.args.strong (texts_of c.args.words.now) c.args.index _ (numbered _ _ IsUntil c.requires.until) c.requires.until.such begins))

pub returns-in_ok-refused-in-Refuses-clause-element : goal.returns-in_ok-refused-in-Refuses-clause-element
returns-in_ok-refused-in-Refuses-clause-element c =
    spelled_after (texts_of c.args.words.now) c.args.index _ (numbered _ _ IsUntil c.requires.until) (Spelling c.args.strong _) _ _
    (λ own. until_end c.requires.until.such) c.in_ok-refused-in-Refuses.ensures.set

pub returns-in-Future-clause-fault : goal.returns-in-Future-clause-fault
returns-in-Future-clause-fault c begins =
    let is = rw c.in-Future.is at c.in_ok-labels.ensures in
    fault_future c.args.strong (texts_of c.args.words.now) (c.args.index + 1) _ (word_at c.args.words.now (c.args.index + 1) _ (omega arith)) is
    (awaits_after_until c.args.strong (texts_of c.args.words.now) c.args.index _ (numbered _ _ IsUntil c.requires.until) c.requires.until.such begins)
