use Rattle.std.proofs.Common.{◌≡◌, ◌+◌, arith, inl, subst}
use Rattle.std.proofs.lemmas.Result.{err_from_is_err_and}
use Rattle.lotos_pattern.specs.Spelling.{Spelling, all, deadlock, end, named, one_of, some, texts_of}
use Rattle.lotos_pattern.specs.WordKinds.{ParsesAt}
use Rattle.lotos_pattern.proofs.SpellingFaults.{fault_future, fault_internal, fault_nothing}
use Rattle.lotos_pattern.proofs.Growth.{spelled_too, spelled_by_one, spelled_by_two}
use Rattle.lotos_pattern.proofs.Words.{word_at}
use Rattle.lotos_pattern.proofs.pattern_parser.parse_element.Goals as goal

pub returns-in-Labels-clause-element : goal.returns-in-Labels-clause-element
returns-in-Labels-clause-element c =
    let names = rw c.in-Labels.is at c.in_ok-labels.ensures in
    spelled_by_one (texts_of c.args.words.now) c.args.index _ (word_at c.args.words.now c.args.index _ c.requires) (Spelling c.args.strong _)
    (one_of (some (named names)))

pub returns-in-Any-clause-element : goal.returns-in-Any-clause-element
returns-in-Any-clause-element c =
    let reads = rw c.in-Any.is at c.in_ok-labels.ensures in
    rw c.new.ensures.items (spelled_by_one (texts_of c.args.words.now) c.args.index _ (word_at c.args.words.now c.args.index _ c.requires)
    (Spelling c.args.strong _) (one_of (all reads)))

pub returns-in-Deadlock-clause-element : goal.returns-in-Deadlock-clause-element
returns-in-Deadlock-clause-element c =
    let reads = rw c.in-Deadlock.is at c.in_ok-labels.ensures in
    rw c.new-in-Deadlock.ensures.items (spelled_by_one (texts_of c.args.words.now) c.args.index _ (word_at c.args.words.now c.args.index _ c.requires)
    (Spelling c.args.strong _) (end (deadlock reads)))

pub returns-in-Internal-clause-fault : goal.returns-in-Internal-clause-fault
returns-in-Internal-clause-fault c begins =
    let is = rw c.in-Internal.is at c.in_ok-labels.ensures in
    fault_internal c.args.strong (texts_of c.args.words.now) c.args.index _ (word_at c.args.words.now c.args.index _ c.requires) is.1 is.0 (inl (inl begins))

pub returns-in-Unknown-clause-fault : goal.returns-in-Unknown-clause-fault
returns-in-Unknown-clause-fault c =
    let none = rw c.in-Unknown.is at c.in_ok-labels.ensures in
    fault_nothing c.args.strong (texts_of c.args.words.now) c.args.index _ (word_at c.args.words.now c.args.index _ c.requires) none

pub returns-in_ok-set-in-Not-clause-element : goal.returns-in_ok-set-in-Not-clause-element
returns-in_ok-set-in-Not-clause-element c =
    let at = c.in_ok-set-in-Not.ensures.set in
    let same : c.args.index + 1 + 1 ≡ c.args.index + 2 = omega arith in
    subst (ParsesAt c.args.strong (texts_of c.args.words.now) c.args.index _) same
    (spelled_by_two (texts_of c.args.words.now) c.args.index at.first at.first_at (Spelling c.args.strong _) at.second at.second_at (one_of (some at.spelling)))

pub returns-in_err-set-in-Not-clause-fault : goal.returns-in_err-set-in-Not-clause-fault
returns-in_err-set-in-Not-clause-fault c =
    let p = err_from_is_err_and c.from_residual-in_err-set-in-Not.result c.from_residual-in_err-set-in-Not.ensures.1 in
    rw (p.1, p.2) (λ begins. c.in_err-set-in-Not.ensures.fault (inl (inl begins)))

pub returns-in_err-refused-in-Refuses-clause-fault : goal.returns-in_err-refused-in-Refuses-clause-fault
returns-in_err-refused-in-Refuses-clause-fault c =
    let p = err_from_is_err_and c.from_residual-in_err-refused-in-Refuses.result c.from_residual-in_err-refused-in-Refuses.ensures.1 in
    rw (p.1, p.2) (λ begins. c.in_err-refused-in-Refuses.ensures.fault (inl begins))

pub returns-in_ok-refused-in-Refuses-clause-element : goal.returns-in_ok-refused-in-Refuses-clause-element
returns-in_ok-refused-in-Refuses-clause-element c =
    spelled_too (texts_of c.args.words.now) c.args.index _ (λ own. end) c.in_ok-refused-in-Refuses.ensures.set

pub returns-in-Future-clause-fault : goal.returns-in-Future-clause-fault
returns-in-Future-clause-fault c begins =
    let is = rw c.in-Future.is at c.in_ok-labels.ensures in
    fault_future c.args.strong (texts_of c.args.words.now) c.args.index _ (word_at c.args.words.now c.args.index _ c.requires) is (inl begins)
