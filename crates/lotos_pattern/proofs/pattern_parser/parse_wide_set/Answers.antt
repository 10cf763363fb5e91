use Rattle.std.proofs.Common.{◌≡◌, arith, inr, length}
use Rattle.std.proofs.lemmas.List.{length-map}
use Rattle.std.proofs.lemmas.Result.{err_from_is_err_and}
use Rattle.lotos_pattern.specs.Spelling.{WideSetSpelling, all, named, some, texts_of}
use Rattle.lotos_pattern.proofs.SpellingFaults.{deadlock_begins_no_set, fault_internal, future_begins_no_set, no_set_here, nothing_begins_no_set}
use Rattle.lotos_pattern.proofs.SpellingFaults.{refuses_begins_no_set, until_begins_no_set}
use Rattle.lotos_pattern.proofs.SpellingFaults.{while_begins_no_set}
use Rattle.lotos_pattern.proofs.Growth.{complement_spelled, spelled_too, spelled_by_one}
use Rattle.lotos_pattern.proofs.Words.{word_at}
use Rattle.lotos_pattern.proofs.pattern_parser.parse_wide_set.Goals as goal

pub returns-then-index-words-clause-set : goal.returns-then-index-words-clause-set
returns-then-index-words-clause-set c =
    let last : length (texts_of c.args.words.now) ≡ c.args.index = let h = length-map c.args.words.now (λ word. word.now) in omega arith in
    inr last

pub returns-in-Labels-clause-set : goal.returns-in-Labels-clause-set
returns-in-Labels-clause-set c =
    let names = rw c.in-Labels.is at c.in_ok-labels.ensures in
    spelled_by_one (texts_of c.args.words.now) c.args.index _ (word_at c.args.words.now c.args.index _ (omega arith))
    (WideSetSpelling c.args.strong _) (some (named names))

pub returns-in-Any-clause-set : goal.returns-in-Any-clause-set
returns-in-Any-clause-set c =
    let reads = rw c.in-Any.is at c.in_ok-labels.ensures in
    rw c.new.ensures.items (spelled_by_one (texts_of c.args.words.now) c.args.index _ (word_at c.args.words.now c.args.index _ (omega arith))
    (WideSetSpelling c.args.strong _) (all reads))

pub returns-in_ok-set-in-Not-clause-set : goal.returns-in_ok-set-in-Not-clause-set
returns-in_ok-set-in-Not-clause-set c =
    spelled_too (texts_of c.args.words.now) c.args.index _ (λ own. some)
    (complement_spelled c.args.strong (texts_of c.args.words.now) c.args.index _ c.in_ok-set-in-Not.ensures.set)

pub returns-in_err-set-in-Not-clause-fault : goal.returns-in_err-set-in-Not-clause-fault
returns-in_err-set-in-Not-clause-fault c =
    let p = err_from_is_err_and c.from_residual-in_err-set-in-Not.result c.from_residual-in_err-set-in-Not.ensures.1 in
    rw (p.1, p.2) c.in_err-set-in-Not.ensures.fault

pub returns-in-Internal-clause-fault : goal.returns-in-Internal-clause-fault
returns-in-Internal-clause-fault c =
    let is = rw c.in-Internal.is at c.in_ok-labels.ensures in
    fault_internal c.args.strong (texts_of c.args.words.now) c.args.index _ (word_at c.args.words.now c.args.index _ (omega arith)) is.1 is.0

pub returns-in-Until-clause-set : goal.returns-in-Until-clause-set
returns-in-Until-clause-set c =
    let is = rw c.in-Until.is at c.in_ok-labels.ensures in
    no_set_here c.args.strong (texts_of c.args.words.now) c.args.index _ (word_at c.args.words.now c.args.index _ (omega arith)) (until_begins_no_set _ _ is)

pub returns-in-While-clause-set : goal.returns-in-While-clause-set
returns-in-While-clause-set c =
    let is = rw c.in-While.is at c.in_ok-labels.ensures in
    no_set_here c.args.strong (texts_of c.args.words.now) c.args.index _ (word_at c.args.words.now c.args.index _ (omega arith)) (while_begins_no_set _ _ is)

pub returns-in-Deadlock-clause-set : goal.returns-in-Deadlock-clause-set
returns-in-Deadlock-clause-set c =
    let is = rw c.in-Deadlock.is at c.in_ok-labels.ensures in
    no_set_here c.args.strong (texts_of c.args.words.now) c.args.index _ (word_at c.args.words.now c.args.index _ (omega arith)) (deadlock_begins_no_set _ _ is)

pub returns-in-Refuses-clause-set : goal.returns-in-Refuses-clause-set
returns-in-Refuses-clause-set c =
    let is = rw c.in-Refuses.is at c.in_ok-labels.ensures in
    no_set_here c.args.strong (texts_of c.args.words.now) c.args.index _ (word_at c.args.words.now c.args.index _ (omega arith)) (refuses_begins_no_set _ _ is)

pub returns-in-Future-clause-set : goal.returns-in-Future-clause-set
returns-in-Future-clause-set c =
    let is = rw c.in-Future.is at c.in_ok-labels.ensures in
    no_set_here c.args.strong (texts_of c.args.words.now) c.args.index _ (word_at c.args.words.now c.args.index _ (omega arith)) (future_begins_no_set _ _ is)

pub returns-in-Unknown-clause-set : goal.returns-in-Unknown-clause-set
returns-in-Unknown-clause-set c =
    let is = rw c.in-Unknown.is at c.in_ok-labels.ensures in
    no_set_here c.args.strong (texts_of c.args.words.now) c.args.index _ (word_at c.args.words.now c.args.index _ (omega arith)) (nothing_begins_no_set _ _ is)
