use Rattle.std.proofs.lemmas.Result.{err_from_is_err_and}
use Rattle.lotos_pattern.specs.Spelling.{IsWhile, Spelling, texts_of, while_set}
use Rattle.lotos_pattern.proofs.SpellingFaults.{awaits_after_while, fault_while, numbered}
use Rattle.lotos_pattern.proofs.Growth.{spelled_after}
use Rattle.lotos_pattern.proofs.pattern_parser.parse_while.Goals as goal

pub returns-in_err-parsed-clause-fault : goal.returns-in_err-parsed-clause-fault
returns-in_err-parsed-clause-fault c =
    let p = err_from_is_err_and c.from_residual.result c.from_residual.ensures.1 in
    rw (p.1, p.2) (λ begins. c.in_err-parsed.ensures.fault
    (awaits_after_while c.args.strong (texts_of c.args.words.now) c.args.index _ (numbered _ _ IsWhile c.requires.whiles) c.requires.whiles.such begins))

pub returns-in-Some-clause-element : goal.returns-in-Some-clause-element
returns-in-Some-clause-element c =
    spelled_after (texts_of c.args.words.now) c.args.index _ (numbered _ _ IsWhile c.requires.whiles) (Spelling c.args.strong _) _ _
    (λ own. while_set c.requires.whiles.such) (rw c.in-Some.is at c.in_ok-parsed.ensures.set)

pub returns-in-None-clause-fault : goal.returns-in-None-clause-fault
returns-in-None-clause-fault c =
    fault_while c.args.strong (texts_of c.args.words.now) c.args.index _ (numbered _ _ IsWhile c.requires.whiles) c.requires.whiles.such
    (rw c.in-None.is at c.in_ok-parsed.ensures.set)
