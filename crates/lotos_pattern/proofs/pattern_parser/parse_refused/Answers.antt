use Rattle.std.proofs.lemmas.Result.{err_from_is_err_and}
use Rattle.lotos_pattern.specs.Spelling.{IsRefuses, RefusalSpelling, refused, texts_of}
use Rattle.lotos_pattern.proofs.SpellingFaults.{awaits_after_refuses, fault_refuses, numbered}
use Rattle.lotos_pattern.proofs.Growth.{spelled_after}
use Rattle.lotos_pattern.proofs.pattern_parser.parse_refused.Goals as goal

pub returns-in_err-parsed-clause-fault : goal.returns-in_err-parsed-clause-fault
returns-in_err-parsed-clause-fault c =
    let p = err_from_is_err_and c.from_residual.result c.from_residual.ensures.1 in
    rw (p.1, p.2) (λ awaits. c.in_err-parsed.ensures.fault
    (awaits_after_refuses c.args.strong (texts_of c.args.words.now) c.args.index _ (numbered _ _ IsRefuses c.requires.refuses) c.requires.refuses.such awaits))

pub returns-in-Some-clause-set : goal.returns-in-Some-clause-set
returns-in-Some-clause-set c =
    spelled_after (texts_of c.args.words.now) c.args.index _ (numbered _ _ IsRefuses c.requires.refuses) (RefusalSpelling c.args.strong _) _ _
    (λ own. refused c.requires.refuses.such) (rw c.in-Some.is at c.in_ok-parsed.ensures.set)

pub returns-in-None-clause-fault : goal.returns-in-None-clause-fault
returns-in-None-clause-fault c =
    fault_refuses c.args.strong (texts_of c.args.words.now) c.args.index _ (numbered _ _ IsRefuses c.requires.refuses) c.requires.refuses.such
    (rw c.in-None.is at c.in_ok-parsed.ensures.set)
