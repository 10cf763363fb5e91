use Rattle.lotos_pattern.proofs.LabelNames.{no_labels, no_labels_no_internal}
use Rattle.lotos_pattern.proofs.pattern_parser.classify_word.Goals as goal

pub returns-in-None : goal.returns-in-None
returns-in-None c =
    let none = rw c.in-None.is at c.in_ok-labels.ensures in
    record {
      labels = no_labels c.args.strong c.args.word.now none;
      internal = no_labels_no_internal c.args.word.now none;
      any = λ reads. let equal = c.if-eq_ignore_ascii_case.ensures.test.1 reads in let z : ⊥ = cc in z;
      complement = λ reads. let equal = c.if-eq_ignore_ascii_case-2.ensures.test.1 reads in let z : ⊥ = cc in z;
      until = λ reads. let equal = c.if-eq_ignore_ascii_case-3.ensures.test.1 reads in let z : ⊥ = cc in z;
      while = λ reads. let equal = c.if-eq_ignore_ascii_case-4.ensures.test.1 reads in let z : ⊥ = cc in z;
      deadlock = λ reads. let equal = c.if-eq_ignore_ascii_case-5.ensures.test.1 reads in let z : ⊥ = cc in z;
      refuses = λ reads. let equal = c.if-eq_ignore_ascii_case-6.ensures.test.1 reads in let z : ⊥ = cc in z;
      future = c.if-is_future.ensures;
    }
