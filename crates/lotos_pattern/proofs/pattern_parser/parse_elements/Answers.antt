use Rattle.std.proofs.Common.{arith}
use Rattle.std.proofs.lemmas.List.{length-map}
use Rattle.std.proofs.lemmas.Result.{err_from_is_err_and}
use Rattle.lotos_pattern.proofs.Growth.{begins_here, full_here, grown_here, is_pattern}
use Rattle.lotos_pattern.proofs.pattern_parser.parse_elements.Goals as goal

pub returns-in_err-check_appendable-clause-cause : goal.returns-in_err-check_appendable-clause-cause
returns-in_err-check_appendable-clause-cause c =
    let p = err_from_is_err_and c.from_residual.result c.from_residual.ensures.1 in
    rw (p.1, p.2) (full_here c.args.strong _ c.loop-index.index _ _ (omega arith) c.loop-index.invariant.spelled c.as_slice.ensures.value _
    c.in_err-check_appendable.ensures.full).0

pub returns-in_err-check_appendable-clause-nothing : goal.returns-in_err-check_appendable-clause-nothing
returns-in_err-check_appendable-clause-nothing c =
    let p = err_from_is_err_and c.from_residual.result c.from_residual.ensures.1 in
    rw (p.1, p.2) (full_here c.args.strong _ c.loop-index.index _ _ (omega arith) c.loop-index.invariant.spelled c.as_slice.ensures.value _
    c.in_err-check_appendable.ensures.full).1

pub returns-in_err-next-clause-cause : goal.returns-in_err-next-clause-cause
returns-in_err-next-clause-cause c =
    let p = err_from_is_err_and c.from_residual-in_err-next.result c.from_residual-in_err-next.ensures.1 in
    let begins = begins_here c.args.strong c.args.words.now c.loop-index.index _ _ (omega arith) c.loop-index.invariant.spelled c.as_slice.ensures.value
    c.in_ok-check_appendable.ensures.appendable in
    rw (p.1, p.2) (c.in_err-next.ensures.fault begins).0

pub returns-in_err-next-clause-nothing : goal.returns-in_err-next-clause-nothing
returns-in_err-next-clause-nothing c =
    let p = err_from_is_err_and c.from_residual-in_err-next.result c.from_residual-in_err-next.ensures.1 in
    let begins = begins_here c.args.strong c.args.words.now c.loop-index.index _ _ (omega arith) c.loop-index.invariant.spelled c.as_slice.ensures.value
    c.in_ok-check_appendable.ensures.appendable in
    rw (p.1, p.2) (c.in_err-next.ensures.fault begins).1

pub loop-index-preserved : goal.loop-index-preserved
loop-index-preserved c =
    let next = c.in_ok-next.ensures.element in
    let long = length-map c.args.words.now (λ word. word.now) in
    let within = next.within in
    record {
      spelled = grown_here c.args.strong c.args.words.now c.loop-index.index _ _ (omega arith) c.loop-index.invariant.spelled c.as_slice.ensures.value _ _ _
          c.in_ok-check_appendable.ensures.appendable next
          c.in_ok-push.ensures.items;
      within = omega arith;
    }

pub returns-clause-kept : goal.returns-clause-kept
returns-clause-kept c = is_pattern c.args.strong _ _ c.loop-index.invariant.spelled
