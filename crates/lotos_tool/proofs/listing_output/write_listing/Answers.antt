use Rattle.std.proofs.Common.{◌≡◌, ◌∙◌, Err, ap, false, refl, rules, subst, sym, true}
use Rattle.lotos_tool.specs.ListingParts.{HasLastText, is_at_limit}
use Rattle.lotos_tool.specs.WrittenItems.{AreRunsFor}
use Rattle.lotos_output.specs.ItemRuns.{runs_view}
use Rattle.lotos_tool.specs.ListingQuestions.{ListingQuestion, names_of}
use Rattle.lotos_tool.proofs.Calls.{halt_failed, told_end, told_halt, returned_item}
use Rattle.lotos_outcome.specs.Calls.{Answered}
use Rattle.lotos_outcome.specs.Outcomes.{is_unwritten}
use Rattle.lotos_tool.specs.ListingOutcome.{listing_answering}
use Rattle.lotos_tool.proofs.ListingProgress.{below_limit, ends_finished, ends_halted, ends_limited, ends_unwritten, its_labels_now, its_run_now}
use Rattle.lotos_tool.proofs.ListingProgress.{none_below, progress_more, progress_none, text_kept, within_more}
use Rattle.lotos_tool.proofs.listing_output.write_listing.Goals as goal

pub loop-found-init : goal.loop-found-init
loop-found-init g c = record {
  items = _;
  progress = progress_none _ _ _ _;
  last = c.new-labels.ensures.items;
  below = none_below _ c.requires.limit;
  runs = c.requires.runs;
  question = refl;
  stage = c.requires.begun;
  unfailed = c.requires.unfailed;
}

pub returns-in-Ok-None-clause-ends : goal.returns-in-Ok-None-clause-ends
returns-in-Ok-None-clause-ends g c =
    let inv = c.loop-found.invariant in
    let old = g.S.ListingSearch.state c.loop-found.search in
    let new = g.S.ListingSearch.state c.next_item.new.self in
    ends_finished _ _ _ _ c.strict_order.ensures.total _ _ _ _ inv.items inv.progress _ _ c.end_listing.result inv.question
    (told_end old new _ inv.stage c.in-Ok-None.field-0-is c.in-Ok-None.ensures.next_returns) inv.below c.end_listing.ensures.finished

pub stop_at_halt-cause-requires-clause-halt : goal.stop_at_halt-cause-requires-clause-halt
stop_at_halt-cause-requires-clause-halt g c =
    let inv = c.loop-found.invariant in
    let old = g.S.ListingSearch.state c.loop-found.search in
    let new = g.S.ListingSearch.state c.next_item.new.self in
    (old.cursor, told_halt old new c.in-Err.halt c.next_item.ensures.same inv.stage c.in-Err.ensures.next_returns)

pub returns-in-Err-clause-ends : goal.returns-in-Err-clause-ends
returns-in-Err-clause-ends g c =
    let inv = c.loop-found.invariant in
    let old = g.S.ListingSearch.state c.loop-found.search in
    let new = g.S.ListingSearch.state c.next_item.new.self in
    let halt = told_halt old new c.in-Err.halt c.next_item.ensures.same inv.stage c.in-Err.ensures.next_returns in
    let halted = c.stop_at_halt-cause.result in
    subst (Answered (listing_answering c.args.options) _ _ _) (sym c.stopped.ensures)
    (ends_halted _ _ _ _ c.strict_order.ensures.total _ _ _ _ inv.items inv.progress _ _ _ halted.cause halted.prefix
    (c.next_item.ensures.same ∙ inv.question)
    inv.below
    (c.stop_at_halt-cause.ensures.stop old.cursor halt) c.stop_at_halt-cause.ensures.kept)

pub returns-in-Err-clause-failed : goal.returns-in-Err-clause-failed
returns-in-Err-clause-failed g c =
    let inv = c.loop-found.invariant in
    let old = g.S.ListingSearch.state c.loop-found.search in
    let new = g.S.ListingSearch.state c.next_item.new.self in
    let halt = told_halt old new c.in-Err.halt c.next_item.ensures.same inv.stage c.in-Err.ensures.next_returns in
    let halted = c.stop_at_halt-cause.result in
    halt_failed new.question old.cursor _ halted.cause halted.prefix (c.stop_at_halt-cause.ensures.stop old.cursor halt)
    ∙ ap is_unwritten (sym c.stopped.ensures)

pub write_item-requires-clause-printed : goal.write_item-requires-clause-printed
write_item-requires-clause-printed g c =
    let inv = c.loop-found.invariant in
    let old = g.S.ListingSearch.state c.loop-found.search in
    let new = g.S.ListingSearch.state c.next_item.new.self in
    let returned = returned_item old new _ _ inv.stage c.in-Ok-Some.field-0-is c.in-Ok-Some.ensures.next_returns in
    its_labels_now old new c.in-Ok-Some.found c.next_item.ensures.same returned.0

pub write_item-requires-clause-known : goal.write_item-requires-clause-known
write_item-requires-clause-known g c =
    let inv = c.loop-found.invariant in
    let new = g.S.ListingSearch.state c.next_item.new.self in
    let names = names_of new.question in
    let same = sym (c.next_item.ensures.same ∙ inv.question) in
    let last = subst (λ (q : ListingQuestion). HasLastText (names_of q) c.loop-found.labels.items c.loop-found.last) same inv.last in
    c.text_of_last.ensures names _ (subst (λ ls. HasLastText names ls c.loop-found.last) (sym c.as_slice-known.ensures.value) last)

pub write_item-requires-clause-run : goal.write_item-requires-clause-run
write_item-requires-clause-run g c =
    let inv = c.loop-found.invariant in
    let old = g.S.ListingSearch.state c.loop-found.search in
    let new = g.S.ListingSearch.state c.next_item.new.self in
    let returned = returned_item old new _ _ inv.stage c.in-Ok-Some.field-0-is c.in-Ok-Some.ensures.next_returns in
    its_run_now c.label_text_is_unique.ensures old new c.in-Ok-Some.found c.args.options.runs (runs_view c.loop-found.runs) c.next_item.ensures.same
    (subst (λ (q : ListingQuestion). AreRunsFor q c.args.options.runs (runs_view c.loop-found.runs)) (sym inv.question) inv.runs) returned.0

pub returns-in-Err-write_item-clause-ends : goal.returns-in-Err-write_item-clause-ends
returns-in-Err-write_item-clause-ends g c =
    let inv = c.loop-found.invariant in
    let old = g.S.ListingSearch.state c.loop-found.search in
    let new = g.S.ListingSearch.state c.next_item.new.self in
    let returned = returned_item old new _ _ inv.stage c.in-Ok-Some.field-0-is c.in-Ok-Some.ensures.next_returns in
    let failed = c.in-Err-write_item.ensures in
    subst (Answered (listing_answering c.args.options) _ _ _) (sym c.stopped-in-Err-write_item.ensures)
    (ends_unwritten _ _ _ _ c.strict_order.ensures.total _ _ _ _ inv.items inv.progress _ _ _ _ _ c.in-Err-write_item.cause inv.question
    (c.next_item.ensures.same ∙ inv.question) returned.0
    (runs_view c.loop-found.runs) inv.runs inv.below
    failed.causes (λ e. failed.memory (ap Err e)) (λ e. failed.part (ap Err e)))

pub returns-then-is_at_limit-clause-ends : goal.returns-then-is_at_limit-clause-ends
returns-then-is_at_limit-clause-ends g c =
    let inv = c.loop-found.invariant in
    let old = g.S.ListingSearch.state c.loop-found.search in
    let new = g.S.ListingSearch.state c.next_item.new.self in
    let returned = returned_item old new _ _ inv.stage c.in-Ok-Some.field-0-is c.in-Ok-Some.ensures.next_returns in
    let more = progress_more _ _ _ _ c.strict_order.ensures.total _ _ _ _ inv.items inv.progress _ _ _ _ _ _ c.in-Ok.text inv.question
    (c.next_item.ensures.same ∙ inv.question) returned.0
    (runs_view c.loop-found.runs) inv.runs c.in-Ok.ensures.whole c.in-Ok.ensures.text c.saturating_add-lines.ensures in
    let at : is_at_limit c.saturating_add-lines.result c.args.options.limit ≡ true = search rules in
    subst (Answered (listing_answering c.args.options) _ _ _) (sym c.stopped-then-is_at_limit.ensures)
    (ends_limited _ _ _ _ c.strict_order.ensures.total _ _ _ _ _ more _ _ c.flush_stopped-cause.result c.is_at_limit.ensures.small at
    (within_more inv.items c.in-Ok.ensures.whole.0 c.args.options.limit inv.below) c.flush_stopped-cause.ensures.returned c.flush_stopped-cause.ensures.kept)

pub loop-found-preserved : goal.loop-found-preserved
loop-found-preserved g c =
    let inv = c.loop-found.invariant in
    let old = g.S.ListingSearch.state c.loop-found.search in
    let new = g.S.ListingSearch.state c.next_item.new.self in
    let returned = returned_item old new _ _ inv.stage c.in-Ok-Some.field-0-is c.in-Ok-Some.ensures.next_returns in
    let more = progress_more _ _ _ _ c.strict_order.ensures.total _ _ _ _ inv.items inv.progress _ _ _ _ _ _ c.in-Ok.text inv.question
    (c.next_item.ensures.same ∙ inv.question) returned.0
    (runs_view c.loop-found.runs) inv.runs c.in-Ok.ensures.whole c.in-Ok.ensures.text c.saturating_add-lines.ensures in
    let at : is_at_limit c.saturating_add-lines.result c.args.options.limit ≡ false = search rules in
    record {
      items = _;
      progress = more;
      last = text_kept old new c.in-Ok-Some.found c.in-Ok.text _
          c.next_item.ensures.same inv.question returned.0 c.in-Ok.ensures.text;
      below = below_limit _ _ _ at more.count (within_more inv.items c.in-Ok.ensures.whole.0 c.args.options.limit inv.below) c.is_at_limit.ensures.small;
      runs = subst (AreRunsFor _ c.args.options.runs) (sym c.write_item.ensures.same) inv.runs;
      question = c.next_item.ensures.same ∙ inv.question;
      stage = returned.1;
      unfailed = c.in-Ok.ensures.failed;
    }
