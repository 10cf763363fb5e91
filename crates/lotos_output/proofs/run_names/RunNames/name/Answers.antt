use Rattle.std.proofs.Common.{◌≡◌, ◌∙◌, [], List, ap, subst, sym}
use Rattle.lotos_listing.specs.Lookups.{term_at}
use Rattle.lotos_listing.specs.Order.{Label}
use Rattle.lotos_terms.proofs.GrowingTables.{grows_same, grows_then}
use Rattle.lotos_origins.specs.FollowedRuns.{IsFollowed}
use Rattle.lotos_pattern.specs.declared.ever_pattern.EndKind.TheVariants as kinds
use Rattle.lotos_runs.specs.MatchQuestions.{match_question_of}
use Rattle.lotos_ever.specs.NamedRuns.{IsNamedRun}
use Rattle.lotos_runs.proofs.TableQuestions.{question_same, start_is}
use Rattle.lotos_output.specs.ItemRuns.{question_of}
use Rattle.lotos_output.specs.NamedRuns.{AreNamed}
use Rattle.lotos_output.specs.RunNames.{RunNamesView}
use Rattle.lotos_output.proofs.NamedTexts.{shown_along}
use Rattle.lotos_output.proofs.run_names.RunNames.name.Goals as goal

pub invariant_of-self-2 : goal.invariant_of-self-2
invariant_of-self-2 c =
    let now = c.follow_next.new.table in
    let next = c.name_followed_run.new.table in
    let more = c.in_ok-named.ensures.grows in
    let grown = c.followed_runs_grow.ensures now next now.start c.args.run.now c.in_ok-followed.followed more c.in_ok-followed.ensures.followed in
    subst (λ ks. IsFollowed next next.start ks c.in_ok-followed.followed) (sym c.in_ok-run.ensures.items)
    (subst (λ n. IsFollowed next n c.args.run.now c.in_ok-followed.followed) (sym more.start) grown)

pub returns-clause-same : goal.returns-clause-same
returns-clause-same c =
    let first = c.self.inside.table in
    let now = c.follow_next.new.table in
    let next = c.name_followed_run.new.table in
    let grows = grows_then first now next c.in_ok-followed.ensures.grows c.in_ok-named.ensures.grows in
    question_same first next c.self.inside.pattern.pattern grows c.recall_sound.ensures.start ∙ ap question_of c.self.view_is

pub returns-clause-named : goal.returns-clause-named
returns-clause-named c =
    let first = c.self.inside.table in
    let now = c.follow_next.new.table in
    let p = c.self.inside.pattern.pattern in
    let same : match_question_of now p ≡ question_of c.args.self.now =
    question_same first now p c.in_ok-followed.ensures.grows c.recall_sound.ensures.start ∙ ap question_of c.self.view_is in
    subst (λ q. IsNamedRun q kinds.Refuses c.args.run.now c.in_ok-named.named) same
    (subst (λ k. IsNamedRun (match_question_of now p) k c.args.run.now c.in_ok-named.named) c.self.inside.refuses c.in_ok-named.ensures.named)

pub returns-clause-texts : goal.returns-clause-texts
returns-clause-texts c =
    let held = c.self.inside.table in
    let now = c.follow_next.new.table in
    let p = c.self.inside.pattern.pattern in
    let sound = c.recall_sound.ensures.sound in
    let start = start_is held held p (grows_same held) c.recall_sound.ensures.start in
    let is = subst (λ q. IsNamedRun q c.self.inside.pattern.kind c.args.run.now c.in_ok-named.named)
    (question_same held now p c.in_ok-followed.ensures.grows c.recall_sound.ensures.start) c.in_ok-named.ensures.named in
    subst (λ (v : RunNamesView). (w : List Label) × AreNamed v.table.names c.args.run.now c.in_ok-named.named.origins.items w []) c.self.view_is
    (shown_along held (c.steps_stay_in_table.ensures.label held sound) (c.steps_stay_in_table.ensures.term held sound)
    (c.origins_stay_in_table.ensures held sound) is.derives (sound.terms held.start (term_at held.terms held.start) start))
