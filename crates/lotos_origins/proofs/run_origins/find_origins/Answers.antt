use Rattle.std.proofs.Common.{◌≡◌, ℕ, Some, subst, sym}
use Rattle.std.specs.Prelude.{slice_get}
use Rattle.std.proofs.lemmas.Option.{slice_get_within}
use Rattle.lotos_check.specs.NameLists.{In}
use Rattle.lotos_terms.proofs.GrowingTables.{grows_then}
use Rattle.lotos_origins.specs.FollowedRuns.{ends_of}
use Rattle.lotos_origins.specs.RunLayers.{AreKnown, IsEndAt}
use Rattle.lotos_origins.proofs.FollowedRuns.{can_end_grows, followed_grows, origins_of_end, some_end}
use Rattle.lotos_origins.proofs.run_origins.find_origins.Goals as goal

pub follow_run-requires : goal.follow_run-requires
follow_run-requires c =
    let (t, at, ends) = c.requires in
    slice_get_within c.args.table.now.terms c.args.start t at

pub find_end-requires-clause-known : goal.find_end-requires-clause-known
find_end-requires-clause-known c =
    subst (AreKnown c.follow_run.new.table) (sym c.ends.ensures) c.in_ok-followed.ensures.followed.known

pub find_end-requires-clause-end : goal.find_end-requires-clause-end
find_end-requires-clause-end c =
    let now = c.follow_run.new.table in
    let set = c.args.refused.now in
    let start = c.args.start in
    let run = c.args.run.now in
    let ends = can_end_grows c.args.table.now now c.in_ok-followed.ensures.grows set start run c.requires in
    subst (λ xs. (x : ℕ) × In x xs × IsEndAt now set x) (sym c.ends.ensures)
    (some_end now (c.alike_terms_have_the_same_steps.ensures.forward now.processes) set start run (ends_of c.in_ok-followed.followed)
    c.in_ok-followed.ensures.followed.ends ends)

pub origins_to-requires-clause-followed : goal.origins_to-requires-clause-followed
origins_to-requires-clause-followed c = (
  c.args.start,
  followed_grows c.follow_run.new.table c.find_end.new.table c.args.start c.args.run.now c.in_ok-followed.followed c.in_ok-end.ensures.grows
      c.in_ok-followed.ensures.followed,
)

pub origins_to-requires-clause-end : goal.origins_to-requires-clause-end
origins_to-requires-clause-end c =
    let (x, at, is) = c.in_ok-end.ensures.end in
    slice_get_within (ends_of c.in_ok-followed.followed) c.in_ok-end.end x (subst (λ xs. slice_get xs c.in_ok-end.end ≡ Some x) c.ends.ensures at)

pub returns-clause-origins : goal.returns-clause-origins
returns-clause-origins c =
    let first = c.args.table.now in
    let middle = c.find_end.new.table in
    let last = c.origins_to.new.table in
    let start = c.args.start in
    let run = c.args.run.now in
    let followed = c.in_ok-followed.followed in
    let (t, t_at, ends) = c.requires in
    let (x, at, is) = c.in_ok-end.ensures.end in
    let grows = grows_then first middle last (grows_then first c.follow_run.new.table middle c.in_ok-followed.ensures.grows c.in_ok-end.ensures.grows)
    c.in_ok-origins.ensures.grows in
    let here = followed_grows c.follow_run.new.table middle start run followed c.in_ok-end.ensures.grows c.in_ok-followed.ensures.followed in
    let leads = c.in_ok-origins.ensures.origins start x here (subst (λ xs. slice_get xs c.in_ok-end.end ≡ Some x) c.ends.ensures at) in
    origins_of_end first middle last grows c.in_ok-origins.ensures.grows c.args.refused.now start run c.in_ok-origins.origins.items x t t_at is leads
