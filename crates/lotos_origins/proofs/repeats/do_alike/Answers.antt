use Rattle.std.proofs.Common.{◌∙◌, sym}
use Rattle.lotos_origins.proofs.PlacesInRuns.{place_known}
use Rattle.lotos_origins.proofs.repeats.do_alike.Goals as goal

pub are_alike-requires-clause-first : goal.are_alike-requires-clause-first
are_alike-requires-clause-first c =
    let (start, run, is) = c.requires in
    place_known c.args.table.now start run c.args.followed.now c.args.first c.in-Some.one is (sym c.term_at.ensures ∙ c.in-Some.is)

pub are_alike-requires-clause-second : goal.are_alike-requires-clause-second
are_alike-requires-clause-second c =
    let (start, run, is) = c.requires in
    place_known c.args.table.now start run c.args.followed.now c.args.second c.in-Some-term_at.other is (sym c.term_at-2.ensures ∙ c.in-Some-term_at.is)
