use Rattle.lotos_pattern.specs.ElementView.{set_of}
use Rattle.lotos_listing.proofs.FlagsOfSets.{refused_of}
use Rattle.lotos_listing.proofs.label_flags.LabelFlags.refused.Goals as goal

pub returns : goal.returns
returns c =
    refused_of (set_of c.args.set.now) c.args.names.now c.in_ok-labels.labels c.with_internal.result c.in_ok-labels.ensures c.with_internal.ensures
    (c.label_text_is_unique.ensures c.args.names.now)
