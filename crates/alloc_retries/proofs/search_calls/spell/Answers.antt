use Rattle.std.proofs.Common.{subst, sym}
use Rattle.std.proofs.lemmas.List.Elements.{All-get_or}
use Rattle.lotos_listing.specs.Order.{Label}
use Rattle.lotos_terms.specs.TableView.{IsPrintedAs}
use Rattle.alloc_retries.proofs.search_calls.spell.Goals as goal

pub label_text-requires : goal.label_text-requires
label_text-requires g c =
    let names = g.S.ItemSearch.names c.args.search.now in
    subst (λ k. (text : Label) × IsPrintedAs names k text) (sym c.label-item.is)
    (All-get_or (λ k. (text : Label) × IsPrintedAs names k text) c.args.labels.now c.loop-label.label-index
    c.label-item.result c.loop-label-test.true c.requires.all)
