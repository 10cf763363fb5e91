use Rattle.std.proofs.Common.{map, length, ◌≡◌}
use Rattle.std.specs.Vec.Iter.{into_iter_items, into_iter_len}
use Rattle.lotos_text.specs.AstOf.{definition_view}
use Rattle.lotos_check.proofs.Flattening.{Flattens}
use Rattle.lotos_check.proofs.static_check.flatten.Given as goal

abbrev pub invariant-loop-one : goal.invariant-loop-one
invariant-loop-one l = record {
  left : into_iter_len l.one-iterator ≡ length (into_iter_items l.one-iterator);
  makes : Flattens (map (λ d. definition_view d.now) l.definitions)
      (into_iter_items l.initial.one-iterator) l.index
      (into_iter_items l.one-iterator) l.start.value l.processes.items;
}
