use Rattle.std.proofs.Common.{[], map, refl, string_bytes, subst, sym, ◌∙◌}
use Rattle.std.proofs.lemmas.List.{append-nil}
use Rattle.lotos_pattern.specs.CompiledPatterns.{KeepsPlaces, view_of}
use Rattle.lotos_pattern.proofs.CompiledPatterns.{ends_cut, has_number, keeps_places, place_added}
use Rattle.lotos_pattern.proofs.compiled_pattern.CompiledPattern.number_place.Goals as goal

pub invariant_of-self : goal.invariant_of-self
invariant_of-self c = ends_cut _ c.self.inside.ends.items _ _ _ [] c.self.invariant c.len.ensures.len (c.in_err-put_end.ensures.kept ∙ sym (append-nil _))

pub invariant_of-self-in_err-number : goal.invariant_of-self-in_err-number
invariant_of-self-in_err-number c =
    rw c.in_err-number.ensures.kept (ends_cut _ c.self.inside.ends.items _ _ _ _ c.self.invariant c.len.ensures.len c.in_ok-put_end.ensures.put)

pub invariant_of-self-2 : goal.invariant_of-self-2
invariant_of-self-2 c =
    place_added _ _ c.self.inside.ends.items _ _ _ c.args.place _ _ c.self.invariant c.len.ensures.len c.in_ok-put_end.ensures.put
    c.accepts-end.ensures c.requires refl refl c.in_ok-number.ensures.put

pub returns-clause-keeps : goal.returns-clause-keeps
returns-clause-keeps c =
    let new = view_of c.self.inside.pattern (map string_bytes c.self.inside.labels.items) c.number_of.new.places.keys in
    subst (λ v. KeepsPlaces v new) c.self.view_is (keeps_places _ new c.args.place _ refl refl c.in_ok-number.ensures.put)

pub returns-clause-has : goal.returns-clause-has
returns-clause-has c = rw c.of_number.ensures (has_number _ _ _ _ c.in_ok-number.ensures.put)
