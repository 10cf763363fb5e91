use Rattle.std.proofs.Common.{◌≡◌, ◌↔◌, ◌⊎◌, ◌+◌, ◌<◌, [], ◌∷◌, map, drop, length, refl, sym, subst, inl, inr, arith}
use Rattle.std.proofs.lemmas.List.{drop_all}
use Rattle.lotos_check.specs.NameLists.{Name, In}
use Rattle.lotos_check.proofs.Pairs.{drop_at}
use Rattle.lotos_warn.specs.Additions.{Adds, IsVisible}
use Rattle.lotos_warn.proofs.Additions.{AddsRest, adds_start, adds_next, adds_last, adds_as, adds_alone}
use Rattle.lotos_warn.proofs.RenamedNames.{IsLeftToRename, renamed_all, renamed_end, renamed_split}
use Rattle.lotos_warn.proofs.gate_names.renamed_names.Goals as goal

pub loop-index-init : goal.loop-index-init
loop-index-init c =
    let names = map (λ k. k.now) c.args.names.now.keys in
    let formals = c.args.formals.now in
    let actuals = c.args.actuals.now in
    let all = IsLeftToRename formals actuals [] names in
    subst (λ ks. AddsRest [] (map (λ k. k.now) ks) (IsLeftToRename formals actuals (map (λ k. k.now) c.new-seen.result.keys) names) all)
    (sym c.new-renamed.ensures.empty)
    (subst (λ ks. AddsRest [] [] (IsLeftToRename formals actuals (map (λ k. k.now) ks) names) all) (sym c.new-seen.ensures.empty) (adds_start [] all))

pub loop-index-preserved : goal.loop-index-preserved
loop-index-preserved c =
    let index = c.loop-index.index in
    let formals = c.args.formals.now in
    let actuals = c.args.actuals.now in
    let first = c.smaller-index-end.ensures.first in
    let second = c.smaller-index-end.ensures.second in
    let in_formals : index < length formals = omega arith in
    let in_actuals : index < length actuals = omega arith in
    let formal = c.index-formals-index.result in
    let actual = c.index-actuals-index.result in
    let names = map (λ k. k.now) c.args.names.now.keys in
    let seen = map (λ k. k.now) c.loop-index.seen.keys in
    let more = map (λ k. k.now) c.rename.new.seen.keys in
    let others = drop (index + 1) formals in
    let rest = drop (index + 1) actuals in
    let a = drop_at formals index formal formal in_formals c.index-formals-index.is in
    let b = drop_at actuals index actual actual in_actuals c.index-actuals-index.is in
    let next : Name → Type 0 = λ n. (In formal seen → ⊥) × In formal names × (actual ≡ n) in
    adds_next [] (map (λ k. k.now) c.loop-index.renamed.keys) (map (λ k. k.now) c.rename.new.into.keys)
    (IsLeftToRename (drop index formals) (drop index actuals) seen names) (IsLeftToRename formals actuals [] names) next (IsLeftToRename others rest more names)
    c.loop-index.invariant c.in_ok-rename.ensures.adds
    (λ n. subst (λ fs. IsLeftToRename fs (drop index actuals) seen names n ↔ (next n ⊎ IsLeftToRename others rest more names n)) (sym a)
    (subst (λ bs. IsLeftToRename (formal ∷ others) bs seen names n ↔ (next n ⊎ IsLeftToRename others rest more names n)) (sym b)
    (renamed_split names n formal actual others rest seen more c.in_ok-rename.ensures.sees)))

pub returns : goal.returns
returns c =
    let index = c.loop-index.index in
    let formals = c.args.formals.now in
    let actuals = c.args.actuals.now in
    let names = map (λ k. k.now) c.args.names.now.keys in
    let seen = map (λ k. k.now) c.loop-index.seen.keys in
    let now = map (λ k. k.now) c.loop-index.renamed.keys in
    let new = map (λ k. k.now) c.insert_others.new.into.keys in
    let one = c.smaller-index-end.ensures.one in
    let none : (drop index formals ≡ []) ⊎ (drop index actuals ≡ []) = elim one [
      | inl e ↦ inl (drop_all index formals (omega arith))
      | inr e ↦ inr (drop_all index actuals (omega arith))
    ] in
    let added = subst (λ ks. Adds now new (λ n. IsVisible seen (map (λ k. k.now) ks) n)) c.as_slice.ensures.keys c.in_ok-insert_others.ensures in
    let left = IsLeftToRename (drop index formals) (drop index actuals) seen names in
    let whole = adds_alone [] new (IsLeftToRename formals actuals [] names) refl
    (adds_last [] now new left (IsLeftToRename formals actuals [] names) c.loop-index.invariant
    (adds_as now new (IsVisible seen names) left
    (λ n. let both = renamed_end names n (drop index formals) (drop index actuals) seen none in (both.1, both.0)) added)) in
    λ n. let (to, from) = whole n in
    let (forth, back) = renamed_all names n formals actuals in ((λ h. forth (to h)), (λ h. from (back h)))
