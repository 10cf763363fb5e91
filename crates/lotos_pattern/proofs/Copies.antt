-- Copies that are made item by item.
use Rattle.std.proofs.Common.{◌≡◌, ◌∙◌, ℕ, ◌+◌, ◌<◌, List, [], ◌∷◌, ◌++◌, ap, arith, get_or, length, map, sym, take}
use Rattle.std.proofs.lemmas.List.{get_or-map, length-map, map-append, take_more}

-- where one more item is copied, one more is copied of what is seen of the items
pub copied_more : {X Y : Type 0} (f : X → Y) (xs copy more : List X) (i : ℕ) (x y : X) → i < length xs → x ≡ get_or xs i x → map f copy ≡ take i (map f xs) →
    f y ≡ f x → more ≡ copy ++ y ∷ [] → map f more ≡ take (i + 1) (map f xs)
copied_more f xs copy more i x y below read before same grown =
    let long = length-map xs f in
    let here : get_or (map f xs) i (f x) ≡ f y = get_or-map f xs i x (f x) below ∙ ap f (sym read) ∙ sym same in
    let shown : map f more ≡ take i (map f xs) ++ f y ∷ [] = ap (map f) grown ∙ map-append f copy (y ∷ []) ∙ ap (λ l. l ++ f y ∷ []) before in
    shown ∙ ap (λ z. take i (map f xs) ++ z ∷ []) (sym here) ∙ sym (take_more (map f xs) i (f x) (omega arith))
