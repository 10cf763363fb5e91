use Rattle.std.proofs.Common.{◌≡◌, ◌≢◌, ℕ, ◌+◌, ◌<◌, ◌∙◌, Bool, true, false, List, [], ap, arith, get_or, map, refl, string_bytes, subst, sym}
use Rattle.std.specs.Prelude.{Contains}
use Rattle.std.specs.Str.{bytes_eq}
use Rattle.std.proofs.lemmas.Slice.Eq.{bytes_eq-Decides}
use Rattle.std.proofs.lemmas.List.{get_or-map, length-map}
use Rattle.std.proofs.lemmas.List.Elements.{All-contains, All-from_get_or, Contains-get_or}
use Rattle.lotos_pattern.proofs.label_set.has_label.Goals as goal

same : (own read label : List ℕ) (answer : Bool) → read ≡ own → answer ≡ bytes_eq read label → answer ≡ true → own ≡ label
same own read label answer is compared equal = sym is ∙ (bytes_eq-Decides read label).0 (sym compared ∙ equal)

other : (own read label : List ℕ) (answer : Bool) → read ≡ own → answer ≡ bytes_eq read label → answer ≡ false → own ≢ label
other own read label answer is compared unequal alike = let equal : bytes_eq read label ≡ true = (bytes_eq-Decides read label).1 (is ∙ alike) in cc

-- no text below the next index is the label
none_more : (texts : List (List ℕ)) (label own : List ℕ) (i : ℕ) → get_or texts i [] ≡ own → own ≢ label → ((k : ℕ) → k < i → get_or texts k [] ≢ label) →
    (k : ℕ) → k < i + 1 → get_or texts k [] ≢ label
none_more texts label own i here differ none k below e = grind (arith, none k)

pub loop-index-preserved : goal.loop-index-preserved
loop-index-preserved c =
    let texts = map string_bytes c.args.labels.now in
    let here : get_or texts c.loop-index.index [] ≡ string_bytes c.index-labels-index.result =
    get_or-map string_bytes c.args.labels.now c.loop-index.index c.index-labels-index.result [] c.loop-index-test.true ∙ ap string_bytes
    (sym c.index-labels-index.is) in
    none_more texts c.args.label.now _ c.loop-index.index here (other _ _ _ _ c.as_str.ensures.value c.eq.ensures c.if-eq.false) c.loop-index.invariant

pub returns-then-eq : goal.returns-then-eq
returns-then-eq c =
    let texts = map string_bytes c.args.labels.now in
    let here : get_or texts c.loop-index.index [] ≡ string_bytes c.index-labels-index.result =
    get_or-map string_bytes c.args.labels.now c.loop-index.index c.index-labels-index.result [] c.loop-index-test.true ∙ ap string_bytes
    (sym c.index-labels-index.is) in
    let alike = here ∙ same _ _ _ _ c.as_str.ensures.value c.eq.ensures c.if-eq.true in
    let long = length-map c.args.labels.now string_bytes in
    subst (Contains texts) alike (Contains-get_or texts c.loop-index.index [] (omega arith))

pub returns : goal.returns
returns c = λ has.
    let texts = map string_bytes c.args.labels.now in
    let long = length-map c.args.labels.now string_bytes in
    All-contains (λ v. v ≢ c.args.label.now) texts c.args.label.now
    (All-from_get_or (λ v. v ≢ c.args.label.now) texts [] (λ k below. c.loop-index.invariant k (omega arith))) has refl
