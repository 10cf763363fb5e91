-- Lists of kinds of faults that are empty.
use Rattle.std.proofs.Common.{◌≡◌, ◌∙◌, Bool, refl, ap, List, [], ◌∷◌, ◌++◌}
use Rattle.clap.specs.Kinds.{Kinds, or_else, value_kinds, values_kinds}
use Rattle.clap.specs.Walk.{Text}
use Rattle.clap.specs.declared.builder.value_parser.ValueParser.{ValueParser}
use Rattle.clap.specs.declared.error.kind.ErrorKind.{ErrorKind}

-- a list with a kind is not empty
pub not_empty : (k : ErrorKind) (ks : Kinds) → k ∷ ks ≡ [] → ⊥
not_empty k ks e = cc

-- if the first non-empty one of two lists is empty, both are
pub both_empty : (one other : Kinds) → or_else one other ≡ [] → (one ≡ []) × (other ≡ [])
both_empty [] other e = (refl, e)
both_empty (k ∷ ks) other e = cc

-- if the values of two lists pass a parser, so do those of both together
pub values_join : (ignore : Bool) (parser : ValueParser) (xs ys : List Text) → values_kinds ignore parser xs ≡ []
    → values_kinds ignore parser ys ≡ [] → values_kinds ignore parser (xs ++ ys) ≡ []
values_join ignore parser [] ys passed more = more
values_join ignore parser (x ∷ xs) ys passed more =
    let parts = both_empty (value_kinds ignore parser x) (values_kinds ignore parser xs) passed in
    ap (λ ks. or_else ks (values_kinds ignore parser (xs ++ ys))) parts.0 ∙ values_join ignore parser xs ys parts.1 more
