-- What is known of whether terms with numbers do alike.
use Rattle.std.specs.Prelude.{◌≡◌, ◌<◌, ◌++◌, ℕ, List, [], ◌∷◌, length}
use Rattle.std.proofs.Common.{get_or}
use Rattle.lotos_store.specs.Terms.{Process, Term, disable, enable, par, stop}
use Rattle.lotos_store.specs.StoreView.{StoreView, sync_with, term_with}
use Rattle.lotos_origins.specs.Contexts.{DoAlike}
use Rattle.lotos_origins.specs.declared.alike.Composition.{Composition}
use Rattle.lotos_origins.specs.declared.alike.Likeness.{Likeness}
use Rattle.lotos_origins.specs.declared.alike.Likeness.TheVariants as likeness
use Rattle.lotos_origins.specs.declared.alike.Operator.{Operator}
use Rattle.lotos_origins.specs.declared.alike.Operator.TheVariants as operator

-- the terms with these numbers do alike
abbrev pub DoAlikeAt : List Process → List Term → ℕ × ℕ → Type 0
DoAlikeAt system terms (n, m) = DoAlike system (get_or terms n stop) (get_or terms m stop)

-- both numbers are those of terms
abbrev pub IsPairIn : List Term → ℕ × ℕ → Type 0
IsPairIn terms (n, m) = (n < length terms) × (m < length terms)

-- what is known is true
abbrev pub IsLikeness : List Process → List Term → ℕ → ℕ → Likeness → Type 0
IsLikeness system terms n m likeness.Alike = DoAlikeAt system terms (n, m)
IsLikeness system terms n m (likeness.IfParts lefts rights) = IsPairIn terms lefts × IsPairIn terms rights ×
    (DoAlikeAt system terms lefts → DoAlikeAt system terms rights → DoAlikeAt system terms (n, m))
IsLikeness system terms n m likeness.Unknown = Unit {0}

-- the pairs on which it depends are added, and it is known
abbrev pub AddsParts : Likeness → List (ℕ × ℕ) → List (ℕ × ℕ) → Type 0
AddsParts likeness.Alike old new = new ≡ old
AddsParts (likeness.IfParts lefts rights) old new = new ≡ old ++ lefts ∷ rights ∷ []
AddsParts likeness.Unknown old new = ⊥

-- the term with this operator and these operands
abbrev pub composed : StoreView → Operator → Term → Term → Term
composed store (operator.Parallel sync) t u = par t (sync_with store sync) u
composed store operator.Enabling t u = enable t u
composed store operator.Disabling t u = disable t u

-- the number is that of a term with this operator and these operands, which have smaller numbers
abbrev pub IsComposition : StoreView → ℕ → Composition → Type 0
IsComposition store n c = (c.left < n) × (c.right < n) ×
    (term_with store n ≡ composed store c.operator (term_with store c.left) (term_with store c.right))
