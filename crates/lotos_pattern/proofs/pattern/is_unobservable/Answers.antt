use Rattle.std.proofs.Common.{◌≡◌, Bool, true, false, sym}
use Rattle.std.specs.Prelude.{MatchBool, not, ◌&&◌}
use Rattle.std.specs.Str.{bytes_eq}
use Rattle.std.proofs.lemmas.Slice.Eq.{bytes_eq-Decides}
use Rattle.lotos_pattern.specs.PatternLabels.{Label, internal}
use Rattle.lotos_pattern.specs.Patterns.{IsObservable}
use Rattle.lotos_pattern.proofs.pattern.is_unobservable.Goals as goal

-- only where internal steps are not observed, and only the internal action, is unobservable
hidden : (strong same : Bool) (label : Label) → same ≡ bytes_eq label internal →
    MatchBool (not strong && same) (IsObservable strong label → ⊥) (IsObservable strong label)
hidden true same label is = tt
hidden false true label is = λ h. h ((bytes_eq-Decides label internal).0 (sym is))
hidden false false label is = λ e. let equal : bytes_eq label internal ≡ true = (bytes_eq-Decides label internal).1 e in let z : ⊥ = cc in z

pub returns : goal.returns
returns c = hidden _ _ _ c.eq.ensures
