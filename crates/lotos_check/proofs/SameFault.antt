-- A fault that is passed on.
use Rattle.std.proofs.Common.{◌≡◌, sym, subst}
use Rattle.std.specs.Prelude.{Result, Ok, Err, IfErr}
use Rattle.std.specs.Result.{IsErrAnd}

-- what holds of a fault holds of it where it is passed on
pub passed_on : {T E : Type 0} (P : E → Type 0) (r : Result T E) (e : E) → IsErrAnd r (λ f. f ≡ e) → P e → IfErr r P
passed_on P (Ok x) e same holds = absurd same
passed_on P (Err f) e same holds = subst P (sym same) holds
