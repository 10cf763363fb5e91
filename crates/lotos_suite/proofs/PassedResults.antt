-- Results that are passed on as they are.
use Rattle.std.proofs.Common.{IfErr, IfOk, Result}
use Rattle.std.specs.Prelude.{Err, Ok}

module _ {T E : Type 0} where
  -- what follows of each value holds of a result's value
  pub ok_then : (P Q : T → Type 0) (r : Result T E) → ((v : T) → P v → Q v) → IfOk r P → IfOk r Q
  ok_then P Q (Ok v) f h = f v h
  ok_then P Q (Err e) f h = tt

  -- and what follows of each error holds of a result's error
  pub err_then : (P Q : E → Type 0) (r : Result T E) → ((e : E) → P e → Q e) → IfErr r P → IfErr r Q
  err_then P Q (Ok v) f h = tt
  err_then P Q (Err e) f h = f e h
