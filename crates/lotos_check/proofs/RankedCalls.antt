-- The ranks of both processes of an unguarded call.
use Rattle.std.proofs.Common.{◌≡◌, ℕ, ◌<◌, List, Some, length, slice_get, get_or, arith}
use Rattle.std.proofs.lemmas.Option.{slice_get_within, slice_get-get_or}
use Rattle.lotos_text.specs.AstView.{DefinitionView}
use Rattle.lotos_check.specs.Flat.{System, IsFlat}
use Rattle.lotos_check.specs.Guard.{Calls}
use Rattle.lotos_check.specs.Acceptance.{AreRanks}
use Rattle.lotos_check.proofs.FlatSystemUnique.{calls_within}

-- both processes of an unguarded call have a rank, and that of the called one is smaller
pub call_falls : (whole : DefinitionView) (s : System) (ranks : List ℕ) → IsFlat whole s → AreRanks s.processes ranks →
    (p q : ℕ) → Calls s.processes p q → (r t : ℕ) × (slice_get ranks p ≡ Some r) × (slice_get ranks q ≡ Some t) × (t < r)
call_falls whole s ranks flat ranked p q h =
    let all = ranked.all in
    let from : p < length s.processes = slice_get_within s.processes p h.process h.located in
    let to = calls_within whole s flat p q h in
    let a = slice_get-get_or ranks p 0 (omega arith) in
    let b = slice_get-get_or ranks q 0 (omega arith) in
    (get_or ranks p 0, get_or ranks q 0, a, b, ranked.falls p q (get_or ranks p 0) (get_or ranks q 0) h a b)
