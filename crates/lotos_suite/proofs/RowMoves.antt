-- The row of the state that a prefix leads to.
use Rattle.std.proofs.Common.{◌≡◌, ◌∙◌, ◌<◌, ℕ, List, Option, Some, length, arith, slice_get}
use Rattle.lotos_suite.proofs.MachineRuns.{state_below}
use Rattle.lotos_listing.specs.Order.{Label}
use Rattle.lotos_suite.specs.SuitePrefixes.{IsPrefix, IsSetting}
use Rattle.lotos_suite.specs.SuiteSearch.{IsRowOf}
use Rattle.lotos_suite.specs.SuiteTables.{IsTableOf, Subject}
use Rattle.lotos_suite.specs.Suites.{SuiteParts}
use Rattle.lotos_suite.specs.declared.apart_sequences.ApartStep.{ApartStep}
use Rattle.lotos_suite.specs.declared.moves.Move.{Move}
use Rattle.lotos_suite.specs.declared.prefixes.Prefix.{Prefix}

-- each row of the table is that of its state
pub row_of : (s : Subject) (rows : List (List (Option Move))) → IsTableOf s rows → (j : ℕ) (row : List (Option Move)) → slice_get rows j ≡ Some row →
    IsRowOf s j row
row_of s rows table j row at = record {
  wide = table.wide j row at;
  moves = λ i x entry here label. table.moves j i x entry (record { row = row; at = at; is = here }) label;
}

-- the state has a row
pub row_inside : (s : Subject) (extra : ℕ) (parts : SuiteParts) (steps : List (Option ApartStep)) (sequences : List (List Label)) →
    IsSetting s extra parts steps sequences → (rows : List (List (Option Move))) → IsTableOf s rows → (p : Prefix) (u : List Label) →
    IsPrefix s parts sequences p u → (j : ℕ) → p.state ≡ Some j → j < length rows
row_inside s extra parts steps sequences set rows table p u is j state =
    let less = state_below s.machine s.labels set.subject.over 0 j u set.subject.over.start (is.state ∙ state) in
    let counted = table.counted in
    omega arith
