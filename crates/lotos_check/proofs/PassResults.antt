-- How the passes fit together: definitions, resolved bodies, the flat system and its ranks.
use Rattle.std.proofs.Common.{◌≡◌, ℕ, ◌+◌, ◌<◌, List, [], Some, length, map, get_or, arith, refl, sym, ap, subst, inl, add-one}
use Rattle.std.specs.Prelude.{slice_get}
use Rattle.std.proofs.lemmas.List.{length-map}
use Rattle.std.proofs.lemmas.Option.{slice_get_within, slice_get-get_or, slice_get-map, slice_get_read}
use Rattle.lotos_text.specs.AstView.{DefinitionView, name_of, formals_of, inner_of}
use Rattle.lotos_text.specs.declared.ast.Placed.{Placed}
use Rattle.lotos_check.specs.NameLists.{Name, In, texts}
use Rattle.lotos_check.specs.Scope.{count, all_definitions, definitions_in, processes_of}
use Rattle.lotos_check.specs.Flat.{System, IsFlat}
use Rattle.lotos_check.specs.Guard.{Calls, IsGuarded, IsE27}
use Rattle.lotos_check.specs.RankingSteps.{IsUnguarded}
use Rattle.lotos_check.specs.Resolution.{AddsBodies}
use Rattle.lotos_check.specs.Acceptance.{AreRanks, IsFlattened}
use Rattle.lotos_check.specs.CheckedView.{flat_of, process_of}
use Rattle.lotos_check.specs.declared.resolved_body.ResolvedBody.{ResolvedBody}
use Rattle.lotos_check.specs.declared.resolved.Code.{Code}
use Rattle.lotos_check.specs.declared.resolved.Process.{Process}
use Rattle.lotos_check.proofs.Faults.{unguarded_faulty}
use Rattle.lotos_check.proofs.DefinitionOrder.{in_order}
use Rattle.lotos_check.proofs.ScopedDefinitions.{definitions_count, everywhere_in_order}
use Rattle.lotos_check.proofs.Rules.{walked, flat_system}
use Rattle.lotos_check.proofs.FlatSystemUnique.{calls_within}
use Rattle.lotos_check.proofs.Pairs.{pairs_length}

-- the list has all definitions of the specification
module _ {W : Type 0} (view : W → DefinitionView) (definitions : List W) (whole : DefinitionView) (listed : map view definitions ≡ definitions_in whole) where
  -- it is longer than the number of processes
  pub inner_below : (limit : ℕ) → length definitions < limit → count (inner_of whole) < limit
  inner_below limit h =
      let all = definitions_count whole in
      let seen = length-map definitions view in
      let same = ap length listed in
      omega arith

  -- something was found of each
  pub found_length : (found : List ResolvedBody) → AddsBodies (all_definitions whole) [] found → length definitions ≡ length found
  found_length found adds =
      let bodies = pairs_length (all_definitions whole) found (walked whole found adds) in
      let order = ap length (everywhere_in_order whole) in
      let all = length-map (all_definitions whole) (λ v. v.definition) in
      let seen = length-map definitions view in
      let same = ap length listed in
      omega arith

  -- the first process of an unguarded set has its definition in the list, at its number plus one
  pub unguarded_below : (system : System) (set : List ℕ) (k : ℕ) → IsFlat whole system → IsUnguarded system.processes set → k ≡ get_or set 0 k →
      k + 1 < length definitions
  unguarded_below system set k flat unguarded e =
      let first : k ≡ unguarded.first = rw unguarded.begins at e in
      let call = unguarded.unguarded.unguarded k (subst (In k) (sym unguarded.begins) (inl (sym first))) in
      let within = slice_get_within system.processes k call.1.process call.1.located in
      let processes = pairs_length (processes_of whole) system.processes flat.processes in
      let order = ap length (everywhere_in_order whole) in
      let all = length-map (all_definitions whole) (λ v. v.definition) in
      let seen = length-map definitions view in
      let same = ap length listed in
      omega arith

  -- an unguarded set breaks the rule of guarded recursion, by the name that is read there
  pub unguarded_joined : (system : System) (set : List ℕ) (k : ℕ) (w : W) (name : Placed) → IsFlat whole system → IsUnguarded system.processes set →
      k ≡ get_or set 0 k → w ≡ get_or definitions (k + 1) w → name ≡ name_of (view w) → IsE27 whole name set
  unguarded_joined system set k w name flat unguarded e read named =
      let first : k ≡ unguarded.first = rw unguarded.begins at e in
      let below = unguarded_below system set k flat unguarded e in
      let at = slice_get_read definitions (length definitions) (k + 1) w refl below read in
      let seen : slice_get (map view definitions) (k + 1) ≡ Some (view w) = rw (slice_get-map view definitions (k + 1), at) refl in
      let stands = rw (listed, add-one, first) at seen in
      unguarded_faulty whole system set unguarded.first unguarded.others name (view w) flat unguarded.unguarded unguarded.begins stands named

-- what was found, and the code made of it, is the flat system
pub flat_joined : (whole : DefinitionView) (found : List ResolvedBody) (formals : List Name) (start : Code) (processes : List Process) →
    AddsBodies (all_definitions whole) [] found → IsFlattened (definitions_in whole) found start processes → formals ≡ texts (formals_of whole) →
    IsFlat whole (record { formals = formals; start = flat_of start; processes = map process_of processes })
flat_joined whole found formals start processes adds flattened named =
    flat_system whole found formals start processes (walked whole found adds) (rw in_order at flattened) named

-- every unguarded call of the code goes to one of its processes
pub calls_below : (whole : DefinitionView) (formals : List Name) (start : Code) (processes : List Process) →
    IsFlat whole (record { formals = formals; start = flat_of start; processes = map process_of processes }) →
    (p q : ℕ) → Calls (map process_of processes) p q → q < length processes
calls_below whole formals start processes flat p q calls =
    let below = calls_within whole (record { formals = formals; start = flat_of start; processes = map process_of processes }) flat p q calls in
    let seen = length-map processes process_of in
    omega arith

-- a flat system whose processes have ranks that fall is guarded
pub guarded_by : (whole : DefinitionView) (system : System) (ranks : List ℕ) → IsFlat whole system → AreRanks system.processes ranks → IsGuarded system
guarded_by whole system ranks flat given = record {
  rank = λ p. get_or ranks p 0;
  falls = λ p q calls.
      let sized = given.all in
      let from : p < length ranks = (let h = slice_get_within system.processes p calls.process calls.located in omega arith) in
      let to : q < length ranks = (let h = calls_within whole system flat p q calls in omega arith) in
      given.falls p q (get_or ranks p 0) (get_or ranks q 0) calls (slice_get-get_or ranks p 0 from) (slice_get-get_or ranks q 0 to);
}
