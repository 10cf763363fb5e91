-- A use of an argument keeps the entries ready, if it has no fault.
use Rattle.std.proofs.Common.{◌≡◌, ◌≤◌, ℕ, Bool, false, refl, arith, List, [], ◌∷◌, length, Option, Some, None, find, lt-ltb}
use Rattle.std.specs.Option.{option_map_or}
use Rattle.clap.specs.Facts.{unwrap_or_range}
use Rattle.clap.specs.Walk.{Held, Row, Rule, Text, action_of, arg_by_id, most_values, reacted, reading_by, settled, settled_rows, used, used_as, used_by_id, values_or_missing, with_values, without}
use Rattle.clap.specs.Kinds.{or_else, range_kinds}
use Rattle.clap.specs.Faults.{action_fault, react_fault, repeat_fault, settle_fault, use_fault, values_fault}
use Rattle.clap.specs.declared.builder.action.ArgAction.{ArgAction}
use Rattle.clap.specs.declared.builder.action.ArgAction.TheVariants as action
use Rattle.clap.specs.declared.parser.matches.ValueSource.TheVariants.{CommandLine}
use Rattle.lotos_command.proofs.KindsAbsent.{both_empty, not_empty}
use Rattle.lotos_command.proofs.ReadyArguments.{Each, IsFilled, IsOrdinary, IsReady, counts, each_found, values_keep, without_keeps}

-- a use whose number of values is within the range has a value, if one is required
use_is_filled : (least most : ℕ) (values : List Text) (a : Rule) → range_kinds least most (length values) ≡ [] → 1 ≤ least
    → 1 ≤ length (values_or_missing a values)
use_is_filled least most (v ∷ vs) a e wanted = omega arith
use_is_filled least most [] a e wanted =
    let bad = rw (lt-ltb 0 least wanted) at e in
    absurd (not_empty _ _ bad)

module _ (rules : List Rule) (again : Bool) (ordinary : Each (IsOrdinary rules) rules) where
  abbrev Ready : List Row → Type 0
  Ready = Each (IsReady rules)

  -- new values of an argument, without a fault and with one if one is required, keep the entries ready
  set_keeps : (a : Rule) (values : List Text) (rows : List Row) → arg_by_id rules a.id ≡ Some a
      → or_else (repeat_fault again a.id rows) (values_fault a values) ≡ [] → IsFilled a values → Ready rows
      → Ready (with_values a.id (reading_by a) CommandLine values (without a.id rows))
  set_keeps a values rows own e filled all =
      let parts = both_empty (repeat_fault again a.id rows) _ e in
      values_keep rules a CommandLine values _ own parts.1 filled (without_keeps rules a.id rows all)

  -- an action that does not count uses keeps the entries ready, if it has no fault, and a value if one is required
  action_keeps : (x : ArgAction) (a : Rule) (values : List Text) (rows : List Row) → arg_by_id rules a.id ≡ Some a
      → counts x ≡ false → action_fault x again a values rows ≡ [] → IsFilled a values → Ready rows
      → Ready (used_as x a.id (reading_by a) values rows)
  action_keeps action.Set a values rows own plain e filled all = set_keeps a values rows own e filled all
  action_keeps action.SetTrue a values rows own plain e filled all = set_keeps a values rows own e filled all
  action_keeps action.SetFalse a values rows own plain e filled all = set_keeps a values rows own e filled all
  action_keeps action.Append a values rows own plain e filled all = values_keep rules a CommandLine values rows own e filled all
  action_keeps action.Count a values rows own plain e filled all = cc
  action_keeps action.Help a values rows own plain e filled all = all
  action_keeps action.HelpShort a values rows own plain e filled all = all
  action_keeps action.HelpLong a values rows own plain e filled all = all
  action_keeps action.Version a values rows own plain e filled all = all

  -- a use of an ordinary argument keeps the entries ready, if it has no fault
  use_keeps : (a : Rule) (values : List Text) (rows : List Row) → IsOrdinary rules a → use_fault again a values rows ≡ []
      → Ready rows → Ready (used a values rows)
  use_keeps a values rows mine e all =
      let least = (unwrap_or_range a.range).start_inclusive in
      let parts = both_empty (range_kinds least (most_values a) (length values)) _ e in
      action_keeps (action_of a) a (values_or_missing a values) rows mine.own mine.no_count parts.1
      (λ wanted. use_is_filled least (most_values a) values a parts.0 wanted) all

  -- an argument that `find` returns is ordinary
  pub found_is_ordinary : (test : Rule → Bool) (a : Rule) → find test rules ≡ Some a → IsOrdinary rules a
  found_is_ordinary test a e = (each_found (IsOrdinary rules) test rules a ordinary e).0

  -- the use of the pending argument, if there is one, keeps the entries ready, if it has no fault
  settled_rows_keep : (pending : Option (Text × List Text)) (rows : List Row)
      → option_map_or (λ p. option_map_or (λ a. use_fault again a p.1 rows) (arg_by_id rules p.0) []) pending [] ≡ []
      → Ready rows → Ready (settled_rows rules pending rows)
  settled_rows_keep None rows e all = all
  settled_rows_keep (Some p) rows e all = go (arg_by_id rules p.0) refl e
    where
      go : (o : Option Rule) → arg_by_id rules p.0 ≡ o → option_map_or (λ a. use_fault again a p.1 rows) o [] ≡ []
          → Ready (used_by_id o p.1 rows)
      go None is none = all
      go (Some a) is none = use_keeps a p.1 rows (found_is_ordinary _ a is) none all

  -- the pending argument is used
  pub settled_keeps : (h : Held) → settle_fault rules again h ≡ [] → Ready h.rows → Ready (settled rules h).rows
  settled_keeps h e all = settled_rows_keep h.pending h.rows e all

  -- the pending argument is used, and then this one
  pub reacted_keeps : (a : Rule) (values : List Text) (h : Held) → IsOrdinary rules a → react_fault rules again a values h ≡ []
      → Ready h.rows → Ready (reacted rules a values h).rows
  reacted_keeps a values h mine e all =
      let parts = both_empty (settle_fault rules again h) _ e in
      use_keeps a values (settled rules h).rows mine parts.1 (settled_keeps h parts.0 all)
