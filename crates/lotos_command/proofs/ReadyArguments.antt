-- Ready entries: their values passed the parsers of their arguments. And the changes that keep clap's entries ready.
use Rattle.std.proofs.Common.{◌≡◌, ◌∙◌, ◌≤◌, Bool, cond, true, false, refl, sym, ap, subst, arith, List, [], ◌∷◌, ◌++◌, length, Some, None, find, length-append}
use Rattle.std.specs.Prelude.{⊤}
use Rattle.std.specs.Str.{bytes_eq}
use Rattle.std.proofs.lemmas.Slice.Eq.{bytes_eq-Decides}
use Rattle.clap.specs.Facts.{unwrap_or_range}
use Rattle.clap.specs.Walk.{Row, Rule, Text, action_of, arg_by_id, at_row, more_values, reading_by, with_values, without}
use Rattle.clap.specs.Faults.{values_fault}
use Rattle.clap.specs.declared.builder.action.ArgAction.{ArgAction}
use Rattle.clap.specs.declared.builder.action.ArgAction.TheVariants as action
use Rattle.clap.specs.declared.parser.matches.ValueSource.{ValueSource}
use Rattle.lotos_command.proofs.KindsAbsent.{values_join}

-- ---- properties of each item of a list

abbrev pub Each : {X : Type 0} → (X → Type 0) → List X → Type 0
Each P [] = ⊤
Each P (x ∷ xs) = P x × Each P xs

-- if each item of two lists has a property, so has each item of their concatenation
each_join : (P : Row → Type 0) (xs ys : List Row) → Each P xs → Each P ys → Each P (xs ++ ys)
each_join P [] ys here there = there
each_join P (x ∷ xs) ys here there = (here.0, each_join P xs ys here.1 there)

-- an item that `find` returns has the property that each has, and passes the test
pub each_found : {X : Type 0} (P : X → Type 0) (test : X → Bool) (xs : List X) (x : X) → Each P xs → find test xs ≡ Some x
    → P x × (test x ≡ true)
each_found P test [] x all e = cc
each_found {X} P test (y ∷ xs) x all e = go (test y) refl e (each_found P test xs x all.1)
  where
    go : (b : Bool) → test y ≡ b → cond b (Some y) (find test xs) ≡ Some x → (find test xs ≡ Some x → P x × (test x ≡ true))
        → P x × (test x ≡ true)
    go true hit found later =
        let same : y ≡ x = cc in
        subst (λ (z : X). P z × (test z ≡ true)) same (all.0, hit)
    go false miss found later = later found

-- ---- arguments

abbrev pub counts : ArgAction → Bool
counts action.Count = true
counts _ = false

-- the argument is the first with its id, and does not count its uses
pub record IsOrdinary (rules : List Rule) (rule : Rule) : Type 0 where
  pub own : arg_by_id rules rule.id ≡ Some rule
  pub no_count : counts (action_of rule) ≡ false

-- a use of the argument has a value, if the argument requires one
abbrev pub IsFilled : Rule → List Text → Type 0
IsFilled rule values = 1 ≤ (unwrap_or_range rule.range).start_inclusive → 1 ≤ length values

-- ---- entries

-- the entry is that of an argument, its values passed the argument's parser, and it has one if one is required
pub record IsReady (rules : List Rule) (row : Row) : Type 0 where
  pub rule : Rule
  pub is : arg_by_id rules row.id ≡ Some rule
  pub read : row.reading ≡ reading_by rule
  pub passed : values_fault rule row.values ≡ []
  pub filled : IsFilled rule row.values

-- after a change at one entry each entry has a property that each had, if the changed and the added entries have it
at_row_keeps : (P : Row → Type 0) (id : Text) (change : Row → List Row) (missing rows : List Row)
    → ((r : Row) → bytes_eq r.id id ≡ true → P r → Each P (change r)) → Each P missing → Each P rows
    → Each P (at_row id change missing rows)
at_row_keeps P id change missing [] changed new all = new
at_row_keeps P id change missing (r ∷ rs) changed new all =
    go (bytes_eq r.id id) refl (at_row_keeps P id change missing rs changed new all.1)
  where
    go : (b : Bool) → bytes_eq r.id id ≡ b → Each P (at_row id change missing rs)
        → Each P (cond b (change r ++ rs) (r ∷ at_row id change missing rs))
    go true e rest = each_join P (change r) rs (changed r e all.0) all.1
    go false e rest = (all.0, rest)

module _ (rules : List Rule) where
  abbrev Ready : List Row → Type 0
  Ready = Each (IsReady rules)

  -- the new entry of an argument is ready, if its values passed, and it has one if one is required
  new_row : (a : Rule) (source : ValueSource) (values : List Text) → arg_by_id rules a.id ≡ Some a → values_fault a values ≡ []
      → IsFilled a values
      → Ready (record { id = a.id; values = values; count = None; source = Some source; reading = reading_by a } ∷ [])
  new_row a source values own passed filled =
      (record { rule = a; is = own; read = refl; passed = passed; filled = filled }, tt)

  -- a ready entry of an argument with more values is ready, if these passed
  grown_row : (a : Rule) (source : ValueSource) (values : List Text) (r : Row) → arg_by_id rules a.id ≡ Some a
      → values_fault a values ≡ [] → bytes_eq r.id a.id ≡ true → IsReady rules r → Ready (more_values source values r)
  grown_row a source values r own passed same ready =
      let id : r.id ≡ a.id = (bytes_eq-Decides r.id a.id).0 same in
      let found : Some ready.rule ≡ Some a = sym ready.is ∙ ap (arg_by_id rules) id ∙ own in
      let is : ready.rule ≡ a = cc in
      let more : values_fault ready.rule values ≡ [] = ap (λ (x : Rule). values_fault x values) is ∙ passed in (
        record {
          rule = ready.rule;
          is = ready.is;
          read = ready.read;
          passed = values_join _ _ r.values values ready.passed more;
          filled = λ least. let n = ready.filled least in omega (arith, length-append r.values values);
        },
        tt,
      )

  -- values that passed may be put into their argument's entry
  pub values_keep : (a : Rule) (source : ValueSource) (values : List Text) (rows : List Row) → arg_by_id rules a.id ≡ Some a
      → values_fault a values ≡ [] → IsFilled a values → Ready rows
      → Ready (with_values a.id (reading_by a) source values rows)
  values_keep a source values rows own passed filled all =
      at_row_keeps (IsReady rules) a.id (more_values source values) _ rows
      (λ r same ready. grown_row a source values r own passed same ready) (new_row a source values own passed filled) all

  -- an entry may be removed
  pub without_keeps : (id : Text) (rows : List Row) → Ready rows → Ready (without id rows)
  without_keeps id rows all = at_row_keeps (IsReady rules) id (λ _. []) [] rows (λ r same ready. tt) tt all
