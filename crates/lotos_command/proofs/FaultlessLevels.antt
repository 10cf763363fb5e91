-- After one level of a parse without a fault the entries are ready.
use Rattle.std.proofs.Common.{◌≡◌, ◌&&◌, ◌||◌, ℕ, Bool, cond, true, false, not, refl, sym, subst, arith, List, [], ◌∷◌, Option, Some, None, codes, is_some, fold}
use Rattle.std.specs.Prelude.{IfSome}
use Rattle.std.specs.Option.{option_map_or}
use Rattle.std.specs.Str.{bytes_eq}
use Rattle.std.proofs.lemmas.Bool.{ne_eqb}
use Rattle.clap.specs.Lexer.{long_of, short_of}
use Rattle.clap.specs.Walk.{Held, Names, Outcome, Row, Rule, Step, Text, Waiting, Walk, action_of, after_flag, after_step, arg_by_index, default_rows, done, finished, has_row, idle, is_empty, is_pending, long_or_other, next, nothing_held, option, plain, plain_word, positional, positional_held, reading_by, refused, settled, short_or_plain, subcommand, subcommand_met, subcommand_or_other, takes_several, to_positional, trailing, value, waits, walk, walk_from, walked, walked_from, with_default, word_met}
use Rattle.clap.specs.Simple.{Shape}
use Rattle.clap.specs.Kinds.{Kinds, or_else, request_kinds}
use Rattle.clap.specs.Faults.{check_fault, default_fault, defaults_fault, flag_word_fault, level_fault, other_fault, positional_fault, settle_fault, step_fault, stray_fault, turn_fault, values_fault, walk_fault, word_fault}
use Rattle.clap.specs.declared.error.kind.ErrorKind.TheVariants as kind
use Rattle.clap.specs.declared.parser.matches.ValueSource.TheVariants.{DefaultValue}
use Rattle.lotos_command.proofs.KindsAbsent.{both_empty, not_empty}
use Rattle.lotos_command.proofs.ReadyArguments.{Each, IsOrdinary, IsReady, values_keep}
use Rattle.lotos_command.proofs.FaultlessUses.{settled_keeps}
use Rattle.lotos_command.proofs.FaultlessFlags.{flag_word_keeps}

-- ---- a flag or a value names no subcommand

abbrev name_in : Step → Option Text
name_in (subcommand name) = Some name
name_in _ = None

-- a word that is taken as a value names no subcommand
plain_names_none : (rules : List Rule) (waiting : Waiting) (word : Text) (h : Held)
    → name_in (plain_word rules waiting word h).1 ≡ None
plain_names_none rules (option id) word h = refl
plain_names_none rules idle word h = refl
plain_names_none rules positional word h = refl

-- a word that is taken as a flag names no subcommand, whatever the outcome
after_names_none : (rules : List Rule) (waiting : Waiting) (word : Text) (h : Held) (o : Outcome)
    → name_in (after_flag rules waiting word h o).1 ≡ None
after_names_none rules waiting word h done = refl
after_names_none rules waiting word h (waits id) = refl
after_names_none rules waiting word h plain = plain_names_none rules waiting word h
after_names_none rules waiting word h refused = plain_names_none rules waiting word h

-- a word that is taken as a flag or a value names no subcommand
flag_names_none : (rules : List Rule) (long : Option (Text × Option Text)) (waiting : Waiting) (word : Text) (h : Held)
    → name_in (long_or_other rules waiting word long h).1 ≡ None
flag_names_none rules (Some p) waiting word h = after_names_none rules waiting word _ _
flag_names_none rules None waiting word h = go (short_of word)
  where
    go : (o : Option Text) → name_in (short_or_plain rules waiting word o h).1 ≡ None
    go None = plain_names_none rules waiting word h
    go (Some flags) = after_names_none rules waiting word _ _

-- ---- the words of a level, one after the other

module _ (s : Shape) (names : Names) (ordinary : Each (IsOrdinary s.rules) s.rules) where
  abbrev Ready : List Row → Type 0
  Ready = Each (IsReady s.rules)

  -- the name is not that of clap's own subcommand `help`
  abbrev pub AsksNoHelp : Text → Type 0
  AsksNoHelp name = (bytes_eq name (codes "help") && not s.disable_help_subcommand) ≡ false

  abbrev pub StopsWell : Option (Text × List Text) → Type 0
  StopsWell stop = IfSome stop (λ p. AsksNoHelp p.0)

  abbrev MeetsWell : Held × Step → Type 0
  MeetsWell met = Ready met.0.rows × IfSome (name_in met.1) AsksNoHelp

  -- a word that is not trailing keeps the entries ready and does not name clap's own `help`, if it has no fault
  other_keeps : (o : Option Text) (waiting : Waiting) (position : ℕ) (word : Text) (h : Held) → other_fault s o word h ≡ []
      → Ready h.rows → MeetsWell (subcommand_or_other s.rules o waiting position word h)
  other_keeps (Some name) waiting position word h e all = (all, go (bytes_eq name (codes "help") && not s.disable_help_subcommand) e)
    where
      go : (asks : Bool) → cond asks (kind.DisplayHelp ∷ kind.InvalidSubcommand ∷ []) [] ≡ [] → asks ≡ false
      go true none = absurd (not_empty _ _ none)
      go false none = refl
  other_keeps None waiting position word h e all = go (bytes_eq word (45 ∷ 45 ∷ [])) e
    where
      go : (ends : Bool) → cond ends [] (flag_word_fault s.rules s.args_override_self (long_of word) word h) ≡ []
          → MeetsWell (cond ends (h, trailing position) (long_or_other s.rules waiting word (long_of word) h))
      go true none = (all, tt)
      go false none = (
        flag_word_keeps s.rules s.args_override_self ordinary (long_of word) waiting word h none all,
        subst (λ o. IfSome o AsksNoHelp) (sym (flag_names_none s.rules (long_of word) waiting word h)) tt,
      )

  -- a word keeps the entries ready and does not name clap's own `help`, if it has no fault
  word_keeps : (is_trailing : Bool) (waiting : Waiting) (position : ℕ) (word : Text) (h : Held)
      → word_fault s names is_trailing waiting word h ≡ [] → Ready h.rows
      → MeetsWell (word_met s.rules names is_trailing waiting position word h)
  word_keeps true waiting position word h e all = (all, tt)
  word_keeps false waiting position word h e all =
      other_keeps (subcommand_met names waiting word) waiting position word h e all

  -- a word that goes to a positional keeps the entries ready, if it has no fault
  positional_keeps : (a : Rule) (word : Text) (h : Held) → positional_fault s.rules s.args_override_self a h ≡ [] → Ready h.rows
      → Ready (positional_held s.rules a word h).rows
  positional_keeps a word h e all = go (is_pending a h.pending && takes_several a) e
    where
      go : (goes_on : Bool) → cond goes_on [] (settle_fault s.rules s.args_override_self h) ≡ []
          → Ready (cond goes_on h (settled s.rules h)).rows
      go true none = all
      go false none = settled_keeps s.rules s.args_override_self ordinary h none all

  abbrev WalksWell : Walk → Type 0
  WalksWell w = Ready w.held.rows × StopsWell w.stopped

  -- if the entries of a walk are ready, and it has not stopped at `help`, so it is after a value without a fault
  value_keeps : (o : Option Rule) (word : Text) (w : Walk) (h : Held)
      → option_map_or (λ a. positional_fault s.rules s.args_override_self a h) o (stray_fault s) ≡ [] → Ready h.rows
      → StopsWell w.stopped → WalksWell (to_positional s.rules o word w h)
  value_keeps None word w h e all stop = (all, stop)
  value_keeps (Some a) word w h e all stop = (positional_keeps a word h e all, tt)

  -- so it is after a step without a fault that does not name clap's own `help`
  after_step_keeps : (step : Step) (word : Text) (w : Walk) (h : Held) → step_fault s w.position h step ≡ [] → Ready h.rows
      → IfSome (name_in step) AsksNoHelp → StopsWell w.stopped → WalksWell (after_step s.rules word w h step)
  after_step_keeps (next waiting) word w h e all name stop = (all, stop)
  after_step_keeps (trailing position) word w h e all name stop = (all, stop)
  after_step_keeps (subcommand n) word w h e all name stop = (all, name)
  after_step_keeps value word w h e all name stop = value_keeps (arg_by_index s.rules w.position) word w h e all stop

  -- so it is after a word without a fault
  walked_keeps : (w : Walk) (word : Text) → turn_fault s names w word ≡ [] → WalksWell w → WalksWell (walked s.rules names w word)
  unfolding walked
  walked_keeps w word e well = go w.stopped e well.1
    where
      met : Held × Step
      met = word_met s.rules names w.is_trailing w.waiting w.position word w.held

      go : (o : Option (Text × List Text))
          → cond (is_some o) [] (or_else (word_fault s names w.is_trailing w.waiting word w.held) (step_fault s w.position
          (word_met s.rules names w.is_trailing w.waiting w.position word w.held).0
          (word_met s.rules names w.is_trailing w.waiting w.position word w.held).1)) ≡ []
          → StopsWell o → WalksWell (walked_from s.rules names o w word)
      go (Some p) none stop = (well.0, stop)
      go None none stop =
          let parts = both_empty (word_fault s names w.is_trailing w.waiting word w.held) _ none in
          let kept = word_keeps w.is_trailing w.waiting w.position word w.held parts.0 well.0 in
          after_step_keeps _ word w _ parts.1 kept.0 kept.1 well.1

  -- so it is after any words without a fault
  walk_keeps : (words : List Text) (w : Walk) → walk_fault s names w words ≡ [] → WalksWell w
      → WalksWell (fold (walked s.rules names) w words)
  unfolding walk_fault
  walk_keeps [] w e well = well
  walk_keeps (word ∷ rest) w e well =
      let parts = both_empty (turn_fault s names w word) _ e in
      walk_keeps rest (walked s.rules names w word) parts.1 (walked_keeps w word parts.0 well)

  -- ---- defaults

  -- the default values of an ordinary argument keep the entries ready, if they have no fault
  given_default_keeps : (a : Rule) (values : List Text) (rows : List Row) → IsOrdinary s.rules a
      → cond (is_empty values) [] (or_else (request_kinds (action_of a)) (values_fault a values)) ≡ []
      → Ready rows → Ready (default_rows a.id (reading_by a) values rows)
  given_default_keeps a [] rows mine e all = all
  given_default_keeps a (v ∷ vs) rows mine e all =
      let some : is_empty (v ∷ vs) ≡ false = ne_eqb _ _ (λ z. omega arith) in
      let parts = both_empty (request_kinds (action_of a)) _ (rw some at e) in
      values_keep s.rules a DefaultValue (v ∷ vs) rows mine.own parts.1 (λ wanted. omega arith) all

  -- the default values that an ordinary argument without an entry gets keep the entries ready, if they have no fault
  default_keeps : (a : Rule) (rows : List Row) → IsOrdinary s.rules a → default_fault rows a ≡ [] → Ready rows
      → Ready (with_default rows a)
  default_keeps a rows mine e all = go (has_row a.id rows) e
    where
      go : (has : Bool)
          → cond (has || is_empty a.defaults) [] (or_else (request_kinds (action_of a)) (values_fault a a.defaults)) ≡ []
          → Ready (cond has rows (default_rows a.id (reading_by a) a.defaults rows))
      go true none = all
      go false none = given_default_keeps a a.defaults rows mine none all

  -- ordinary arguments that get their default values in turn keep the entries ready, if there is no fault
  defaults_keep : (more : List Rule) (rows : List Row) → Each (IsOrdinary s.rules) more → defaults_fault rows more ≡ []
      → Ready rows → Ready (fold with_default rows more)
  unfolding defaults_fault
  defaults_keep [] rows mine e all = all
  defaults_keep (a ∷ more) rows mine e all =
      let parts = both_empty (default_fault rows a) _ e in
      defaults_keep more (with_default rows a) mine.1 parts.1 (default_keeps a rows mine.0 parts.0 all)

  -- ---- a level

  -- what follows if a level has no fault: its entries are ready, its subcommand is not `help`, and there is no fault below
  -- nor in the checks at the end
  pub record Leaves (words : List Text) (has_subcommand : Bool) (below : Kinds) : Type 0 where
    pub ready : Ready (finished s.rules (walk s.rules names nothing_held words).held)
    pub stops : StopsWell (walk s.rules names nothing_held words).stopped
    pub no_fault_below : below ≡ []
    pub checked : check_fault s (finished s.rules (walk s.rules names nothing_held words).held) has_subcommand ≡ []

  -- if a level has no fault, its entries are ready, it does not stop at `help`, and there is no fault below nor in the
  -- checks at the end
  pub level_leaves : (words : List Text) (has_subcommand : Bool) (below : Kinds)
      → level_fault s names nothing_held words has_subcommand below ≡ [] → Leaves words has_subcommand below
  level_leaves words has_subcommand below e =
      let end = (walk s.rules names nothing_held words).held in
      let walk_ends = both_empty (walk_fault s names (walk_from nothing_held) words) _ e in
      let under = both_empty below _ walk_ends.1 in
      let settling = both_empty (settle_fault s.rules s.args_override_self end) _ under.1 in
      let filling = both_empty (defaults_fault (settled s.rules end).rows s.rules) _ settling.1 in
      let well = walk_keeps words (walk_from nothing_held) walk_ends.0 (tt, tt) in
      let rows = settled_keeps s.rules s.args_override_self ordinary end settling.0 well.0 in
      record {
        ready = defaults_keep s.rules (settled s.rules end).rows ordinary filling.0 rows;
        stops = well.1;
        no_fault_below = under.0;
        checked = filling.1;
      }
