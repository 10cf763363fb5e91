-- A word that is a flag or a value keeps the entries ready, if it has no fault.
use Rattle.std.proofs.Common.{◌≡◌, ℕ, Bool, cond, true, false, zero, suc, refl, List, [], ◌∷◌, length, Option, Some, None, drop, is_some}
use Rattle.std.specs.Prelude.{encode_utf8, slice_get}
use Rattle.std.specs.Option.{option_map_or}
use Rattle.std.specs.Str.{chars}
use Rattle.clap.specs.Lexer.{short_of}
use Rattle.clap.specs.Walk.{Held, Outcome, Row, Rule, Text, Waiting, after_flag, arg_by_id, arg_by_long, arg_by_short, attached_value, bundle_met, bundle_step, done, flag_met, idle, long_met, long_or_other, option, option_met, option_word, plain, plain_word, positional, reacted, refused, short_met, short_or_plain, takes_values, waits}
use Rattle.clap.specs.Kinds.{Kinds, or_else}
use Rattle.clap.specs.Faults.{bundle_fault, bundle_step_fault, flag_word_fault, flags_fault, long_fault, option_fault, react_fault, short_fault}
use Rattle.clap.specs.declared.error.kind.ErrorKind.TheVariants as kind
use Rattle.lotos_command.proofs.KindsAbsent.{both_empty}
use Rattle.lotos_command.proofs.ReadyArguments.{Each, IsOrdinary, IsReady}
use Rattle.lotos_command.proofs.FaultlessUses.{found_is_ordinary, reacted_keeps, settled_keeps}

module _ (rules : List Rule) (again : Bool) (ordinary : Each (IsOrdinary rules) rules) where
  abbrev Ready : List Row → Type 0
  Ready = Each (IsReady rules)

  -- ---- options and flags

  -- an option, with a value attached or not, keeps the entries ready, if it has no fault
  option_keeps : (a : Rule) (given : Option Text) (h : Held) → IsOrdinary rules a → option_fault rules again a given h ≡ []
      → Ready h.rows → Ready (option_met rules a given h).0.rows
  option_keeps a (Some v) h mine e all = reacted_keeps rules again ordinary a (v ∷ []) h mine e all
  option_keeps a None h mine e all = settled_keeps rules again ordinary h e all

  -- a long flag or option keeps the entries ready, if it has no fault
  long_keeps : (o : Option Rule) (given : Option Text) (h : Held) → ((a : Rule) → o ≡ Some a → IsOrdinary rules a)
      → long_fault rules again o given h ≡ [] → Ready h.rows → Ready (long_met rules o given h).0.rows
  long_keeps None given h mine e all = all
  long_keeps (Some a) given h mine e all = go (takes_values a) given e
    where
      go : (takes : Bool) (v : Option Text)
          → cond takes (option_fault rules again a v h) (cond (is_some v) (kind.TooManyValues ∷ []) (react_fault rules again a [] h)) ≡ []
          → Ready (cond takes (option_met rules a v h) (flag_met rules a v h)).0.rows
      go true v none = option_keeps a v h (mine a refl) none all
      go false (Some v) none = all
      go false None none = reacted_keeps rules again ordinary a [] h (mine a refl) none all

  -- a short flag or option keeps the entries ready, if it has no fault, and if what comes after it in its word does so
  short_keeps : (o : Option Rule) (rest : Text) (h : Held) (later : Held → Held × Outcome) (later_fault : Held → Kinds)
      → ((k : Held) → Ready k.rows → later_fault k ≡ [] → Ready (later k).0.rows)
      → ((a : Rule) → o ≡ Some a → IsOrdinary rules a) → short_fault rules again o rest h later_fault ≡ [] → Ready h.rows
      → Ready (short_met rules o rest h later).0.rows
  short_keeps None rest h later later_fault after mine e all = all
  short_keeps (Some a) rest h later later_fault after mine e all = go (takes_values a) e
    where
      go : (takes : Bool)
          → cond takes (option_fault rules again a (attached_value rest) h)
          (or_else (react_fault rules again a [] h) (later_fault (reacted rules a [] h))) ≡ []
          → Ready (cond takes (option_met rules a (attached_value rest) h) (later (reacted rules a [] h))).0.rows
      go true none = option_keeps a (attached_value rest) h (mine a refl) none all
      go false none =
          let parts = both_empty (react_fault rules again a [] h) _ none in
          after (reacted rules a [] h) (reacted_keeps rules again ordinary a [] h (mine a refl) parts.0 all) parts.1

  -- ---- several short flags in one word

  -- one more character of several short flags keeps the entries ready, if it has no fault, and if those after it do so
  step_keeps : (o : Option ℕ) (flags : Text) (skip : ℕ) (so_far : Outcome) (h : Held)
      (met : Text → ℕ → Outcome → Held → Held × Outcome) (fault : Text → ℕ → Held → Kinds)
      → ((t : Text) (n : ℕ) (x : Outcome) (k : Held) → Ready k.rows → fault t n k ≡ [] → Ready (met t n x k).0.rows)
      → bundle_step_fault rules again o flags skip h fault ≡ [] → Ready h.rows
      → Ready (bundle_step rules o flags skip so_far h met).0.rows
  step_keeps None flags skip so_far h met fault after e all = all
  step_keeps (Some x) flags zero so_far h met fault after e all =
      short_keeps (arg_by_short rules x) (drop (length (encode_utf8 x)) flags) h _ _
      (λ k good none. after _ 0 done k good none) (λ a is. found_is_ordinary rules again ordinary _ a is) e all
  step_keeps (Some x) flags (suc skip) so_far h met fault after e all = after _ skip so_far h all e

  -- several short flags in one word keep the entries ready, if they have no fault
  bundle_keeps : (k : ℕ) (flags : Text) (skip : ℕ) (so_far : Outcome) (h : Held) → Ready h.rows
      → flags_fault rules again k flags skip h ≡ [] → Ready (bundle_met rules k flags skip so_far h).0.rows
  unfolding bundle_met flags_fault
  bundle_keeps zero flags skip so_far h all e = all
  bundle_keeps (suc k) flags skip so_far h all e =
      step_keeps (slice_get (chars flags) 0) flags skip so_far h (bundle_met rules k) (flags_fault rules again k)
      (λ t n x g good none. bundle_keeps k t n x g good none) e all

  -- ---- values

  -- a word that is one more value of an option keeps the entries ready
  option_word_keeps : (o : Option Rule) (id word : Text) (h : Held) → Ready h.rows → Ready (option_word o id word h).0.rows
  option_word_keeps None id word h all = all
  option_word_keeps (Some a) id word h all = all

  -- a word that is no flag keeps the entries ready
  plain_keeps : (waiting : Waiting) (word : Text) (h : Held) → Ready h.rows → Ready (plain_word rules waiting word h).0.rows
  plain_keeps (option id) word h all = option_word_keeps (arg_by_id rules id) id word h all
  plain_keeps idle word h all = all
  plain_keeps positional word h all = all

  -- what is done with a word after it was read as a flag keeps the entries ready, whatever the outcome
  after_keeps : (waiting : Waiting) (word : Text) (h : Held) (o : Outcome) → Ready h.rows
      → Ready (after_flag rules waiting word h o).0.rows
  after_keeps waiting word h done all = all
  after_keeps waiting word h (waits id) all = all
  after_keeps waiting word h plain all = plain_keeps waiting word h all
  after_keeps waiting word h refused all = plain_keeps waiting word h all

  -- ---- a word that may be a flag

  -- a word that may be a flag keeps the entries ready, if it has no fault
  pub flag_word_keeps : (long : Option (Text × Option Text)) (waiting : Waiting) (word : Text) (h : Held)
      → flag_word_fault rules again long word h ≡ [] → Ready h.rows → Ready (long_or_other rules waiting word long h).0.rows
  flag_word_keeps (Some p) waiting word h e all =
      after_keeps waiting word _ _
      (long_keeps (arg_by_long rules p.0) p.1 h (λ a is. found_is_ordinary rules again ordinary _ a is) e all)
  flag_word_keeps None waiting word h e all = go (short_of word) e
    where
      go : (o : Option Text) → option_map_or (λ flags. bundle_fault rules again flags h) o [] ≡ []
          → Ready (short_or_plain rules waiting word o h).0.rows
      go None none = plain_keeps waiting word h all
      go (Some flags) none =
          after_keeps waiting word _ _ (bundle_keeps (length flags) flags h.skip plain (record h { skip = 0 }) all none)
