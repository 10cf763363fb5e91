-- What the getters of clap's matches return for an entry that can be read.
use Rattle.std.proofs.Common.{◌≡◌, ◌∙◌, ◌<◌, ◌^◌, ◌||◌, ap, sym, refl, ℕ, Bool, true, false, Option, Some, None, Result, Ok, Err, codes, arith}
use Rattle.std.specs.Prelude.{IfSome}
use Rattle.std.specs.Option.{option_map, option_map_or}
use Rattle.std.specs.Str.{bytes_eq}
use Rattle.std.specs.Str.Parse.{ParsesUnsigned}
use Rattle.std.proofs.lemmas.Slice.Eq.{bytes_eq-Decides}
use Rattle.clap.specs.Words.{Text}
use Rattle.clap.specs.Matches.{ReadsOne}
use Rattle.lotos_command.specs.EntryRules.{IsNumberIn, IsTruthText}
use Rattle.lotos_command.specs.Request.{number}

-- `G` reads texts as numbers below `2 ^ k`, and the upper bound is below `2 ^ k`
module _ (E : Type 0) (G : Text → Result ℕ E → Type 0) (k low high : ℕ)
    (parses : (t : Text) (r : Result ℕ E) → G t r → ParsesUnsigned k 10 t r) (fits : high < 2 ^ k) where
  -- the text of a number within the bounds is read as this number
  text_reads : (t : Text) (r : Option ℕ) → ReadsOne G t r → IsNumberIn low high t → r ≡ Some (number t)
  text_reads t (Some n) reads within = ap Some (parses t (Ok n) reads).1
  text_reads t None reads within = absurd (parses t (Err reads.0) reads.1 (within.numeral, omega (arith, within.most)))

  -- the getter returns the number of the entry, if there is one
  pub entry_reads : (read entry : Option Text) (r : Option ℕ) → read ≡ entry → ((t : Text) → read ≡ Some t → ReadsOne G t r)
      → (read ≡ None → r ≡ None) → IfSome entry (IsNumberIn low high) → r ≡ option_map number entry
  entry_reads read (Some t) r is reads none within = text_reads t r (reads t is) within
  entry_reads read None r is reads none within = none is

-- the getter returns whether the flag is set
pub flag_reads : (entry : Option Text) (r : Bool) → (entry ≡ None → r ≡ false) → (entry ≡ Some (codes "true") → r ≡ true)
    → (entry ≡ Some (codes "false") → r ≡ false) → IfSome entry IsTruthText → r ≡ option_map_or (bytes_eq (codes "true")) entry false
flag_reads None r none given not_given is = none refl
flag_reads (Some t) r none given not_given is = go (bytes_eq t (codes "true")) refl is
  where
    go : (b : Bool) → bytes_eq t (codes "true") ≡ b → (b || bytes_eq t (codes "false")) ≡ true → r ≡ bytes_eq (codes "true") t
    go true e is =
        let text : t ≡ codes "true" = (bytes_eq-Decides t (codes "true")).0 e in
        given (ap Some text) ∙ sym (ap (bytes_eq (codes "true")) text)
    go false e is =
        let text : t ≡ codes "false" = (bytes_eq-Decides t (codes "false")).0 is in
        not_given (ap Some text) ∙ sym (ap (bytes_eq (codes "true")) text)
