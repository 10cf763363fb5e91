-- What is looked up: the text of a label and the term of a number, with a default if there is none; items by index.
use Rattle.std.specs.Prelude.{◌≡◌, ◌<◌, ℕ, List, [], Some, length, slice_get, slice_index_or}
use Rattle.std.specs.Option.{unwrap_or}
use Rattle.lotos_check.specs.NameLists.{Name}
use Rattle.lotos_store.specs.Terms.{Term, stop}
use Rattle.lotos_store.specs.declared.label.Label.{Label as TermLabel}
use Rattle.lotos_store.specs.declared.label.Label.TheVariants as l
use Rattle.lotos_listing.specs.Order.{Label, internal, termination}

-- the printed text of a label; the empty text for a gate that the names do not have
abbrev pub text_of : List Name → TermLabel → Label
text_of names l.Exit = termination
text_of names l.Internal = internal
text_of names (l.Gate g) = unwrap_or (slice_get names g) []

-- the term with that number; `stop` if there is none
abbrev pub term_at : List Term → ℕ → Term
term_at terms k = unwrap_or (slice_get terms k) stop

-- `t` is the term with the number `n`
abbrev pub IsTermAt : {X : Type 0} → List X → ℕ → X → Type 0
IsTermAt ts n t = slice_get ts n ≡ Some t

-- `e` is the item at index `k`
abbrev pub IsEntryAt : {A : Type 0} → List A → ℕ → A → Type 0
IsEntryAt s k e = (k < length s) × (slice_index_or s k e ≡ e)
