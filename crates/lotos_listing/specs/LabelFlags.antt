-- Sets of labels as flags.
use Rattle.std.specs.Prelude.{◌≡◌, ◌⊎◌, ◌↔◌, ℕ, List, MatchOption, true}
use Rattle.std.proofs.Common.{get_or}
use Rattle.lotos_check.specs.NameLists.{In, Name}
use Rattle.lotos_store.specs.declared.label.Label.{Label}
use Rattle.lotos_store.specs.declared.label.Label.TheVariants as l
use Rattle.lotos_terms.specs.TableView.{AreGateNames, IsPrintedAs}
use Rattle.lotos_pattern.specs.Patterns.{IsIn, LabelSet, Pattern, refusal}
use Rattle.lotos_listing.specs.Order.{Label as Text, internal}
use Rattle.lotos_listing.specs.declared.label_flags.LabelFlags.{LabelFlags}

-- the set has the label: a gate has its own flag if there are flags up to its number, and else one flag for all other
-- gates; `exit` and `i` have a flag each. If A has the number 0, the set of A alone has one flag for gates, which is
-- set, and its other flags are not set
abbrev pub HasLabel : LabelFlags → Label → Type 0
HasLabel flags (l.Gate g) = get_or flags.gates.items g flags.others ≡ true
HasLabel flags l.Exit = flags.exit ≡ true
HasLabel flags l.Internal = flags.internal ≡ true

-- the labels of a table with these gates that are in the set, and no others, have their flag
abbrev pub AreFlagsOf : LabelSet → List Name → LabelFlags → Type 0
AreFlagsOf set names flags = (label : Label) (text : Text) → IsPrintedAs names label text →
    HasLabel flags label ↔ IsIn text set

-- the labels are those of a table with these gates that a term has not if it refuses the set: the internal action and
-- those of the set
abbrev pub AreRefused : LabelSet → List Name → LabelFlags → Type 0
AreRefused set names flags = AreGateNames names → (label : Label) (text : Text) → IsPrintedAs names label text →
    HasLabel flags label ↔ ((text ≡ internal) ⊎ IsIn text set)

-- the labels are those of a table with these gates that the end of a sequence must not have, as the pattern demands;
-- none if it demands nothing
abbrev pub AreRefusedBy : Pattern → List Name → LabelFlags → Type 0
AreRefusedBy p names flags =
    MatchOption (refusal p) ((k : Label) → HasLabel flags k → ⊥) (λ set. AreRefused set names flags)

-- some step of the list has a label of the set
abbrev pub HasStepWith : LabelFlags → List (Label × ℕ) → Type 0
HasStepWith flags list = (s : Label × ℕ) × In s list × HasLabel flags s.0
