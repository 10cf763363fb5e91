-- The origins of internal steps of a table's terms have gates of the table.
use Rattle.std.proofs.Common.{ℕ, List, length}
use Rattle.std.specs.Prelude.{zip}
use Rattle.lotos_check.proofs.MappedLists.{in_zipped}
use Rattle.lotos_store.specs.Terms.{AreGates, ArePairs, IsTerm, Term}
use Rattle.lotos_store.specs.declared.label.Label.{Label}
use Rattle.lotos_terms.specs.Steps.{Step}
use Rattle.lotos_terms.specs.TableView.{AreProcessesOver, IsLabel, TableView}
use Rattle.lotos_origins.specs.Origins as i
use Rattle.lotos_origins.specs.Origins.{InternalStep, IsOriginOver}
use Rattle.lotos_origins.specs.declared.origin.Origin.{Origin}

-- the term is one over the gates and the processes of the table
abbrev pub IsOver : TableView → Term → Type 0
IsOver held t = IsTerm (length held.names) (length held.processes) t

module _ (held : TableView) (processes : AreProcessesOver (length held.names) held.processes)
    (labelled : (t u : Term) (k : Label) → IsOver held t → Step held.processes t k u → IsLabel held k) where
  -- the formal gates paired with the gates of a call are pairs of gates of the table
  zipped : (fs gs : List ℕ) → AreGates (length held.names) fs → AreGates (length held.names) gs → ArePairs (length held.names) (zip fs gs)
  zipped fs gs f h p at = (f p.0 (in_zipped p fs gs at).0, h p.1 (in_zipped p fs gs at).1)

  -- so an origin has one of its gates, if it has one
  pub origin_kept : {t u : Term} {o : Origin} → InternalStep held.processes t o u → IsOver held t → IsOriginOver (length held.names) o
  origin_kept i.acts_inside is = tt
  origin_kept (i.chooses_left s) is = origin_kept s is.0
  origin_kept (i.chooses_right s) is = origin_kept s is.1
  origin_kept (i.interleaves_left s) is = origin_kept s is.0
  origin_kept (i.interleaves_right s) is = origin_kept s is.2
  origin_kept (i.hides {b} {t} listed s) is = labelled b t _ is.1 s
  origin_kept (i.shows s) is = origin_kept s is.1
  origin_kept (i.goes_on s) is = origin_kept s is.0
  origin_kept (i.enables s) is = tt
  origin_kept (i.goes_on_undisturbed s) is = origin_kept s is.0
  origin_kept (i.disables s) is = origin_kept s is.1
  origin_kept (i.calls {p} {gates} {q} at s) is = origin_kept s (zipped q.formals gates (processes p q at).0 is.1, (processes p q at).1)
  origin_kept (i.relabels s) is = origin_kept s is.1
