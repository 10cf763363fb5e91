-- The question of a table.
use Rattle.std.proofs.Common.{◌≡◌, ◌<◌, ◌∙◌, ℕ, List, length, ap, sym, subst}
use Rattle.std.specs.Option.{unwrap_or}
use Rattle.lotos_check.specs.Flat.{System}
use Rattle.lotos_check.proofs.ListIndices.{get_some}
use Rattle.lotos_store.specs.Terms.{Term, stop}
use Rattle.lotos_terms.specs.Numbered.{IsNumberedTerm}
use Rattle.lotos_terms.specs.TableView.{Grows, IsSoundView, IsTableOf, TableView}
use Rattle.lotos_pattern.specs.Patterns.{Pattern}
use Rattle.lotos_listing.specs.Lookups.{IsTermAt, term_at}
use Rattle.lotos_runs.specs.MatchQuestions.{IsMatchQuestionOf, match_question_of}

-- a number that has a term is that of the term
pub term_is : (ts : List Term) (n : ℕ) (t : Term) → IsTermAt ts n t → term_at ts n ≡ t
term_is ts n t h = ap (λ o. unwrap_or o stop) h

-- a table that has grown has the same start term
pub start_is : (old new : TableView) (p : Pattern) → Grows old new → old.start < length old.terms →
    IsTermAt old.terms old.start (match_question_of new p).start
start_is old new p grows below =
    let (t, stands) = get_some old.terms old.start below in
    let there : term_at new.terms new.start ≡ t =
    ap (λ n. term_at new.terms n) grows.start ∙ term_is new.terms old.start t (grows.terms old.start t stands) in
    subst (IsTermAt old.terms old.start) (sym there) stands

-- a table that has grown has the same question
pub question_same : (old new : TableView) (p : Pattern) → Grows old new → old.start < length old.terms →
    match_question_of new p ≡ match_question_of old p
question_same old new p grows below =
    let start : term_at new.terms new.start ≡ term_at old.terms old.start = sym (term_is old.terms old.start _ (start_is old new p grows below)) in
    λ i. record { names = grows.names i; processes = grows.processes i; start = start i; pattern = p }

-- the question of a table of a system is one about the system
pub of_table : (system : System) (held : TableView) (pattern : Pattern) → IsTableOf system held → IsSoundView held →
    IsMatchQuestionOf system (match_question_of held pattern)
of_table system held pattern table sound = record {
  named = sound.names;
  gates = table.names;
  processes = table.processes;
  start = subst (IsNumberedTerm held.names system.start) (sym (term_is held.terms held.start table.term table.located)) table.start;
}
