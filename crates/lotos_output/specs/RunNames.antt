-- What is needed to write runs with what makes their internal steps.
use Rattle.std.specs.Prelude.{IfSome, Option, refl}
use Rattle.std.specs.Coded.{Coded, code_by, coded×}
use Rattle.lotos_terms.specs.SystemView.{table_view_code}
use Rattle.lotos_terms.specs.TableView.{TableView}
use Rattle.lotos_pattern.specs.Patterns.{Pattern}
use Rattle.lotos_pattern.specs.contracts.pattern.Pattern as pattern_contract
use Rattle.lotos_origins.specs.FollowedRuns.{IsFollowed}
use Rattle.lotos_output.specs.declared.run_names.LastRun.{LastRun}

-- a table, in which runs are followed from its start, and the pattern that says where they end
pub record RunNamesView : Type 0 where
  pub table : TableView
  pub pattern : Pattern

-- the run that was followed last, if there is one, was followed from the start of the table
abbrev pub IsFollowedLast : TableView → Option LastRun → Type 0
IsFollowedLast table last = IfSome last (λ l. IsFollowed table table.start l.run.items l.followed)

-- how the view is encoded
abbrev pub run_names_code : Coded RunNamesView
run_names_code = code_by (TableView × Pattern) (coded× table_view_code pattern_contract.the_row.coded)
    (λ n. (n.table, n.pattern)) (λ p. record { table = p.0; pattern = p.1 }) (λ _. refl)
