use Rattle.std.proofs.Common.{◌≡◌, ℕ, Bool, List, arith, inl, inr, rules, subst}
use Rattle.lotos_command.specs.Request.{RequestOf, request_view}
use Rattle.lotos_command.specs.declared.command.Request.{Request}
use Rattle.lotos_command.specs.declared.command.Request.TheVariants as command
use Rattle.lotos_device.specs.DeviceStates.{SinkState, SourceState}
use Rattle.lotos_outcome.specs.Calls.{Meaning, Ran}
use Rattle.lotos_tool.specs.AfterOutcome.{after_meaning}
use Rattle.lotos_tool.specs.CheckOutcome.{check_meaning}
use Rattle.lotos_tool.specs.CompareOutcome.{compare_meaning}
use Rattle.lotos_tool.specs.CoverOutcome.{cover_meaning}
use Rattle.lotos_tool.specs.EverOutcome.{ever_meaning}
use Rattle.lotos_tool.specs.Findings.{always, are_alike, can_come, happens, has_lines}
use Rattle.lotos_tool.specs.GraphOutcome.{graph_meaning}
use Rattle.lotos_tool.specs.ProgramRuns.{CommandRan}
use Rattle.lotos_tool.specs.SearchOutcome.{search_meaning}
use Rattle.lotos_tool.specs.SuiteOutcome.{suite_meaning}
use Rattle.lotos_tool.proofs.CallEnds.{ran_output}
use Rattle.lotos_tool.proofs.UnreadWords.{answered}
use Rattle.lotos_tool.proofs.program.run.Goals as goal

module _ (words : List (List ℕ)) (from from' : SourceState) (to to' : SinkState) (status : ℕ) where
  -- a command ran by the request that the words make
  command_ran : {R F P : Type 0} (kind : R → Request) (meaning : R → Meaning F P) (is_yes : F → Bool) (asked : Request) (request : R) →
      Ran (meaning request) is_yes from from' to to' status → asked ≡ kind request → RequestOf words (request_view asked) →
      CommandRan words from from' to to' status kind meaning is_yes
  command_ran kind meaning is_yes asked request ran is asks =
      record { request = request; asked = subst (λ r. RequestOf words (request_view r)) is asks; ran = ran }

pub returns-in-Ok-Search : goal.returns-in-Ok-Search
returns-in-Ok-Search g c =
    let ran = c.run_command.ensures in record {
      ran = inl (command_ran _ _ _ _ _ _ command.Search search_meaning has_lines c.in-Ok-Search.field-0 c.in-Ok-Search.asked ran (search rules)
          c.in-Ok-Search.ensures.is);
      given = ran.call.takes.given;
      output = ran_output _ _ _ _ _ _ _ ran;
    }

pub returns-in-Ok-Check : goal.returns-in-Ok-Check
returns-in-Ok-Check g c =
    let ran = c.run_check.ensures in record {
      ran = inr (inl (inl (command_ran _ _ _ _ _ _ (λ u. command.Check) (λ u. check_meaning) always _ tt ran (search rules) c.in-Ok-Check.ensures.is)));
      given = ran.call.takes.given;
      output = ran_output _ _ _ _ _ _ _ ran;
    }

pub returns-in-Ok-Diagnose : goal.returns-in-Ok-Diagnose
returns-in-Ok-Diagnose g c =
    let ran = c.run_diagnosis.ensures in record {
      ran = inr (inl (inr (command_ran _ _ _ _ _ _ command.Diagnose (λ asked. check_meaning) always c.in-Ok-Diagnose.field-0 c.in-Ok-Diagnose.asked ran
          (search rules) c.in-Ok-Diagnose.ensures.is)));
      given = ran.call.takes.given;
      output = ran_output _ _ _ _ _ _ _ ran;
    }

pub returns-in-Ok-Ever : goal.returns-in-Ok-Ever
returns-in-Ok-Ever g c =
    let ran = c.run_command-in-Ok-Ever.ensures in record {
      ran = inr (inr (inl (command_ran _ _ _ _ _ _ command.Ever ever_meaning happens c.in-Ok-Ever.field-0 c.in-Ok-Ever.asked ran (search rules)
          c.in-Ok-Ever.ensures.is)));
      given = ran.call.takes.given;
      output = ran_output _ _ _ _ _ _ _ ran;
    }

pub returns-in-Ok-After : goal.returns-in-Ok-After
returns-in-Ok-After g c =
    let ran = c.run_command-in-Ok-After.ensures in record {
      ran = inr (inr (inr (inl (command_ran _ _ _ _ _ _ command.After after_meaning can_come c.in-Ok-After.field-0 c.in-Ok-After.asked ran (search rules)
          c.in-Ok-After.ensures.is))));
      given = ran.call.takes.given;
      output = ran_output _ _ _ _ _ _ _ ran;
    }

pub returns-in-Ok-Cover : goal.returns-in-Ok-Cover
returns-in-Ok-Cover g c =
    let ran = c.run_command-in-Ok-Cover.ensures in record {
      ran = inr (inr (inr (inr (inl (command_ran _ _ _ _ _ _ command.Cover cover_meaning has_lines c.in-Ok-Cover.field-0 c.in-Ok-Cover.asked ran
          (search rules) c.in-Ok-Cover.ensures.is)))));
      given = ran.call.takes.given;
      output = ran_output _ _ _ _ _ _ _ ran;
    }

pub returns-in-Ok-Graph : goal.returns-in-Ok-Graph
returns-in-Ok-Graph g c =
    let ran = c.run_command-in-Ok-Graph.ensures in record {
      ran = inr (inr (inr (inr (inr (inl (command_ran _ _ _ _ _ _ command.Graph graph_meaning always c.in-Ok-Graph.field-0 c.in-Ok-Graph.asked ran
          (search rules) c.in-Ok-Graph.ensures.is))))));
      given = ran.call.takes.given;
      output = ran_output _ _ _ _ _ _ _ ran;
    }

pub returns-in-Ok-Suite : goal.returns-in-Ok-Suite
returns-in-Ok-Suite g c =
    let ran = c.run_command-in-Ok-Suite.ensures in record {
      ran = inr (inr (inr (inr (inr (inr (inl (command_ran _ _ _ _ _ _ command.Suite suite_meaning has_lines c.in-Ok-Suite.field-0 c.in-Ok-Suite.asked ran
          (search rules) c.in-Ok-Suite.ensures.is)))))));
      given = ran.call.takes.given;
      output = ran_output _ _ _ _ _ _ _ ran;
    }

pub returns-in-Ok-Compare : goal.returns-in-Ok-Compare
returns-in-Ok-Compare g c =
    let ran = c.run_command-in-Ok-Compare.ensures in record {
      ran = inr (inr (inr (inr (inr (inr (inr (inl (command_ran _ _ _ _ _ _ command.Compare compare_meaning are_alike c.in-Ok-Compare.field-0
          c.in-Ok-Compare.asked ran (search rules) c.in-Ok-Compare.ensures.is))))))));
      given = ran.call.takes.given;
      output = ran_output _ _ _ _ _ _ _ ran;
    }

pub returns-in-Err : goal.returns-in-Err
returns-in-Err g c = record {
  ran = inr (inr (inr (inr (inr (inr (inr (inr (answered _ c.in-Err.fault _ _ _ _ c.in-Err.ensures.fault c.in-Err.ensures.taken
      c.end_without_command.ensures.answer))))))));
  given = omega arith;
  output = c.end_without_command.ensures.output;
}
