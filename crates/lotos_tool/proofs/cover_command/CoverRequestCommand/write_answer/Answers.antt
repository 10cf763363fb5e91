use Rattle.std.proofs.Common.{subst, sym}
use Rattle.lotos_check.specs.CheckedView.{system_of}
use Rattle.lotos_tool.specs.CoverOutcome.{IsCoverAskedOf, cover_answering}
use Rattle.lotos_tool.proofs.CallEnds.{ends_more}
use Rattle.lotos_tool.proofs.cover_command.CoverRequestCommand.write_answer.Goals as goal

pub returns-in-Ok-clause-ends : goal.returns-in-Ok-clause-ends
returns-in-Ok-clause-ends g c = λ left left' are.
    ends_more (cover_answering c.args.self.now) _ _ _ _ _ c.write_listing.result
    (λ asked same. record {
      system = system_of c.args.parts.1;
      mark = c.args.parts.0;
      parts = are;
      asks = subst (IsCoverAskedOf c.args.self.now (system_of c.args.parts.1) c.args.parts.0) (sym same) c.in-Ok.ensures.asks;
    })
    c.write_listing.ensures.ends
