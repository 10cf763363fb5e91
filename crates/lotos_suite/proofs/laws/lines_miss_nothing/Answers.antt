use Rattle.std.proofs.Common.{◌≤◌, ◌+◌, length, subst, sym}
use Rattle.lotos_suite.proofs.CutWords.{same_passes, words_agree}
use Rattle.lotos_suite.proofs.GraphMachines.{machine_observed, machine_over}
use Rattle.lotos_suite.proofs.SuiteAgreement.{same_sequences}
use Rattle.lotos_suite.proofs.FirstParts.{are_parts}
use Rattle.lotos_suite.specs.GraphMachines.{label_texts, machine_of}
use Rattle.lotos_suite.specs.Machines.{IsMachineOver}
use Rattle.lotos_suite.proofs.laws.lines_miss_nothing.Goals as goal

pub returns : goal.returns
returns c b graph access labels extra lines implementation is are suite over_too few =
    let parts = suite.parts in
    let first = suite.first in
    let lines_are = suite.exact in
    let m = machine_of b.names graph in
    let texts = label_texts b.names labels in
    let over = machine_over b graph access is.explored labels are in
    let suited = are_parts m texts extra parts over.start first in
    let over_parts = subst (λ z. IsMachineOver z m) (sym first.named) over in
    let too_parts = subst (λ z. IsMachineOver z implementation) (sym first.named) over_too in
    let little = subst (λ z. implementation.states ≤ length graph + z) (sym first.more) few in (
      (λ passes s.
          let agree = same_sequences m implementation parts over_parts too_parts suited
          (words_agree m implementation parts (λ line there. passes line ((lines_are.each line).1 there))) little s in
          let seen = machine_observed b graph access is.explored s in
          ((λ z. agree.0 (seen.1 z)), (λ z. seen.0 (agree.1 z)))),
      (λ agree line i. same_passes m implementation parts (λ s.
          let seen = machine_observed b graph access is.explored s in
          ((λ z. (agree s).0 (seen.0 z)), (λ z. seen.1 ((agree s).1 z)))) line ((lines_are.each line).0 i)),
    )
