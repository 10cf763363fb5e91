use Rattle.std.proofs.Common.{◌<◌, [], arith, length}
use Rattle.std.proofs.lemmas.Option.{slice_get_within}
use Rattle.lotos_suite.specs.GraphMachines.{machine_of}
use Rattle.lotos_suite.proofs.GraphMachines.{machine_accesses, machine_observed, machine_over}
use Rattle.lotos_suite.proofs.FirstParts.{are_access_sequences}
use Rattle.lotos_suite.proofs.laws.automata_are_machines.Goals as goal

pub returns : goal.returns
returns c = record {
  observed = λ b graph access is s. machine_observed b graph access is.explored s;
  access = λ b graph access is.
      let within = slice_get_within access 0 [] is.explored.empty in
      let counted = is.explored.counted in
      are_access_sequences (machine_of b.names graph) access (let z : 0 < length graph = omega arith in z) (machine_accesses b graph access is).firsts;
  accesses = λ b graph access is. machine_accesses b graph access is;
  over = λ b graph access labels is are. machine_over b graph access is.explored labels are;
}
