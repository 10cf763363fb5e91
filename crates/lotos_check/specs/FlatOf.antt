-- The views of the program's code: behaviours with calls by number, and processes.
use Rattle.std.specs.Prelude.{option_map}
use Rattle.lotos_check.specs.Flat.{Flat, stop, exit, prefix, choice, par, hide, enable, disable, call, FlatProcess}
use Rattle.lotos_check.specs.declared.resolved.Code.{Code, Stop, Exit, Prefix', Choice', Par', Hide', Enable', Disable', Call}
use Rattle.lotos_check.specs.declared.resolved.Process.{Process}

-- the view of the program's behaviour with calls by number
abbrev pub flat_of : Code → Flat
flat_of Stop = stop
flat_of Exit = exit
flat_of (Prefix' action p body) = prefix action (flat_of body)
flat_of (Choice' p left q right) = choice (flat_of left) (flat_of right)
flat_of (Par' p left sync q right) = par (flat_of left) (option_map (λ v. v.items) sync) (flat_of right)
flat_of (Hide' gates p body) = hide gates.items (flat_of body)
flat_of (Enable' p left q right) = enable (flat_of left) (flat_of right)
flat_of (Disable' p left q right) = disable (flat_of left) (flat_of right)
flat_of (Call process gates) = call process gates.items

-- the view of the program's process
abbrev pub process_of : Process → FlatProcess
process_of p = record {
  name = p.name;
  formals = p.formals.items;
  functionality = p.functionality;
  body = flat_of p.body;
}
