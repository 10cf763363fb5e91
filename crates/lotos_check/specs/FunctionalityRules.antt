-- What the comparison of resolved bodies with their definitions returns.
use Rattle.std.specs.Prelude.{◌≡◌, ◌≢◌, ℕ, List, Some, None, slice_get}
use Rattle.lotos_text.specs.AstView.{DefinitionView, name_of, declared_of}
use Rattle.lotos_check.specs.declared.resolved_body.ResolvedBody.{ResolvedBody}
use Rattle.lotos_check.specs.declared.fault.CheckFault.{CheckFault}
use Rattle.lotos_check.specs.declared.fault.CheckFault.TheVariants.{E20, E21, E22, E23, E24, E25, E26, E27, E99}

-- the body has the declared functionality, and each left operand of `>>` in it has exit
pub record HasDeclaredFunctionality (definition : DefinitionView) (found : ResolvedBody) : Type 0 where
  pub same : found.functionality ≡ declared_of definition
  pub exits : found.never_exits ≡ None

-- why a body breaks a rule of functionality, or memory ran out
abbrev pub IsFunctionalityFault : DefinitionView → ResolvedBody → CheckFault → Type 0
IsFunctionalityFault definition found (E20 gate) = ⊥
IsFunctionalityFault definition found (E21 gate) = ⊥
IsFunctionalityFault definition found (E22 name) = ⊥
IsFunctionalityFault definition found (E23 name formal actual) = ⊥
IsFunctionalityFault definition found (E24 name) = ⊥
IsFunctionalityFault definition found (E25 name declared) =
    (name ≡ name_of definition) × (declared ≡ declared_of definition) × (found.functionality ≢ declared)
IsFunctionalityFault definition found (E26 at) = found.never_exits ≡ Some at
IsFunctionalityFault definition found (E27 name set) = ⊥
IsFunctionalityFault definition found (E99 e) = Unit {0}

-- one of the bodies breaks a rule of functionality, or memory ran out
pub record IsFunctionalityFaultIn (definitions : List DefinitionView) (found : List ResolvedBody)
    (fault : CheckFault) : Type 0 where
  pub index : ℕ
  pub definition : DefinitionView
  pub body : ResolvedBody
  pub defined : slice_get definitions index ≡ Some definition
  pub located : slice_get found index ≡ Some body
  pub untyped : IsFunctionalityFault definition body fault
