-- Offsets inside a text of `n` bytes, or at its end.
use Rattle.std.specs.Prelude.{ℕ, ◌≤◌, List, Option, Some, None}
use Rattle.std.specs.List.{AllByRecursion}
use Rattle.lotos_text.specs.AstView.{BehaviourView, SyncView, gates, all, stop, exit, prefix, choice, par, hide, enable, disable, call, DefinitionView, def, DefinitionListView, no_defs, more_defs}
use Rattle.lotos_text.specs.declared.ast.Placed.{Placed}
use Rattle.lotos_text.specs.declared.fault.TextFault.{TextFault}
use Rattle.lotos_text.specs.declared.fault.TextFault.TheVariants.{E01, E02, E03, E04, E05, E06, E07, E99}
use Rattle.lotos_text.specs.declared.ast.Action.TheVariants.{Internal, Gate}

-- the offset of the fault; a text that is too long (E03) and out of memory (E99) have none
abbrev pub text_offset : TextFault → Option ℕ
text_offset (E01 at) = Some at
text_offset (E02 at) = Some at
text_offset E03 = None
text_offset (E04 at) = Some at
text_offset (E05 at) = Some at
text_offset (E06 at) = Some at
text_offset (E07 at) = Some at
text_offset (E99 e) = None

-- the offset of the fault is inside the text or at its end, if it has one
abbrev pub IsFaultInside : ℕ → TextFault → Type 0
IsFaultInside n (E01 at) = at ≤ n
IsFaultInside n (E02 at) = at ≤ n
IsFaultInside n E03 = Unit {0}
IsFaultInside n (E04 at) = at ≤ n
IsFaultInside n (E05 at) = at ≤ n
IsFaultInside n (E06 at) = at ≤ n
IsFaultInside n (E07 at) = at ≤ n
IsFaultInside n (E99 e) = Unit {0}

-- the offset of each name is inside the text or at its end
abbrev pub AreNamesInside : ℕ → List Placed → Type 0
AreNamesInside n names = AllByRecursion (λ g. g.at ≤ n) names

-- the offset of each gate on which both sides synchronize is inside the text or at its end, if they are listed
abbrev pub IsSyncInside : ℕ → SyncView → Type 0
IsSyncInside n (gates names) = AreNamesInside n names
IsSyncInside n all = Unit {0}

-- the offset of each name and of each `>>` in a behaviour is inside the text or at its end
abbrev pub IsBehaviourInside : ℕ → BehaviourView → Type 0
IsBehaviourInside n stop = Unit {0}
IsBehaviourInside n exit = Unit {0}
IsBehaviourInside n (prefix Internal b) = IsBehaviourInside n b
IsBehaviourInside n (prefix (Gate g) b) = (g.at ≤ n) × IsBehaviourInside n b
IsBehaviourInside n (choice l r) = IsBehaviourInside n l × IsBehaviourInside n r
IsBehaviourInside n (par l sync r) = IsBehaviourInside n l × IsSyncInside n sync × IsBehaviourInside n r
IsBehaviourInside n (hide names b) = AreNamesInside n names × IsBehaviourInside n b
IsBehaviourInside n (enable l at r) = IsBehaviourInside n l × (at ≤ n) × IsBehaviourInside n r
IsBehaviourInside n (disable l r) = IsBehaviourInside n l × IsBehaviourInside n r
IsBehaviourInside n (call name names) = (name.at ≤ n) × AreNamesInside n names

abbrev mutual
  -- each offset in a definition, and in its inner ones, is inside the text or at its end
  pub IsInside : ℕ → DefinitionView → Type 0
  IsInside n (def name formals declared body inner) =
      (name.at ≤ n) × AreNamesInside n formals × IsBehaviourInside n body × AreInside n inner

  -- each offset in the definitions of a list is inside the text or at its end
  pub AreInside : ℕ → DefinitionListView → Type 0
  AreInside n no_defs = Unit {0}
  AreInside n (more_defs d ds) = IsInside n d × AreInside n ds
