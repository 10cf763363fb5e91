-- The code of all definitions, from that of each in turn.
use Rattle.std.proofs.Common.{◌≡◌, ℕ, ◌+◌, ◌<◌, List, [], ◌∷◌, ◌++◌, drop, length, refl, sym, ap, subst, ◌∙◌, append_assoc, append-nil, arith, zero, suc}
use Rattle.std.proofs.lemmas.List.{drop_all}
use Rattle.lotos_text.specs.AstView.{DefinitionView}
use Rattle.lotos_text.specs.AstOf.{definition_view}
use Rattle.lotos_text.specs.declared.ast.Definition.{Definition, out-Definition}
use Rattle.lotos_text.proofs.DefinitionParts.{name_shown, formals_shown, declared_shown}
use Rattle.lotos_check.specs.NameLists.{texts}
use Rattle.lotos_check.specs.CheckedView.{flat_of, process_of}
use Rattle.lotos_check.specs.Acceptance.{IsProcessOfBody, AreProcessesOfBodies, no_processes, one_process, IsFlattened, flattens}
use Rattle.lotos_check.specs.declared.resolved_body.ResolvedBody.{ResolvedBody}
use Rattle.lotos_check.specs.declared.resolved.Code.{Code}
use Rattle.lotos_check.specs.declared.resolved.Process.{Process}

-- a process is a definition with a code, if it has the definition's parts and that code
pub made_of : (d : Definition) (found : ResolvedBody) (process : Process) → process.name ≡ (out-Definition d).name.name →
    process.formals.items ≡ texts (out-Definition d).formals.items → process.functionality ≡ (out-Definition d).functionality →
    process.body ≡ found.code.value → IsProcessOfBody (definition_view d) found (process_of process)
made_of d found process n f g b = record {
  name = n ∙ ap (λ p. p.name) (name_shown d);
  formals = f ∙ ap texts (formals_shown d);
  functionality = g ∙ declared_shown d;
  body = ap flat_of b;
}

module _ (definitions : List DefinitionView) (found : List ResolvedBody) where
  -- so far this start and these processes were made; the rest of what was found is to come
  pub record Flattens (index : ℕ) (rest : List ResolvedBody) (start : Code) (processes : List Process) : Type 0 where
    pub sized : index + length rest ≡ length definitions
    pub begin : index ≡ 0 → (processes ≡ []) × (rest ≡ found)
    pub more : 0 < index → (others : List Process) → AreProcessesOfBodies (drop index definitions) rest others →
        IsFlattened definitions found start (processes ++ others)

  -- at first nothing is made
  pub flattens_none : (start : Code) → length definitions ≡ length found → Flattens 0 found start []
  flattens_none start e = record { sized = omega arith; begin = λ _. (refl, refl); more = λ h. absurd (omega arith) }

-- the first becomes the behaviour
pub flattens_first : (definitions : List DefinitionView) (found : List ResolvedBody) (one : ResolvedBody) (rest : List ResolvedBody) (start : Code)
    (processes : List Process) →
    Flattens definitions found 0 (one ∷ rest) start processes → Flattens definitions found 1 rest one.code.value processes
flattens_first [] found one rest start processes h = absurd (let e = h.sized in omega arith)
flattens_first (d ∷ ds) found one rest start processes h =
    let b = h.begin refl in
    record {
      sized = let e = h.sized in omega arith;
      begin = λ e. absurd (omega arith);
      more = λ _ others m.
          subst (λ t. IsFlattened (d ∷ ds) t one.code.value (processes ++ others)) b.1
          (subst (λ t. IsFlattened (d ∷ ds) (one ∷ rest) one.code.value (t ++ others)) (sym b.0) (flattens refl m));
    }

-- each other one becomes a process
pub flattens_more : (definitions : List DefinitionView) (found : List ResolvedBody) (index : ℕ) (one : ResolvedBody) (rest : List ResolvedBody) (start : Code)
    (processes : List Process) (d : DefinitionView) (process : Process) → 0 < index → drop index definitions ≡ d ∷ drop (index + 1) definitions →
    IsProcessOfBody d one (process_of process) → Flattens definitions found index (one ∷ rest) start processes →
    Flattens definitions found (index + 1) rest start (processes ++ process ∷ [])
flattens_more definitions found index one rest start processes d process p e m h = record {
  sized = let s = h.sized in omega arith;
  begin = λ z. absurd (omega arith);
  more = λ _ others made_others.
      subst (λ t. IsFlattened definitions found start t) (sym (append_assoc processes (process ∷ []) others))
      (h.more p (process ∷ others) (subst (λ t. AreProcessesOfBodies t (one ∷ rest) (process ∷ others)) (sym e) (one_process m made_others)));
}

-- at the end all is made
pub flattens_all : (definitions : List DefinitionView) (found : List ResolvedBody) (index : ℕ) (start : Code) (processes : List Process) →
    0 < length found → Flattens definitions found index [] start processes → IsFlattened definitions found start processes
flattens_all definitions found zero start processes p h =
    absurd (let e = ap length (h.begin refl).1 in omega arith)
flattens_all definitions found (suc index) start processes p h =
    let none : drop (suc index) definitions ≡ [] = drop_all (suc index) definitions (let s = h.sized in omega arith) in
    subst (λ t. IsFlattened definitions found start t) (append-nil processes)
    (h.more (omega arith) [] (subst (λ t. AreProcessesOfBodies t [] []) (sym none) no_processes))

-- a step of the code at the first
pub flattens_first_step : (definitions : List DefinitionView) (found : List ResolvedBody) (index : ℕ) (one : ResolvedBody) (all rest : List ResolvedBody)
    (start after : Code)
    (processes others : List Process) → index ≡ 0 → all ≡ one ∷ rest → after ≡ one.code.value → others ≡ processes →
    Flattens definitions found index all start processes → Flattens definitions found (index + 1) rest after others
flattens_first_step definitions found index one all rest start after processes others i a s p h =
    let k : Flattens definitions found 0 (one ∷ rest) start processes = rw (i, a) at h in
    let one_more : 1 ≡ index + 1 = omega arith in
    subst (λ n. Flattens definitions found n rest after others) one_more
    (rw (s, p) (flattens_first definitions found one rest start processes k))

-- a step of the code at each other one
pub flattens_more_step : (definitions : List DefinitionView) (found : List ResolvedBody) (index : ℕ) (one : ResolvedBody) (all rest : List ResolvedBody)
    (start after : Code)
    (processes others : List Process) (d : DefinitionView) (process : Process) → (index ≡ 0 → ⊥) → all ≡ one ∷ rest → after ≡ start →
    others ≡ processes ++ process ∷ [] →
    drop index definitions ≡ d ∷ drop (index + 1) definitions → IsProcessOfBody d one (process_of process) →
    Flattens definitions found index all start processes → Flattens definitions found (index + 1) rest after others
flattens_more_step definitions found index one all rest start after processes others d process i a s p e m h =
    let k : Flattens definitions found index (one ∷ rest) start processes = rw a at h in
    rw (s, p) (flattens_more definitions found index one rest start processes d process (omega (arith, i)) e m k)
