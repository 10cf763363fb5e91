-- If no gate is declared twice, no name occurs twice among formal gates.
use Rattle.std.proofs.Common.{◌≡◌, ℕ, List, [], ◌∷◌, ◌++◌, Some, slice_get, refl, sym, ap, subst, inl, inr}
use Rattle.lotos_text.specs.AstView.{DefinitionView, formals_of}
use Rattle.lotos_text.specs.declared.ast.Placed.{Placed}
use Rattle.lotos_check.specs.NameLists.{Name, In, texts}
use Rattle.lotos_check.specs.Scope.{ScopedDefinition, within, processes_of, all_definitions}
use Rattle.lotos_check.specs.StaticFaults.{IsDistinct}
use Rattle.lotos_check.specs.Bodies.{AreDistinctNames}
use Rattle.lotos_check.specs.Flat.{FlatProcess, System}
use Rattle.lotos_check.specs.Acceptance.{IsAccepted}
use Rattle.lotos_check.proofs.FlatSystemUnique.{paired_at}

-- the list is split at a placed name of that text, after those of these texts
record IsCut (list : List Placed) (before : List Name) (n : Name) : Type 0 where
  placed : Placed
  front : List Placed
  back : List Placed
  located : list ≡ front ++ placed ∷ back
  shown : texts front ≡ before
  named : placed.name ≡ n

-- where the list of texts is split, that of the placed names is
cut_at : (list : List Placed) (before after : List Name) (n : Name) → texts list ≡ before ++ n ∷ after → IsCut list before n
cut_at [] [] after n e = cc
cut_at [] (b ∷ before) after n e = cc
cut_at (p ∷ list) [] after n e =
    let named : p.name ≡ n = cc in record { placed = p; front = []; back = list; located = refl; shown = refl; named = named }
cut_at (p ∷ list) (b ∷ before) after n e =
    let first : p.name ≡ b = cc in
    let r = cut_at list before after n (cc) in
    let s = r.shown in
    let stands : p ∷ list ≡ p ∷ (r.front ++ r.placed ∷ r.back) = ap (λ t. p ∷ t) {y = r.front ++ r.placed ∷ r.back} r.located in
    let shown : p.name ∷ texts r.front ≡ b ∷ before = cc in
    record { placed = r.placed; front = p ∷ r.front; back = r.back; located = stands; shown = shown; named = r.named }

-- formal gates of a definition in the specification
none_twice : (whole : DefinitionView) → IsDistinct whole → (v : ScopedDefinition) → In v (all_definitions whole) →
    AreDistinctNames (texts (formals_of v.definition))
none_twice whole distinct v i before after n e again =
    let c = cut_at (formals_of v.definition) before after n e in
    let named : In c.placed.name before = subst (λ m. In m before) (sym c.named) again in
    distinct.gates c.placed (record {
      scope = v.scope;
      definition = v.definition;
      located = i;
      second = record { before = c.front; after = c.back; located = c.located; again = subst (In c.placed.name) (sym c.shown) named };
    })

-- the formal gates of an accepted specification are distinct
pub formals_distinct : (whole : DefinitionView) (s : System) → IsAccepted whole s → AreDistinctNames s.formals
formals_distinct whole s a =
    let top : ScopedDefinition = record { scope = within whole 0 []; definition = whole } in
    subst AreDistinctNames (sym a.flat.formals) (none_twice whole a.typed.distinct top (inl refl))

-- and those of each of its processes
pub process_distinct : (whole : DefinitionView) (s : System) → IsAccepted whole s → (p : ℕ) (process : FlatProcess) →
    slice_get s.processes p ≡ Some process → AreDistinctNames process.formals
process_distinct whole s a p process e =
    let at = paired_at (processes_of whole) s.processes a.flat.processes p process e in
    subst AreDistinctNames (sym at.2.formals) (none_twice whole a.typed.distinct at.0 (inr at.1))
