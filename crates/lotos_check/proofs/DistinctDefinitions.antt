-- The definitions of one `where` that are passed: none of them is a duplicate.
use Rattle.std.proofs.Common.{◌≡◌, ◌⊎◌, List, [], ◌∷◌, ◌++◌, map, refl, sym, ap, subst, ◌∙◌, inl, inr, Bool, true, false}
use Rattle.std.specs.Prelude.{not, if◌then◌else◌}
use Rattle.std.specs.List.{list_any}
use Rattle.std.specs.Str.{bytes_eq}
use Rattle.lotos_text.specs.AstView.{DefinitionView, name_of, formals_of, inner_of}
use Rattle.lotos_text.specs.AstOf.{definition_view, definitions_view}
use Rattle.lotos_text.specs.declared.ast.Placed.{Placed}
use Rattle.lotos_text.specs.declared.ast.Definition.{Definition, out-Definition}
use Rattle.lotos_text.proofs.DefinitionParts.{name_shown, formals_shown, inner_shown}
use Rattle.lotos_check.specs.NameLists.{Name, IsDuplicate, AreDistinct}
use Rattle.lotos_check.specs.Scope.{declared_names}
use Rattle.lotos_check.specs.StaticFaults.{IsDistinct}
use Rattle.lotos_check.specs.Acceptance.{IsDuplicateFault}
use Rattle.lotos_check.specs.declared.fault.CheckFault.{CheckFault}
use Rattle.lotos_check.specs.declared.fault.CheckFault.TheVariants.{E20, E24}
use Rattle.lotos_check.proofs.VisitedNames.{Seen, seen_none, seen_more, seen_again, seen_all}
use Rattle.lotos_check.proofs.Enclosed.{Among, repeat_inside, repeats_gate, repeats_process, distinct_whole}

-- of these definitions only the rest is left; the names of the passed ones are distinct and are the keys
pub record Passed {K : Type 0} (now : K → Name) (keys : List K) (all rest : List Definition) : Type 0 where
  pub names : Seen (map now keys) (declared_names (definitions_view all)) (declared_names (definitions_view rest))
  pub done : (d : DefinitionView) → Among d (definitions_view all) → IsDistinct d ⊎ Among d (definitions_view rest)
  pub left : (d : DefinitionView) → Among d (definitions_view rest) → Among d (definitions_view all)

-- at the start none was passed
pub passed_none : {K : Type 0} (now : K → Name) (keys : List K) (all : List Definition) → keys ≡ [] → Passed now keys all all
passed_none now keys all none = record {
  names = subst (λ ks. Seen (map now ks) (declared_names (definitions_view all)) (declared_names (definitions_view all))) (sym none)
      (seen_none (declared_names (definitions_view all)));
  done = λ d a. inr a;
  left = λ d a. a;
}

-- x is passed next, with the name n; `added` says whether it was put after the keys
module _ {K : Type 0} (now : K → Name) (old new : List K) (key : K) (all rest left : List Definition) (x : Definition) (n : Name)
    (passed : Passed now old all rest) (next : rest ≡ x ∷ left) (text : n ≡ (out-Definition x).name.name)
    (added : Bool) (says : added ≡ not (list_any (λ k. bytes_eq n (now k)) old)) where
  -- the names that were left are that of `x` and those that are left after it
  names_next : declared_names (definitions_view rest) ≡ name_of (definition_view x) ∷ declared_names (definitions_view left)
  names_next = ap (λ ds. declared_names (definitions_view ds)) next

  -- `n` is the text of the name of `x`
  text_seen : n ≡ (name_of (definition_view x)).name
  text_seen = text ∙ ap (λ p. p.name) (name_shown x)

  -- `x` is one of all the definitions
  among_next : Among (definition_view x) (definitions_view all)
  among_next = passed.left (definition_view x) (subst (λ ds. Among (definition_view x) (definitions_view ds)) (sym next) (inl refl))

  -- a definition without duplicates, whose name was put after the keys, is passed
  pub passed_more : added ≡ true → now key ≡ n → new ≡ (if list_any (λ k. bytes_eq n (now k)) old then old else old ++ key ∷ []) →
      IsDistinct (definition_view x) → Passed now new all left
  passed_more put is_text grows distinct = record {
    names = seen_more now old new key _ _ (declared_names (definitions_view left)) (name_of (definition_view x))
        n passed.names names_next text_seen added says put is_text grows;
    done = λ d a. elim (passed.done d a) [
      | inl h ↦ inl h
      | inr h ↦ elim (subst (λ ds. Among d (definitions_view ds)) next h) [
        | inl e ↦ inl
            (subst IsDistinct e distinct)
        | inr b ↦ inr b
      ]
    ];
    left = λ d a. passed.left d (subst (λ ds. Among d (definitions_view ds)) (sym next) (inr a));
  }

  module _ (whole : Definition) (inner : all ≡ (out-Definition whole).inner.items) where
    inner_seen : definitions_view all ≡ inner_of (definition_view whole)
    inner_seen = ap definitions_view inner ∙ inner_shown whole

    -- if the name was not put after the keys, it is declared for the second time
    pub passed_again : (p : Placed) → p ≡ (out-Definition x).name → added ≡ false → IsDuplicateFault (definition_view whole) (E24 p)
    passed_again p same stayed =
        let second = seen_again now old new key _ _ (declared_names (definitions_view left)) (name_of (definition_view x))
        n passed.names names_next text_seen added says stayed in
        let here = subst (λ ds. IsDuplicate (name_of (definition_view x)) (declared_names ds)) inner_seen second in
        repeats_process (definition_view whole) p (subst (λ q. IsDuplicate q (declared_names (inner_of (definition_view whole))))
        (sym (same ∙ name_shown x)) here)

    -- a fault of x is one of the whole
    pub passed_inside : (fault : CheckFault) → IsDuplicateFault (definition_view x) fault → IsDuplicateFault (definition_view whole) fault
    passed_inside fault h = repeat_inside (definition_view whole) (definition_view x)
        (subst (Among (definition_view x)) inner_seen among_next) fault h

-- a duplicate formal gate is a fault of the whole
pub gate_again : (whole : Definition) (gate : Placed) (formals : List Placed) → formals ≡ (out-Definition whole).formals.items →
    IsDuplicate gate formals →
    IsDuplicateFault (definition_view whole) (E20 gate)
gate_again whole gate formals same second =
    repeats_gate (definition_view whole) gate (subst (IsDuplicate gate) (same ∙ formals_shown whole) second)

-- distinct formals are those of the view
pub formals_distinct : (whole : Definition) (formals : List Placed) → formals ≡ (out-Definition whole).formals.items →
    AreDistinct formals → AreDistinct (formals_of (definition_view whole))
formals_distinct whole formals same = subst AreDistinct (same ∙ formals_shown whole)

-- where all were passed and the formals are distinct, the whole repeats nothing
pub passed_all : {K : Type 0} (now : K → Name) (keys : List K) (all rest : List Definition) (whole : Definition) →
    Passed now keys all rest → rest ≡ [] → all ≡ (out-Definition whole).inner.items →
    AreDistinct (formals_of (definition_view whole)) → IsDistinct (definition_view whole)
passed_all now keys all rest whole passed none inner distinct =
    let row = ap definitions_view inner ∙ inner_shown whole in
    let names = seen_all _ _ _ passed.names (ap (λ ds. declared_names (definitions_view ds)) none) in
    distinct_whole (definition_view whole) distinct
    (subst (λ ds. AreDistinct (declared_names ds)) row names)
    (λ d a. elim (passed.done d (subst (Among d) (sym row) a)) [
      | inl h ↦ h
      | inr b ↦ absurd (subst (λ ds. Among d (definitions_view ds)) none b)
    ])
