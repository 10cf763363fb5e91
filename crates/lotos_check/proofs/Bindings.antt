-- What the map of a `where`, and a stack of such maps, say of a name.
use Rattle.std.proofs.Common.{◌≡◌, ℕ, ◌+◌, List, [], ◌∷◌, ◌++◌, refl, ap, subst, ◌∙◌, Option, Some, None, Bool, true, false, cond, arith}
use Rattle.std.specs.Prelude.{MatchOption}
use Rattle.std.specs.HashMap.{HashMap, get_by}
use Rattle.std.specs.Map.{update}
use Rattle.std.specs.Str.{bytes_eq}
use Rattle.std.proofs.lemmas.Slice.Eq.{bytes_eq-Decides}
use Rattle.lotos_text.specs.AstView.{DefinitionView, DefinitionListView, no_defs, more_defs, name_of, inner_of}
use Rattle.lotos_text.specs.AstOf.{definition_view, definitions_view}
use Rattle.lotos_text.specs.declared.ast.Definition.{Definition, out-Definition}
use Rattle.lotos_text.proofs.DefinitionParts.{name_shown}
use Rattle.lotos_check.specs.NameLists.{Name}
use Rattle.lotos_check.specs.Scope.{Scope, Where, Declares, here, later, Binds, nearest, outward, count}
use Rattle.lotos_check.specs.ProcessScopes.{BindsAll, IsScopeStack}
use Rattle.lotos_check.specs.declared.process_scope.Binding.{Binding}
use Rattle.lotos_check.proofs.ScopedDefinitions.{count_more}

module _ (all : DefinitionListView) (first : ℕ) where
  -- of the list only the rest is left, whose first definition has this number; the look-up has the names of the others
  pub record Built (look : Name → Option Binding) (number : ℕ) (rest : DefinitionListView) : Type 0 where
    pub numbered : number + count rest ≡ first + count all
    pub found : (n : Name) (m : Binding) → look n ≡ Some m → Declares all first n m.process (definition_view m.definition.now)
    pub none : (n : Name) → look n ≡ None → (j : ℕ) (d : DefinitionView) → Declares all first n j d → Declares rest number n j d
    pub left : (n : Name) (j : ℕ) (d : DefinitionView) → Declares rest number n j d → Declares all first n j d

  module _ (look : Name → Option Binding) (number : ℕ) (d : DefinitionView) (ds : DefinitionListView) (m : Binding)
      (built : Built look number (more_defs d ds))
      (process : m.process ≡ number) (means : definition_view m.definition.now ≡ d) where
    declares_this : Declares all first (name_of d).name m.process (definition_view m.definition.now)
    declares_this = rw (process, means) (built.left (name_of d).name number d here)

    found_now : (same : Bool) (n : Name) (x : Binding) → bytes_eq (name_of d).name n ≡ same → cond same (Some m) (look n) ≡ Some x →
        Declares all first n x.process (definition_view x.definition.now)
    found_now true n x tested e =
        let named = (bytes_eq-Decides (name_of d).name n).0 tested in
        let this : m ≡ x = cc in
        rw (← this, ← named) declares_this
    found_now false n x tested e = built.found n x e

    past : (n : Name) (j : ℕ) (c : DefinitionView) → ((name_of d).name ≡ n → ⊥) → Declares (more_defs d ds) number n j c →
        Declares ds (number + 1 + count (inner_of d)) n j c
    past n j c other here = absurd (other refl)
    past n j c other (later declares) = declares

    none_now : (same : Bool) (n : Name) → bytes_eq (name_of d).name n ≡ same → cond same (Some m) (look n) ≡ None →
        (j : ℕ) (c : DefinitionView) →
        Declares all first n j c → Declares ds (number + 1 + count (inner_of d)) n j c
    none_now true n tested e j c declares = cc
    none_now false n tested e j c declares =
        past n j c (λ named. let yes_same = (bytes_eq-Decides
        (name_of d).name n).1 named in let no_way : true ≡ false = cc in cc) (built.none n e j c declares)

    built_more : (after : Name → Option Binding) → ((n : Name) → after n ≡ update bytes_eq look (name_of d).name (Some m) n) →
        Built after (number + 1 + count (inner_of d)) ds
    built_more after updates = record {
      numbered = let old = built.numbered in let row = count_more d ds in omega arith;
      found = λ n x e. found_now (bytes_eq (name_of d).name n) n x refl (let at = updates n in cc);
      none = λ n e. none_now (bytes_eq (name_of d).name n) n refl (let at = updates n in cc);
      left = λ n j c declares. built.left n j c (later declares);
    }

-- a look-up to which the next definition was added with its number; between it and the next are those inside it
pub built_with : (all : DefinitionListView) (first : ℕ) (look after : Name → Option Binding) (number : ℕ) (m : Binding) (text : Name) →
    ((n : Name) → after n ≡ update bytes_eq look text (Some m) n) → (x : Definition) (left rest : List Definition) (inner : ℕ) →
    text ≡ (out-Definition x).name.name → m.process ≡ number → m.definition.now ≡ x → rest ≡ x ∷ left →
    inner ≡ count (inner_of (definition_view x)) →
    Built all first look number (definitions_view rest) → Built all first after (number + (1 + inner)) (definitions_view left)
built_with all first look after number m text updates x left rest inner named process means next size built =
    let here : Built all first look number (more_defs (definition_view x) (definitions_view left)) = rw next at built in
    let seen : text ≡ (name_of (definition_view x)).name = named ∙ ap (λ p. p.name) (name_shown x) in
    let updated = subst (λ s. (n : Name) → after n ≡ update bytes_eq look s (Some m) n) seen updates in
    let more = built_more all first look number (definition_view x) (definitions_view left) m here process (ap definition_view means)
    after updated in
    let same : number + 1 + count (inner_of (definition_view x)) ≡ number + (1 + inner) = omega arith in
    subst (λ s. Built all first after s (definitions_view left)) same more

-- a look-up with the names of the whole list
pub built_all : (all : DefinitionListView) (first number : ℕ) {K S : Type 0} (now : K → Name) (t : HashMap K Binding S)
    (rest : List Definition) → rest ≡ [] →
    Built all first (λ n. get_by (λ k. bytes_eq n (now k)) t) number (definitions_view rest) → BindsAll now all first t
built_all all first number now t rest done built =
    let whole : Built all first (λ n. get_by (λ k. bytes_eq n (now k)) t) number no_defs = rw done at built in
    record { found = whole.found; none = λ n e j d declares. elim (whole.none n e j d declares) [ ] }

-- lists that end with one item are the same where their fronts and the items are
same_ends : {X : Type 0} (xs ys : List X) (x y : X) → xs ++ x ∷ [] ≡ ys ++ y ∷ [] → (xs ≡ ys) × (x ≡ y)
same_ends [] [] x y e = (refl, cc)
same_ends [] (b ∷ []) x y e = cc
same_ends [] (b ∷ c ∷ bs) x y e = cc
same_ends (a ∷ []) [] x y e = cc
same_ends (a ∷ c ∷ rest) [] x y e = cc
same_ends (a ∷ xs) (b ∷ ys) x y e = let others = same_ends xs ys x y cc in let first : a ≡ b = cc in
    (rw (others.0, first) refl, others.1)

-- a list that ends with an item is not empty
not_empty : {X : Type 0} (xs : List X) (x : X) → xs ++ x ∷ [] ≡ [] → ⊥
not_empty [] x e = cc
not_empty (y ∷ xs) x e = cc

module _ {K S : Type 0} (now : K → Name) (n : Name) (outer : List (HashMap K Binding S)) (last : HashMap K Binding S) where
  -- a name that the last scope has refers to what that scope says
  pub found_here : (m : Binding) (ts : List (HashMap K Binding S)) → ts ≡ outer ++ last ∷ [] →
      get_by (λ k. bytes_eq n (now k)) last ≡ Some m →
      (scope : Scope) → IsScopeStack now ts scope → Binds scope n m.process (definition_view m.definition.now)
  found_here m ts ends found [] shows = absurd (not_empty outer last (rw ends at shows))
  found_here m ts ends found (w ∷ ws) (front, t, joined, tabulates, shows) =
      let same = (same_ends outer front last t cc).1 in
      nearest (tabulates.found n m (rw (← same) found))

  -- a name is not bound if the nearest `where` does not declare it and the scope around it does not bind it
  unseen : (w : Where) (ws : Scope) → ((j : ℕ) (d : DefinitionView) → Declares w.defs w.first n j d → ⊥) →
      ((k : ℕ) (d : DefinitionView) → Binds ws n k d → ⊥) →
      (k : ℕ) (d : DefinitionView) → Binds (w ∷ ws) n k d → ⊥
  unseen w ws here_not out_not k d (nearest declares) = here_not k d declares
  unseen w ws here_not out_not k d (outward none means) = out_not k d means

  -- if the nearest `where` does not declare the name, it is bound as the scope around it binds it, or not at all
  outside : (r : Option Binding) (w : Where) (ws : Scope) → ((j : ℕ) (d : DefinitionView) → Declares w.defs w.first n j d → ⊥) →
      MatchOption r ((k : ℕ) (d : DefinitionView) → Binds ws n k d → ⊥) (λ m. Binds ws n m.process (definition_view m.definition.now)) →
      MatchOption r ((k : ℕ) (d : DefinitionView) → Binds (w ∷ ws) n k d → ⊥)
      (λ m. Binds (w ∷ ws) n m.process (definition_view m.definition.now))
  outside None w ws here_not h = unseen w ws here_not h
  outside (Some m) w ws here_not h = outward here_not h

  -- a name that the last scope does not have refers to what the other scopes say
  pub found_outside : (r : Option Binding) (ts : List (HashMap K Binding S)) → ts ≡ outer ++ last ∷ [] →
      get_by (λ k. bytes_eq n (now k)) last ≡ None →
      ((scope : Scope) → IsScopeStack now outer scope → MatchOption r ((k : ℕ) (d : DefinitionView) → Binds scope n k d → ⊥)
      (λ m. Binds scope n m.process (definition_view m.definition.now))) →
      (scope : Scope) → IsScopeStack now ts scope → MatchOption r ((k : ℕ) (d : DefinitionView) → Binds scope n k d → ⊥)
      (λ m. Binds scope n m.process (definition_view m.definition.now))
  found_outside r ts ends none others [] shows = absurd (not_empty outer last (rw ends at shows))
  found_outside r ts ends none others (w ∷ ws) (front, t, joined, tabulates, shows) =
      let same = same_ends outer front last t cc in
      let table = same.1 in
      let fronts = same.0 in
      outside r w ws (tabulates.none n (rw (← table) none)) (others ws (rw fronts shows))
