-- The offsets in what a text spells are inside it.
use Rattle.std.proofs.Common.{ℕ, ◌≤◌, Bool, List, [], ◌∷◌, ◌++◌, length, arith, subst}
use Rattle.std.specs.List.{AllByRecursion}
use Rattle.lotos_text.specs.AstView.{BehaviourView, DefinitionView, DefinitionListView}
use Rattle.lotos_text.specs.Lexing.{IsTokenIn, AreTokensIn}
use Rattle.lotos_text.specs.Grammar.{Names, one_name, more_names, GateList, no_gates, gates, Level, gate, internal, Operator, apply, IsOperator, enable_sign, disable_sign, interleave_sign, full_sign, sync_on_none, sync_on, choice_sign, Spells, stop, exit, parentheses, call, prefix, tighter, operation, hide, DefinitionKind, SpellsDefinition, definition, SpellsWhere, nothing, definitions, SpellsDefinitions, last, another, Spelling}
use Rattle.lotos_text.specs.OffsetsInside.{IsFaultInside, IsBehaviourInside, IsInside, AreInside}
use Rattle.lotos_text.specs.TextFaults.{IsLexingFault, IsFault, IsOffsetOfToken}
use Rattle.lotos_text.specs.Spelled.{Spelled, SpelledPair}
use Rattle.lotos_text.specs.declared.fault.TextFault.{TextFault}
use Rattle.lotos_text.specs.declared.fault.TextFault.TheVariants.{E01, E02, E03, E04, E05, E06, E07, E99}
use Rattle.lotos_text.specs.declared.token.Token.{Token}
use Rattle.lotos_text.specs.declared.ast.Placed.{Placed}
use Rattle.lotos_text.proofs.LexedLengths.{byte_inside, comment_inside}
use Rattle.lotos_text.proofs.TokensInText.{all_stand}

-- ---- tokens in a text

module _ (text : List ℕ) where
  -- if the tokens of two lists together are in the text, so are those of the first
  pub stand_front : (front rest : List Token) → AreTokensIn text (front ++ rest) → AreTokensIn text front
  stand_front [] rest h = tt
  stand_front (t ∷ ts) rest h = (h.0, stand_front ts rest h.1)

  -- if the tokens of two lists together are in the text, so are those of the second
  pub stand_rest : (front rest : List Token) → AreTokensIn text (front ++ rest) → AreTokensIn text rest
  stand_rest [] rest h = h
  stand_rest (t ∷ ts) rest h = stand_rest ts rest h.1

  -- the offset of a token in the text is at most the length of the text
  pub token_inside : (t : Token) → IsTokenIn text t → t.at ≤ length text
  token_inside t h = let a = h.ordered in let b = h.inside in omega (arith, a, b)

  -- the offsets of names are inside the text, if their tokens are in it
  names_inside : {ts : List Token} {names : List Placed} → Names text ts names → AreTokensIn text ts →
      AllByRecursion (λ g. g.at ≤ length text) names
  names_inside (one_name {n = n} i) h = (token_inside n h.0, tt)
  names_inside (more_names {n = n} i c d) h = (token_inside n h.0, names_inside d h.1.1)

  -- the offsets of the names of a gate list are inside the text, if its tokens are in it
  gates_inside : {ts : List Token} {names : List Placed} → GateList text ts names → AreTokensIn text ts →
      AllByRecursion (λ g. g.at ≤ length text) names
  gates_inside no_gates h = tt
  gates_inside (gates {right = right} {ts = ts} i d j) h = names_inside d (stand_front ts (right ∷ []) h.1)

  -- an operator joins behaviour expressions whose offsets are inside the text to one whose offsets are
  join_inside : {l : Level} {op : List Token} {how : Operator} (left right : BehaviourView) → IsOperator text l op how → AreTokensIn text op →
      IsBehaviourInside (length text) left → IsBehaviourInside (length text) right → IsBehaviourInside (length text) (apply how left right)
  join_inside l r (enable_sign {o = o} i) h x y = (x, token_inside o h.0, y)
  join_inside l r (disable_sign i) h x y = (x, y)
  join_inside l r (interleave_sign i) h x y = (x, tt, y)
  join_inside l r (full_sign i) h x y = (x, tt, y)
  join_inside l r (sync_on_none i j k) h x y = (x, tt, y)
  join_inside l r (sync_on {right = right} {bar = bar} {ts = ts} i d j k) h x y =
      (x, names_inside d (stand_front ts (right ∷ bar ∷ []) h.1), y)
  join_inside l r (choice_sign i) h x y = (x, y)

  -- the offsets in a behaviour expression are inside the text, if its tokens are in it
  ast_inside : {l : Level} {o : Bool} {n : ℕ} {ts : List Token} {x : BehaviourView} → Spells text l o n ts x → AreTokensIn text ts →
      IsBehaviourInside (length text) x
  ast_inside (stop i) h = tt
  ast_inside (exit i) h = tt
  ast_inside (parentheses {right = right} {ts = ts} i d j) h = ast_inside d (stand_front ts (right ∷ []) h.1)
  ast_inside (call {name = name} i g) h = (token_inside name h.0, gates_inside g h.1)
  ast_inside (prefix {act = act} (gate i) c d) h = (token_inside act h.0, ast_inside d h.1.1)
  ast_inside (prefix (internal i) c d) h = ast_inside d h.1.1
  ast_inside (tighter b d) h = ast_inside d h
  ast_inside (operation {left = left} {op = op} {right = right} {x = x} {y = y} b d i e) h =
      let front = stand_front (left ++ op) right h in
      join_inside x y i (stand_rest left op front) (ast_inside d (stand_front left op front))
      (ast_inside e (stand_rest (left ++ op) right h))
  ast_inside (hide {within = within} {gates = gs} {ts = ts} i d j e) h =
      (names_inside d (stand_front gs (within ∷ ts) h.1), ast_inside e (stand_rest gs (within ∷ ts) h.1).1)

  mutual
    -- the names of a definition lie inside the text
    pub definition_inside : {what : DefinitionKind} {n : ℕ} {ts : List Token} {d : DefinitionView} → SpellsDefinition text what n ts d → AreTokensIn text ts →
        IsInside (length text) d
    definition_inside (definition {name = name} {colon = colon} {returns = returns} {define = define} {end = end} {gates = gs}
        {body = body} {rest = rest}
        i j g c f k s l z) h =
        let middle : List Token = colon ∷ returns ∷ define ∷ body in
        let all = stand_front ((gs ++ middle) ++ rest) (end ∷ []) h.1.1 in
        let outer = stand_front (gs ++ middle) rest all in (
          token_inside name h.1.0,
          gates_inside g (stand_front gs middle outer),
          ast_inside s (stand_rest gs middle outer).1.1.1,
          rest_inside l (stand_rest (gs ++ middle) rest all),
        )

    rest_inside : {n : ℕ} {ts : List Token} {ds : DefinitionListView} → SpellsWhere text n ts ds → AreTokensIn text ts → AreInside (length text) ds
    rest_inside nothing h = tt
    rest_inside (definitions i d) h = several_inside d h.1

    several_inside : {n : ℕ} {ts : List Token} {ds : DefinitionListView} → SpellsDefinitions text n ts ds → AreTokensIn text ts → AreInside (length text) ds
    several_inside (last d) h = (definition_inside d h, tt)
    several_inside (another {first = first} {others = others} d ds) h =
        (definition_inside d (stand_front first others h), several_inside ds (stand_rest first others h))

-- ---- faults

module _ (text : List ℕ) where
  -- an offset at which the text has a token is at most the length of the text
  placed_within : (at : ℕ) (before : List Token) (t : Token) → IsOffsetOfToken text at before t → at ≤ length text
  placed_within at before t s =
      let stand = all_stand text (before ++ t ∷ s.after) s.lexes in
      let inside = token_inside text t (stand_rest text before (t ∷ s.after) stand).0 in
      let offset = s.offset in omega arith

  -- so does the offset at which the text fails to lex
  pub stuck_fault_inside : (fault : TextFault) → IsLexingFault text fault → IsFaultInside (length text) fault
  stuck_fault_inside (E01 at) h = byte_inside text at h.fails
  stuck_fault_inside (E02 at) h = comment_inside text at h.fails
  stuck_fault_inside E03 h = tt
  stuck_fault_inside (E04 at) h = absurd h
  stuck_fault_inside (E05 at) h = absurd h
  stuck_fault_inside (E06 at) h = absurd h
  stuck_fault_inside (E07 at) h = absurd h
  stuck_fault_inside (E99 e) h = tt

  -- so does the specification
  pub spelled_inside : (whole : DefinitionView) → Spelled text whole → IsInside (length text) whole
  spelled_inside whole s = definition_inside text s.spells (all_stand text s.tokens s.lexes)

  -- so do both of two specifications
  pub pair_inside : (both : DefinitionView × DefinitionView) → SpelledPair text both → IsInside (length text) both.0 × IsInside (length text) both.1
  pair_inside both s =
      let all = subst (AreTokensIn text) s.spells.joined (all_stand text s.tokens s.lexes) in (
        definition_inside text s.spells.first (stand_front text s.spells.front s.spells.back all),
        definition_inside text s.spells.second (stand_rest text s.spells.front s.spells.back all),
      )

module _ {V : Type 0} (Spells : List ℕ → Spelling V) (text : List ℕ) where
  -- the fault lies inside the text
  pub fault_inside : (fault : TextFault) → IsFault Spells text fault → IsFaultInside (length text) fault
  fault_inside (E01 at) h = byte_inside text at h.fails
  fault_inside (E02 at) h = comment_inside text at h.fails
  fault_inside E03 h = tt
  fault_inside (E04 at) h = placed_within text at h.before h.token h.located
  fault_inside (E05 at) h = placed_within text at h.before h.token h.located
  fault_inside (E06 at) h = let offset = h.offset in omega arith
  fault_inside (E07 at) h = placed_within text at h.before h.token h.located
  fault_inside (E99 e) h = tt
