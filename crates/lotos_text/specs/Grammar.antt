-- The grammar: which tokens spell what. Each rule joins the tokens of its parts.
use Rattle.std.specs.Prelude.{◌≡◌, ℕ, ◌+◌, ◌≤◌, max, Bool, true, false, List, [], ◌∷◌, ◌++◌, map, slice_range}
use Rattle.std.specs.Char.{to_ascii_uppercase}
use Rattle.lotos_text.specs.AstView as t
use Rattle.lotos_text.specs.AstView.{BehaviourView, SyncView, DefinitionView, DefinitionListView}
use Rattle.lotos_text.specs.declared.token.Token.{Token}
use Rattle.lotos_text.specs.declared.token.TokenKind.{TokenKind}
use Rattle.lotos_text.specs.declared.token.TokenKind.TheVariants.{Identifier, Reserved, Sign}
use Rattle.lotos_text.specs.declared.token.Word.TheVariants as w
use Rattle.lotos_text.specs.declared.token.Sign.TheVariants as s
use Rattle.lotos_text.specs.declared.ast.Placed.{Placed}
use Rattle.lotos_text.specs.declared.ast.Action.{Action}
use Rattle.lotos_text.specs.declared.ast.Action.TheVariants.{Internal, Gate}
use Rattle.lotos_text.specs.declared.ast.Functionality.{Functionality}
use Rattle.lotos_text.specs.declared.ast.Functionality.TheVariants as f

-- the token is of this kind
pub record IsOfKind (token : Token) (kind : TokenKind) : Type 0 where
  pub same : token.kind ≡ kind

-- the name that an identifier spells, in upper case, with its offset
abbrev pub located_name : List ℕ → Token → Placed
located_name text n = record { name = map to_ascii_uppercase (slice_range text n.at n.end); at = n.at }

-- one or more names, separated by commas (ISO)
pub data Names (text : List ℕ) : List Token → List Placed → Type 0 where
  one_name : {n : Token} → IsOfKind n Identifier → Names text (n ∷ []) (located_name text n ∷ [])
  more_names : {n comma : Token} {ts : List Token} {names : List Placed} →
      IsOfKind n Identifier → IsOfKind comma (Sign s.Comma) → Names text ts names →
      Names text (n ∷ comma ∷ ts) (located_name text n ∷ names)

-- nothing, or names in brackets (ISO)
pub data GateList (text : List ℕ) : List Token → List Placed → Type 0 where
  no_gates : GateList text [] []
  gates : {left right : Token} {ts : List Token} {names : List Placed} →
      IsOfKind left (Sign s.LeftBracket) → Names text ts names → IsOfKind right (Sign s.RightBracket) →
      GateList text (left ∷ ts ++ right ∷ []) names

-- the levels of behaviour expressions, from the loosest to the tightest: enabling, disabling, parallel, choice, prefix
pub data Level : Type 0 where
  enabling : Level
  disabling : Level
  parallel : Level
  choosing : Level
  prefixing : Level

-- the next tighter level, that of an operator's left operand
pub data BindsTighter : Level → Level → Type 0 where
  tighter_than_enabling : BindsTighter enabling disabling
  tighter_than_disabling : BindsTighter disabling parallel
  tighter_than_parallel : BindsTighter parallel choosing
  tighter_than_choosing : BindsTighter choosing prefixing

-- a binary operator; the number of `>>` is its offset
pub data Operator : Type 0 where
  enables : ℕ → Operator
  disables : Operator
  synchronizes : SyncView → Operator
  chooses : Operator

-- the behaviour that an operator makes of its operands
abbrev pub apply : Operator → BehaviourView → BehaviourView → BehaviourView
apply (enables at) x y = t.enable x at y
apply disables x y = t.disable x y
apply (synchronizes sync) x y = t.par x sync y
apply chooses x y = t.choice x y

-- the tokens of an operator, and its level (ISO; the levels are own)
pub data IsOperator (text : List ℕ) : Level → List Token → Operator → Type 0 where
  enable_sign : {o : Token} → IsOfKind o (Sign s.Enable) → IsOperator text enabling (o ∷ []) (enables o.at)
  disable_sign : {o : Token} → IsOfKind o (Sign s.Disable) → IsOperator text disabling (o ∷ []) disables
  interleave_sign : {o : Token} → IsOfKind o (Sign s.Interleave) →
      IsOperator text parallel (o ∷ []) (synchronizes (t.gates []))
  full_sign : {o : Token} → IsOfKind o (Sign s.Full) → IsOperator text parallel (o ∷ []) (synchronizes t.all)
  sync_on_none : {o right bar : Token} → IsOfKind o (Sign s.LeftSync) → IsOfKind right (Sign s.RightBracket) →
      IsOfKind bar (Sign s.Bar) →
      IsOperator text parallel (o ∷ right ∷ bar ∷ []) (synchronizes (t.gates []))
  sync_on : {o right bar : Token} {ts : List Token} {names : List Placed} →
      IsOfKind o (Sign s.LeftSync) → Names text ts names → IsOfKind right (Sign s.RightBracket) →
      IsOfKind bar (Sign s.Bar) →
      IsOperator text parallel (o ∷ ts ++ right ∷ bar ∷ []) (synchronizes (t.gates names))
  choice_sign : {o : Token} → IsOfKind o (Sign s.Choice) → IsOperator text choosing (o ∷ []) chooses

-- what a prefix does first: a gate or the internal action (ISO)
pub data IsAction (text : List ℕ) : Token → Action → Type 0 where
  gate : {n : Token} → IsOfKind n Identifier → IsAction text n (Gate (located_name text n))
  internal : {n : Token} → IsOfKind n (Reserved w.IWord) → IsAction text n Internal

-- the tokens spell the behaviour at the level; the flag says whether the spelling is open, the number is its nesting. A
-- hide form is of every level and is open, as is what ends in one; a left operand is never open. A binary operator
-- groups to the right: its right operand is of its own level, its left one of the next tighter (ISO; levels, grouping,
-- openness and nesting are own)
pub data Spells (text : List ℕ) : Level → Bool → ℕ → List Token → BehaviourView → Type 0 where
  stop : {n : Token} → IsOfKind n (Reserved w.StopWord) → Spells text prefixing false 0 (n ∷ []) t.stop
  exit : {n : Token} → IsOfKind n (Reserved w.ExitWord) → Spells text prefixing false 0 (n ∷ []) t.exit
  parentheses : {left right : Token} {o : Bool} {n : ℕ} {ts : List Token} {x : BehaviourView} →
      IsOfKind left (Sign s.LeftParenthesis) → Spells text enabling o n ts x →
      IsOfKind right (Sign s.RightParenthesis) →
      Spells text prefixing false (n + 1) (left ∷ ts ++ right ∷ []) x
  call : {name : Token} {ts : List Token} {names : List Placed} →
      IsOfKind name Identifier → GateList text ts names →
      Spells text prefixing false 0 (name ∷ ts) (t.call (located_name text name) names)
  prefix : {act semicolon : Token} {a : Action} {o : Bool} {n : ℕ} {ts : List Token} {x : BehaviourView} →
      IsAction text act a → IsOfKind semicolon (Sign s.Semicolon) → Spells text prefixing o n ts x →
      Spells text prefixing o (n + 1) (act ∷ semicolon ∷ ts) (t.prefix a x)
  tighter : {l m : Level} {o : Bool} {n : ℕ} {ts : List Token} {x : BehaviourView} →
      BindsTighter l m → Spells text m o n ts x → Spells text l o n ts x
  operation : {l m : Level} {o : Bool} {nl nr : ℕ} {left op right : List Token} {x y : BehaviourView} {how : Operator} →
      BindsTighter l m → Spells text m false nl left x → IsOperator text l op how → Spells text l o nr right y →
      Spells text l o (max nl (nr + 1)) (left ++ op ++ right) (apply how x y)
  hide : {l : Level} {word within : Token} {o : Bool} {n : ℕ} {gates ts : List Token} {names : List Placed}
      {x : BehaviourView} →
      IsOfKind word (Reserved w.HideWord) → Names text gates names → IsOfKind within (Reserved w.InWord) →
      Spells text enabling o n ts x →
      Spells text l true (n + 1) (word ∷ gates ++ within ∷ ts) (t.hide names x)

-- the functionality that a token declares (ISO)
pub data IsFunctionality : Token → Functionality → Type 0 where
  exits : {n : Token} → IsOfKind n (Reserved w.ExitWord) → IsFunctionality n f.Exit
  never_exits : {n : Token} → IsOfKind n (Reserved w.NoexitWord) → IsFunctionality n f.NoExit

-- whether a definition is the specification or a process, which decides its keywords (ISO)
pub data DefinitionKind : Type 0 where
  a_specification : DefinitionKind
  a_process : DefinitionKind

-- the keyword that a definition begins with (ISO)
abbrev pub opening_word : DefinitionKind → TokenKind
opening_word a_specification = Reserved w.SpecificationWord
opening_word a_process = Reserved w.ProcessWord

-- the token before the body of a definition (ISO)
abbrev pub defining_sign : DefinitionKind → TokenKind
defining_sign a_specification = Reserved w.BehaviourWord
defining_sign a_process = Sign s.Define

-- the keyword that a definition ends with (ISO)
abbrev pub closing_word : DefinitionKind → TokenKind
closing_word a_specification = Reserved w.EndspecWord
closing_word a_process = Reserved w.EndprocWord

mutual
  -- the tokens define a specification or a process, with their nesting (ISO; the nesting is own)
  pub data SpellsDefinition (text : List ℕ) : DefinitionKind → ℕ → List Token → DefinitionView → Type 0 where
    definition : {what : DefinitionKind} {word name colon returns define end : Token} {gates body rest : List Token}
        {formals : List Placed} {func : Functionality} {o : Bool} {n m : ℕ} {x : BehaviourView}
        {inner : DefinitionListView} →
        IsOfKind word (opening_word what) → IsOfKind name Identifier → GateList text gates formals →
        IsOfKind colon (Sign s.Colon) →
        IsFunctionality returns func → IsOfKind define (defining_sign what) → Spells text enabling o n body x →
        SpellsWhere text m rest inner →
        IsOfKind end (closing_word what) →
        SpellsDefinition text what (max n m) (word ∷ name ∷ gates ++ colon ∷ returns ∷ define ∷ body ++ rest ++ end
        ∷ [])
        (t.def (located_name text name) formals func x inner)

  -- nothing, or `where` and one or more definitions of processes (ISO; the nesting is own)
  pub data SpellsWhere (text : List ℕ) : ℕ → List Token → DefinitionListView → Type 0 where
    nothing : SpellsWhere text 0 [] t.no_defs
    definitions : {word : Token} {n : ℕ} {ts : List Token} {ds : DefinitionListView} →
        IsOfKind word (Reserved w.WhereWord) → SpellsDefinitions text n ts ds → SpellsWhere text n (word ∷ ts) ds

  -- one or more definitions of processes, each nested one deeper than by itself (ISO; the nesting is own)
  pub data SpellsDefinitions (text : List ℕ) : ℕ → List Token → DefinitionListView → Type 0 where
    last : {n : ℕ} {ts : List Token} {d : DefinitionView} → SpellsDefinition text a_process n ts d →
        SpellsDefinitions text (n + 1) ts (t.more_defs d t.no_defs)
    another : {n m : ℕ} {first others : List Token} {d : DefinitionView} {ds : DefinitionListView} →
        SpellsDefinition text a_process n first d → SpellsDefinitions text m others ds →
        SpellsDefinitions text (max (n + 1) m) (first ++ others) (t.more_defs d ds)

-- the tokens spell the specification, with this nesting (ISO; the nesting is own)
abbrev pub SpellsSpecification : List ℕ → ℕ → List Token → DefinitionView → Type 0
SpellsSpecification text = SpellsDefinition text a_specification

-- the tokens spell two specifications, one after the other; the nesting is the greater of the two (own)
pub record SpellsPair (text : List ℕ) (nesting : ℕ) (ts : List Token) (both : DefinitionView × DefinitionView)
    : Type 0 where
  pub front : List Token
  pub back : List Token
  pub joined : ts ≡ front ++ back
  pub first_nesting : ℕ
  pub second_nesting : ℕ
  pub first : SpellsSpecification text first_nesting front both.0
  pub second : SpellsSpecification text second_nesting back both.1
  pub deeper : nesting ≡ max first_nesting second_nesting

-- what lists of tokens spell, each with its nesting
abbrev pub Spelling : Type 0 → Type 1
Spelling V = ℕ → List Token → V → Type 0

module _ {V : Type 0} (Spells : Spelling V) where
  -- some list of tokens that starts with these spells something
  pub record IsPrefix (ts : List Token) : Type 0 where
    pub more : List Token
    pub nesting : ℕ
    pub whole : V
    pub spells : Spells nesting (ts ++ more) whole

  -- some list of tokens that starts with these spells something of at most this nesting
  pub record IsPrefixWithin (limit : ℕ) (ts : List Token) : Type 0 where
    pub more : List Token
    pub nesting : ℕ
    pub whole : V
    pub spells : Spells nesting (ts ++ more) whole
    pub within : nesting ≤ limit
