-- The phrases of a specification, in the order of their tokens.
use Rattle.std.specs.Prelude.{◌≡◌, ◌<◌, ℕ, Bool, List, [], ◌∷◌, ◌++◌}
use Rattle.lotos_text.specs.AstView as t
use Rattle.lotos_text.specs.AstView.{BehaviourView, DefinitionView, DefinitionListView}
use Rattle.lotos_text.specs.Grammar.{IsOfKind, IsFunctionality, GateList, Level, enabling, Names, IsOperator, Operator, Spells, DefinitionKind, a_specification, opening_word, defining_sign, closing_word, SpellsDefinitions, located_name}
use Rattle.lotos_text.specs.Follow.{bound, precedence}
use Rattle.lotos_text.specs.ParserContracts.{Phrase, NestingLimit, IsNestingWithin, DoesNotStartWith}
use Rattle.lotos_text.specs.declared.token.Token.{Token}
use Rattle.lotos_text.specs.declared.token.TokenKind.{TokenKind}
use Rattle.lotos_text.specs.declared.token.TokenKind.TheVariants.{Identifier, Reserved, Sign}
use Rattle.lotos_text.specs.declared.token.Word.TheVariants as w
use Rattle.lotos_text.specs.declared.token.Sign.TheVariants as s
use Rattle.lotos_text.specs.declared.ast.Functionality.{Functionality}
use Rattle.lotos_text.specs.declared.ast.Placed.{Placed}

-- one phrase and then another, with a value made of both
pub record Sequence {A B C : Type 0} (together : A → B → C) (P : Phrase A) (Q : Phrase B)
    (tokens : List Token) (value : C) (rest : List Token) : Type 0 where
  pub front : List Token
  pub back : List Token
  pub one : A
  pub other : B
  pub joined : tokens ≡ front ++ back
  pub first : P front one (back ++ rest)
  pub second : Q back other rest
  pub same : value ≡ together one other

-- one token of the kind
pub record OneToken (kind : TokenKind) (tokens : List Token) (value : Token) (rest : List Token) : Type 0 where
  pub joined : tokens ≡ value ∷ []
  pub is : IsOfKind value kind

-- a token of the kind and then the phrase
abbrev pub Preceded : {A : Type 0} → TokenKind → Phrase A → Phrase A
Preceded kind P = Sequence (λ token value. value) (OneToken kind) P

-- the phrase and then a token of the kind
abbrev pub Followed : {A : Type 0} → Phrase A → TokenKind → Phrase A
Followed P kind = Sequence (λ value token. value) P (OneToken kind)

-- no token, at the end of the input
pub record EndOfInput (tokens : List Token) (value : Unit {0}) (rest : List Token) : Type 0 where
  pub empty : tokens ≡ []
  pub last : rest ≡ []

-- one or more names, not followed by a comma
pub record NameList (text : List ℕ) (tokens : List Token) (value : List Placed) (rest : List Token) : Type 0 where
  pub names : Names text tokens value
  pub quits : DoesNotStartWith (Sign s.Comma) rest

-- names in brackets; or nothing, if no bracket follows
pub record OptionalGates (text : List ℕ) (tokens : List Token) (value : List Placed) (rest : List Token) : Type 0 where
  pub gates : GateList text tokens value
  pub quits : tokens ≡ [] → DoesNotStartWith (Sign s.LeftBracket) rest

-- one identifier, as a name
pub record OneName (text : List ℕ) (tokens : List Token) (value : Placed) (rest : List Token) : Type 0 where
  pub token : Token
  pub joined : tokens ≡ token ∷ []
  pub is : IsOfKind token Identifier
  pub same : value ≡ located_name text token

-- one operator of the level
pub record OneOperator (text : List ℕ) (level : Level) (tokens : List Token) (value : Operator)
    (rest : List Token) : Type 0 where
  pub operates : IsOperator text level tokens value

-- what follows `|[` in an operator: names or none, then `]` and `|`
pub data SyncList (text : List ℕ) : List Token → List Placed → List Token → Type 0 where
  no_sync : {right bar : Token} {rest : List Token} → IsOfKind right (Sign s.RightBracket) → IsOfKind bar (Sign s.Bar) →
      SyncList text (right ∷ bar ∷ []) [] rest
  some_sync : {right bar : Token} {ts rest : List Token} {names : List Placed} → Names text ts names →
      IsOfKind right (Sign s.RightBracket) → IsOfKind bar (Sign s.Bar) →
      SyncList text (ts ++ right ∷ bar ∷ []) names rest

-- a behaviour expression of the level, with a nesting within the limit, that the tokens after it do not continue
pub record BehaviourPhrase (text : List ℕ) (level : Level) (limit : NestingLimit)
    (tokens : List Token) (value : BehaviourView) (rest : List Token) : Type 0 where
  pub ends : Bool
  pub nesting : ℕ
  pub spells : Spells text level ends nesting tokens value
  pub quits : precedence rest < bound level ends
  pub within : IsNestingWithin limit nesting

-- one token, a functionality
pub record OneFunctionality (tokens : List Token) (value : Functionality) (rest : List Token) : Type 0 where
  pub token : Token
  pub joined : tokens ≡ token ∷ []
  pub declares : IsFunctionality token value

-- a colon and a functionality
abbrev pub FunctionalityPhrase : Phrase Functionality
FunctionalityPhrase = Preceded (Sign s.Colon) OneFunctionality

-- the value of a header: the name, the formal gates and the functionality
abbrev pub HeaderValue : Type 0
HeaderValue = Placed × List Placed × Functionality

-- the name, the formal gates and the functionality
abbrev pub HeaderPhrase : List ℕ → Phrase HeaderValue
HeaderPhrase text =
    Sequence (λ (named : Placed × List Placed) returns. (named.0, named.1, returns))
    (Sequence (λ name formals. (name, formals)) (OneName text) (OptionalGates text)) FunctionalityPhrase

-- what introduces the body, then the body
abbrev pub BodyPhrase : List ℕ → DefinitionKind → NestingLimit → Phrase BehaviourView
BodyPhrase text what limit = Preceded (defining_sign what) (BehaviourPhrase text enabling limit)

-- one or more definitions, not followed by another
pub record DefinitionList (text : List ℕ) (limit : NestingLimit) (tokens : List Token) (value : DefinitionListView)
    (rest : List Token) : Type 0 where
  pub nesting : ℕ
  pub several : SpellsDefinitions text nesting tokens value
  pub ends : DoesNotStartWith (Reserved w.ProcessWord) rest
  pub within : IsNestingWithin limit nesting

-- nothing, if no `where` follows; or `where` and a list of definitions
pub data WherePhrase (text : List ℕ) (limit : NestingLimit) : List Token → DefinitionListView → List Token →
    Type 0 where
  no_inner : {rest : List Token} → DoesNotStartWith (Reserved w.WhereWord) rest →
      WherePhrase text limit [] t.no_defs rest
  some_inner : {word : Token} {tokens rest : List Token} {value : DefinitionListView} →
      IsOfKind word (Reserved w.WhereWord) → DefinitionList text limit tokens value rest →
      WherePhrase text limit (word ∷ tokens) value rest

-- the definition of a header with its body, and the inner definitions
abbrev pub make_definition : HeaderValue × BehaviourView → DefinitionListView → DefinitionView
make_definition value inner = t.def value.0.0 value.0.1 value.0.2 value.1 inner

-- a definition after its first keyword, up to and including its last one
abbrev pub DefinitionRest : List ℕ → DefinitionKind → NestingLimit → Phrase DefinitionView
DefinitionRest text what limit =
    Followed (Sequence make_definition (Sequence (λ heading body. (heading, body)) (HeaderPhrase text)
    (BodyPhrase text what limit)) (WherePhrase text limit))
    (closing_word what)

-- a complete definition
abbrev pub CompleteDefinition : List ℕ → DefinitionKind → NestingLimit → Phrase DefinitionView
CompleteDefinition text what limit = Preceded (opening_word what) (DefinitionRest text what limit)

-- a complete specification, and then the end of the input
abbrev pub SpecificationPhrase : List ℕ → NestingLimit → Phrase DefinitionView
SpecificationPhrase text limit = Sequence (λ whole end. whole) (CompleteDefinition text a_specification limit)
    EndOfInput

-- two complete specifications, and then the end of the input
abbrev pub PairPhrase : List ℕ → NestingLimit → Phrase (DefinitionView × DefinitionView)
PairPhrase text limit = Sequence (λ first second. (first, second)) (CompleteDefinition text a_specification limit)
    (SpecificationPhrase text limit)
