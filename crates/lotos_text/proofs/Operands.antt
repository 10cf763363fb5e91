-- Spellings of the tightest level, and hide forms, by their first token.
use Rattle.std.proofs.Common.{◌≡◌, ℕ, ◌+◌, ◌<◌, Bool, true, false, List, [], ◌∷◌, ◌++◌, ◌⊎◌, inl, inr, refl, sym, ◌∙◌, ap, append_assoc, arith}
use Rattle.lotos_text.specs.AstView as t
use Rattle.lotos_text.specs.AstView.{BehaviourView}
use Rattle.lotos_text.specs.Grammar.{IsOfKind, located_name, Names, GateList, no_gates, gates, IsAction, gate, internal, Level, enabling, prefixing, Spells, stop, exit, parentheses, call, prefix, tighter, operation, hide}
use Rattle.lotos_text.specs.Follow.{precedence, bound}
use Rattle.lotos_text.specs.ParserContracts.{DoesNotStartWith}
use Rattle.lotos_text.specs.declared.token.Token.{Token}
use Rattle.lotos_text.specs.declared.token.TokenKind.TheVariants.{Identifier, Reserved, Sign}
use Rattle.lotos_text.specs.declared.token.Word.TheVariants as w
use Rattle.lotos_text.specs.declared.token.Sign.TheVariants as s
use Rattle.lotos_text.specs.declared.ast.Action.{Action}
use Rattle.lotos_text.specs.declared.ast.Action.TheVariants.{Internal, Gate}
use Rattle.lotos_text.specs.declared.ast.Placed.{Placed}
use Rattle.lotos_text.proofs.FirstToken.{head_same, tail_same, apart}
use Rattle.lotos_text.proofs.Levels.{rank_is}

-- what is complete at the tightest level is continued by no gates and no semicolon
pub below_calls : (o : Bool) (ts : List Token) → precedence ts < bound prefixing o → precedence ts < 5
below_calls true ts h = omega (arith, h)
below_calls false ts h = h

-- what has a lower precedence than a bracket does not begin with one
pub not_bracket : (ts : List Token) → precedence ts < 5 → DoesNotStartWith (Sign s.LeftBracket) ts
not_bracket [] h = tt
not_bracket (n ∷ ts) h = λ i. let e = rank_is ts i in omega (arith, e, h)

-- one token alone, which spells the behaviour expression
pub record Leaf (n : Token) (z : BehaviourView) (o : Bool) (m : ℕ) (own : List Token) (x : BehaviourView) : Type 0 where
  pub tokens : own ≡ n ∷ []
  pub shut : o ≡ false
  pub nesting : m ≡ 0
  pub tree : x ≡ z

module _ (text : List ℕ) where
  -- a behaviour expression in parentheses, the first of which is the token
  pub record Parenthesized (n : Token) (o : Bool) (m : ℕ) (own : List Token) (x : BehaviourView) (remainder ts : List Token) : Type 0 where
    pub inner : List Token
    pub right : Token
    pub within : Bool
    pub depth : ℕ
    pub tokens : own ≡ n ∷ inner ++ right ∷ []
    pub shut : o ≡ false
    pub nesting : m ≡ depth + 1
    pub spells : Spells text enabling within depth inner x
    pub closes : IsOfKind right (Sign s.RightParenthesis)
    pub rest : inner ++ right ∷ remainder ≡ ts

  -- a call, whose name is the token
  pub record Called (n : Token) (o : Bool) (m : ℕ) (own : List Token) (x : BehaviourView) (remainder ts : List Token) : Type 0 where
    pub listed : List Token
    pub names : List Placed
    pub tokens : own ≡ n ∷ listed
    pub shut : o ≡ false
    pub nesting : m ≡ 0
    pub tree : x ≡ t.call (located_name text n) names
    pub gates : GateList text listed names
    pub rest : listed ++ remainder ≡ ts

  -- a prefix, whose action is the token
  pub record Prefixed (n : Token) (act : Action) (o : Bool) (m : ℕ) (own : List Token) (x : BehaviourView)
      (remainder ts : List Token) : Type 0 where
    pub semicolon : Token
    pub body : List Token
    pub depth : ℕ
    pub after : BehaviourView
    pub tokens : own ≡ n ∷ semicolon ∷ body
    pub nesting : m ≡ depth + 1
    pub tree : x ≡ t.prefix act after
    pub separates : IsOfKind semicolon (Sign s.Semicolon)
    pub spells : Spells text prefixing o depth body after
    pub rest : semicolon ∷ body ++ remainder ≡ ts

  -- a hide form, whose word is the token
  pub record Hidden (n : Token) (o : Bool) (m : ℕ) (own : List Token) (x : BehaviourView) (remainder ts : List Token) : Type 0 where
    pub listed : List Token
    pub names : List Placed
    pub word : Token
    pub body : List Token
    pub within : Bool
    pub depth : ℕ
    pub after : BehaviourView
    pub tokens : own ≡ n ∷ listed ++ word ∷ body
    pub extends : o ≡ true
    pub nesting : m ≡ depth + 1
    pub tree : x ≡ t.hide names after
    pub gates : Names text listed names
    pub enters : IsOfKind word (Reserved w.InWord)
    pub spells : Spells text enabling within depth body after
    pub rest : listed ++ word ∷ (body ++ remainder) ≡ ts

  -- what begins with `stop` is that word
  pub taken_stop : {n : Token} {o : Bool} {m : ℕ} {own : List Token} {x : BehaviourView} (remainder ts : List Token) →
      IsOfKind n (Reserved w.StopWord) →
      Spells text prefixing o m own x → own ++ remainder ≡ n ∷ ts → Leaf n t.stop o m own x
  taken_stop remainder ts i (stop j) e = record { tokens = ap (λ m. m ∷ []) (head_same e); shut = refl; nesting = refl; tree = refl }
  taken_stop remainder ts i (exit j) e = absurd (apart j i (head_same e) (λ e. cc))
  taken_stop remainder ts i (parentheses j d k) e = absurd (apart j i (head_same e) (λ e. cc))
  taken_stop remainder ts i (call j g) e = absurd (apart j i (head_same e) (λ e. cc))
  taken_stop remainder ts i (prefix (gate j) k d) e = absurd (apart j i (head_same e) (λ e. cc))
  taken_stop remainder ts i (prefix (internal j) k d) e = absurd (apart j i (head_same e) (λ e. cc))
  taken_stop remainder ts i (hide j g k d) e = absurd (apart j i (head_same e) (λ e. cc))
  taken_stop remainder ts i (tighter b d) e = elim b [ ]
  taken_stop remainder ts i (operation b d j f) e = elim b [ ]

  -- what begins with `exit` is that word
  pub taken_exit : {n : Token} {o : Bool} {m : ℕ} {own : List Token} {x : BehaviourView} (remainder ts : List Token) →
      IsOfKind n (Reserved w.ExitWord) →
      Spells text prefixing o m own x → own ++ remainder ≡ n ∷ ts → Leaf n t.exit o m own x
  taken_exit remainder ts i (stop j) e = absurd (apart j i (head_same e) (λ e. cc))
  taken_exit remainder ts i (exit j) e = record { tokens = ap (λ m. m ∷ []) (head_same e); shut = refl; nesting = refl; tree = refl }
  taken_exit remainder ts i (parentheses j d k) e = absurd (apart j i (head_same e) (λ e. cc))
  taken_exit remainder ts i (call j g) e = absurd (apart j i (head_same e) (λ e. cc))
  taken_exit remainder ts i (prefix (gate j) k d) e = absurd (apart j i (head_same e) (λ e. cc))
  taken_exit remainder ts i (prefix (internal j) k d) e = absurd (apart j i (head_same e) (λ e. cc))
  taken_exit remainder ts i (hide j g k d) e = absurd (apart j i (head_same e) (λ e. cc))
  taken_exit remainder ts i (tighter b d) e = elim b [ ]
  taken_exit remainder ts i (operation b d j f) e = elim b [ ]

  -- what begins with a left parenthesis is in parentheses
  pub taken_parentheses : {n : Token} {o : Bool} {m : ℕ} {own : List Token} {x : BehaviourView} (remainder ts : List Token) →
      IsOfKind n (Sign s.LeftParenthesis) →
      Spells text prefixing o m own x → own ++ remainder ≡ n ∷ ts → Parenthesized n o m own x remainder ts
  taken_parentheses remainder ts i (stop j) e = absurd (apart j i (head_same e) (λ e. cc))
  taken_parentheses remainder ts i (exit j) e = absurd (apart j i (head_same e) (λ e. cc))
  taken_parentheses remainder ts i (parentheses {right = right} {o = within} {n = depth} {ts = inner} j d k) e = record {
    inner = inner;
    right = right;
    within = within;
    depth = depth;
    tokens = ap (λ m. m ∷ inner ++ right ∷ []) (head_same e);
    shut = refl;
    nesting = refl;
    spells = d;
    closes = k;
    rest = sym (append_assoc inner (right ∷ []) remainder) ∙ tail_same e;
  }
  taken_parentheses remainder ts i (call j g) e = absurd (apart j i (head_same e) (λ e. cc))
  taken_parentheses remainder ts i (prefix (gate j) k d) e = absurd (apart j i (head_same e) (λ e. cc))
  taken_parentheses remainder ts i (prefix (internal j) k d) e = absurd (apart j i (head_same e) (λ e. cc))
  taken_parentheses remainder ts i (hide j g k d) e = absurd (apart j i (head_same e) (λ e. cc))
  taken_parentheses remainder ts i (tighter b d) e = elim b [ ]
  taken_parentheses remainder ts i (operation b d j f) e = elim b [ ]

  -- what begins with `i` is a prefix of the internal action
  pub taken_internal : {n : Token} {o : Bool} {m : ℕ} {own : List Token} {x : BehaviourView} (remainder ts : List Token) →
      IsOfKind n (Reserved w.IWord) →
      Spells text prefixing o m own x → own ++ remainder ≡ n ∷ ts → Prefixed n Internal o m own x remainder ts
  taken_internal remainder ts i (stop j) e = absurd (apart j i (head_same e) (λ e. cc))
  taken_internal remainder ts i (exit j) e = absurd (apart j i (head_same e) (λ e. cc))
  taken_internal remainder ts i (parentheses j d k) e = absurd (apart j i (head_same e) (λ e. cc))
  taken_internal remainder ts i (call j g) e = absurd (apart j i (head_same e) (λ e. cc))
  taken_internal remainder ts i (prefix (gate j) k d) e = absurd (apart j i (head_same e) (λ e. cc))
  taken_internal remainder ts i (prefix {semicolon = semicolon} {n = depth} {ts = body} {x = after} (internal j) k d) e = record {
    semicolon = semicolon;
    body = body;
    depth = depth;
    after = after;
    tokens = ap (λ m. m ∷ semicolon ∷ body) (head_same e);
    nesting = refl;
    tree = refl;
    separates = k;
    spells = d;
    rest = tail_same e;
  }
  taken_internal remainder ts i (hide j g k d) e = absurd (apart j i (head_same e) (λ e. cc))
  taken_internal remainder ts i (tighter b d) e = elim b [ ]
  taken_internal remainder ts i (operation b d j f) e = elim b [ ]

  -- what begins with an identifier is a call, or a prefix of that gate
  pub taken_name : {n : Token} {o : Bool} {m : ℕ} {own : List Token} {x : BehaviourView} (remainder ts : List Token) → IsOfKind n (Identifier) →
      Spells text prefixing o m own x →
      own ++ remainder ≡ n ∷ ts → Called n o m own x remainder ts ⊎ Prefixed n (Gate (located_name text n)) o m own x remainder ts
  taken_name remainder ts i (stop j) e = absurd (apart j i (head_same e) (λ e. cc))
  taken_name remainder ts i (exit j) e = absurd (apart j i (head_same e) (λ e. cc))
  taken_name remainder ts i (parentheses j d k) e = absurd (apart j i (head_same e) (λ e. cc))
  taken_name remainder ts i (call {ts = listed} {names = names} j g) e = inl (record {
    listed = listed;
    names = names;
    tokens = ap (λ m. m ∷ listed) (head_same e);
    shut = refl;
    nesting = refl;
    tree = ap (λ m. t.call (located_name text m) names) (head_same e);
    gates = g;
    rest = tail_same e;
  })
  taken_name remainder ts i (prefix {semicolon = semicolon} {n = depth} {ts = body} {x = after} (gate j) k d) e = inr (record {
    semicolon = semicolon;
    body = body;
    depth = depth;
    after = after;
    tokens = ap (λ m. m ∷ semicolon ∷ body) (head_same e);
    nesting = refl;
    tree = ap (λ m. t.prefix (Gate (located_name text m)) after) (head_same e);
    separates = k;
    spells = d;
    rest = tail_same e;
  })
  taken_name remainder ts i (prefix (internal j) k d) e = absurd (apart j i (head_same e) (λ e. cc))
  taken_name remainder ts i (hide j g k d) e = absurd (apart j i (head_same e) (λ e. cc))
  taken_name remainder ts i (tighter b d) e = elim b [ ]
  taken_name remainder ts i (operation b d j f) e = elim b [ ]

  -- where a gate list begins with a semicolon, it is empty, and what follows goes on
  pub not_listed : {listed : List Token} {names : List Placed} {n : Token} (remainder ts : List Token) → GateList text listed names →
      listed ++ remainder ≡ n ∷ ts → IsOfKind n (Sign s.Semicolon) → precedence remainder < 5 → ⊥
  not_listed remainder ts no_gates e i h = let f = ap precedence e ∙ rank_is ts i in omega (arith, f, h)
  not_listed remainder ts (gates j d k) e i h = apart j i (head_same e) (λ e. cc)

  -- what begins with an action and a semicolon is a prefix of it
  pub taken_prefix : {n semicolon : Token} {act : Action} {o : Bool} {m : ℕ} {own : List Token} {x : BehaviourView}
      (remainder ts : List Token) →
      IsAction text n act → IsOfKind semicolon (Sign s.Semicolon) → Spells text prefixing o m own x →
      own ++ remainder ≡ n ∷ semicolon ∷ ts → precedence remainder < bound prefixing o → Prefixed n act o m own x remainder (semicolon ∷ ts)
  taken_prefix {semicolon = semicolon} remainder ts (internal i) j d e h = taken_internal remainder (semicolon ∷ ts) i d e
  taken_prefix {n} {semicolon} {o = o} {m = m} {own = own} {x = x} remainder ts (gate i) j d e h =
      only (taken_name remainder (semicolon ∷ ts) i d e)
    where
      only : Called n o m own x remainder (semicolon ∷ ts) ⊎ Prefixed n (Gate (located_name text n)) o m own x remainder (semicolon ∷ ts) →
          Prefixed n (Gate (located_name text n)) o m own x remainder (semicolon ∷ ts)
      only (inl c) = absurd (not_listed remainder ts c.gates c.rest j (below_calls o remainder h))
      only (inr p) = p

  -- what begins with `hide`, at any level, is a hide form
  pub taken_hide : {n : Token} {l : Level} {o : Bool} {m : ℕ} {own : List Token} {x : BehaviourView} (remainder ts : List Token) →
      IsOfKind n (Reserved w.HideWord) →
      Spells text l o m own x → own ++ remainder ≡ n ∷ ts → Hidden n o m own x remainder ts
  taken_hide remainder ts i (stop j) e = absurd (apart j i (head_same e) (λ e. cc))
  taken_hide remainder ts i (exit j) e = absurd (apart j i (head_same e) (λ e. cc))
  taken_hide remainder ts i (parentheses j d k) e = absurd (apart j i (head_same e) (λ e. cc))
  taken_hide remainder ts i (call j g) e = absurd (apart j i (head_same e) (λ e. cc))
  taken_hide remainder ts i (prefix (gate j) k d) e = absurd (apart j i (head_same e) (λ e. cc))
  taken_hide remainder ts i (prefix (internal j) k d) e = absurd (apart j i (head_same e) (λ e. cc))
  taken_hide remainder ts i (hide {within = word} {o = within} {n = depth} {gates = listed} {ts = body}
      {names = names} {x = after} j g k d) e =
      record {
        listed = listed;
        names = names;
        word = word;
        body = body;
        within = within;
        depth = depth;
        after = after;
        tokens = ap (λ m. m ∷ listed ++ word ∷ body) (head_same e);
        extends = refl;
        nesting = refl;
        tree = refl;
        gates = g;
        enters = k;
        spells = d;
        rest = sym (append_assoc listed (word ∷ body) remainder) ∙ tail_same e;
      }
  taken_hide remainder ts i (tighter b d) e = taken_hide remainder ts i d e
  taken_hide remainder ts i (operation {left = left} {op = op} {right = right} b d j f) e =
      let h = taken_hide (op ++ (right ++ remainder)) ts i d
      (sym (append_assoc (left ++ op) right remainder ∙ append_assoc left op (right ++ remainder)) ∙ e) in
      absurd (let g = h.extends in never g)
    where
      never : false ≡ true → ⊥
      never e = cc
