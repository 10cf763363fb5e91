-- Of one level, tokens start with at most one spelling that nothing continues.
use Rattle.std.proofs.Common.{◌≡◌, ℕ, ◌+◌, ◌<◌, max, Bool, true, false, List, [], ◌∷◌, ◌++◌, ◌⊎◌, inl, inr, refl, sym, ◌∙◌, ap, append_assoc, arith}
use Rattle.lotos_text.specs.AstView as t
use Rattle.lotos_text.specs.AstView.{BehaviourView}
use Rattle.lotos_text.specs.Grammar.{IsOfKind, located_name, GateList, gate, internal, Level, enabling, prefixing, BindsTighter, Operator, apply, IsOperator, Spells, stop, exit, parentheses, call, prefix, tighter, operation, hide}
use Rattle.lotos_text.specs.Follow.{precedence, bound}
use Rattle.lotos_text.specs.declared.token.Token.{Token}
use Rattle.lotos_text.specs.declared.token.TokenKind.TheVariants.{Sign}
use Rattle.lotos_text.specs.declared.token.Sign.TheVariants as s
use Rattle.lotos_text.specs.declared.ast.Action.{Action}
use Rattle.lotos_text.specs.declared.ast.Action.TheVariants.{Gate}
use Rattle.lotos_text.specs.declared.ast.Placed.{Placed}
use Rattle.lotos_text.proofs.FirstToken.{head_same, tail_same, is_first}
use Rattle.lotos_text.proofs.Levels.{bound_below, bound_most, rank_none, rank_open, rank_is, operator_rank, operator_below, unique_operator, Levelled, alone, operated, taken_level}
use Rattle.lotos_text.proofs.NameLists.{unique_names, unique_gates}
use Rattle.lotos_text.proofs.Operands.{Leaf, Called, Prefixed, taken_stop, taken_exit, taken_parentheses, taken_name, taken_internal, taken_hide, not_listed, not_bracket, below_calls}

pub record SameSpelling (a b : List Token) (o p : Bool) (n m : ℕ) (x y : BehaviourView) (r q : List Token) : Type 0 where
  pub tokens : a ≡ b
  pub ends : o ≡ p
  pub nesting : n ≡ m
  pub tree : x ≡ y
  pub rest : r ≡ q

-- equal lists have equal rests after equal beginnings
same_rest : {a b r q : List Token} → a ≡ b → a ++ r ≡ b ++ q → r ≡ q
same_rest {a} {b} {r} {q} h e = cancel a (e ∙ ap (λ m. m ++ q) (sym h))
  where
    cancel : (a : List Token) → a ++ r ≡ a ++ q → r ≡ q
    cancel [] e = e
    cancel (n ∷ a) e = cancel a (tail_same e)

-- three lists before a fourth
pub join_assoc : (a b c r : List Token) → (a ++ b ++ c) ++ r ≡ a ++ (b ++ (c ++ r))
join_assoc a b c r = append_assoc (a ++ b) c r ∙ append_assoc a b (c ++ r)

module _ (text : List ℕ) where
  -- the spelling is the only one of its level
  abbrev One : Level → Bool → ℕ → List Token → BehaviourView → List Token → Type 0
  One l o n a x r = (q b : List Token) (p : Bool) (m : ℕ)
      (y : BehaviourView) → Spells text l p m b y → a ++ r ≡ b ++ q → precedence q < bound l p → SameSpelling a b o p n m x y r q

  -- another spelling that is the same one token alone is the same spelling
  same_leaf : {n : Token} {z y : BehaviourView} {p : Bool} {m : ℕ} {b : List Token} (r q : List Token) → Leaf n z p m b y →
      n ∷ r ≡ b ++ q → SameSpelling (n ∷ []) b false p 0 m z y r q
  same_leaf r q f e = record {
    tokens = sym f.tokens;
    ends = sym f.shut;
    nesting = sym f.nesting;
    tree = sym f.tree;
    rest = same_rest (sym f.tokens) e;
  }

  -- another call or prefix that begins with the name of a call is that call, if nothing continues either
  same_call : {n : Token} {p : Bool} {m : ℕ} {ts b : List Token} {names : List Placed} {y : BehaviourView} (r q : List Token) →
      GateList text ts names →
      Called text n p m b y q (ts ++ r) ⊎ Prefixed text n (Gate (located_name text n)) p m b y q (ts ++ r) → precedence r < 5 →
      precedence q < bound prefixing p → SameSpelling (n ∷ ts) b false p 0 m (t.call (located_name text n) names) y r q
  same_call {p = p} r q g (inl f) hr hq =
      let h = unique_gates text r q g f.gates (sym f.rest) (λ e. not_bracket r hr) (λ e. not_bracket q (below_calls p q hq)) in
      record {
        tokens = (let a = h.tokens in let b = f.tokens in cc);
        ends = sym f.shut;
        nesting = sym f.nesting;
        tree = (let a = h.said in let b = f.tree in cc);
        rest = h.rest;
      }
  same_call r q g (inr f) hr hq = absurd (not_listed text r (f.body ++ q) g (sym f.rest) f.separates hr)

  -- another prefix with the same action is the same prefix, if the operand after the semicolon is unique
  same_prefix : {act c : Token} {o p : Bool} {n m : ℕ} {ts b : List Token} {a : Action} {x y : BehaviourView} (r q : List Token) →
      One prefixing o n ts x r →
      Prefixed text act a p m b y q (c ∷ ts ++ r) → precedence q < bound prefixing p → SameSpelling (act ∷ c ∷ ts) b o p (n + 1) m
      (t.prefix a x) y r q
  same_prefix {p = p} r q one f hq =
      let h = one q f.body p f.depth f.after f.spells (sym (tail_same f.rest)) hq in
      record {
        tokens = (let a = h.tokens in let b = head_same f.rest in let c = f.tokens in cc);
        ends = h.ends;
        nesting = (let a = h.nesting in let b = f.nesting in cc);
        tree = (let a = h.tree in let b = f.tree in cc);
        rest = h.rest;
      }

  -- another call or prefix that begins with the gate of a prefix is that prefix, if the operand in it is unique
  same_gate : {n c : Token} {o p : Bool} {k m : ℕ} {ts b : List Token} {x y : BehaviourView} (r q : List Token) →
      IsOfKind c (Sign s.Semicolon) → One prefixing o k ts x r →
      Called text n p m b y q (c ∷ ts ++ r) ⊎ Prefixed text n (Gate (located_name text n)) p m b y q (c ∷ ts ++ r) →
      precedence q < bound prefixing p → SameSpelling (n ∷ c ∷ ts) b o p (k + 1) m (t.prefix (Gate (located_name text n)) x) y r q
  same_gate {p = p} {ts = ts} r q i one (inl f) hq = absurd (not_listed text q (ts ++ r) f.gates f.rest i (below_calls p q hq))
  same_gate r q i one (inr f) hq = same_prefix r q one f hq

  -- another spelling of the looser level is the same as a unique one of the tighter level, if nothing continues either
  same_alone : {l m : Level} {o p : Bool} {n k : ℕ} {a b : List Token} {x y : BehaviourView} (r q : List Token) → BindsTighter l m →
      One m o n a x r → Levelled text l m p k b y →
      a ++ r ≡ b ++ q → precedence r < bound l o → precedence q < bound l p → SameSpelling a b o p n k x y r q
  same_alone {p = p} r q u one (alone {n = k} {own = b} {x = y} d) e hr hq = one q b p k y d e
      (let h = bound_below p u in omega (arith, h, hq))
  same_alone {l = l} {o = o} r q u one (operated {nl = nl} {left = left} {op = op} {right = right} {x = z} d i f) e hr hq =
      let h = one (op ++ (right ++ q)) left false nl z d (e ∙ join_assoc left op right q)
      (let g = operator_below text u i in let f = operator_rank text (right ++ q) i in omega (arith, f, g)) in
      absurd (let f = operator_rank text (right ++ q) i in let g = ap precedence h.rest in let k = bound_most l o in omega
      (arith, f, g, k, hr))

  -- another spelling of the level, which nothing continues, is the same as an operation with unique operands
  same_operated : {l m : Level} {o p : Bool} {nl nr k : ℕ} {left op right b : List Token} {x y z : BehaviourView} {how : Operator}
      (r q : List Token) → BindsTighter l m →
      One m false nl left x (op ++ (right ++ r)) → IsOperator text l op how → One l o nr right y r → Levelled text l m p k b z →
      (left ++ op ++ right) ++ r ≡ b ++ q → precedence q < bound l p →
      SameSpelling (left ++ op ++ right) b o p (max nl (nr + 1)) k (apply how x y) z r q
  same_operated {l = l} {p = p} {left = left} {op = op} {right = right} r q u one i other
      (alone {n = k} {own = b} {x = z} d) e hq =
      let h = one q b p k z d (sym (join_assoc left op right r) ∙ e) (let g = bound_below p u in omega (arith, g, hq)) in
      absurd (let f = operator_rank text (right ++ r) i in let g = ap precedence h.rest in let j = bound_most l p in omega
      (arith, f, g, j, hq))
  same_operated {p = p} {left = left} {op = op} {right = right} r q u one i other
      (operated {nl = nl'} {nr = nr'} {left = left'} {op = op'} {right = right'} {x = x'} {y = y'} d j f) e hq =
      let h = one (op' ++ (right' ++ q)) left' false nl' x' d
      (sym (join_assoc left op right r) ∙ e ∙ join_assoc left' op' right' q)
      (let g = operator_below text u j in let f = operator_rank text (right' ++ q) j in omega (arith, f, g)) in
      let v = unique_operator text (right ++ r) (right' ++ q) i j h.rest in
      let g = other q right' p nr' y' f v.rest hq in
      record {
        tokens = (let a = h.tokens in let b = v.tokens in let c = g.tokens in cc);
        ends = g.ends;
        nesting = (let a = h.nesting in let b = g.nesting in cc);
        tree = (let a = h.tree in let b = v.operator in let c = g.tree in cc);
        rest = g.rest;
      }

  -- two spellings of one level that begin one list, and that nothing continues, are equal
  pub unique : {l : Level} {o p : Bool} {n m : ℕ} {a b : List Token} {x y : BehaviourView} (r q : List Token) → Spells text l o n a x →
      Spells text l p m b y → a ++ r ≡ b ++ q →
      precedence r < bound l o → precedence q < bound l p → SameSpelling a b o p n m x y r q
  unique r q (stop i) d e hr hq = same_leaf r q (taken_stop text q r i d (sym e)) e
  unique r q (exit i) d e hr hq = same_leaf r q (taken_exit text q r i d (sym e)) e
  unique r q (parentheses {right = right} {o = o} {ts = inner} i c j) d e hr hq =
      let f = taken_parentheses text q ((inner ++ right ∷ []) ++ r) i d (sym e) in
      let h = unique (right ∷ r) (f.right ∷ q) c f.spells (sym (f.rest ∙ append_assoc inner (right ∷ []) r))
      (rank_none enabling o (right ∷ r) (rank_is r j)) (rank_none enabling f.within (f.right ∷ q) (rank_is q f.closes)) in
      record {
        tokens = (let a = h.tokens in let b = head_same h.rest in let c = f.tokens in cc);
        ends = sym f.shut;
        nesting = (let a = h.nesting in let b = f.nesting in cc);
        tree = h.tree;
        rest = tail_same h.rest;
      }
  unique r q (call {ts = ts} i g) d e hr hq = same_call r q g (taken_name text q (ts ++ r) i d (sym e)) hr hq
  unique r q (prefix {semicolon = c} {ts = body} (gate i) j f) d e hr hq =
      same_gate r q j (λ q' b' p' m' y' d' e' h'. unique r q' f d' e' hr h') (taken_name text q (c ∷ body ++ r) i d (sym e)) hq
  unique r q (prefix {semicolon = c} {ts = body} (internal i) j f) d e hr hq =
      same_prefix r q (λ q' b' p' m' y' d' e' h'. unique r q' f d' e' hr h') (taken_internal text q (c ∷ body ++ r) i d (sym e)) hq
  unique r q (tighter {o = o} b c) d e hr hq =
      same_alone r q b (λ q' b' p' m' y' d' e' h'. unique r q' c d' e' (let g = bound_below o b in omega (arith, g, hr)) h')
      (taken_level text b d) e hr hq
  unique r q (operation {op = op} {right = right} b c i f) d e hr hq =
      same_operated r q b
      (λ q' b' p' m' y' d' e' h'. unique (op ++ (right ++ r)) q' c d' e'
      (let g = operator_below text b i in let j = operator_rank text (right ++ r) i in omega (arith, g, j)) h')
      i (λ q' b' p' m' y' d' e' h'. unique r q' f d' e' hr h') (taken_level text b d) e hq
  unique {p = p} r q (hide {l = l} {within = word} {o = o} {gates = listed} {ts = body} i g j c) d e hr hq =
      let f = taken_hide text q ((listed ++ word ∷ body) ++ r) i d (sym e) in
      let v = unique_names text (word ∷ (body ++ r)) (f.word ∷ (f.body ++ q)) g f.gates
      (sym (f.rest ∙ append_assoc listed (word ∷ body) r)) (is_first j (λ e. cc)) (is_first f.enters (λ e. cc)) in
      let h = unique r q c f.spells (tail_same v.rest) (rank_open l enabling o true r refl hr)
      (rank_open l enabling f.within p q f.extends hq) in
      record {
        tokens = (let a = v.tokens in let b = head_same v.rest in let c = h.tokens in let d = f.tokens in cc);
        ends = sym f.extends;
        nesting = (let a = h.nesting in let b = f.nesting in cc);
        tree = (let a = v.said in let b = h.tree in let c = f.tree in cc);
        rest = h.rest;
      }
