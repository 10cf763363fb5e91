-- Spellings of a looser level: one of the next tighter level, or an operation; and the precedences of the levels.
use Rattle.std.proofs.Common.{◌≡◌, ℕ, ◌+◌, ◌<◌, ◌≤◌, max, Bool, true, false, List, [], ◌∷◌, ◌++◌, refl, ap, arith, subst}
use Rattle.lotos_text.specs.AstView as t
use Rattle.lotos_text.specs.AstView.{BehaviourView}
use Rattle.lotos_text.specs.Grammar.{IsOfKind, Level, enabling, disabling, parallel, choosing, prefixing, BindsTighter, tighter_than_enabling, tighter_than_disabling, tighter_than_parallel, tighter_than_choosing, Operator, enables, synchronizes, apply, IsOperator, enable_sign, disable_sign, interleave_sign, full_sign, sync_on_none, sync_on, choice_sign, Spells, stop, exit, parentheses, call, prefix, tighter, operation, hide}
use Rattle.lotos_text.specs.Follow.{kind_precedence, precedence, level_precedence, bound}
use Rattle.lotos_text.specs.Phrases.{SyncList, no_sync, some_sync}
use Rattle.lotos_text.specs.declared.token.Token.{Token}
use Rattle.lotos_text.specs.declared.token.TokenKind.{TokenKind}
use Rattle.lotos_text.specs.declared.ast.Placed.{Placed}
use Rattle.lotos_text.proofs.FirstToken.{head_same, tail_same, apart}
use Rattle.lotos_text.proofs.NameLists.{unique_sync_list}

-- a tighter level has a higher precedence
pub below_rank : {l m : Level} → BindsTighter l m → level_precedence l < level_precedence m
below_rank tighter_than_enabling = omega arith
below_rank tighter_than_disabling = omega arith
below_rank tighter_than_parallel = omega arith
below_rank tighter_than_choosing = omega arith

-- what is complete at a level is complete at the next tighter one
pub bound_below : {l m : Level} (o : Bool) → BindsTighter l m → bound l o ≤ bound m o
bound_below true b = omega arith
bound_below false b = let h = below_rank b in omega (arith, h)

-- the bound on the precedences before which a spelling of a level is complete is at most the level's precedence
pub bound_most : (l : Level) (o : Bool) → bound l o ≤ level_precedence l
bound_most enabling true = omega arith
bound_most disabling true = omega arith
bound_most parallel true = omega arith
bound_most choosing true = omega arith
bound_most prefixing true = omega arith
bound_most l false = omega arith

-- what no operator is goes on with nothing
pub rank_none : (l : Level) (o : Bool) (ts : List Token) → precedence ts ≡ 0 → precedence ts < bound l o
rank_none l true ts e = omega (arith, e)
rank_none enabling false ts e = omega (arith, e)
rank_none disabling false ts e = omega (arith, e)
rank_none parallel false ts e = omega (arith, e)
rank_none choosing false ts e = omega (arith, e)
rank_none prefixing false ts e = omega (arith, e)

-- no token continues an open spelling, whatever level it is taken for
pub rank_open : (l m : Level) (o p : Bool) (ts : List Token) → p ≡ true → precedence ts < bound l p → precedence ts < bound m o
rank_open l m o true ts e h = rank_none m o ts (omega (arith, h))
rank_open l m o false ts e h = cc

-- a token has the precedence of its kind
pub rank_is : {n : Token} {k : TokenKind} (ts : List Token) → IsOfKind n k → precedence (n ∷ ts) ≡ kind_precedence k
rank_is ts i = ap kind_precedence i.same

module _ (text : List ℕ) where
  -- an operator has the precedence of its level
  pub operator_rank : {l : Level} {op : List Token} {how : Operator} (r : List Token) → IsOperator text l op how →
      precedence (op ++ r) ≡ level_precedence l
  operator_rank r (enable_sign i) = rank_is r i
  operator_rank r (disable_sign i) = rank_is r i
  operator_rank r (interleave_sign i) = rank_is r i
  operator_rank r (full_sign i) = rank_is r i
  operator_rank r (sync_on_none i j k) = rank_is r i
  operator_rank r (sync_on i d j k) = rank_is r i
  operator_rank r (choice_sign i) = rank_is r i

  -- below an operator's level the operands bind tighter
  pub operator_below : {l m : Level} {op : List Token} {how : Operator} → BindsTighter l m → IsOperator text l op how →
      level_precedence l < level_precedence m
  operator_below b i = below_rank b

  pub record SameOperator (a b : List Token) (how ways : Operator) (r q : List Token) : Type 0 where
    pub tokens : a ≡ b
    pub operator : how ≡ ways
    pub rest : r ≡ q

  -- two equal operators of one token each, which begin one list, have the same token and the same rest
  one_sign : {n m : Token} {how ways : Operator} (r q : List Token) → n ∷ r ≡ m ∷ q → how ≡ ways →
      SameOperator (n ∷ []) (m ∷ []) how ways r q
  one_sign r q e h = record { tokens = ap (λ n. n ∷ []) (head_same e); operator = h; rest = tail_same e }

  -- two operators of a sign and a list of gates, which begin one list, are the same with the same rest
  one_sync : {n m : Token} {ts us : List Token} {ns ms : List Placed} (r q : List Token) → SyncList text ts ns r →
      SyncList text us ms q → (n ∷ ts) ++ r ≡ (m ∷ us) ++ q →
      SameOperator (n ∷ ts) (m ∷ us) (synchronizes (t.gates ns)) (synchronizes (t.gates ms)) r q
  one_sync r q i j e =
      let h = unique_sync_list text r q i j (tail_same e) in
      record {
        tokens = (let a = head_same e in let b = h.tokens in cc);
        operator = ap (λ names. synchronizes (t.gates names)) h.said;
        rest = h.rest;
      }

  -- one list begins with one operator of a level
  pub unique_operator : {l : Level} {a b : List Token} {how ways : Operator} (r q : List Token) → IsOperator text l a how →
      IsOperator text l b ways → a ++ r ≡ b ++ q → SameOperator a b how ways r q
  unique_operator r q (enable_sign i) (enable_sign j) e = one_sign r q e (ap (λ (n : Token). enables n.at) (head_same e))
  unique_operator r q (disable_sign i) (disable_sign j) e = one_sign r q e refl
  unique_operator r q (choice_sign i) (choice_sign j) e = one_sign r q e refl
  unique_operator r q (interleave_sign i) (interleave_sign j) e = one_sign r q e refl
  unique_operator r q (interleave_sign i) (full_sign j) e = absurd (apart i j (head_same e) (λ e. cc))
  unique_operator r q (interleave_sign i) (sync_on_none j k l) e = absurd (apart i j (head_same e) (λ e. cc))
  unique_operator r q (interleave_sign i) (sync_on j d k l) e = absurd (apart i j (head_same e) (λ e. cc))
  unique_operator r q (full_sign i) (full_sign j) e = one_sign r q e refl
  unique_operator r q (full_sign i) (interleave_sign j) e = absurd (apart i j (head_same e) (λ e. cc))
  unique_operator r q (full_sign i) (sync_on_none j k l) e = absurd (apart i j (head_same e) (λ e. cc))
  unique_operator r q (full_sign i) (sync_on j d k l) e = absurd (apart i j (head_same e) (λ e. cc))
  unique_operator r q (sync_on_none i j k) (interleave_sign l) e = absurd (apart i l (head_same e) (λ e. cc))
  unique_operator r q (sync_on_none i j k) (full_sign l) e = absurd (apart i l (head_same e) (λ e. cc))
  unique_operator r q (sync_on_none i j k) (sync_on_none l m n) e = one_sync r q (no_sync j k) (no_sync m n) e
  unique_operator r q (sync_on_none i j k) (sync_on l d m n) e = one_sync r q (no_sync j k) (some_sync d m n) e
  unique_operator r q (sync_on i d j k) (interleave_sign l) e = absurd (apart i l (head_same e) (λ e. cc))
  unique_operator r q (sync_on i d j k) (full_sign l) e = absurd (apart i l (head_same e) (λ e. cc))
  unique_operator r q (sync_on i d j k) (sync_on_none l m n) e = one_sync r q (some_sync d j k) (no_sync m n) e
  unique_operator r q (sync_on i d j k) (sync_on l f m n) e = one_sync r q (some_sync d j k) (some_sync f m n) e

  -- a spelling of the level whose next tighter one is given
  pub data Levelled (l m : Level) : Bool → ℕ → List Token → BehaviourView → Type 0 where
    alone : {o : Bool} {n : ℕ} {own : List Token} {x : BehaviourView} → Spells text m o n own x → Levelled l m o n own x
    operated : {o : Bool} {nl nr : ℕ} {left op right : List Token} {x y : BehaviourView} {how : Operator} →
        Spells text m false nl left x → IsOperator text l op how → Spells text l o nr right y →
        Levelled l m o (max nl (nr + 1)) (left ++ op ++ right) (apply how x y)

  -- a level has one next tighter level only
  below_same : {l m k : Level} → BindsTighter l m → BindsTighter l k → m ≡ k
  below_same tighter_than_enabling tighter_than_enabling = refl
  below_same tighter_than_disabling tighter_than_disabling = refl
  below_same tighter_than_parallel tighter_than_parallel = refl
  below_same tighter_than_choosing tighter_than_choosing = refl

  -- a spelling of the looser level is one of the next tighter, or an operation
  pub taken_level : {l m : Level} {o : Bool} {n : ℕ} {own : List Token} {x : BehaviourView} → BindsTighter l m → Spells text l o n own x →
      Levelled l m o n own x
  taken_level b (stop i) = elim b [ ]
  taken_level b (exit i) = elim b [ ]
  taken_level b (parentheses i d j) = elim b [ ]
  taken_level b (call i g) = elim b [ ]
  taken_level b (prefix i j d) = elim b [ ]
  taken_level b (tighter {o = o} {n = n} {ts = own} {x = x} c d) =
      alone (subst (λ m. Spells text m o n own x) (below_same c b) d)
  taken_level b (operation {nl = nl} {left = left} {x = x} c d i f) = operated
      (subst (λ m. Spells text m false nl left x) (below_same c b) d) i f
  taken_level b (hide i d j f) = alone (hide i d j f)
