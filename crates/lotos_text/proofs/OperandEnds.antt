-- The end of an operand, where nothing continues it, and operands of one keyword.
use Rattle.std.proofs.Common.{◌≡◌, ℕ, ◌<◌, Bool, false, List, [], ◌∷◌, ◌++◌, Some, None, refl, sym, ◌∙◌, ap, arith, subst, Result, IfErr}
use Rattle.std.specs.Result.{IsErrAnd}
use Rattle.lotos_text.specs.AstView as t
use Rattle.lotos_text.specs.AstView.{BehaviourView}
use Rattle.lotos_text.specs.Grammar.{IsOfKind, gate, internal, prefixing, Spells, stop, exit, parentheses, call, prefix, tighter, operation, hide}
use Rattle.lotos_text.specs.Follow.{precedence}
use Rattle.lotos_text.specs.OperandStarts.{operand_start}
use Rattle.lotos_text.specs.ParserContracts.{DoesNotStartWith, Parses, Fails, FailsAtToken, FailsWithin, StopsAt}
use Rattle.lotos_text.specs.Phrases.{BehaviourPhrase}
use Rattle.lotos_text.specs.declared.parse_primitives.ParseError.{ParseError}
use Rattle.lotos_text.specs.declared.parse_primitives.ParseError.TheVariants.{Unexpected, TooDeep, Memory}
use Rattle.lotos_text.specs.declared.behaviour_parser.OperandStart.TheVariants as o
use Rattle.lotos_text.specs.declared.token.Token.{Token}
use Rattle.lotos_text.specs.declared.token.TokenKind.{TokenKind}
use Rattle.lotos_text.specs.declared.token.TokenKind.TheVariants.{Reserved}
use Rattle.lotos_text.specs.declared.token.Word.TheVariants as w
use Rattle.lotos_text.proofs.FirstToken.{head_same, tail_same, same_is, starts_rank}
use Rattle.lotos_text.proofs.Limits.{within_none}
use Rattle.lotos_text.proofs.Operands.{Leaf, below_calls, taken_stop, taken_exit}
use Rattle.lotos_text.proofs.ParseErrors.{missed_free}

-- no token, where nothing goes on with an operand
pub record Ended (own : List Token) (said : Unit {0}) (remainder : List Token) : Type 0 where
  pub empty : own ≡ []
  pub quits : precedence remainder < 5

-- if the next token has precedence 5, the end of the operand fails there
lost_ended : (ts : List Token) → precedence ts ≡ 5 → Fails Ended ts ts
lost_ended ts h = record {
  front = [];
  joined = refl;
  never = λ more own remainder said st e p.
      let i = starts_rank ts more st in
      let j = ap precedence (e ∙ ap (λ m. m ++ remainder) p.empty) in
      let k = p.quits in
      omega (arith, h, i, j, k);
}

-- if the operand is continued, its end fails
pub missed_end : (ts : List Token) (stop : ParseError) → StopsAt ts stop → precedence ts ≡ 5 → FailsAtToken Ended ts stop
missed_end ts (Unexpected rest) e h = subst (λ m. Fails Ended ts m) (sym e) (lost_ended ts h)
missed_end ts (TooDeep token) e h = absurd e
missed_end ts (Memory x) e h = absurd e

module _ (text : List ℕ) where
  -- if the end of the operand fails, so does the operand; the error is passed on
  pub unended : {T : Type 0} (nesting_left : ℕ) (ts us : List Token) →
      ((rest : List Token) → Fails Ended ts rest → Fails (BehaviourPhrase text prefixing None) us rest) →
      (r : Result T ParseError) (e : ParseError) → IsErrAnd r (λ y. y ≡ e) → StopsAt ts e × (precedence ts ≡ 5) →
      IfErr r (FailsWithin (BehaviourPhrase text prefixing) nesting_left us)
  unended nesting_left ts us to r e h l =
      missed_free Ended (BehaviourPhrase text prefixing) nesting_left ts us to r e h (missed_end ts e l.0 l.1)

  -- if a token begins no operand but itself alone, and the end of the operand fails after it, so does the operand
  lost_leaf : (n : Token) (ts rest : List Token) (z : BehaviourView) →
      ((ends : Bool) (nesting : ℕ) (own remainder more : List Token) (x : BehaviourView) → Spells text prefixing ends nesting own x →
      own ++ remainder ≡ n ∷ more → Leaf n z ends nesting own x) → Fails Ended ts rest →
      Fails (BehaviourPhrase text prefixing None) (n ∷ ts) rest
  lost_leaf n ts rest z taken l = record {
    front = n ∷ l.front;
    joined = ap (λ m. n ∷ m) l.joined;
    never = λ more own remainder x st e p.
        let leaf = taken p.ends p.nesting own remainder (l.front ++ more) x p.spells (sym e) in
        l.never more [] remainder tt st (tail_same (e ∙ ap (λ m. m ++ remainder) leaf.tokens))
        (record { empty = refl; quits = below_calls p.ends remainder p.quits });
  }

  -- `stop`, which nothing continues, is an operand
  pub found_stop : (nesting_left : ℕ) (n : Token) (ts : List Token) → IsOfKind n (Reserved w.StopWord) → precedence ts < 5 →
      Parses (BehaviourPhrase text prefixing (Some nesting_left)) (n ∷ ts) t.stop ts
  found_stop nesting_left n ts i h = record {
    front = n ∷ [];
    joined = refl;
    whole = record { ends = false; nesting = 0; spells = stop i; quits = h; within = within_none (Some nesting_left) };
  }

  -- if something continues `stop`, it is no operand
  pub lost_stop : (n : Token) (ts rest : List Token) → IsOfKind n (Reserved w.StopWord) → Fails Ended ts rest →
      Fails (BehaviourPhrase text prefixing None) (n ∷ ts) rest
  lost_stop n ts rest i l = lost_leaf n ts rest t.stop (λ ends nesting own remainder more x d e. taken_stop text remainder more i d e) l

  -- `exit`, which nothing continues, is an operand
  pub found_exit : (nesting_left : ℕ) (n : Token) (ts : List Token) → IsOfKind n (Reserved w.ExitWord) → precedence ts < 5 →
      Parses (BehaviourPhrase text prefixing (Some nesting_left)) (n ∷ ts) t.exit ts
  found_exit nesting_left n ts i h = record {
    front = n ∷ [];
    joined = refl;
    whole = record { ends = false; nesting = 0; spells = exit i; quits = h; within = within_none (Some nesting_left) };
  }

  -- if something continues `exit`, it is no operand
  pub lost_exit : (n : Token) (ts rest : List Token) → IsOfKind n (Reserved w.ExitWord) → Fails Ended ts rest →
      Fails (BehaviourPhrase text prefixing None) (n ∷ ts) rest
  lost_exit n ts rest i l = lost_leaf n ts rest t.exit (λ ends nesting own remainder more x d e. taken_exit text remainder more i d e) l

  -- no operand

  -- a token that begins no operand is not of a kind that begins one
  other_begins : {n m : Token} {k : TokenKind} → operand_start n.kind ≡ o.Nothing → n ≡ m → IsOfKind m k → (operand_start k ≡ o.Nothing → ⊥) → ⊥
  other_begins h e i other = other (sym (ap operand_start (ap (λ (x : Token). x.kind) e ∙ i.same)) ∙ h)

  -- a token that begins no operand and is not `hide` begins no spelling of an operand
  never_begun : (n : Token) (ends : Bool) (nesting : ℕ) (own remainder more : List Token) (x : BehaviourView) → operand_start n.kind ≡ o.Nothing →
      (IsOfKind n (Reserved w.HideWord) → ⊥) → n ∷ more ≡ own ++ remainder → Spells text prefixing ends nesting own x → ⊥
  never_begun n ends nesting own remainder more x h without e (stop i) = other_begins h (head_same e) i (λ e. cc)
  never_begun n ends nesting own remainder more x h without e (exit i) = other_begins h (head_same e) i (λ e. cc)
  never_begun n ends nesting own remainder more x h without e (parentheses i d j) = other_begins h (head_same e) i (λ e. cc)
  never_begun n ends nesting own remainder more x h without e (call i g) = other_begins h (head_same e) i (λ e. cc)
  never_begun n ends nesting own remainder more x h without e (prefix (gate i) j d) = other_begins h (head_same e) i (λ e. cc)
  never_begun n ends nesting own remainder more x h without e (prefix (internal i) j d) = other_begins h (head_same e) i (λ e. cc)
  never_begun n ends nesting own remainder more x h without e (tighter b d) = elim b [ ]
  never_begun n ends nesting own remainder more x h without e (operation b d j f) = elim b [ ]
  never_begun n ends nesting own remainder more x h without e (hide i g j d) = without (same_is i (sym (head_same e)))

  -- what begins no operand and no hide form spells none
  pub lost_begun : (n : Token) (ts : List Token) → operand_start n.kind ≡ o.Nothing → DoesNotStartWith (Reserved w.HideWord) (n ∷ ts) →
      Fails (BehaviourPhrase text prefixing None) (n ∷ ts) (n ∷ ts)
  lost_begun n ts h without = record {
    front = [];
    joined = refl;
    never = λ more own remainder x st e p.
        never_begun n p.ends p.nesting own remainder st.0 x h without (sym st.1 ∙ e) p.spells;
  }
