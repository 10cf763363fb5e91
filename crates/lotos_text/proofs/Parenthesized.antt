-- Behaviour expressions in parentheses: how they parse and fail after the left parenthesis.
use Rattle.std.proofs.Common.{◌≡◌, ℕ, ◌+◌, ◌-◌, ◌<◌, false, List, [], ◌∷◌, ◌++◌, Some, None, refl, sym, ◌∙◌, arith, subst}
use Rattle.std.proofs.lemmas.List.{append-nil}
use Rattle.lotos_text.specs.AstView.{BehaviourView}
use Rattle.lotos_text.specs.Grammar.{IsOfKind, enabling, prefixing, Spells, parentheses}
use Rattle.lotos_text.specs.Follow.{precedence}
use Rattle.lotos_text.specs.ParserContracts.{Phrase, NestingLimit, Parses, Fails, IsTooDeepAt}
use Rattle.lotos_text.specs.Phrases.{Sequence, OneToken, Preceded, Followed, BehaviourPhrase}
use Rattle.lotos_text.specs.declared.token.Sign.TheVariants as s
use Rattle.lotos_text.specs.declared.token.Token.{Token}
use Rattle.lotos_text.specs.declared.token.TokenKind.TheVariants.{Sign}
use Rattle.lotos_text.proofs.OperandEnds.{Ended}
use Rattle.lotos_text.proofs.PhraseUniqueness.{FirmWithin, firm_expression, firm_preceded_within, firm_before_within, lost_after}
use Rattle.lotos_text.proofs.Levels.{rank_none, rank_is}
use Rattle.lotos_text.proofs.Limits.{inside, within_inside, opens_is, opens_among, crowded_here}
use Rattle.lotos_text.proofs.OneToken.{found_preceded, lost_preceded, found_before, lost_within}
use Rattle.lotos_text.proofs.Operands.{below_calls, taken_parentheses}
use Rattle.lotos_text.proofs.Sequences.{lost_as, between, as_between, lost_first}
use Rattle.lotos_text.proofs.ParseErrors.{Carries}

module _ (text : List ℕ) where
  abbrev Opened : NestingLimit → Phrase BehaviourView
  Opened limit = Preceded (Sign s.LeftParenthesis) (BehaviourPhrase text enabling limit)

  abbrev InBrackets : NestingLimit → Phrase BehaviourView
  InBrackets limit = Followed (Opened limit) (Sign s.RightParenthesis)

  abbrev alone : BehaviourView → Unit {0} → BehaviourView
  alone x end = x

  abbrev Closed : NestingLimit → Phrase BehaviourView
  Closed limit = Sequence alone (InBrackets limit) Ended

  -- a left parenthesis with a behaviour expression after it is unique within each limit
  firm_opened : FirmWithin Opened
  firm_opened = firm_preceded_within _ (BehaviourPhrase text enabling) (firm_expression text enabling)

  -- a behaviour expression in parentheses is unique within each limit
  firm_brackets : FirmWithin InBrackets
  firm_brackets = firm_before_within Opened _ firm_opened

  -- if the parentheses and the end after them fail within the limit inside, so does the operand that begins with `(`
  lost_closed : (limit : NestingLimit) (n : Token) (ts rest : List Token) → IsOfKind n (Sign s.LeftParenthesis) →
      Fails (Closed (inside limit)) (n ∷ ts) rest → Fails (BehaviourPhrase text prefixing limit) (n ∷ ts) rest
  lost_closed limit n ts rest i lost = lost_as (BehaviourPhrase text prefixing limit) (Closed (inside limit)) n (n ∷ ts) ts rest refl
      (λ own remainder more x e p.
      let b = taken_parentheses text remainder more i p.spells e in
      let within : BehaviourPhrase text enabling (inside limit) b.inner x (b.right ∷ remainder) = record {
        ends = b.within;
        nesting = b.depth;
        spells = b.spells;
        quits = rank_none enabling b.within (b.right ∷ remainder) (rank_is remainder b.closes);
        within = within_inside limit b.depth p.nesting b.nesting p.within;
      } in (
        x,
        record {
          front = n ∷ b.inner ++ b.right ∷ [];
          back = [];
          one = x;
          other = tt;
          joined = b.tokens ∙ sym (append-nil (n ∷ b.inner ++ b.right ∷ []));
          first = as_between _ _ (BehaviourPhrase text enabling (inside limit)) n b.right b.inner remainder x i within b.closes;
          second = record { empty = refl; quits = below_calls p.ends remainder p.quits };
          same = refl;
        },
      ))
      lost

  -- if a behaviour expression parses, so does a left parenthesis with it
  opened : (limit : NestingLimit) (n : Token) (ts between : List Token) (x : BehaviourView) → IsOfKind n (Sign s.LeftParenthesis) →
      Parses (BehaviourPhrase text enabling limit) ts x between → Parses (Opened limit) (n ∷ ts) x between
  opened limit n ts between x i f = found_preceded _ (BehaviourPhrase text enabling limit) (n ∷ ts) ts between n x refl i f

  -- if a behaviour expression parses and a right parenthesis follows it, the expression in parentheses parses
  closed : (limit : NestingLimit) (n right : Token) (ts between rest : List Token) (x : BehaviourView) → IsOfKind n (Sign s.LeftParenthesis) →
      Parses (BehaviourPhrase text enabling limit) ts x between → between ≡ right ∷ rest → IsOfKind right (Sign s.RightParenthesis) →
      Parses (InBrackets limit) (n ∷ ts) x rest
  closed limit n right ts between rest x i f e j = found_before (Opened limit) _ (n ∷ ts) between rest right x
      (opened limit n ts between x i f) e j

  -- a parenthesis, a behaviour expression and a parenthesis, which nothing continues, are an operand
  pub found_closed : (nesting_left : ℕ) (n right : Token) (ts others rest : List Token) (x : BehaviourView) → 0 < nesting_left →
      IsOfKind n (Sign s.LeftParenthesis) → Parses (BehaviourPhrase text enabling (Some (nesting_left - 1))) ts x others → others ≡ right ∷ rest →
      IsOfKind right (Sign s.RightParenthesis) → precedence rest < 5 → Parses (BehaviourPhrase text prefixing (Some nesting_left)) (n ∷ ts) x rest
  found_closed nesting_left n right ts others rest x h i f e j q =
      let g = closed (Some (nesting_left - 1)) n right ts others rest x i f e j in
      let b = between _ _ (BehaviourPhrase text enabling (Some (nesting_left - 1))) g.front rest x g.whole in
      record {
        front = g.front;
        joined = g.joined;
        whole = record {
          ends = false;
          nesting = b.within.nesting + 1;
          spells = subst (λ m. Spells text prefixing false (b.within.nesting + 1) m x) (sym b.joined)
              (parentheses b.begins b.within.spells b.ends);
          quits = q;
          within = (let k = b.within.within in omega (arith, h, k));
        };
      }

  -- if the behaviour expression in parentheses fails within the limit inside, so does the operand
  lost_inside : (limit : NestingLimit) (n : Token) (ts rest : List Token) → IsOfKind n (Sign s.LeftParenthesis) →
      Fails (BehaviourPhrase text enabling (inside limit)) ts rest → Fails (BehaviourPhrase text prefixing limit) (n ∷ ts) rest
  lost_inside limit n ts rest i lost =
      lost_closed limit n ts rest i (lost_first alone (InBrackets (inside limit)) Ended (n ∷ ts) rest
      (lost_within (Opened (inside limit)) _ (n ∷ ts) rest
      (lost_preceded _ (BehaviourPhrase text enabling (inside limit)) (n ∷ ts) ts rest n refl i lost)))

  -- if the behaviour expression in parentheses fails, so does the operand
  pub carries_inside : (nesting_left : ℕ) (n : Token) (ts : List Token) → IsOfKind n (Sign s.LeftParenthesis) →
      Carries (BehaviourPhrase text enabling) (nesting_left - 1) ts (BehaviourPhrase text prefixing) nesting_left (n ∷ ts)
  carries_inside nesting_left n ts i = record {
    free = λ rest. lost_inside None n ts rest i;
    limited = λ rest. lost_inside (Some nesting_left) n ts rest i;
    before = n ∷ [];
    joined = refl;
    crowds = (let h = opens_among [] [] n (opens_is i refl) in omega (arith, h));
  }

  -- if the right parenthesis fails, so does the operand
  pub lost_open : (limit : NestingLimit) (n : Token) (ts between rest : List Token) (x : BehaviourView) → IsOfKind n (Sign s.LeftParenthesis) →
      Parses (BehaviourPhrase text enabling limit) ts x between → Fails (OneToken (Sign s.RightParenthesis)) between rest →
      Fails (BehaviourPhrase text prefixing None) (n ∷ ts) rest
  lost_open limit n ts between rest x i f lost =
      lost_closed None n ts rest i (lost_first alone (InBrackets None) Ended (n ∷ ts) rest
      (lost_after (λ said token. said) Opened (OneToken _) limit None firm_opened (n ∷ ts) between rest x
      (opened limit n ts between x i f) lost))

  -- if something continues the parentheses, they are no operand
  pub lost_going_on : (limit : NestingLimit) (n right : Token) (ts between after rest : List Token) (x : BehaviourView) →
      IsOfKind n (Sign s.LeftParenthesis) → Parses (BehaviourPhrase text enabling limit) ts x between → between ≡ right ∷ after →
      IsOfKind right (Sign s.RightParenthesis) → Fails Ended after rest → Fails (BehaviourPhrase text prefixing None) (n ∷ ts) rest
  lost_going_on limit n right ts between after rest x i f e j lost =
      lost_closed None n ts rest i (lost_after alone InBrackets Ended limit None firm_brackets (n ∷ ts) after rest x
      (closed limit n right ts between after x i f e j) lost)

  -- with no nesting left, a left parenthesis is too deep
  pub deep_parenthesis : (nesting_left : ℕ) (n : Token) (ts : List Token) → nesting_left ≡ 0 → IsOfKind n (Sign s.LeftParenthesis) →
      IsTooDeepAt (BehaviourPhrase text prefixing) nesting_left (n ∷ ts) n
  deep_parenthesis nesting_left n ts h i = record {
    after = ts;
    fails = record {
      front = [];
      joined = refl;
      never = λ more own remainder x st e p.
          let b = taken_parentheses text remainder st.0 i p.spells (sym e ∙ st.1) in
          let j = b.nesting in let k = p.within in absurd (omega (arith, h, j, k));
    };
    too_many_open = crowded_here (n ∷ ts) [] ts n nesting_left refl h (opens_is i refl);
    opens = opens_is i refl;
  }
