-- Prefixes: how they parse and fail after the action.
use Rattle.std.proofs.Common.{◌≡◌, ℕ, ◌+◌, ◌-◌, ◌<◌, List, [], ◌∷◌, ◌++◌, Some, None, refl, sym, ◌∙◌, ap, arith, subst}
use Rattle.lotos_text.specs.AstView as t
use Rattle.lotos_text.specs.AstView.{BehaviourView}
use Rattle.lotos_text.specs.Grammar.{IsOfKind, IsAction, prefixing, Spells, prefix}
use Rattle.lotos_text.specs.ParserContracts.{DoesNotStartWith, NestingLimit, Parses, Fails, IsTooDeepAt}
use Rattle.lotos_text.specs.Phrases.{OneToken, BehaviourPhrase}
use Rattle.lotos_text.specs.declared.token.Sign.TheVariants as s
use Rattle.lotos_text.specs.declared.token.Token.{Token}
use Rattle.lotos_text.specs.declared.token.TokenKind.{TokenKind}
use Rattle.lotos_text.specs.declared.token.TokenKind.TheVariants.{Reserved, Sign}
use Rattle.lotos_text.specs.declared.token.Word.TheVariants as w
use Rattle.lotos_text.specs.declared.ast.Action.{Action}
use Rattle.lotos_text.proofs.FirstToken.{tail_same, starts_same}
use Rattle.lotos_text.proofs.Limits.{inside, within_inside, opens_is, opens_among, crowded_here}
use Rattle.lotos_text.proofs.Operands.{taken_internal, taken_prefix}
use Rattle.lotos_text.proofs.ParseErrors.{Carries}

-- if a token of the kind fails, the list does not begin with one
pub lost_not_first : (k : TokenKind) (ts rest : List Token) → Fails (OneToken k) ts rest → DoesNotStartWith k ts
lost_not_first k [] rest l = tt
lost_not_first k (n ∷ ts) rest l = λ i.
    l.never rest (n ∷ []) ts n (starts_same rest) (sym l.joined) (record { joined = refl; is = i })

module _ (text : List ℕ) where
  -- an action, a semicolon and an operand are an operand
  pub found_body : (nesting_left : ℕ) (n semicolon : Token) (act : Action) (ts after rest : List Token) (x z : BehaviourView) → 0 < nesting_left →
      IsAction text n act → ts ≡ semicolon ∷ after → IsOfKind semicolon (Sign s.Semicolon) →
      Parses (BehaviourPhrase text prefixing (Some (nesting_left - 1))) after x rest → z ≡ t.prefix act x →
      Parses (BehaviourPhrase text prefixing (Some nesting_left)) (n ∷ ts) z rest
  found_body nesting_left n semicolon act ts after rest x z h i e j f g = record {
    front = n ∷ semicolon ∷ f.front;
    joined = ap (λ m. n ∷ m) (e ∙ ap (λ m. semicolon ∷ m) f.joined);
    whole = record {
      ends = f.whole.ends;
      nesting = f.whole.nesting + 1;
      spells = subst (λ y. Spells text prefixing f.whole.ends (f.whole.nesting + 1) (n ∷ semicolon ∷ f.front) y) (sym g)
          (prefix i j f.whole.spells);
      quits = f.whole.quits;
      within = (let k = f.whole.within in omega (arith, h, k));
    };
  }

  -- if the semicolon after `i` fails, so does the operand
  pub lost_unseparated : (n : Token) (ts rest : List Token) → IsOfKind n (Reserved w.IWord) → Fails (OneToken (Sign s.Semicolon)) ts rest →
      Fails (BehaviourPhrase text prefixing None) (n ∷ ts) rest
  lost_unseparated n ts rest i l = record {
    front = n ∷ l.front;
    joined = ap (λ m. n ∷ m) l.joined;
    never = λ more own remainder x st e p.
        let b = taken_internal text remainder (l.front ++ more) i p.spells (sym e) in
        l.never more (b.semicolon ∷ []) (b.body ++ remainder) b.semicolon st (sym b.rest)
        (record { joined = refl; is = b.separates });
  }

  -- if the operand after the semicolon fails within the limit inside, so does the prefix
  lost_body : (limit : NestingLimit) (n semicolon : Token) (act : Action) (ts after rest : List Token) → IsAction text n act →
      ts ≡ semicolon ∷ after → IsOfKind semicolon (Sign s.Semicolon) → Fails (BehaviourPhrase text prefixing (inside limit)) after rest →
      Fails (BehaviourPhrase text prefixing limit) (n ∷ ts) rest
  lost_body limit n semicolon act ts after rest i e j l = record {
    front = n ∷ semicolon ∷ l.front;
    joined = ap (λ m. n ∷ m) (e ∙ ap (λ m. semicolon ∷ m) l.joined);
    never = λ more own remainder x st g p.
        let b = taken_prefix text remainder (l.front ++ more) i j p.spells (sym g) p.quits in
        l.never more b.body remainder b.after st (sym (tail_same b.rest)) (record {
          ends = p.ends;
          nesting = b.depth;
          spells = b.spells;
          quits = p.quits;
          within = within_inside limit b.depth p.nesting b.nesting p.within;
        });
  }

  -- if the operand after the semicolon fails, so does the whole
  pub carries_body : (nesting_left : ℕ) (n semicolon : Token) (act : Action) (ts after : List Token) → IsAction text n act →
      ts ≡ semicolon ∷ after → IsOfKind semicolon (Sign s.Semicolon) →
      Carries (BehaviourPhrase text prefixing) (nesting_left - 1) after (BehaviourPhrase text prefixing) nesting_left (n ∷ ts)
  carries_body nesting_left n semicolon act ts after i e j = record {
    free = λ rest. lost_body None n semicolon act ts after rest i e j;
    limited = λ rest. lost_body (Some nesting_left) n semicolon act ts after rest i e j;
    before = n ∷ semicolon ∷ [];
    joined = ap (λ m. n ∷ m) e;
    crowds = (let h = opens_among (n ∷ []) [] semicolon (opens_is j refl) in omega (arith, h));
  }

  -- with no nesting left, the semicolon of a prefix is too deep
  pub deep_prefix : (nesting_left : ℕ) (n semicolon : Token) (act : Action) (ts after : List Token) → nesting_left ≡ 0 → IsAction text n act →
      ts ≡ semicolon ∷ after → IsOfKind semicolon (Sign s.Semicolon) → IsTooDeepAt (BehaviourPhrase text prefixing) nesting_left (n ∷ ts) semicolon
  deep_prefix nesting_left n semicolon act ts after h i e j = record {
    after = after;
    fails = record {
      front = n ∷ [];
      joined = ap (λ m. n ∷ m) e;
      never = λ more own remainder x st g p.
          let b = taken_prefix text remainder st.0 i j p.spells (sym g ∙ ap (λ m. n ∷ m) st.1) p.quits in
          let j = b.nesting in let k = p.within in absurd (omega (arith, h, j, k));
    };
    too_many_open = crowded_here (n ∷ ts) (n ∷ []) after semicolon nesting_left (ap (λ m. n ∷ m) e) h (opens_is j refl);
    opens = opens_is j refl;
  }
