-- Calls: what is parsed after the name of a process, and how that fails.
use Rattle.std.proofs.Common.{◌≡◌, ℕ, ◌<◌, false, List, [], ◌∷◌, ◌++◌, Some, None, inl, inr, refl, sym, ap, subst}
use Rattle.std.proofs.lemmas.List.{append-nil}
use Rattle.lotos_text.specs.AstView as t
use Rattle.lotos_text.specs.AstView.{BehaviourView}
use Rattle.lotos_text.specs.Grammar.{IsOfKind, located_name, prefixing, Spells, call}
use Rattle.lotos_text.specs.Follow.{precedence}
use Rattle.lotos_text.specs.ParserContracts.{Phrase, DoesNotStartWith, Parses, StartsAlike, Fails}
use Rattle.lotos_text.specs.Phrases.{Sequence, OptionalGates, BehaviourPhrase}
use Rattle.lotos_text.specs.declared.token.Sign.TheVariants as s
use Rattle.lotos_text.specs.declared.token.Token.{Token}
use Rattle.lotos_text.specs.declared.token.TokenKind.TheVariants.{Identifier, Sign}
use Rattle.lotos_text.specs.declared.ast.Placed.{Placed}
use Rattle.lotos_text.proofs.OperandEnds.{Ended}
use Rattle.lotos_text.proofs.FirstToken.{not_first, starts_not, starts_after}
use Rattle.lotos_text.proofs.Limits.{within_none}
use Rattle.lotos_text.proofs.NameLists.{firm_gates}
use Rattle.lotos_text.proofs.Operands.{below_calls, not_bracket, taken_name}
use Rattle.lotos_text.proofs.Sequences.{lost_first, lost_second}

module _ (text : List ℕ) where
  -- a name and its gates, which nothing continues, are a call
  pub found_call : (nesting_left : ℕ) (n : Token) (ts rest : List Token) (name : Placed) (names : List Placed) → IsOfKind n Identifier →
      name ≡ located_name text n → Parses (OptionalGates text) ts names rest → precedence rest < 5 →
      Parses (BehaviourPhrase text prefixing (Some nesting_left)) (n ∷ ts) (t.call name names) rest
  found_call nesting_left n ts rest name names i e f h = record {
    front = n ∷ f.front;
    joined = ap (λ m. n ∷ m) f.joined;
    whole = record {
      ends = false;
      nesting = 0;
      spells = subst (λ m. Spells text prefixing false 0 (n ∷ f.front) (t.call m names)) (sym e) (call i f.whole.gates);
      quits = h;
      within = within_none (Some nesting_left);
    };
  }

  abbrev alone : List Placed → Unit {0} → List Placed
  alone names end = names

  -- gates, with which nothing goes on
  abbrev Listed : Phrase (List Placed)
  Listed = Sequence alone (OptionalGates text) Ended

  -- if what follows the name of a call fails, so does the call
  lost_listed : (n : Token) (ts rest : List Token) → IsOfKind n Identifier → DoesNotStartWith (Sign s.Semicolon) ts → Fails Listed ts rest →
      Fails (BehaviourPhrase text prefixing None) (n ∷ ts) rest
  lost_listed n ts rest i without l = record {
    front = n ∷ l.front;
    joined = ap (λ m. n ∷ m) l.joined;
    never = λ more own remainder x st e p.
        let alike : StartsAlike ts (l.front ++ more) =
        subst (λ m. StartsAlike m (l.front ++ more)) (sym l.joined) (starts_after l.front rest more st) in
        let none = starts_not (Sign s.Semicolon) ts (l.front ++ more) alike without in
        let quits = below_calls p.ends remainder p.quits in
        elim (taken_name text remainder (l.front ++ more) i p.spells (sym e)) [
          | inl c ↦ l.never more c.listed remainder c.names st (sym c.rest) (record {
            front = c.listed;
            back = [];
            one = c.names;
            other = tt;
            joined = sym (append-nil c.listed);
            first = record { gates = c.gates; quits = λ e. not_bracket remainder quits };
            second = record { empty = refl; quits = quits };
            same = refl;
          })
          | inr f ↦ not_first (Sign s.Semicolon) (l.front ++ more) (f.body ++ remainder) none f.separates (sym f.rest)
        ];
  }

  -- if the gates fail, so does the call
  pub lost_gates : (n : Token) (ts rest : List Token) → IsOfKind n Identifier → DoesNotStartWith (Sign s.Semicolon) ts →
      Fails (OptionalGates text) ts rest → Fails (BehaviourPhrase text prefixing None) (n ∷ ts) rest
  lost_gates n ts rest i without l = lost_listed n ts rest i without (lost_first alone (OptionalGates text) Ended ts rest l)

  -- if something continues the call, it is no operand
  pub lost_called : (n : Token) (ts between rest : List Token) (names : List Placed) → IsOfKind n Identifier →
      DoesNotStartWith (Sign s.Semicolon) ts → Parses (OptionalGates text) ts names between → Fails Ended between rest →
      Fails (BehaviourPhrase text prefixing None) (n ∷ ts) rest
  lost_called n ts between rest names i without f l =
      lost_listed n ts rest i without (lost_second alone (OptionalGates text) Ended (firm_gates text) ts between rest names f l)
