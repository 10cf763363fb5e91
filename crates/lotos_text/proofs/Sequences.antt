-- How two phrases in sequence parse and fail, from how each of them does.
use Rattle.std.proofs.Common.{◌≡◌, List, [], ◌∷◌, ◌++◌, refl, sym, ◌∙◌, ap, append_assoc, subst}
use Rattle.lotos_text.specs.Grammar.{IsOfKind}
use Rattle.lotos_text.specs.ParserContracts.{Phrase, Parses, StartsAlike, Fails}
use Rattle.lotos_text.specs.Phrases.{Sequence, Preceded, Followed}
use Rattle.lotos_text.specs.declared.token.Token.{Token}
use Rattle.lotos_text.specs.declared.token.TokenKind.{TokenKind}
use Rattle.lotos_text.proofs.FirstToken.{starts_after}

pub record Same {A : Type 0} (a b : List Token) (x y : A) (r q : List Token) : Type 0 where
  pub tokens : a ≡ b
  pub said : x ≡ y
  pub rest : r ≡ q

-- A phrase that is complete before one list stays unique before each list that starts alike.
abbrev pub Firm : {A : Type 0} → Phrase A → Type 0
Firm {A} P = (a b r more q : List Token) (x y : A) → P a x r → StartsAlike r more → P b y q → a ++ more ≡ b ++ q → Same a b x y more q

-- If each spelling as P of tokens that begin with the given one is a spelling as Q, and Q fails, so does P.
pub lost_as : {A B : Type 0} (P : Phrase A) (Q : Phrase B) (n : Token) (ts others rest : List Token) → ts ≡ n ∷ others →
    ((own remainder more : List Token) (x : A) → own ++ remainder ≡ n ∷ more → P own x remainder → (y : B) × Q own y remainder) →
    Fails Q ts rest → Fails P ts rest
lost_as P Q n ts others rest begins down l = record {
  front = l.front;
  joined = l.joined;
  never = λ more own remainder said st e p.
      let alike : StartsAlike (n ∷ others) (l.front ++ more) = subst (λ m. StartsAlike m (l.front ++ more)) (sym l.joined ∙ begins)
      (starts_after l.front rest more st) in
      let q = down own remainder alike.0 said (sym e ∙ alike.1) p in
      l.never more own remainder q.0 st e q.1;
}

module _ {A B C : Type 0} (together : A → B → C) (P : Phrase A) (Q : Phrase B) where
  -- both phrases parse
  pub found_then : (ts between rest : List Token) (x : A) (y : B) (z : C) → Parses P ts x between → Parses Q between y rest →
      z ≡ together x y → Parses (Sequence together P Q) ts z rest
  found_then ts between rest x y z f g e = record {
    front = f.front ++ g.front;
    joined = f.joined ∙ ap (λ m. f.front ++ m) g.joined ∙ sym (append_assoc f.front g.front rest);
    whole = record {
      front = f.front;
      back = g.front;
      one = x;
      other = y;
      joined = refl;
      first = subst (λ m. P f.front x m) g.joined f.whole;
      second = g.whole;
      same = e;
    };
  }

  -- the first phrase fails
  pub lost_first : (ts rest : List Token) → Fails P ts rest → Fails (Sequence together P Q) ts rest
  lost_first ts rest l = record {
    front = l.front;
    joined = l.joined;
    never = λ more own remainder said st e t.
        l.never more t.front (t.back ++ remainder) t.one st
        (e ∙ ap (λ m. m ++ remainder) t.joined ∙ append_assoc t.front t.back remainder) t.first;
  }

  -- the first phrase parses, and the second fails
  pub lost_second : Firm P → (ts between rest : List Token) (x : A) → Parses P ts x between → Fails Q between rest →
      Fails (Sequence together P Q) ts rest
  lost_second firm ts between rest x f l = record {
    front = f.front ++ l.front;
    joined = f.joined ∙ ap (λ m. f.front ++ m) l.joined ∙ sym (append_assoc f.front l.front rest);
    never = λ more own remainder said st e t.
        let one = firm f.front t.front (l.front ++ rest) (l.front ++ more) (t.back ++ remainder) x t.one
        (subst (λ m. P f.front x m) l.joined f.whole) (starts_after l.front rest more st) t.first
        (sym (append_assoc f.front l.front more) ∙ e ∙ ap (λ m. m ++ remainder) t.joined ∙ append_assoc t.front t.back remainder) in
        l.never more t.back remainder t.other st one.rest t.second;
  }

  -- if each phrase is unique, so are both together
  pub firm_then : Firm P → Firm Q → Firm (Sequence together P Q)
  firm_then firm_p firm_q a b r more q x y t st u e =
      let e' : t.front ++ (t.back ++ more) ≡ u.front ++ (u.back ++ q) =
      sym (append_assoc t.front t.back more) ∙ sym (ap (λ m. m ++ more) t.joined) ∙ e ∙ ap (λ m. m ++ q) u.joined
      ∙ append_assoc u.front u.back q in
      let one = firm_p t.front u.front (t.back ++ r) (t.back ++ more) (u.back ++ q) t.one u.one t.first
      (starts_after t.back r more st) u.first e' in
      let other = firm_q t.back u.back r more q t.other u.other t.second st u.second one.rest in
      record {
        tokens = (let i = t.joined in let j = u.joined in let k = one.tokens in let l = other.tokens in cc);
        said = (let i = t.same in let j = u.same in let k = one.said in let l = other.said in cc);
        rest = other.rest;
      }

-- a phrase between two tokens, as one list of tokens
pub record Between {A : Type 0} (opens closes : TokenKind) (P : Phrase A) (own : List Token) (said : A)
    (remainder : List Token) : Type 0 where
  pub left : Token
  pub inner : List Token
  pub right : Token
  pub joined : own ≡ left ∷ inner ++ right ∷ []
  pub begins : IsOfKind left opens
  pub within : P inner said (right ∷ remainder)
  pub ends : IsOfKind right closes

-- the phrase between two tokens, taken apart
pub between : {A : Type 0} (opens closes : TokenKind) (P : Phrase A) (own remainder : List Token) (said : A) →
    Followed (Preceded opens P) closes own said remainder → Between opens closes P own said remainder
between opens closes P own remainder said t = record {
  left = t.first.one;
  inner = t.first.back;
  right = t.other;
  joined = t.joined ∙ ap (λ m. m ++ t.back) (t.first.joined ∙ ap (λ m. m ++ t.first.back) t.first.first.joined) ∙ ap
      (λ m. (t.first.one ∷ t.first.back) ++ m) t.second.joined;
  begins = t.first.first.is;
  within = subst (λ x. P t.first.back x (t.other ∷ remainder)) (sym (t.same ∙ t.first.same))
      (subst (λ m. P t.first.back t.first.other (m ++ remainder)) t.second.joined t.first.second);
  ends = t.second.is;
}

-- the phrase between two tokens, put together
pub as_between : {A : Type 0} (opens closes : TokenKind) (P : Phrase A) (left right : Token) (inner remainder : List Token) (said : A) →
    IsOfKind left opens → P inner said (right ∷ remainder) → IsOfKind right closes → Followed (Preceded opens P) closes
    (left ∷ inner ++ right ∷ []) said remainder
as_between opens closes P left right inner remainder said i p j = record {
  front = left ∷ inner;
  back = right ∷ [];
  one = said;
  other = right;
  joined = refl;
  first = record {
    front = left ∷ [];
    back = inner;
    one = left;
    other = said;
    joined = refl;
    first = record { joined = refl; is = i };
    second = p;
    same = refl;
  };
  second = record { joined = refl; is = j };
  same = refl;
}
