-- Phrases of one token, and of none: how they parse and fail, and that each is unique.
use Rattle.std.proofs.Common.{◌≡◌, ℕ, List, [], ◌∷◌, ◌++◌, refl, sym, ◌∙◌, ap, subst}
use Rattle.lotos_text.specs.Grammar.{IsOfKind, located_name, IsFunctionality, exits, never_exits}
use Rattle.lotos_text.specs.ParserContracts.{Phrase, DoesNotStartWith, Parses, Fails, StartsAlike}
use Rattle.lotos_text.specs.Phrases.{OneToken, Preceded, Followed, OneName, OneFunctionality, EndOfInput}
use Rattle.lotos_text.specs.declared.token.Token.{Token}
use Rattle.lotos_text.specs.declared.token.TokenKind.{TokenKind}
use Rattle.lotos_text.specs.declared.token.TokenKind.TheVariants.{Identifier, Reserved}
use Rattle.lotos_text.specs.declared.token.Word.TheVariants as w
use Rattle.lotos_text.specs.declared.ast.Functionality.{Functionality}
use Rattle.lotos_text.specs.declared.ast.Placed.{Placed}
use Rattle.lotos_text.proofs.FirstToken.{head_same, tail_same, apart, not_first, starts_not, starts_after}
use Rattle.lotos_text.proofs.Sequences.{Firm, found_then, firm_then, lost_first, lost_second}

-- two lists that each begin with a phrase of one token
same_token : (a b r q : List Token) (n m : Token) → a ≡ n ∷ [] → b ≡ m ∷ [] → a ++ r ≡ b ++ q → n ∷ r ≡ m ∷ q
same_token a b r q n m i j e = sym (ap (λ l. l ++ r) i) ∙ e ∙ ap (λ l. l ++ q) j

-- the first token of a list that begins with a phrase of one token
its_first : (own ts remainder : List Token) (n : Token) → ts ≡ own ++ remainder → own ≡ n ∷ [] → ts ≡ n ∷ remainder
its_first own ts remainder n e i = e ∙ ap (λ l. l ++ remainder) i

-- a list that begins with a token of the kind parses as that token
pub found_one : (k : TokenKind) (ts rest : List Token) (n : Token) → ts ≡ n ∷ rest → IsOfKind n k → Parses (OneToken k) ts n rest
found_one k ts rest n e i = record { front = n ∷ []; joined = e; whole = record { joined = refl; is = i } }

-- if the next token is not of the kind, the token fails there
pub lost_one : (k : TokenKind) (ts : List Token) → DoesNotStartWith k ts → Fails (OneToken k) ts ts
lost_one k ts h = record {
  front = [];
  joined = refl;
  never = λ more own remainder said st e p. not_first k more remainder (starts_not k ts more st h) p.is
      (its_first own more remainder said e p.joined);
}

-- a token of a kind is the only one
pub firm_one : (k : TokenKind) → Firm (OneToken k)
firm_one k a b r more q x y p st o e =
    let h = same_token a b more q x y p.joined o.joined e in
    record { tokens = (let i = p.joined in let j = o.joined in let l = head_same h in cc); said = head_same h; rest = tail_same h }

-- one token is one functionality
pub same_functionality : {n m : Token} {x y : Functionality} → IsFunctionality n x → IsFunctionality m y → n ≡ m → x ≡ y
same_functionality (exits i) (exits j) e = refl
same_functionality (exits i) (never_exits j) e = absurd (apart i j e (λ e. cc))
same_functionality (never_exits i) (exits j) e = absurd (apart i j e (λ e. cc))
same_functionality (never_exits i) (never_exits j) e = refl

-- a functionality is the only one
pub firm_declared : Firm OneFunctionality
firm_declared a b r more q x y p st o e =
    let h = same_token a b more q p.token o.token p.joined o.joined e in
    record {
      tokens = (let i = p.joined in let j = o.joined in let l = head_same h in cc);
      said = same_functionality p.declares o.declares (head_same h);
      rest = tail_same h;
    }

-- a list that begins with a token of a functionality parses as that functionality
pub found_declared : (ts rest : List Token) (n : Token) (x : Functionality) → ts ≡ n ∷ rest → IsFunctionality n x →
    Parses OneFunctionality ts x rest
found_declared ts rest n x e d = record { front = n ∷ []; joined = e; whole = record { token = n; joined = refl; declares = d } }

-- if the next token is not `exit` and `noexit` fails there, so does the functionality
pub lost_declared : (ts rest : List Token) → DoesNotStartWith (Reserved w.ExitWord) ts → Fails (OneToken (Reserved w.NoexitWord)) ts rest →
    Fails OneFunctionality ts rest
lost_declared ts rest h l = record {
  front = l.front;
  joined = l.joined;
  never = λ more own remainder said st e p.
      let alike : StartsAlike ts (l.front ++ more) = subst (λ m. StartsAlike m (l.front ++ more)) (sym l.joined)
      (starts_after l.front rest more st) in
      neither p.declares (not_first _ (l.front ++ more) remainder (starts_not _ ts (l.front ++ more) alike h))
      (λ i. l.never more own remainder p.token st e (record { joined = p.joined; is = i }))
      (its_first own (l.front ++ more) remainder p.token e p.joined);
}
  where
    neither : {n : Token} {x : Functionality} {E : Type 0} → IsFunctionality n x → (IsOfKind n (Reserved w.ExitWord) → E → ⊥) →
        (IsOfKind n (Reserved w.NoexitWord) → ⊥) → E → ⊥
    neither (exits i) h g e = h i e
    neither (never_exits i) h g e = g i

-- the empty list parses as the end of the input
pub found_nothing : Parses EndOfInput [] tt []
found_nothing = record { front = []; joined = refl; whole = record { empty = refl; last = refl } }

-- if there is a next token, the end of the input fails
pub lost_nothing : (n : Token) (ts : List Token) → Fails EndOfInput (n ∷ ts) (n ∷ ts)
lost_nothing n ts = record {
  front = [];
  joined = refl;
  never = λ more own remainder said st e p. let i = st.1 in let j = p.empty in let k = p.last in let l : more ≡ [] = e ∙ ap
      (λ l. l ++ remainder) j ∙ k in cc;
}

-- if tokens are left, the end of the input fails
pub lost_end : (ts : List Token) → (ts ≡ [] → ⊥) → Fails EndOfInput ts ts
lost_end [] h = absurd (h refl)
lost_end (n ∷ ts) h = lost_nothing n ts

-- a phrase after a token

module _ {A : Type 0} (k : TokenKind) (P : Phrase A) where
  -- the token, and after it the phrase
  pub found_preceded : (ts between rest : List Token) (n : Token) (x : A) → ts ≡ n ∷ between → IsOfKind n k → Parses P between x rest →
      Parses (Preceded k P) ts x rest
  found_preceded ts between rest n x e i f = found_then (λ token said. said) (OneToken k) P ts between rest n x x
      (found_one k ts between n e i) f refl

  -- the token fails, and so does the token with the phrase after it
  pub lost_before : (ts rest : List Token) → Fails (OneToken k) ts rest → Fails (Preceded k P) ts rest
  lost_before ts rest l = lost_first (λ token said. said) (OneToken k) P ts rest l

  -- the token parses, and the phrase after it fails
  pub lost_preceded : (ts between rest : List Token) (n : Token) → ts ≡ n ∷ between → IsOfKind n k → Fails P between rest →
      Fails (Preceded k P) ts rest
  lost_preceded ts between rest n e i l = lost_second (λ token said. said) (OneToken k) P (firm_one k) ts between rest n
      (found_one k ts between n e i) l

  -- a token with a phrase after it is unique, if the phrase is
  pub firm_preceded : Firm P → Firm (Preceded k P)
  firm_preceded firm = firm_then (λ token said. said) (OneToken k) P (firm_one k) firm

  -- the phrase after a token, put together
  pub remainder : (n : Token) (own rest : List Token) (x : A) → IsOfKind n k → P own x rest → Preceded k P (n ∷ own) x rest
  remainder n own rest x i p = record {
    front = n ∷ [];
    back = own;
    one = n;
    other = x;
    joined = refl;
    first = record { joined = refl; is = i };
    second = p;
    same = refl;
  }

  -- the token and the phrase, taken apart
  pub record Uncovered (own : List Token) (x : A) (rest : List Token) : Type 0 where
    pub token : Token
    pub inner : List Token
    pub joined : own ≡ token ∷ inner
    pub is : IsOfKind token k
    pub within : P inner x rest

  -- a phrase after a token has a token of the kind first, and then the tokens of the phrase
  pub uncover : (own rest : List Token) (x : A) → Preceded k P own x rest → Uncovered own x rest
  uncover own rest x t = record {
    token = t.one;
    inner = t.back;
    joined = t.joined ∙ ap (λ m. m ++ t.back) t.first.joined;
    is = t.first.is;
    within = subst (λ y. P t.back y rest) (sym t.same) t.second;
  }

-- a phrase before a token

module _ {A : Type 0} (P : Phrase A) (k : TokenKind) where
  -- the phrase, and after it the token
  pub found_before : (ts between rest : List Token) (n : Token) (x : A) → Parses P ts x between → between ≡ n ∷ rest → IsOfKind n k →
      Parses (Followed P k) ts x rest
  found_before ts between rest n x f e i = found_then (λ said token. said) P (OneToken k) ts between rest x n x f
      (found_one k between rest n e i) refl

  -- the phrase parses, and the token after it fails
  pub lost_unclosed : Firm P → (ts between rest : List Token) (x : A) → Parses P ts x between → Fails (OneToken k) between rest →
      Fails (Followed P k) ts rest
  lost_unclosed firm ts between rest x f l = lost_second (λ said token. said) P (OneToken k) firm ts between rest x f l

  -- the phrase before the token fails
  pub lost_within : (ts rest : List Token) → Fails P ts rest → Fails (Followed P k) ts rest
  lost_within ts rest l = lost_first (λ said token. said) P (OneToken k) ts rest l

  -- a phrase with a token after it is unique, if the phrase is
  pub firm_before : Firm P → Firm (Followed P k)
  firm_before firm = firm_then (λ said token. said) P (OneToken k) firm (firm_one k)

module _ (text : List ℕ) where
  -- a list that begins with an identifier parses as its name
  pub found_name : (ts rest : List Token) (n : Token) (x : Placed) → ts ≡ n ∷ rest → IsOfKind n Identifier → x ≡ located_name text n →
      Parses (OneName text) ts x rest
  found_name ts rest n x e i h = record { front = n ∷ []; joined = e; whole = record { token = n; joined = refl; is = i; same = h } }

  -- if the identifier fails, so does the name
  pub lost_name : (ts rest : List Token) → Fails (OneToken Identifier) ts rest → Fails (OneName text) ts rest
  lost_name ts rest l = record {
    front = l.front;
    joined = l.joined;
    never = λ more own remainder said st e p. l.never more own remainder p.token st e (record { joined = p.joined; is = p.is });
  }

  -- a name is the only one
  pub firm_name : Firm (OneName text)
  firm_name a b r more q x y p st o e =
      let h = same_token a b more q p.token o.token p.joined o.joined e in
      record {
        tokens = (let i = p.joined in let j = o.joined in let l = head_same h in cc);
        said = p.same ∙ ap (located_name text) (head_same h) ∙ sym o.same;
        rest = tail_same h;
      }
