-- Operators, and the gates after `|[`: how they parse and fail.
use Rattle.std.proofs.Common.{◌≡◌, ℕ, List, [], ◌∷◌, ◌++◌, Option, Some, None, refl, sym, ◌∙◌, ap, append_assoc, subst}
use Rattle.lotos_text.specs.AstView as t
use Rattle.lotos_text.specs.Grammar.{IsOfKind, Names, one_name, more_names, Level, parallel, Operator, synchronizes, IsOperator, interleave_sign, full_sign, sync_on_none, sync_on}
use Rattle.lotos_text.specs.OperandStarts.{infix_of}
use Rattle.lotos_text.specs.ParserContracts.{Phrase, DoesNotStartWith, Parses, StartsAlike, Fails}
use Rattle.lotos_text.specs.Phrases.{OneToken, Followed, NameList, OneOperator, SyncList, no_sync, some_sync}
use Rattle.lotos_text.specs.declared.operators.Infix.{Infix}
use Rattle.lotos_text.specs.declared.operators.Infix.TheVariants as i
use Rattle.lotos_text.specs.declared.token.Sign.{Sign as SignKind}
use Rattle.lotos_text.specs.declared.token.Sign.TheVariants as s
use Rattle.lotos_text.specs.declared.token.Token.{Token}
use Rattle.lotos_text.specs.declared.token.TokenKind.{TokenKind}
use Rattle.lotos_text.specs.declared.token.TokenKind.TheVariants.{Identifier, Reserved, Sign}
use Rattle.lotos_text.specs.declared.ast.Placed.{Placed}
use Rattle.lotos_text.proofs.FirstToken.{head_same, tail_same, apart, is_first, not_first, starts_not, starts_after}
use Rattle.lotos_text.proofs.NameLists.{firm_names}
use Rattle.lotos_text.proofs.OneToken.{found_before, lost_unclosed, lost_within, firm_before}

-- the sign of an operator
abbrev pub sign_of : Infix → SignKind
sign_of i.Enable = s.Enable
sign_of i.Disable = s.Disable
sign_of i.Interleave = s.Interleave
sign_of i.Full = s.Full
sign_of i.Sync = s.LeftSync
sign_of i.Choice = s.Choice

abbrev Means : TokenKind → Option Infix → Type 0
Means k None = Unit {0}
Means k (Some m) = k ≡ Sign (sign_of m)

-- the operator that begins with a sign, if one does, has that sign
means_sign : (x : SignKind) → Means (Sign x) (infix_of (Sign x))
means_sign s.Enable = refl
means_sign s.Disable = refl
means_sign s.Interleave = refl
means_sign s.Full = refl
means_sign s.LeftSync = refl
means_sign s.Choice = refl
means_sign _ = tt

-- the operator that begins with a token of a kind, if one does, has a sign of that kind
means : (k : TokenKind) → Means k (infix_of k)
means Identifier = tt
means (Reserved _) = tt
means (Sign x) = means_sign x

-- a token that is an operator's sign is of that sign
pub is_mark : (n : Token) (m : Infix) → infix_of n.kind ≡ Some m → IsOfKind n (Sign (sign_of m))
is_mark n m e = record { same = subst (λ x. Means n.kind x) e (means n.kind) }

module _ (text : List ℕ) where
  -- a sign that is an operator by itself
  pub found_sign : {l : Level} {how : Operator} (n : Token) (ts : List Token) → IsOperator text l (n ∷ []) how →
      Parses (OneOperator text l) (n ∷ ts) how ts
  found_sign n ts i = record { front = n ∷ []; joined = refl; whole = record { operates = i } }

  -- `|[` and the gates after it are an operator
  pub found_sync : (n : Token) (ts rest : List Token) (names : List Placed) → IsOfKind n (Sign s.LeftSync) →
      Parses (SyncList text) ts names rest → Parses (OneOperator text parallel) (n ∷ ts) (synchronizes (t.gates names)) rest
  found_sync n ts rest names i f = record {
    front = n ∷ f.front;
    joined = ap (λ m. n ∷ m) f.joined;
    whole = record { operates = of_list i f.whole };
  }
    where
      of_list : {n : Token} {own remainder : List Token} {names : List Placed} → IsOfKind n (Sign s.LeftSync) →
          SyncList text own names remainder → IsOperator text parallel (n ∷ own) (synchronizes (t.gates names))
      of_list i (no_sync j k) = sync_on_none i j k
      of_list i (some_sync d j k) = sync_on i d j k

  -- what follows the `|[` of an operator
  record Listed (more remainder : List Token) : Type 0 where
    pub own : List Token
    pub names : List Placed
    pub joined : more ≡ own ++ remainder
    pub list : SyncList text own names remainder

  -- an operator that begins with `|[` goes on with names or none, `]` and `|`
  listed : {n : Token} {own more : List Token} {how : Operator} (remainder : List Token) → IsOfKind n (Sign s.LeftSync) →
      IsOperator text parallel own how → n ∷ more ≡ own ++ remainder → Listed more remainder
  listed remainder i (interleave_sign j) e = absurd (apart i j (head_same e) (λ e. cc))
  listed remainder i (full_sign j) e = absurd (apart i j (head_same e) (λ e. cc))
  listed remainder i (sync_on_none {right = right} {bar = bar} j k l) e = record {
    own = right ∷ bar ∷ [];
    names = [];
    joined = tail_same e;
    list = no_sync k l;
  }
  listed remainder i (sync_on {right = right} {bar = bar} {ts = ts} {names = names} j d k l) e = record {
    own = ts ++ right ∷ bar ∷ [];
    names = names;
    joined = tail_same e;
    list = some_sync d k l;
  }

  -- if the gates after `|[` fail, so does the operator
  pub lost_sync : (n : Token) (ts rest : List Token) → IsOfKind n (Sign s.LeftSync) → Fails (SyncList text) ts rest →
      Fails (OneOperator text parallel) (n ∷ ts) rest
  lost_sync n ts rest i l = record {
    front = n ∷ l.front;
    joined = ap (λ m. n ∷ m) l.joined;
    never = λ more own remainder how st e p.
        let b = listed remainder i p.operates e in
        l.never more b.own remainder b.names st b.joined b.list;
  }

  -- the list itself

  -- `]` and `|` are a list of no gates
  pub found_no_sync : (ts between rest : List Token) (right bar : Token) → ts ≡ right ∷ between → IsOfKind right (Sign s.RightBracket) →
      between ≡ bar ∷ rest → IsOfKind bar (Sign s.Bar) → Parses (SyncList text) ts [] rest
  found_no_sync ts between rest right bar e i f j = record {
    front = right ∷ bar ∷ [];
    joined = e ∙ ap (λ m. right ∷ m) f;
    whole = no_sync i j;
  }

  -- names, `]` and `|` are a list of those gates
  pub found_some_sync : (ts between after rest : List Token) (right bar : Token) (names : List Placed) →
      Parses (NameList text) ts names between → between ≡ right ∷ after → IsOfKind right (Sign s.RightBracket) → after ≡ bar ∷ rest →
      IsOfKind bar (Sign s.Bar) → Parses (SyncList text) ts names rest
  found_some_sync ts between after rest right bar names f e i g j = record {
    front = f.front ++ right ∷ bar ∷ [];
    joined = f.joined ∙ ap (λ m. f.front ++ m) (e ∙ ap (λ m. right ∷ m) g) ∙ sym (append_assoc f.front (right ∷ bar ∷ []) rest);
    whole = some_sync f.whole.names i j;
  }

  -- no list of names begins with `]`
  names_begin : {n : Token} {own more : List Token} {names : List Placed} (remainder : List Token) → Names text own names →
      IsOfKind n (Sign s.RightBracket) → n ∷ more ≡ own ++ remainder → ⊥
  names_begin remainder (one_name j) i e = apart i j (head_same e) (λ e. cc)
  names_begin remainder (more_names j k d) i e = apart i j (head_same e) (λ e. cc)

  -- if `|` fails after `]`, so does the list
  pub lost_no_bar : (ts between rest : List Token) (right : Token) → ts ≡ right ∷ between → IsOfKind right (Sign s.RightBracket) →
      Fails (OneToken (Sign s.Bar)) between rest → Fails (SyncList text) ts rest
  lost_no_bar ts between rest right e i l = record {
    front = right ∷ l.front;
    joined = e ∙ ap (λ m. right ∷ m) l.joined;
    never = λ more own remainder names st g p.
        never right (l.front ++ more) i
        (λ bar ms h j. l.never more (bar ∷ []) ms bar st h (record { joined = refl; is = j })) g p;
  }
    where
      never : (right : Token) (more : List Token) {own remainder : List Token} {names : List Placed} →
          IsOfKind right (Sign s.RightBracket) →
          ((bar : Token) (ms : List Token) → more ≡ bar ∷ ms → IsOfKind bar (Sign s.Bar) → ⊥) → right ∷ more ≡ own ++ remainder →
          SyncList text own names remainder → ⊥
      never right more i none e (no_sync {bar = bar} {rest = remainder} j k) = none bar remainder (tail_same e) k
      never right more i none e (some_sync {right = other} {bar = bar} {ts = ts} {rest = remainder} d j k) =
          names_begin (other ∷ bar ∷ remainder) d i (e ∙ append_assoc ts (other ∷ bar ∷ []) remainder)

  -- the three parts of a list that is not empty

  abbrev Closed : Phrase (List Placed)
  Closed = Followed (NameList text) (Sign s.RightBracket)

  abbrev Barred : Phrase (List Placed)
  Barred = Followed Closed (Sign s.Bar)

  -- if names, `]` and `|` fail and the next token is not `]`, so does the list
  lost_barred : (ts rest : List Token) → DoesNotStartWith (Sign s.RightBracket) ts → Fails Barred ts rest → Fails (SyncList text) ts rest
  lost_barred ts rest without l = record {
    front = l.front;
    joined = l.joined;
    never = λ more own remainder names st g p.
        let alike : StartsAlike ts (l.front ++ more) =
        subst (λ m. StartsAlike m (l.front ++ more)) (sym l.joined) (starts_after l.front rest more st) in
        never (l.front ++ more) (starts_not _ ts (l.front ++ more) alike without)
        (λ own remainder names h b. l.never more own remainder names st h b) g p;
  }
    where
      never : (more : List Token) {own remainder : List Token} {names : List Placed} → DoesNotStartWith (Sign s.RightBracket) more →
          ((own remainder : List Token) (names : List Placed) → more ≡ own ++ remainder → Barred own names remainder → ⊥) →
          more ≡ own ++ remainder → SyncList text own names remainder → ⊥
      never more without none e (no_sync {right = right} {bar = bar} {rest = remainder} j k) =
          not_first _ more (bar ∷ remainder) without j e
      never more without none e (some_sync {right = right} {bar = bar} {ts = ts} {rest = remainder} {names = names} d j k) =
          none (ts ++ right ∷ bar ∷ []) remainder names e (record {
            front = ts ++ right ∷ [];
            back = bar ∷ [];
            one = names;
            other = bar;
            joined = sym (append_assoc ts (right ∷ []) (bar ∷ []));
            first = record {
              front = ts;
              back = right ∷ [];
              one = names;
              other = right;
              joined = refl;
              first = record { names = d; quits = is_first j (λ e. cc) };
              second = record { joined = refl; is = j };
              same = refl;
            };
            second = record { joined = refl; is = k };
            same = refl;
          })

  -- if the names fail and the next token is not `]`, so does the list
  pub lost_listed : (ts rest : List Token) → DoesNotStartWith (Sign s.RightBracket) ts → Fails (NameList text) ts rest →
      Fails (SyncList text) ts rest
  lost_listed ts rest without l =
      lost_barred ts rest without (lost_within Closed _ ts rest (lost_within (NameList text) _ ts rest l))

  -- if `]` fails after the names, so does the list
  pub lost_unbracketed : (ts between rest : List Token) (names : List Placed) → DoesNotStartWith (Sign s.RightBracket) ts →
      Parses (NameList text) ts names between → Fails (OneToken (Sign s.RightBracket)) between rest → Fails (SyncList text) ts rest
  lost_unbracketed ts between rest names without f l =
      lost_barred ts rest without (lost_within Closed _ ts rest
      (lost_unclosed (NameList text) _ (firm_names text) ts between rest names f l))

  -- if `|` fails after the names and `]`, so does the list
  pub lost_unbarred : (ts between after rest : List Token) (right : Token) (names : List Placed) →
      DoesNotStartWith (Sign s.RightBracket) ts → Parses (NameList text) ts names between → between ≡ right ∷ after → IsOfKind right (Sign s.RightBracket) →
      Fails (OneToken (Sign s.Bar)) after rest → Fails (SyncList text) ts rest
  lost_unbarred ts between after rest right names without f e i l =
      lost_barred ts rest without (lost_unclosed Closed _ (firm_before (NameList text) _ (firm_names text)) ts after rest names
      (found_before (NameList text) _ ts between after right names f e i) l)
