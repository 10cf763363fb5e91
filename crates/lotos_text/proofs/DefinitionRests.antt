-- A definition after its first keyword: how it parses and fails.
use Rattle.std.proofs.Common.{◌≡◌, ℕ, List, [], ◌∷◌, ◌++◌, Some, None, refl, sym, ◌∙◌, ap, append_assoc, arith}
use Rattle.lotos_text.specs.Grammar.{IsOfKind, enabling, DefinitionKind, defining_sign, closing_word}
use Rattle.lotos_text.specs.ParserContracts.{Phrase, NestingLimit, Parses, Fails}
use Rattle.lotos_text.specs.Phrases.{Sequence, OneToken, BehaviourPhrase, HeaderValue, HeaderPhrase, BodyPhrase, WherePhrase, make_definition, DefinitionRest}
use Rattle.lotos_text.specs.AstView.{BehaviourView, DefinitionView, DefinitionListView}
use Rattle.lotos_text.specs.declared.token.Token.{Token}
use Rattle.lotos_text.proofs.Definitions.{firm_inner}
use Rattle.lotos_text.proofs.Headers.{firm_header}
use Rattle.lotos_text.proofs.PhraseUniqueness.{FirmWithin, firm_always, firm_then_within, firm_preceded_within, firm_expression, lost_after}
use Rattle.lotos_text.proofs.OneToken.{found_preceded, lost_before, lost_preceded, found_before, lost_within}
use Rattle.lotos_text.proofs.Sequences.{found_then, lost_first, lost_second}
use Rattle.lotos_text.proofs.ParseErrors.{Carries}

abbrev bodied : HeaderValue → BehaviourView → HeaderValue × BehaviourView
bodied heading body = (heading, body)

module _ (text : List ℕ) (what : DefinitionKind) where
  -- the header and the body
  abbrev Outer : NestingLimit → Phrase (HeaderValue × BehaviourView)
  Outer limit = Sequence bodied (HeaderPhrase text) (BodyPhrase text what limit)

  -- the header, the body and the inner definitions
  abbrev Open : NestingLimit → Phrase DefinitionView
  Open limit = Sequence make_definition (Outer limit) (WherePhrase text limit)

  -- the header and the body are unique within each limit
  firm_outer : FirmWithin Outer
  firm_outer = firm_then_within bodied (λ _. HeaderPhrase text) (BodyPhrase text what) (firm_always (HeaderPhrase text) (firm_header text))
      (firm_preceded_within (defining_sign what) (BehaviourPhrase text enabling) (firm_expression text enabling))

  -- the header, the body and the inner definitions are unique within each limit
  firm_open : FirmWithin Open
  firm_open = firm_then_within make_definition Outer (WherePhrase text) firm_outer (firm_inner text)

  -- the sign and the behaviour are the body
  pub found_body : (limit : NestingLimit) (ts between rest : List Token) (n : Token) (x : BehaviourView) → ts ≡ n ∷ between →
      IsOfKind n (defining_sign what) →
      Parses (BehaviourPhrase text enabling limit) between x rest → Parses (BodyPhrase text what limit) ts x rest
  found_body limit ts between rest n x e i f =
      found_preceded (defining_sign what) (BehaviourPhrase text enabling limit) ts between rest n x e i f

  -- if the header and then the body parse, so do both together
  found_outer : (limit : NestingLimit) (ts r q : List Token) (heading : HeaderValue) (x : BehaviourView) → Parses (HeaderPhrase text) ts heading r →
      Parses (BodyPhrase text what limit) r x q → Parses (Outer limit) ts (heading, x) q
  found_outer limit ts r q heading x f g =
      found_then bodied (HeaderPhrase text) (BodyPhrase text what limit) ts r q heading x (heading, x) f g refl

  -- if the header, the body and then the inner definitions parse, so do the three together
  found_open : (limit : NestingLimit) (ts r q p : List Token) (heading : HeaderValue) (x : BehaviourView) (inner : DefinitionListView) →
      Parses (HeaderPhrase text) ts heading r →
      Parses (BodyPhrase text what limit) r x q → Parses (WherePhrase text limit) q inner p →
      Parses (Open limit) ts (make_definition (heading, x) inner) p
  found_open limit ts r q p heading x inner f g h = found_then make_definition (Outer limit) (WherePhrase text limit) ts q p (heading, x) inner
      (make_definition (heading, x) inner) (found_outer limit ts r q heading x f g) h refl

  -- header, body, inner definitions and the last keyword are a definition after its first keyword
  pub found_contents : (limit : NestingLimit) (ts r q p rest : List Token) (n : Token) (heading : HeaderValue) (x : BehaviourView)
      (inner : DefinitionListView) →
      Parses (HeaderPhrase text) ts heading r → Parses (BodyPhrase text what limit) r x q → Parses (WherePhrase text limit) q inner p → p ≡ n ∷ rest →
      IsOfKind n (closing_word what) → Parses (DefinitionRest text what limit) ts (make_definition (heading, x) inner) rest
  found_contents limit ts r q p rest n heading x inner f g h e i = found_before (Open limit) (closing_word what) ts p rest n
      (make_definition (heading, x) inner) (found_open limit ts r q p heading x inner f g h) e i

  -- if the header and the body together fail, so does the definition
  lost_outer : (limit : NestingLimit) (ts rest : List Token) → Fails (Outer limit) ts rest → Fails (DefinitionRest text what limit) ts rest
  lost_outer limit ts rest l = lost_within (Open limit) (closing_word what) ts rest
      (lost_first make_definition (Outer limit) (WherePhrase text limit) ts rest l)

  -- if the header fails, so does the definition
  pub lost_header : (limit : NestingLimit) (ts rest : List Token) → Fails (HeaderPhrase text) ts rest → Fails (DefinitionRest text what limit) ts rest
  lost_header limit ts rest l = lost_outer limit ts rest (lost_first bodied (HeaderPhrase text) (BodyPhrase text what limit) ts rest l)

  -- if the body after the header fails, so does the definition
  lost_body : (limit : NestingLimit) (ts r rest : List Token) (heading : HeaderValue) → Parses (HeaderPhrase text) ts heading r →
      Fails (BodyPhrase text what limit) r rest → Fails (DefinitionRest text what limit) ts rest
  lost_body limit ts r rest heading f l = lost_outer limit ts rest
      (lost_second bodied (HeaderPhrase text) (BodyPhrase text what limit) (firm_header text) ts r rest heading f l)

  -- if the sign after the header fails, so does the definition
  pub lost_sign : (limit : NestingLimit) (ts r rest : List Token) (heading : HeaderValue) → Parses (HeaderPhrase text) ts heading r →
      Fails (OneToken (defining_sign what)) r rest → Fails (DefinitionRest text what limit) ts rest
  lost_sign limit ts r rest heading f l = lost_body limit ts r rest heading f
      (lost_before (defining_sign what) (BehaviourPhrase text enabling limit) r rest l)

  -- if the behaviour after the sign fails, so does the definition
  pub lost_behaviour : (limit : NestingLimit) (ts r between rest : List Token) (n : Token) (heading : HeaderValue) →
      Parses (HeaderPhrase text) ts heading r →
      r ≡ n ∷ between → IsOfKind n (defining_sign what) → Fails (BehaviourPhrase text enabling limit) between rest →
      Fails (DefinitionRest text what limit) ts rest
  lost_behaviour limit ts r between rest n heading f e i l = lost_body limit ts r rest heading f
      (lost_preceded (defining_sign what) (BehaviourPhrase text enabling limit) r between rest n e i l)

  -- if the inner definitions after the body fail, so does the definition
  pub lost_inner : (found limit : NestingLimit) (ts r q rest : List Token) (heading : HeaderValue) (x : BehaviourView) →
      Parses (HeaderPhrase text) ts heading r →
      Parses (BodyPhrase text what found) r x q → Fails (WherePhrase text limit) q rest → Fails (DefinitionRest text what limit) ts rest
  lost_inner found limit ts r q rest heading x f g l = lost_within (Open limit) (closing_word what) ts rest
      (lost_after make_definition Outer (WherePhrase text limit) found limit firm_outer ts q rest (heading, x)
      (found_outer found ts r q heading x f g) l)

  -- if the last keyword fails, so does the definition
  pub lost_closing : (found limit : NestingLimit) (ts r q p rest : List Token) (heading : HeaderValue) (x : BehaviourView) (inner : DefinitionListView) →
      Parses (HeaderPhrase text) ts heading r → Parses (BodyPhrase text what found) r x q → Parses (WherePhrase text found) q inner p →
      Fails (OneToken (closing_word what)) p rest → Fails (DefinitionRest text what limit) ts rest
  lost_closing found limit ts r q p rest heading x inner f g h l = lost_after (λ said token. said) Open (OneToken (closing_word what))
      found limit firm_open ts p rest (make_definition (heading, x) inner) (found_open found ts r q p heading x inner f g h) l

  -- an error inside the behaviour is an error of the definition
  pub carries_behaviour : (nesting_left : ℕ) (ts r between : List Token) (n : Token) (heading : HeaderValue) →
      Parses (HeaderPhrase text) ts heading r →
      r ≡ n ∷ between → IsOfKind n (defining_sign what) →
      Carries (BehaviourPhrase text enabling) nesting_left between (DefinitionRest text what) nesting_left ts
  carries_behaviour nesting_left ts r between n heading f e i = record {
    free = λ rest l. lost_behaviour None ts r between rest n heading f e i l;
    limited = λ rest l. lost_behaviour (Some nesting_left) ts r between rest n heading f e i l;
    before = f.front ++ n ∷ [];
    joined = f.joined ∙ ap (λ m. f.front ++ m) e ∙ sym (append_assoc f.front (n ∷ []) between);
    crowds = omega arith;
  }

  -- so is one inside the inner definitions
  pub carries_inner : (nesting_left : ℕ) (ts r q : List Token) (heading : HeaderValue) (x : BehaviourView) → Parses (HeaderPhrase text) ts heading r →
      Parses (BodyPhrase text what (Some nesting_left)) r x q → Carries (WherePhrase text) nesting_left q (DefinitionRest text what) nesting_left ts
  carries_inner nesting_left ts r q heading x f g =
      let h = found_outer (Some nesting_left) ts r q heading x f g in
      record {
        free = λ rest l. lost_inner (Some nesting_left) None ts r q rest heading x f g l;
        limited = λ rest l. lost_inner (Some nesting_left) (Some nesting_left) ts r q rest heading x f g l;
        before = h.front;
        joined = h.joined;
        crowds = omega arith;
      }
