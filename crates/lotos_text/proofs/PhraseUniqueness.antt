-- Phrases with a limit on nesting are unique, whatever the limits, and so are two in sequence.
use Rattle.std.proofs.Common.{◌≡◌, ℕ, List, ◌++◌, sym, ◌∙◌, ap, append_assoc, arith, subst}
use Rattle.lotos_text.specs.Grammar.{Level}
use Rattle.lotos_text.specs.ParserContracts.{Phrase, NestingLimit, Parses, StartsAlike, Fails}
use Rattle.lotos_text.specs.Phrases.{Sequence, OneToken, Preceded, Followed, OneOperator, BehaviourPhrase}
use Rattle.lotos_text.specs.declared.token.Token.{Token}
use Rattle.lotos_text.specs.declared.token.TokenKind.{TokenKind}
use Rattle.lotos_text.proofs.FirstToken.{starts_after, starts_rank}
use Rattle.lotos_text.proofs.Levels.{unique_operator}
use Rattle.lotos_text.proofs.OneToken.{firm_one}
use Rattle.lotos_text.proofs.Sequences.{Same, Firm}
use Rattle.lotos_text.proofs.GrammarUnique.{unique}

-- A part that is whole before one list and within one limit stays the only one before each list that starts alike, and within
-- each limit.
abbrev pub FirmWithin : {A : Type 0} → (NestingLimit → Phrase A) → Type 0
FirmWithin {A} P = (l m : NestingLimit) (a b r more q : List Token) (x y : A) → P l a x r → StartsAlike r more → P m b y q →
    a ++ more ≡ b ++ q → Same a b x y more q

-- a phrase without a limit is unique within each limit
pub firm_always : {A : Type 0} (P : Phrase A) → Firm P → FirmWithin (λ _. P)
firm_always P firm l m a b r more q x y p st o e = firm a b r more q x y p st o e

-- the first phrase parses within one limit and the second fails: both together fail within the other limit
pub lost_after : {A B C : Type 0} (together : A → B → C) (P : NestingLimit → Phrase A) (Q : Phrase B) (l m : NestingLimit) → FirmWithin P →
    (ts between rest : List Token) (x : A) → Parses (P l) ts x between → Fails Q between rest → Fails (Sequence together (P m) Q) ts rest
lost_after together P Q l m firm ts between rest x f lost = record {
  front = f.front ++ lost.front;
  joined = f.joined ∙ ap (λ m. f.front ++ m) lost.joined ∙ sym (append_assoc f.front lost.front rest);
  never = λ more own remainder said st e t.
      let one = firm l m f.front t.front (lost.front ++ rest) (lost.front ++ more) (t.back ++ remainder) x t.one
      (subst (λ ts. P l f.front x ts) lost.joined f.whole) (starts_after lost.front rest more st) t.first
      (sym (append_assoc f.front lost.front more) ∙ e ∙ ap (λ ts. ts ++ remainder) t.joined ∙ append_assoc t.front t.back remainder) in
      lost.never more t.back remainder t.other st one.rest t.second;
}

-- if each of two phrases is unique within each limit, so are both together
pub firm_then_within : {A B C : Type 0} (together : A → B → C) (P : NestingLimit → Phrase A) (Q : NestingLimit → Phrase B) → FirmWithin P →
    FirmWithin Q → FirmWithin (λ l. Sequence together (P l) (Q l))
firm_then_within together P Q firm_p firm_q l m a b r more q x y t st u e =
    let e' : t.front ++ (t.back ++ more) ≡ u.front ++ (u.back ++ q) =
    sym (append_assoc t.front t.back more) ∙ sym (ap (λ m. m ++ more) t.joined) ∙ e ∙ ap (λ m. m ++ q) u.joined
    ∙ append_assoc u.front u.back q in
    let one = firm_p l m t.front u.front (t.back ++ r) (t.back ++ more) (u.back ++ q) t.one u.one t.first
    (starts_after t.back r more st) u.first e' in
    let other = firm_q l m t.back u.back r more q t.other u.other t.second st u.second one.rest in
    record {
      tokens = (let i = t.joined in let j = u.joined in let k = one.tokens in let l = other.tokens in cc);
      said = (let i = t.same in let j = u.same in let k = one.said in let l = other.said in cc);
      rest = other.rest;
    }

-- so are a token and the phrase after it
pub firm_preceded_within : {A : Type 0} (k : TokenKind) (P : NestingLimit → Phrase A) → FirmWithin P → FirmWithin (λ l. Preceded k (P l))
firm_preceded_within k P firm =
    firm_then_within (λ token said. said) (λ _. OneToken k) P (firm_always (OneToken k) (firm_one k)) firm

-- so are the phrase and a token after it
pub firm_before_within : {A : Type 0} (P : NestingLimit → Phrase A) (k : TokenKind) → FirmWithin P → FirmWithin (λ l. Followed (P l) k)
firm_before_within P k firm =
    firm_then_within (λ said token. said) P (λ _. OneToken k) firm (firm_always (OneToken k) (firm_one k))

module _ (text : List ℕ) where
  -- a behaviour expression of a level is the only one
  pub firm_expression : (l : Level) → FirmWithin (BehaviourPhrase text l)
  firm_expression l within other a b r more q x y p st o e =
      let h = unique text more q p.spells o.spells e
      (let i = starts_rank r more st in let j = p.quits in omega (arith, i, j)) o.quits in
      record { tokens = h.tokens; said = h.tree; rest = h.rest }

  -- an operator of a level is the only one
  pub firm_operation : (l : Level) → Firm (OneOperator text l)
  firm_operation l a b r more q x y p st o e =
      let h = unique_operator text more q p.operates o.operates e in
      record { tokens = h.tokens; said = h.operator; rest = h.rest }
