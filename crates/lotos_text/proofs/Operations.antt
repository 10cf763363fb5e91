-- Operations of a level: how a left operand, an operator and a right operand parse and fail.
use Rattle.std.proofs.Common.{◌≡◌, ℕ, ◌+◌, ◌-◌, ◌<◌, ◌≤◌, max, Bool, true, false, List, [], ◌∷◌, ◌++◌, Some, None, refl, sym, ◌∙◌, ap, append_assoc, arith, subst}
use Rattle.lotos_text.specs.AstView.{BehaviourView}
use Rattle.lotos_text.specs.Grammar.{Level, enabling, disabling, parallel, choosing, prefixing, BindsTighter, tighter_than_enabling, tighter_than_disabling, tighter_than_parallel, tighter_than_choosing, Operator, apply, IsOperator, enable_sign, disable_sign, interleave_sign, full_sign, sync_on_none, sync_on, choice_sign, Spells, tighter, operation}
use Rattle.lotos_text.specs.Follow.{precedence, level_precedence, bound}
use Rattle.lotos_text.specs.ConstructOpenings.{opens_construct, count_openings}
use Rattle.lotos_text.specs.OperandStarts.{infix_of, infix_level}
use Rattle.lotos_text.specs.ParserContracts.{Phrase, NestingLimit, IsNestingWithin, Parses, StartsAlike, Fails, IsTooDeepAt}
use Rattle.lotos_text.specs.Phrases.{Sequence, OneOperator, BehaviourPhrase}
use Rattle.lotos_text.specs.declared.operators.Infix.{Infix}
use Rattle.lotos_text.specs.declared.operators.Infix.TheVariants as i
use Rattle.lotos_text.specs.declared.token.Token.{Token}
use Rattle.lotos_text.proofs.PhraseUniqueness.{firm_operation}
use Rattle.lotos_text.proofs.FirstToken.{starts_rank, starts_after}
use Rattle.lotos_text.proofs.Levels.{bound_below, bound_most, rank_is, operator_rank, operator_below, Levelled, alone, operated, taken_level}
use Rattle.lotos_text.proofs.Limits.{inside, within_inside, within_less, opens_is, opens_among, crowded_here}
use Rattle.lotos_text.proofs.Sequences.{lost_first, lost_second}
use Rattle.lotos_text.proofs.ParseErrors.{Carries}
use Rattle.lotos_text.proofs.SyncLists.{is_mark}
use Rattle.lotos_text.proofs.GrammarUnique.{unique, join_assoc}

-- the precedence of the next tighter level is one higher
pub next_rank : {l m : Level} → BindsTighter l m → level_precedence m ≡ level_precedence l + 1
next_rank tighter_than_enabling = refl
next_rank tighter_than_disabling = refl
next_rank tighter_than_parallel = refl
next_rank tighter_than_choosing = refl

-- a level with operators is not that of operands
pub not_prefixing : {l m : Level} → BindsTighter l m → l ≡ prefixing → ⊥
not_prefixing tighter_than_enabling e = cc
not_prefixing tighter_than_disabling e = cc
not_prefixing tighter_than_parallel e = cc
not_prefixing tighter_than_choosing e = cc

-- what is complete at the tighter level, and is continued by no operator of this one, is complete at this one
quits_looser : {l m : Level} (ends : Bool) (ts : List Token) → BindsTighter l m → (precedence ts ≡ level_precedence l → ⊥) → precedence ts < bound m ends →
    precedence ts < bound l ends
quits_looser true ts b without h = h
quits_looser false ts b without h = let e = next_rank b in smaller _ _ _ e without h
  where
    smaller : (n k j : ℕ) → j ≡ k + 1 → (n ≡ k → ⊥) → n < j → n < k
    smaller n k j e without h = omega (arith, e, without, h)

-- a token that is an operator's sign has the precedence of its level's operators, and opens a construct
mark_opens : (n : Token) (m : Infix) → infix_of n.kind ≡ Some m → opens_construct n.kind ≡ true
mark_opens n i.Enable e = opens_is (is_mark n i.Enable e) refl
mark_opens n i.Disable e = opens_is (is_mark n i.Disable e) refl
mark_opens n i.Interleave e = opens_is (is_mark n i.Interleave e) refl
mark_opens n i.Full e = opens_is (is_mark n i.Full e) refl
mark_opens n i.Sync e = opens_is (is_mark n i.Sync e) refl
mark_opens n i.Choice e = opens_is (is_mark n i.Choice e) refl

-- a list that begins with an operator's sign has the precedence of its level's operators
mark_rank : (n : Token) (m : Infix) (ts : List Token) → infix_of n.kind ≡ Some m → precedence (n ∷ ts) ≡ level_precedence (infix_level m)
mark_rank n i.Enable ts e = rank_is ts (is_mark n i.Enable e)
mark_rank n i.Disable ts e = rank_is ts (is_mark n i.Disable e)
mark_rank n i.Interleave ts e = rank_is ts (is_mark n i.Interleave e)
mark_rank n i.Full ts e = rank_is ts (is_mark n i.Full e)
mark_rank n i.Sync ts e = rank_is ts (is_mark n i.Sync e)
mark_rank n i.Choice ts e = rank_is ts (is_mark n i.Choice e)

-- the tokens from an operator's sign on have the precedence of its level's operators
pub marked : {l : Level} (between after : List Token) (n : Token) (m : Infix) → between ≡ n ∷ after → infix_of n.kind ≡ Some m →
    infix_level m ≡ l → precedence between ≡ level_precedence l
marked between after n m e i j = ap precedence e ∙ mark_rank n m after i ∙ ap level_precedence j

-- what an operator follows is not open
shut : (l m : Level) (ends : Bool) (ts : List Token) → precedence ts ≡ level_precedence l → precedence ts < bound m ends → ends ≡ false
shut l m false ts e h = refl
shut enabling m true ts e h = absurd (omega (arith, e, h))
shut disabling m true ts e h = absurd (omega (arith, e, h))
shut parallel m true ts e h = absurd (omega (arith, e, h))
shut choosing m true ts e h = absurd (omega (arith, e, h))
shut prefixing m true ts e h = absurd (omega (arith, e, h))

-- a left operand is nested no deeper than the whole, a right one less deep
left_within : (limit : NestingLimit) (nl nr : ℕ) → IsNestingWithin limit (max nl (nr + 1)) → IsNestingWithin limit nl
left_within limit nl nr h = within_less limit nl (max nl (nr + 1)) (omega arith) h

-- if an operation is nested within the limit, its right operand is within the limit inside
right_within : (limit : NestingLimit) (nl nr : ℕ) → IsNestingWithin limit (max nl (nr + 1)) → IsNestingWithin (inside limit) nr
right_within limit nl nr h = within_inside limit nr (nr + 1) refl (within_less limit (nr + 1) (max nl (nr + 1)) (omega arith) h)

module _ (text : List ℕ) where
  -- the left operand alone, with which no operator of the level goes on
  pub found_alone : {l m : Level} (nesting_left : ℕ) (ts rest : List Token) (x : BehaviourView) → BindsTighter l m →
      Parses (BehaviourPhrase text m (Some nesting_left)) ts x rest → (precedence rest ≡ level_precedence l → l ≡ prefixing) →
      Parses (BehaviourPhrase text l (Some nesting_left)) ts x rest
  found_alone nesting_left ts rest x b f without = record {
    front = f.front;
    joined = f.joined;
    whole = record {
      ends = f.whole.ends;
      nesting = f.whole.nesting;
      spells = tighter b f.whole.spells;
      quits = quits_looser f.whole.ends rest b (λ e. not_prefixing b (without e)) f.whole.quits;
      within = f.whole.within;
    };
  }

  -- a left operand, an operator and a right operand
  pub found_operation : {l m : Level} (nesting_left : ℕ) (ts between after rest : List Token) (how : Operator) (x y z : BehaviourView) → 0 < nesting_left →
      BindsTighter l m → Parses (BehaviourPhrase text m (Some nesting_left)) ts x between → Parses (OneOperator text l) between how after →
      Parses (BehaviourPhrase text l (Some (nesting_left - 1))) after y rest → z ≡ apply how x y →
      Parses (BehaviourPhrase text l (Some nesting_left)) ts z rest
  found_operation {l} {m} nesting_left ts between after rest how x y z h b f o g e =
      let ranks : precedence between ≡ level_precedence l = ap precedence o.joined ∙ operator_rank text after o.whole.operates in
      let left : Spells text m false f.whole.nesting f.front x =
      subst (λ ends. Spells text m ends f.whole.nesting f.front x) (shut l m f.whole.ends between ranks f.whole.quits)
      f.whole.spells in
      record {
        front = f.front ++ o.front ++ g.front;
        joined = f.joined ∙ ap (λ m. f.front ++ m) (o.joined ∙ ap (λ m. o.front ++ m) g.joined) ∙ sym
            (join_assoc f.front o.front g.front rest);
        whole = record {
          ends = g.whole.ends;
          nesting = max f.whole.nesting (g.whole.nesting + 1);
          spells = subst
              (λ m. Spells text l g.whole.ends (max f.whole.nesting (g.whole.nesting + 1)) (f.front ++ o.front ++ g.front) m)
              (sym e) (operation b left o.whole.operates g.whole.spells);
          quits = g.whole.quits;
          within = (let k = f.whole.within in let j = g.whole.within in omega (arith, h, k, j));
        };
      }

  -- the left operand

  -- if no expression of the tighter level within the limit begins the tokens, none of the looser level does
  never_left : {l m : Level} (limit : NestingLimit) (ts own remainder : List Token) (ends : Bool) (nesting : ℕ) (x : BehaviourView) → BindsTighter l m →
      ((a r : List Token) (y : BehaviourView) → ts ≡ a ++ r → BehaviourPhrase text m limit a y r → ⊥) →
      ts ≡ own ++ remainder → Levelled text l m ends nesting own x → precedence remainder < bound l ends → IsNestingWithin limit nesting → ⊥
  never_left limit ts own remainder ends nesting x b h e (alone d) q u = h own remainder x e
      (record {
        ends = ends;
        nesting = nesting;
        spells = d;
        quits = (let g = bound_below ends b in omega (arith, g, q));
        within = u;
      })
  never_left limit ts _ remainder ends _ _ b h e
      (operated {nl = nl} {nr = nr} {left = left} {op = op} {right = right} {x = x} d i f) q u =
      h left (op ++ (right ++ remainder)) x (e ∙ join_assoc left op right remainder) (record {
        ends = false;
        nesting = nl;
        spells = d;
        quits = (let g = operator_below text b i in let f = operator_rank text (right ++ remainder) i in omega (arith, f, g));
        within = left_within limit nl nr u;
      })

  -- if the expression of the tighter level fails, so does that of the looser one
  lost_left : {l m : Level} (limit : NestingLimit) (ts rest : List Token) → BindsTighter l m → Fails (BehaviourPhrase text m limit) ts rest →
      Fails (BehaviourPhrase text l limit) ts rest
  lost_left limit ts rest b l = record {
    front = l.front;
    joined = l.joined;
    never = λ more own remainder x st e p.
        never_left limit (l.front ++ more) own remainder p.ends p.nesting x b (λ a r y e d. l.never more a r y st e d) e
        (taken_level text b p.spells) p.quits p.within;
  }

  -- if the left operand fails, so does the whole
  pub carries_left : {l m : Level} (nesting_left : ℕ) (ts : List Token) → BindsTighter l m →
      Carries (BehaviourPhrase text m) nesting_left ts (BehaviourPhrase text l) nesting_left ts
  carries_left nesting_left ts b = record {
    free = λ rest. lost_left None ts rest b;
    limited = λ rest. lost_left (Some nesting_left) ts rest b;
    before = [];
    joined = refl;
    crowds = omega arith;
  }

  -- after the left operand

  abbrev paired : Operator → BehaviourView → Operator × BehaviourView
  paired how y = (how, y)

  -- the operator and the right operand
  abbrev Behind : Level → NestingLimit → Phrase (Operator × BehaviourView)
  Behind l limit = Sequence paired (OneOperator text l) (BehaviourPhrase text l limit)

  -- if a token of the level's precedence follows a left operand, but no operator with a right operand does, the tokens
  -- begin with no expression of the level
  never_preceded : {l m : Level} (limit : NestingLimit) (front more own remainder : List Token) (o ends : Bool) (n nesting : ℕ) (x z : BehaviourView) →
      BindsTighter l m → Spells text m o n front x → precedence more ≡ level_precedence l → precedence more < bound m o →
      ((a r : List Token) (said : Operator × BehaviourView) → more ≡ a ++ r → Behind l (inside limit) a said r → ⊥) →
      front ++ more ≡ own ++ remainder → Levelled text l m ends nesting own z → precedence remainder < bound l ends → IsNestingWithin limit nesting → ⊥
  never_preceded {l = l} limit front more own remainder o ends n nesting x z b c ranks quits none e (alone d) q u =
      let h = unique text more remainder c d e quits (let g = bound_below ends b in omega (arith, g, q)) in
      let g = ap precedence h.rest in
      let k = bound_most l ends in
      omega (arith, ranks, g, k, q)
  never_preceded limit front more _ remainder o ends n _ x _ b c ranks quits none e
      (operated {nl = nl} {nr = nr} {left = left} {op = op} {right = right} {y = y} {how = how} d i f) q u =
      let h = unique text more (op ++ (right ++ remainder)) c d (e ∙ join_assoc left op right remainder) quits
      (let g = operator_below text b i in let f = operator_rank text (right ++ remainder) i in omega (arith, f, g)) in
      none (op ++ right) remainder (how, y) (h.rest ∙ sym (append_assoc op right remainder)) (record {
        front = op;
        back = right;
        one = how;
        other = y;
        joined = refl;
        first = record { operates = i };
        second = record { ends = ends; nesting = nr; spells = f; quits = q; within = right_within limit nl nr u };
        same = refl;
      })

  -- if an operator of the level follows, and it or its right operand fails, so does the operation
  lost_preceded : {l m : Level} (limit within : NestingLimit) (ts between rest : List Token) (x : BehaviourView) → BindsTighter l m →
      Parses (BehaviourPhrase text m within) ts x between → precedence between ≡ level_precedence l → Fails (Behind l (inside limit)) between rest →
      Fails (BehaviourPhrase text l limit) ts rest
  lost_preceded limit within ts between rest x b f ranks l = record {
    front = f.front ++ l.front;
    joined = f.joined ∙ ap (λ m. f.front ++ m) l.joined ∙ sym (append_assoc f.front l.front rest);
    never = λ more own remainder z st e p.
        let alike : StartsAlike between (l.front ++ more) =
        subst (λ m. StartsAlike m (l.front ++ more)) (sym l.joined) (starts_after l.front rest more st) in
        let same = starts_rank between (l.front ++ more) alike in
        never_preceded limit f.front (l.front ++ more) own remainder f.whole.ends p.ends f.whole.nesting p.nesting x z b f.whole.spells
        (same ∙ ranks) (let q = f.whole.quits in omega (arith, same, q)) (λ a r said e d. l.never more a r said st e d)
        (sym (append_assoc f.front l.front more) ∙ e) (taken_level text b p.spells) p.quits p.within;
  }

  -- an operator of the sign's level, as one of this level before the same tokens
  pub marked_found : {l k : Level} (between others after : List Token) (how : Operator) → between ≡ others → k ≡ l →
      Parses (OneOperator text k) others how after → Parses (OneOperator text l) between how after
  marked_found {k = k} between others after how e h f =
      subst (λ m. Parses (OneOperator text m) between how after) h
      (subst (λ ts. Parses (OneOperator text k) ts how after) (sym e) f)

  -- the same of an operator that fails
  pub marked_lost : {l k : Level} (between others rest : List Token) → between ≡ others → k ≡ l →
      Fails (OneOperator text k) others rest → Fails (OneOperator text l) between rest
  marked_lost {k = k} between others rest e h f =
      subst (λ m. Fails (OneOperator text m) between rest) h (subst (λ ts. Fails (OneOperator text k) ts rest) (sym e) f)

  -- if the operator fails, so does the whole
  pub lost_operator : {l m : Level} (within : NestingLimit) (ts between rest : List Token) (x : BehaviourView) → BindsTighter l m →
      Parses (BehaviourPhrase text m within) ts x between → precedence between ≡ level_precedence l → Fails (OneOperator text l) between rest →
      Fails (BehaviourPhrase text l None) ts rest
  lost_operator {l} within ts between rest x b f ranks lost =
      lost_preceded None within ts between rest x b f ranks
      (lost_first paired (OneOperator text l) (BehaviourPhrase text l None) between rest lost)

  -- if the right operand fails within the limit inside, so does the operation
  lost_right : {l m : Level} (limit within : NestingLimit) (ts between after rest : List Token) (how : Operator) (x : BehaviourView) → BindsTighter l m →
      Parses (BehaviourPhrase text m within) ts x between → precedence between ≡ level_precedence l → Parses (OneOperator text l) between how after →
      Fails (BehaviourPhrase text l (inside limit)) after rest → Fails (BehaviourPhrase text l limit) ts rest
  lost_right {l} limit within ts between after rest how x b f ranks o lost =
      lost_preceded limit within ts between rest x b f ranks
      (lost_second paired (OneOperator text l) (BehaviourPhrase text l (inside limit)) (firm_operation text l) between after rest how o
      lost)

  -- of tokens that end with an operator, one at least opens a construct
  operator_opens : {l : Level} (front op : List Token) (how : Operator) → IsOperator text l op how → 1 ≤ count_openings (front ++ op)
  operator_opens front _ how (enable_sign {o = o} i) = opens_among front [] o (opens_is i refl)
  operator_opens front _ how (disable_sign {o = o} i) = opens_among front [] o (opens_is i refl)
  operator_opens front _ how (interleave_sign {o = o} i) = opens_among front [] o (opens_is i refl)
  operator_opens front _ how (full_sign {o = o} i) = opens_among front [] o (opens_is i refl)
  operator_opens front _ how (sync_on_none {o = o} {right = right} {bar = bar} i j k) =
      opens_among front (right ∷ bar ∷ []) o (opens_is i refl)
  operator_opens front _ how (sync_on {o = o} {right = right} {bar = bar} {ts = ts} i d j k) =
      opens_among front (ts ++ right ∷ bar ∷ []) o (opens_is i refl)
  operator_opens front _ how (choice_sign {o = o} i) = opens_among front [] o (opens_is i refl)

  -- if the right operand fails, so does the whole
  pub carries_right : {l m : Level} (nesting_left : ℕ) (ts between after : List Token) (how : Operator) (x : BehaviourView) → BindsTighter l m →
      Parses (BehaviourPhrase text m (Some nesting_left)) ts x between → precedence between ≡ level_precedence l →
      Parses (OneOperator text l) between how after →
      Carries (BehaviourPhrase text l) (nesting_left - 1) after (BehaviourPhrase text l) nesting_left ts
  carries_right nesting_left ts between after how x b f ranks o = record {
    free = λ rest. lost_right None (Some nesting_left) ts between after rest how x b f ranks o;
    limited = λ rest. lost_right (Some nesting_left) (Some nesting_left) ts between after rest how x b f ranks o;
    before = f.front ++ o.front;
    joined = f.joined ∙ ap (λ m. f.front ++ m) o.joined ∙ sym (append_assoc f.front o.front after);
    crowds = (let h = operator_opens f.front o.front how o.whole.operates in omega (arith, h));
  }

  -- with no nesting left, an operator that follows is too deep
  pub deep_operation : {l m : Level} (nesting_left : ℕ) (ts between after : List Token) (n : Token) (which : Infix) (x : BehaviourView) →
      nesting_left ≡ 0 → BindsTighter l m → Parses (BehaviourPhrase text m (Some nesting_left)) ts x between → between ≡ n ∷ after →
      infix_of n.kind ≡ Some which → infix_level which ≡ l → IsTooDeepAt (BehaviourPhrase text l) nesting_left ts n
  deep_operation {l} nesting_left ts between after n which x h b f e i j = record {
    after = after;
    fails = record {
      front = f.front;
      joined = f.joined ∙ ap (λ m. f.front ++ m) e;
      never = λ more own remainder z st g p.
          let same : precedence more ≡ precedence between = starts_rank (n ∷ after) more st ∙ ap precedence (sym e) in
          never_deep f.front more own remainder f.whole.ends p.ends f.whole.nesting p.nesting x z b f.whole.spells
          (same ∙ marked between after n which e i j) (let q = f.whole.quits in omega (arith, same, q)) g
          (taken_level text b p.spells) p.quits (let k = p.within in omega (arith, h, k));
    };
    too_many_open = crowded_here ts f.front after n nesting_left (f.joined ∙ ap (λ m. f.front ++ m) e) h (mark_opens n which i);
    opens = mark_opens n which i;
  }
    where
      never_deep : {l m : Level} (front more own remainder : List Token) (o ends : Bool) (n nesting : ℕ) (x z : BehaviourView) →
          BindsTighter l m → Spells text m o n front x → precedence more ≡ level_precedence l → precedence more < bound m o →
          front ++ more ≡ own ++ remainder → Levelled text l m ends nesting own z → precedence remainder < bound l ends → nesting ≤ 0 → ⊥
      never_deep {l = l} front more own remainder o ends n nesting x z b c ranks quits e (alone d) q u =
          let h = unique text more remainder c d e quits (let g = bound_below ends b in omega (arith, g, q)) in
          let g = ap precedence h.rest in
          let k = bound_most l ends in
          omega (arith, ranks, g, k, q)
      never_deep front more _ remainder o ends n _ x _ b c ranks quits e (operated d i f) q u = omega (arith, u)
