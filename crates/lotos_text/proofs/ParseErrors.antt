-- How a phrase fails when a part of it fails.
use Rattle.std.proofs.Common.{◌≡◌, ℕ, ◌+◌, ◌≤◌, List, [], ◌∷◌, ◌++◌, sym, ◌∙◌, ap, append_assoc, arith, subst, Some, None, cond, Result, Ok, Err, IfOk, IfErr}
use Rattle.std.proofs.lemmas.Result.{err_from_is_err_and}
use Rattle.std.proofs.lemmas.List.Sums.{sum_by-append}
use Rattle.std.specs.Result.{IsErrAnd}
use Rattle.lotos_text.specs.ConstructOpenings.{opens_construct, count_openings}
use Rattle.lotos_text.specs.ParserContracts.{Phrase, NestingLimit, Fails, HasTooManyOpen, IsTooDeepAt, FailsAtAnyNesting, FailsAtToken, FailsWithin}
use Rattle.lotos_text.specs.declared.parse_primitives.ParseError.{ParseError}
use Rattle.lotos_text.specs.declared.parse_primitives.ParseError.TheVariants.{Unexpected, TooDeep, Memory}
use Rattle.lotos_text.specs.declared.token.Token.{Token}

-- if a whole fails at each token at which a part does, it fails with each error of the part, memory included
stopped : {A B : Type 0} (P : Phrase A) (Q : Phrase B) (ts us : List Token) →
    ((rest : List Token) → Fails P ts rest → Fails Q us rest) → (e : ParseError) → FailsAtAnyNesting P ts e → FailsAtAnyNesting Q us e
stopped P Q ts us to (Unexpected rest) l = to rest.now l
stopped P Q ts us to (TooDeep token) l = l
stopped P Q ts us to (Memory e) l = tt

-- a phrase that fails at an unexpected token, its only error, also fails so if memory may run out
missed_lost : {A : Type 0} (P : Phrase A) (ts : List Token) (e : ParseError) → FailsAtToken P ts e → FailsAtAnyNesting P ts e
missed_lost P ts (Unexpected rest) l = l
missed_lost P ts (TooDeep token) l = absurd l
missed_lost P ts (Memory e) l = tt

-- if a whole fails at each token at which a part does, an unexpected token of the part is one of the whole
missed : {A B : Type 0} (P : Phrase A) (Q : Phrase B) (ts us : List Token) → ((rest : List Token) → Fails P ts rest → Fails Q us rest) →
    (e : ParseError) → FailsAtToken P ts e → FailsAtToken Q us e
missed P Q ts us to (Unexpected rest) l = to rest.now l
missed P Q ts us to (TooDeep token) l = l
missed P Q ts us to (Memory e) l = l

-- A `?` passes on the error of a part, and the whole fails there too.
pub passed_on : {A B T : Type 0} (P : Phrase A) (Q : Phrase B) (ts us : List Token) →
    ((rest : List Token) → Fails P ts rest → Fails Q us rest) →
    (r : Result T ParseError) (e : ParseError) → IsErrAnd r (λ y. y ≡ e) → FailsAtAnyNesting P ts e → IfErr r (FailsAtAnyNesting Q us)
passed_on P Q ts us to r e h l =
    let q = err_from_is_err_and r h in
    subst (λ m. IfErr m (FailsAtAnyNesting Q us)) (sym q.1) (subst (λ m. FailsAtAnyNesting Q us m) (sym q.2) (stopped P Q ts us to e l))

-- the result is passed on, and it parses the longer phrase
pub still_found : {T E : Type 0} (P Q : T → Type 0) (r : Result T E) → ((x : T) → P x → Q x) → IfOk r P → IfOk r Q
still_found P Q (Ok x) to p = to x p
still_found P Q (Err e) to p = tt

-- A `?` passes on the error of a part that does not allocate, and a whole that may allocate fails there too.
pub missed_on : {A B T : Type 0} (P : Phrase A) (Q : Phrase B) (ts us : List Token) →
    ((rest : List Token) → Fails P ts rest → Fails Q us rest) → (r : Result T ParseError) (e : ParseError) → IsErrAnd r (λ y. y ≡ e) →
    FailsAtToken P ts e → IfErr r (FailsAtAnyNesting Q us)
missed_on P Q ts us to r e h l = passed_on P Q ts us to r e h (missed_lost P ts e l)

-- the same, in a whole that does not allocate either
pub still_missed : {A B T : Type 0} (P : Phrase A) (Q : Phrase B) (ts us : List Token) →
    ((rest : List Token) → Fails P ts rest → Fails Q us rest) → (r : Result T ParseError) (e : ParseError) → IsErrAnd r (λ y. y ≡ e) →
    FailsAtToken P ts e → IfErr r (FailsAtToken Q us)
still_missed P Q ts us to r e h l =
    let q = err_from_is_err_and r h in
    subst (λ m. IfErr m (FailsAtToken Q us)) (sym q.1) (subst (λ m. FailsAtToken Q us m) (sym q.2) (missed P Q ts us to e l))

-- ---- parts with a limit of nesting

-- two joined lists have as many tokens that open a construct as both lists together
openings_append : (front back : List Token) → count_openings (front ++ back) ≡ count_openings front + count_openings back
openings_append front back = sum_by-append (λ t. cond (opens_construct t.kind) 1 0) front back

-- if a list is too deep, then with tokens before it of which so many open a construct it is too deep for as much more nesting
pub crowded_after : (front ts us after : List Token) (token : Token) (nesting_left more : ℕ) → us ≡ front ++ ts →
    more ≤ nesting_left + count_openings front → HasTooManyOpen nesting_left ts token after → HasTooManyOpen more us token after
crowded_after front ts us after token nesting_left more e h c = record {
  front = front ++ c.front;
  joined = e ∙ ap (λ m. front ++ m) c.joined ∙ sym (append_assoc front c.front (token ∷ after));
  many =
      let i = c.many in
      let j = openings_append front (c.front ++ token ∷ []) in
      let k = ap count_openings (append_assoc front c.front (token ∷ [])) in
      omega (arith, h, i, j, k);
}

-- How a part of a part that is lost makes the whole lost: with any nesting; with the nesting_left that there is; and with the tokens
-- before it that open a construct.
pub record Carries {A B : Type 0} (P : NestingLimit → Phrase A) (inner : ℕ) (ts : List Token) (Q : NestingLimit → Phrase B) (nesting_left : ℕ)
    (us : List Token) : Type 0 where
  pub free : (rest : List Token) → Fails (P None) ts rest → Fails (Q None) us rest
  pub limited : (rest : List Token) → Fails (P (Some inner)) ts rest → Fails (Q (Some nesting_left)) us rest
  pub before : List Token
  pub joined : us ≡ before ++ ts
  pub crowds : nesting_left ≤ inner + count_openings before

-- a part in a part of a part
pub carries_further : {A B C : Type 0} (P : NestingLimit → Phrase A) (Q : NestingLimit → Phrase B) (R : NestingLimit → Phrase C) (inner nesting_left outer : ℕ)
    (ts us vs : List Token) → Carries P inner ts Q nesting_left us → Carries Q nesting_left us R outer vs → Carries P inner ts R outer vs
carries_further P Q R inner nesting_left outer ts us vs c d = record {
  free = λ rest l. d.free rest (c.free rest l);
  limited = λ rest l. d.limited rest (c.limited rest l);
  before = d.before ++ c.before;
  joined = d.joined ∙ ap (λ m. d.before ++ m) c.joined ∙ sym (append_assoc d.before c.before ts);
  crowds = (let i = c.crowds in let j = d.crowds in let k = openings_append d.before c.before in omega (arith, i, j, k));
}

-- a token that is too deep in a part is too deep in the whole
pub deeper_on : {A B : Type 0} (P : NestingLimit → Phrase A) (Q : NestingLimit → Phrase B) (inner nesting_left : ℕ) (ts us : List Token) →
    Carries P inner ts Q nesting_left us → (token : Token) → IsTooDeepAt P inner ts token → IsTooDeepAt Q nesting_left us token
deeper_on P Q inner nesting_left ts us c token l = record {
  after = l.after;
  fails = c.limited (token ∷ l.after) l.fails;
  too_many_open = crowded_after c.before ts us l.after token inner nesting_left c.joined c.crowds l.too_many_open;
  opens = l.opens;
}

-- an error of a part with a limit is one of the whole with its limit
carried : {A B : Type 0} (P : NestingLimit → Phrase A) (Q : NestingLimit → Phrase B) (inner nesting_left : ℕ) (ts us : List Token) →
    Carries P inner ts Q nesting_left us → (e : ParseError) → FailsWithin P inner ts e → FailsWithin Q nesting_left us e
carried P Q inner nesting_left ts us c (Unexpected rest) l = c.free rest.now l
carried P Q inner nesting_left ts us c (TooDeep token) l = deeper_on P Q inner nesting_left ts us c token l
carried P Q inner nesting_left ts us c (Memory e) l = tt

-- a part without nesting that stopped, in one with a limit
pub lost_free : {A B : Type 0} (P : Phrase A) (Q : NestingLimit → Phrase B) (nesting_left : ℕ) (ts us : List Token) →
    ((rest : List Token) → Fails P ts rest → Fails (Q None) us rest) → (e : ParseError) → FailsAtAnyNesting P ts e → FailsWithin Q nesting_left us e
lost_free P Q nesting_left ts us to (Unexpected rest) l = to rest.now l
lost_free P Q nesting_left ts us to (TooDeep token) l = absurd l
lost_free P Q nesting_left ts us to (Memory e) l = tt

-- A `?` passes on the error of a part with a limit, and the whole fails there too.
pub carried_on : {A B T : Type 0} (P : NestingLimit → Phrase A) (Q : NestingLimit → Phrase B) (inner nesting_left : ℕ) (ts us : List Token) →
    Carries P inner ts Q nesting_left us → (r : Result T ParseError) (e : ParseError) → IsErrAnd r (λ y. y ≡ e) → FailsWithin P inner ts e →
    IfErr r (FailsWithin Q nesting_left us)
carried_on P Q inner nesting_left ts us c r e h l =
    let q = err_from_is_err_and r h in
    subst (λ m. IfErr m (FailsWithin Q nesting_left us)) (sym q.1)
    (subst (λ m. FailsWithin Q nesting_left us m) (sym q.2) (carried P Q inner nesting_left ts us c e l))

-- the same of a part without nesting
pub freed_on : {A B T : Type 0} (P : Phrase A) (Q : NestingLimit → Phrase B) (nesting_left : ℕ) (ts us : List Token) →
    ((rest : List Token) → Fails P ts rest → Fails (Q None) us rest) → (r : Result T ParseError) (e : ParseError) → IsErrAnd r (λ y. y ≡ e) →
    FailsAtAnyNesting P ts e → IfErr r (FailsWithin Q nesting_left us)
freed_on P Q nesting_left ts us to r e h l =
    let q = err_from_is_err_and r h in
    subst (λ m. IfErr m (FailsWithin Q nesting_left us)) (sym q.1)
    (subst (λ m. FailsWithin Q nesting_left us m) (sym q.2) (lost_free P Q nesting_left ts us to e l))

-- the same of a part that does not allocate
pub missed_free : {A B T : Type 0} (P : Phrase A) (Q : NestingLimit → Phrase B) (nesting_left : ℕ) (ts us : List Token) →
    ((rest : List Token) → Fails P ts rest → Fails (Q None) us rest) → (r : Result T ParseError) (e : ParseError) → IsErrAnd r (λ y. y ≡ e) →
    FailsAtToken P ts e → IfErr r (FailsWithin Q nesting_left us)
missed_free P Q nesting_left ts us to r e h l = freed_on P Q nesting_left ts us to r e h (missed_lost P ts e l)

-- a result is passed on as it is, and the whole fails where the part does
pub still_carried : {A B T : Type 0} (P : NestingLimit → Phrase A) (Q : NestingLimit → Phrase B) (inner nesting_left : ℕ) (ts us : List Token) →
    Carries P inner ts Q nesting_left us → (r : Result T ParseError) → IfErr r (FailsWithin P inner ts) → IfErr r (FailsWithin Q nesting_left us)
still_carried P Q inner nesting_left ts us c (Ok x) l = tt
still_carried P Q inner nesting_left ts us c (Err e) l = carried P Q inner nesting_left ts us c e l
