-- Comments: where they open, where they close, and that a text starts with at most one.
use Rattle.std.proofs.Common.{◌≡◌, ℕ, ◌+◌, ◌-◌, ◌<◌, ◌≤◌, true, false, List, [], ◌∷◌, ◌++◌, length, take, drop, nat_eq, zero, suc, inl, inr, refl, sym, ap, ◌∙◌, subst, arith, length-append, length-drop, append_assoc}
use Rattle.std.proofs.lemmas.Bool.{both_ways, cases_order}
use Rattle.std.proofs.lemmas.Bool.Decides.{Decides-eqb}
use Rattle.std.proofs.lemmas.List.{take_all, take_at, take-append-drop, take-append-le, length-take-le}
use Rattle.std.proofs.lemmas.Slice.Eq.{starts_is}
use Rattle.std.proofs.Math.Seq.{drop-append_seam, take-append_seam}
use Rattle.std.specs.List.{starts_with}
use Rattle.lotos_text.specs.Lexing.{StartsWith, comment_opening, comment_closing, IsClosedComment, IsComment, IsUnclosedComment}

-- where the test passes, the front begins the text; where it fails, it does not
pub begins_true : (front text : List ℕ) → starts_with nat_eq text front ≡ true → StartsWith front text
begins_true front text h =
    (drop (length front) text, (starts_is {E = nat_eq} Decides-eqb text front (starts_with nat_eq text front) refl).0 h)

-- if the test fails, the front does not begin the text
pub begins_false : (front text : List ℕ) → starts_with nat_eq text front ≡ false → StartsWith front text → ⊥
begins_false front text h b =
    both_ways (starts_with nat_eq text front) h
    ((starts_is {E = nat_eq} Decides-eqb text front (starts_with nat_eq text front) refl).1 b.0 b.1)

-- the offset of the closing in the front of a text
record Closing (front text : List ℕ) : Type 0 where
  at : ℕ
  after_opening : 2 ≤ at
  long : length front ≡ at + 2
  located : StartsWith comment_closing (drop at text)

-- a closed comment that begins a text ends with a closing in the text, after the opening
closing_of : (front rest text : List ℕ) → text ≡ front ++ rest → IsClosedComment front → Closing front text
closing_of front rest text e c =
    let body = c.0 in
    record {
      at = suc (suc (length body));
      after_opening = omega arith;
      long = ap length c.1 ∙ omega (arith, length-append body comment_closing);
      located = (
        rest,
        ap (drop (suc (suc (length body)))) (e ∙ ap (λ l. l ++ rest) c.1) ∙ ap (drop (length body)) (append_assoc body comment_closing rest) ∙
            drop-append_seam body (comment_closing ++ rest),
      );
    }

-- the offset is after the opening, and no closing is between
pub record NoneBefore (text : List ℕ) (at : ℕ) : Type 0 where
  pub after_opening : 2 ≤ at
  pub inside : at ≤ length text
  pub none : (k : ℕ) → 2 ≤ k → k < at → StartsWith comment_closing (drop k text) → ⊥

-- the rest of the text, as the program takes it
abbrev pub rest_of : List ℕ → ℕ → List ℕ
rest_of text at = take (length text - at) (drop at text)

-- it is all bytes from the offset on
pub rest_is : (text : List ℕ) (at : ℕ) → rest_of text at ≡ drop at text
rest_is text at = take_all (length text - at) (drop at text) (omega (arith, length-drop at text))

-- if there is none at the offset either, there is none before the next offset
pub none_step : (text : List ℕ) (at : ℕ) → NoneBefore text at → at < length text → starts_with nat_eq (rest_of text at) comment_closing ≡ false →
    NoneBefore text (at + 1)
none_step text at n s h = record {
  after_opening = omega (arith, n.after_opening);
  inside = omega (arith, s);
  none = λ k low high c. elim (cases_order k at) [
    | inl same ↦
        begins_false comment_closing (rest_of text at) h
        (subst (λ l. StartsWith comment_closing l) (ap (λ m. drop m text) same ∙ sym (rest_is text at)) c)
    | inr (inl less) ↦ n.none k low less c
    | inr (inr more) ↦ omega (arith, more, high)
  ];
}

-- so a closing is at the offset or after it
closed_after : (front rest text : List ℕ) (at : ℕ) → NoneBefore text at → text ≡ front ++ rest → IsClosedComment front → at + 2 ≤ length front
closed_after front rest text at n e c =
    let k = closing_of front rest text e c in
    elim (cases_order k.at at) [
      | inl same ↦ omega (arith, same, k.long)
      | inr (inl less) ↦ absurd (n.none k.at k.after_opening less k.located)
      | inr (inr more) ↦ omega (arith, more, k.long)
    ]

-- the text up to a closing is closed
opened_front : (text more : List ℕ) (at : ℕ) → text ≡ comment_opening ++ more → 2 ≤ at → take at text ≡ comment_opening ++ take (at - 2) more
opened_front text more zero e h = absurd (omega (arith, h))
opened_front text more (suc zero) e h = absurd (omega (arith, h))
opened_front text more (suc (suc j)) e h =
    let same : j ≡ suc (suc j) - 2 = omega arith in
    ap (take (suc (suc j))) e ∙ ap (λ m. comment_opening ++ take m more) same

-- the bytes of a text through a closing are those before it and then the closing
closed_here : (text : List ℕ) (at : ℕ) → at ≤ length text → StartsWith comment_closing (drop at text) → take (at + 2) text ≡ take at text ++ comment_closing
closed_here text at i c =
    let rest = c.0 in
    let split = sym (take-append-drop at text) ∙ ap (λ l. take at text ++ l) c.1 in
    let whole : text ≡ take at text ++ comment_closing ++ rest = split ∙ sym (append_assoc (take at text) comment_closing rest) in
    let long : length (take at text ++ comment_closing) ≡ at + 2 =
    omega (arith, length-append (take at text) comment_closing, length-take-le at text i) in
    ap (take (at + 2)) whole ∙ take_at (take at text ++ comment_closing) rest (at + 2) long

-- a list of length 0 is empty
no_bytes : (l : List ℕ) → length l ≡ 0 → l ≡ []
no_bytes [] h = refl
no_bytes (b ∷ bs) h = absurd (omega (arith, h))

-- the text up to the first closing is a comment
pub comment_found : (text : List ℕ) (at : ℕ) → StartsWith comment_opening text → NoneBefore text at →
    starts_with nat_eq (rest_of text at) comment_closing ≡ true →
    IsComment (take (at + 2) text) × (at + 2 ≤ length text)
comment_found text at o n h =
    let c = subst (λ l. StartsWith comment_closing l) (rest_is text at) (begins_true comment_closing (rest_of text at) h) in
    let inside : at + 2 ≤ length text = omega (arith, ap length c.1, length-drop at text, n.inside) in
    let long : length (take (at + 2) text) ≡ at + 2 = length-take-le (at + 2) text inside in
    let whole : text ≡ take (at + 2) text ++ drop (at + 2) text = sym (take-append-drop (at + 2) text) in (
      record {
        closed = (
          take (at - 2) o.0,
          closed_here text at n.inside c ∙ ap (λ l. l ++ comment_closing) (opened_front text o.0 at o.1 n.after_opening),
        );
        first = λ front rest e k.
            let all = whole ∙ ap (λ l. l ++ drop (at + 2) text) e ∙ append_assoc front rest (drop (at + 2) text) in
            let past = closed_after front (rest ++ drop (at + 2) text) text at n all k in
            no_bytes rest (omega (arith, past, long, ap length e, length-append front rest));
      },
      inside,
    )

-- if there is no closing before the end, none closes the comment
pub comment_open : (text : List ℕ) (at : ℕ) → StartsWith comment_opening text → NoneBefore text at → length text ≤ at → IsUnclosedComment text
comment_open text at o n h = record {
  opens = o;
  never = λ front b c. omega (arith, h, closed_after front b.0 text at n b.1 c, ap length b.1, length-append front b.0);
}

-- a comment is no longer than a closed beginning of the same text
not_shorter : (front rest piece more text : List ℕ) → text ≡ front ++ rest → text ≡ piece ++ more → IsClosedComment front → IsComment piece →
    length piece ≤ length front
not_shorter front rest piece more text e f c i = elim (cases_order (length front) (length piece)) [
  | inl same ↦ omega (arith, same)
  | inr (inl less) ↦
      let n = length front in
      let own : take n piece ≡ front =
      sym (take-append-le n piece more (omega (arith, less))) ∙ ap (take n) (sym f ∙ e) ∙ take-append_seam front rest in
      let split : piece ≡ front ++ drop n piece = sym (take-append-drop n piece) ∙ ap (λ l. l ++ drop n piece) own in
      omega (arith, less, length-drop n piece, ap length (i.first front (drop n piece) split c))
  | inr (inr more) ↦ omega (arith, more)
]

-- two comments at the front of one text are equally long
pub one_comment : (a r b q text : List ℕ) → text ≡ a ++ r → text ≡ b ++ q → IsComment a → IsComment b → length a ≡ length b
one_comment a r b q text e f i j =
    omega (arith, not_shorter a r b q text e f i.closed j, not_shorter b q a r text f e j.closed i)

-- a comment begins with an opening
pub comment_opens : (text piece rest : List ℕ) → text ≡ piece ++ rest → IsComment piece → StartsWith comment_opening text
comment_opens text piece rest e i = (i.closed.0 ++ comment_closing ++ rest, e ∙ ap (λ l. l ++ rest) i.closed.1)

-- a comment has a byte at least
pub comment_some : (piece : List ℕ) → IsComment piece → 0 < length piece
comment_some piece i = omega (arith, ap length i.closed.1)
