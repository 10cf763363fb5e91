-- Words with different meanings.
use Rattle.std.proofs.Common.{◌≡◌, ◌≢◌, ℕ, zero, suc, ◌+◌, ◌*◌, ◌<◌, Bool, true, false, List, [], ◌∷◌, ◌++◌, length, map, take, drop, get_or, Some}
use Rattle.std.proofs.Common.{Result, Ok, Err, refl, sym, ap, ◌∙◌, arith}
use Rattle.std.specs.Prelude.{◌==◌, IfOk, slice_get}
use Rattle.std.specs.Borrow.{Bor}
use Rattle.std.specs.Char.{to_ascii_uppercase}
use Rattle.std.proofs.lemmas.Bool.Decides.{nat_tests}
use Rattle.std.proofs.lemmas.List.{drop_more, length-map, take_more}
use Rattle.std.proofs.lemmas.Option.{get_or_from_slice_get, slice_get_within}
use Rattle.lotos_pattern.specs.PatternLabels.{Label, internal, termination}
use Rattle.lotos_pattern.specs.Patterns.{IsObservable}
use Rattle.lotos_pattern.specs.Spelling.{IsNamed, IsWord, Names, EqualsIgnoringCase, Text, exits, gate, inside, texts_of}

-- the second and the third letter of a text, as one number
abbrev letters : Text → ℕ
letters text = get_or text 1 0 * 256 + get_or text 2 0

-- the texts differ in their second or third letters
abbrev pub Differ : Text → Text → Type 0
Differ left right = (letters left == letters right) ≡ false

-- equal numbers do not compare as different
not_alike : (m n : ℕ) → m ≡ n → (m == n) ≡ false → ⊥
not_alike m n same differ = grind (arith, nat_tests)

-- one word does not read as two different ones
pub apart : (word left right : Text) → EqualsIgnoringCase word left → EqualsIgnoringCase word right → Differ left right → ⊥
apart word left right h k differ = not_alike (letters left) (letters right) (ap letters (sym h ∙ k)) differ

-- termination is not the internal action
exit_not_internal : termination ≢ internal
exit_not_internal e = let long : length termination ≡ length internal = ap length e in absurd (omega arith)

-- a word names one label alone
pub one_named : (word : Text) (l m : Label) → IsNamed word l → IsNamed word m → l ≡ m
one_named word _ _ (exits h) (exits k) = refl
one_named word _ _ (exits h) (inside k) = absurd (exit_not_internal (sym h ∙ k))
one_named word _ _ (exits h) (gate j k) = absurd (j h)
one_named word _ _ (inside h) (exits k) = absurd (exit_not_internal (sym k ∙ h))
one_named word _ _ (inside h) (inside k) = refl
one_named word _ _ (inside h) (gate j k) = absurd (k h)
one_named word _ _ (gate h g) (exits k) = absurd (h k)
one_named word _ _ (gate h g) (inside k) = absurd (g k)
one_named word _ _ (gate h g) (gate j k) = refl

-- every label but the internal action can be observed
pub other_observable : (strong : Bool) (l : Label) → l ≢ internal → IsObservable strong l
other_observable true l h = tt
other_observable false l h = h

-- no byte in upper case is `i`
upper_no_i : (b : ℕ) → to_ascii_uppercase b ≢ 105
upper_no_i b e = grind (arith, nat_tests)

-- no text in upper case is the internal action
upper_not_internal : (word : Text) → map to_ascii_uppercase word ≢ internal
upper_not_internal [] e = cc
upper_not_internal (b ∷ bs) e = upper_no_i b cc

-- `exit` names termination
pub names_exit : (strong : Bool) (word : Text) → IsWord word → EqualsIgnoringCase word termination → Names strong word termination
names_exit strong word spelled reads =
    record { spelled = spelled; named = exits reads; observable = other_observable strong termination exit_not_internal }

-- `i` names the internal action if internal steps are observed
pub names_internal : (word : Text) → IsWord word → EqualsIgnoringCase word internal → Names true word internal
names_internal word spelled reads = record { spelled = spelled; named = inside reads; observable = tt }

-- every word but `exit` and `i` names itself in upper case
pub names_gate : (strong : Bool) (word : Text) → IsWord word → (EqualsIgnoringCase word termination → ⊥) → (EqualsIgnoringCase word internal → ⊥) →
    Names strong word (map to_ascii_uppercase word)
names_gate strong word spelled no_exit no_internal =
    record { spelled = spelled; named = gate no_exit no_internal; observable = other_observable strong _ (upper_not_internal word) }

-- the text of the word at an index
pub word_at : (words : List (Bor Text)) (index : ℕ) (other : Bor Text) → index < length words →
    slice_get (texts_of words) index ≡ Some (get_or words index other).now
word_at [] index other within = absurd (omega arith)
word_at (w ∷ ws) zero other within = refl
word_at (w ∷ ws) (suc index) other within = word_at ws index other (omega arith)

-- an index of a word is an index of its text
pub within_texts : (words : List (Bor Text)) (index : ℕ) → index < length words → index < length (texts_of words)
within_texts words index within = let h = length-map words (λ word. word.now) in omega arith

-- the words from an index on
pub drop_at : (words : List Text) (index : ℕ) (word : Text) → slice_get words index ≡ Some word → drop index words ≡ word ∷ drop (index + 1) words
drop_at words index word is =
    drop_more words index word (slice_get_within words index word is) ∙ ap (λ w. w ∷ drop (index + 1) words) (get_or_from_slice_get words index word word is)

-- the words up to and including the one at an index
pub take_at : (words : List Text) (index : ℕ) (word : Text) → slice_get words index ≡ Some word → take (index + 1) words ≡ take index words ++ word ∷ []
take_at words index word is =
    take_more words index word (slice_get_within words index word is) ∙ ap (λ w. take index words ++ w ∷ []) (get_or_from_slice_get words index word word is)

-- what an answer gives has what follows from what it has
pub if_ok : {A E : Type 0} (P Q : A → Type 0) → ((a : A) → P a → Q a) → (r : Result A E) → IfOk r P → IfOk r Q
if_ok P Q f (Ok a) h = f a h
if_ok P Q f (Err e) h = tt
