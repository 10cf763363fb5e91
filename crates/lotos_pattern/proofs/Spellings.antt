-- The first word of an element decides how it goes on, so words spell at most one pattern.
use Rattle.std.proofs.Common.{◌≡◌, ℕ, Bool, true, false, List, [], ◌∷◌, ◌++◌, refl, sym, ap, subst, ◌∙◌, append_assoc, arith, codes, get_or}
use Rattle.std.specs.Prelude.{◌==◌, ◌||◌}
use Rattle.std.proofs.lemmas.List.{append-nil}
use Rattle.lotos_pattern.specs.PatternLabels.{Label}
use Rattle.lotos_pattern.specs.Patterns.{Element, IsJoin, LabelSet, Pattern, one, others, refuses, these, until, until_refuses, while}
use Rattle.lotos_pattern.specs.Spelling.{EqualsIgnoringCase, IsNot, NamesLabels, PatternOf, RefusalSpelling, SetSpelling, Spelling, Text, WideSetSpelling}
use Rattle.lotos_pattern.specs.Spelling.{all, complement, deadlock, end, named, one_of, parts_of, refused, some, until_end, until_set, while_set}
use Rattle.lotos_pattern.specs.PatternFaults.{IsLabels}
use Rattle.lotos_pattern.proofs.LabelNames.{labels_no_angle, same_labels}
use Rattle.lotos_pattern.proofs.Words.{Differ, apart}

module _ (strong : Bool) where
  -- the word is this one in angle brackets, or names labels if it is none
  data Marks (word : Text) : Text → Type 0 where
    labels : IsLabels strong word → Marks word []
    angle : {rest : Text} → EqualsIgnoringCase word (60 ∷ rest) → Marks word (60 ∷ rest)

  -- a word has at most one mark
  one_mark : (word text other : Text) → Marks word text → Marks word other → text ≡ other
  one_mark word _ _ (labels h) (labels k) = refl
  one_mark word _ _ (labels h) (angle {rest = rest} k) = absurd (labels_no_angle strong word rest h k)
  one_mark word _ _ (angle {rest = rest} h) (labels k) = absurd (labels_no_angle strong word rest k h)
  one_mark word _ _ (angle h) (angle k) = sym h ∙ k

  -- the text of the word that a spelling begins with, if it is in angle brackets
  abbrev set_mark : {set : LabelSet} {words : List Text} → SetSpelling strong set words → Text
  set_mark (named n) = []
  set_mark (complement i n) = codes "<not>"

  abbrev wide_mark : {set : LabelSet} {words : List Text} → WideSetSpelling strong set words → Text
  wide_mark (some h) = set_mark h
  wide_mark (all i) = codes "<any>"

  abbrev refusal_mark : {set : LabelSet} {words : List Text} → RefusalSpelling strong set words → Text
  refusal_mark (deadlock i) = codes "<deadlock>"
  refusal_mark (refused i h) = codes "<refuses>"

  abbrev mark : {e : Element} {words : List Text} → Spelling strong e words → Text
  mark (one_of h) = wide_mark h
  mark (until_set i h) = codes "<until>"
  mark (while_set i h) = codes "<while>"
  mark (end h) = refusal_mark h
  mark (until_end i h) = codes "<until>"

  -- the first of the words that spell an element
  record First (words : List Text) (text : Text) : Type 0 where
    word : Text
    rest : List Text
    begins : words ≡ word ∷ rest
    marks : Marks word text

  -- the spelling of a set has a first word, with the mark of the spelling
  first_of_set : (set : LabelSet) (words : List Text) (h : SetSpelling strong set words) → First words (set_mark h)
  first_of_set _ _ (named {word = w} {labels = ls} n) = record { word = w; rest = []; begins = refl; marks = labels (ls, n) }
  first_of_set _ _ (complement {first = w} {second = t} i n) = record { word = w; rest = t ∷ []; begins = refl; marks = angle i }

  -- the spelling of a set that may be that of all labels has a first word, with the mark of the spelling
  first_of_wide_set : (set : LabelSet) (words : List Text) (h : WideSetSpelling strong set words) → First words (wide_mark h)
  first_of_wide_set set words (some h) = first_of_set set words h
  first_of_wide_set _ _ (all {word = w} i) = record { word = w; rest = []; begins = refl; marks = angle i }

  -- the spelling of a demand on the end has a first word, with the mark of the spelling
  first_of_refusal : (set : LabelSet) (words : List Text) (h : RefusalSpelling strong set words) → First words (refusal_mark h)
  first_of_refusal _ _ (deadlock {word = w} i) = record { word = w; rest = []; begins = refl; marks = angle i }
  first_of_refusal _ _ (refused {first = w} {rest = rest} i h) = record { word = w; rest = rest; begins = refl; marks = angle i }

  -- the spelling of an element has a first word, with the mark of the spelling
  first : (e : Element) (words : List Text) (h : Spelling strong e words) → First words (mark h)
  first _ words (one_of {set = set} h) = first_of_wide_set set words h
  first _ _ (until_set {first = w} {rest = rest} i h) = record { word = w; rest = rest; begins = refl; marks = angle i }
  first _ _ (while_set {first = w} {rest = rest} i h) = record { word = w; rest = rest; begins = refl; marks = angle i }
  first _ words (end {set = set} h) = first_of_refusal set words h
  first _ _ (until_end {first = w} {rest = rest} i h) = record { word = w; rest = rest; begins = refl; marks = angle i }

  -- if two lists of words with more words after them are the same list, their first words are the same
  same_first : (a b x y r s : List Text) (w v : Text) → a ≡ w ∷ r → b ≡ v ∷ s → a ++ x ≡ b ++ y → w ≡ v
  same_first a b x y r s w v i j e = let joined : w ∷ (r ++ x) ≡ v ∷ (s ++ y) = sym (ap (λ l. l ++ x) i) ∙ e ∙ ap (λ l. l ++ y) j in cc

  -- the same mark begins both
  same_mark : (e f : Element) (a b x y : List Text) (h : Spelling strong e a) (k : Spelling strong f b) → a ++ x ≡ b ++ y → mark h ≡ mark k
  same_mark e f a b x y h k both =
      let g = first e a h in
      let j = first f b k in
      let same = same_first a b x y g.rest j.rest g.word j.word g.begins j.begins both in
      one_mark j.word (mark h) (mark k) (subst (λ w. Marks w (mark h)) same g.marks) j.marks

  -- the same set begins both, and the same words follow it
  record OneSet (s t : LabelSet) (x y : List Text) : Type 0 where
    set : s ≡ t
    rest : x ≡ y

  -- one word names at most one list of labels
  labels_of_one : (w v : Text) (l m : List Label) → w ≡ v → NamesLabels strong w l → NamesLabels strong v m → l ≡ m
  labels_of_one w v l m same n k = same_labels strong (parts_of w) l m n (subst (λ u. NamesLabels strong u m) (sym same) k)

  -- a word that names labels is none in angle brackets
  labels_no_word : (w v tail : Text) (l : List Label) → w ≡ v → NamesLabels strong w l → EqualsIgnoringCase v (60 ∷ tail) → ⊥
  labels_no_word w v tail l same n i = labels_no_angle strong v tail (l, subst (λ u. NamesLabels strong u l) same n) i

  -- if the same words begin with spellings of two sets, these are the same set, and the same words follow them
  one_set : (s t : LabelSet) (a b x y : List Text) → SetSpelling strong s a → SetSpelling strong t b → a ++ x ≡ b ++ y → OneSet s t x y
  one_set _ _ _ _ x y (named {word = w} {labels = l} n) (named {word = v} {labels = m} k) e =
      let same : w ≡ v = cc in record { set = ap these (labels_of_one w v l m same n k); rest = cc }
  one_set _ _ _ _ x y (named {word = w} {labels = l} n) (complement {first = v} j k) e = absurd (labels_no_word w v _ l (cc) n j)
  one_set _ _ _ _ x y (complement {first = w} i n) (named {word = v} {labels = m} k) e = absurd (labels_no_word v w _ m (cc) k i)
  one_set _ _ _ _ x y (complement {second = t} {labels = l} i n) (complement {second = u} {labels = m} j k) e =
      let same : t ≡ u = cc in record { set = ap others (labels_of_one t u l m same n k); rest = cc }

  -- a set begins with no word in angle brackets but `<not>`
  set_no_word : (s : LabelSet) (a x y : List Text) (v tail : Text) → SetSpelling strong s a → a ++ x ≡ v ∷ y → Differ (codes "<not>") (60 ∷ tail) →
      EqualsIgnoringCase v (60 ∷ tail) → ⊥
  set_no_word _ _ x y v tail (named {word = w} {labels = l} n) e differ i = labels_no_word w v tail l (cc) n i
  set_no_word _ _ x y v tail (complement {first = w} j n) e differ i = let same : w ≡ v = cc in apart v (codes "<not>") (60 ∷ tail) (subst IsNot same j) i
      differ

  -- the same set, which may be that of all labels, begins both
  one_wide_set : (s t : LabelSet) (a b x y : List Text) → WideSetSpelling strong s a → WideSetSpelling strong t b → a ++ x ≡ b ++ y → OneSet s t x y
  one_wide_set s t a b x y (some h) (some k) e = one_set s t a b x y h k e
  one_wide_set s _ a _ x y (some h) (all {word = v} k) e = absurd (set_no_word s a x y v _ h e refl k)
  one_wide_set _ t _ b x y (all {word = v} h) (some k) e = absurd (set_no_word t b y x v _ k (sym e) refl h)
  one_wide_set _ _ _ _ x y (all i) (all j) e = record { set = refl; rest = cc }

  -- a demand on the end begins with no word that names labels, nor with `<not>`
  set_no_refusal : (s t : LabelSet) (a b x y : List Text) → SetSpelling strong s a → RefusalSpelling strong t b → a ++ x ≡ b ++ y → ⊥
  set_no_refusal s _ a _ x y h (deadlock {word = v} i) e = set_no_word s a x y v _ h e refl i
  set_no_refusal s _ a _ x y h (refused {first = v} {rest = rest} i k) e = set_no_word s a x (rest ++ y) v _ h e refl i

  -- the same demand on the end begins both
  one_refusal : (s t : LabelSet) (a b x y : List Text) → RefusalSpelling strong s a → RefusalSpelling strong t b → a ++ x ≡ b ++ y → OneSet s t x y
  one_refusal _ _ _ _ x y (deadlock i) (deadlock j) e = record { set = refl; rest = cc }
  one_refusal _ _ _ _ x y (deadlock {word = w} i) (refused {first = v} j k) e =
      let same : w ≡ v = cc in absurd (apart v _ _ (subst (λ u. EqualsIgnoringCase u (codes "<deadlock>")) same i) j refl)
  one_refusal _ _ _ _ x y (refused {first = w} i h) (deadlock {word = v} j) e =
      let same : w ≡ v = cc in absurd (apart v _ _ (subst (λ u. EqualsIgnoringCase u (codes "<refuses>")) same i) j refl)
  one_refusal s t _ _ x y (refused {rest = a} i h) (refused {rest = b} j k) e =
      let after : a ++ x ≡ b ++ y = cc in one_wide_set s t a b x y h k after

  -- elements by what they begin with: a set, `<until>`, `<while>`, or a demand on the end
  abbrev kind : {e : Element} {words : List Text} → Spelling strong e words → ℕ
  kind (one_of h) = 0
  kind (until_set i h) = 1
  kind (while_set i h) = 2
  kind (end h) = 3
  kind (until_end i h) = 1

  -- the mark tells which it is, by its second letter
  abbrev choose : Bool → ℕ → ℕ → ℕ
  choose true m n = m
  choose false m n = n

  abbrev kind_of_letter : ℕ → ℕ
  kind_of_letter n = choose (n == 117) 1 (choose (n == 119) 2 (choose ((n == 100) || (n == 114)) 3 0))

  -- the second letter of the mark of a spelling tells the kind of the element
  kind_of_mark : (e : Element) (words : List Text) (h : Spelling strong e words) → kind_of_letter (get_or (mark h) 1 0) ≡ kind h
  kind_of_mark _ _ (one_of (some (named n))) = refl
  kind_of_mark _ _ (one_of (some (complement i n))) = refl
  kind_of_mark _ _ (one_of (all i)) = refl
  kind_of_mark _ _ (until_set i h) = refl
  kind_of_mark _ _ (while_set i h) = refl
  kind_of_mark _ _ (end (deadlock i)) = refl
  kind_of_mark _ _ (end (refused i h)) = refl
  kind_of_mark _ _ (until_end i h) = refl

  -- if the same words begin with spellings of two elements, these are of the same kind
  same_kind : (e f : Element) (a b x y : List Text) (h : Spelling strong e a) (k : Spelling strong f b) → a ++ x ≡ b ++ y → kind h ≡ kind k
  same_kind e f a b x y h k both =
      sym (kind_of_mark e a h) ∙ ap (λ text. kind_of_letter (get_or text 1 0)) (same_mark e f a b x y h k both) ∙ kind_of_mark f b k

  -- the same element begins both, and the same words follow it
  record Once (e f : Element) (x y : List Text) : Type 0 where
    element : e ≡ f
    rest : x ≡ y

  -- if the same words begin with spellings of two elements, these are the same, and the same words follow them
  once : (e f : Element) (a b x y : List Text) → Spelling strong e a → Spelling strong f b → a ++ x ≡ b ++ y → Once e f x y
  once _ _ a b x y (one_of {set = s} h) (one_of {set = t} k) e =
      let o = one_wide_set s t a b x y h k e in record { element = ap one o.set; rest = o.rest }
  once _ _ _ _ x y (until_set {set = s} {rest = a} i h) (until_set {set = t} {rest = b} j k) e =
      let after : a ++ x ≡ b ++ y = cc in let o = one_set s t a b x y h k after in record { element = ap until o.set; rest = o.rest }
  once _ _ _ _ x y (until_set {set = s} {rest = a} i h) (until_end {set = t} {rest = b} j k) e =
      let after : a ++ x ≡ b ++ y = cc in absurd (set_no_refusal s t a b x y h k after)
  once _ _ _ _ x y (until_end {set = s} {rest = a} i h) (until_set {set = t} {rest = b} j k) e =
      let after : b ++ y ≡ a ++ x = cc in absurd (set_no_refusal t s b a y x k h after)
  once _ _ _ _ x y (until_end {set = s} {rest = a} i h) (until_end {set = t} {rest = b} j k) e =
      let after : a ++ x ≡ b ++ y = cc in let o = one_refusal s t a b x y h k after in record { element = ap until_refuses o.set; rest = o.rest }
  once _ _ _ _ x y (while_set {set = s} {rest = a} i h) (while_set {set = t} {rest = b} j k) e =
      let after : a ++ x ≡ b ++ y = cc in let o = one_wide_set s t a b x y h k after in record { element = ap while o.set; rest = o.rest }
  once _ _ a b x y (end {set = s} h) (end {set = t} k) e =
      let o = one_refusal s t a b x y h k e in record { element = ap refuses o.set; rest = o.rest }
  once e f a b x y h k both = let differ : kind h ≡ kind k = same_kind e f a b x y h k both in absurd (omega arith)

  -- a list of words that is empty has an empty front
  front_nil : (a b : List Text) → a ++ b ≡ [] → a ≡ []
  front_nil [] b e = refl
  front_nil (w ∷ a) b e = cc

  -- no element is spelled by no word
  spelled_some : (e : Element) (front rest : List Text) → Spelling strong e front → front ++ rest ≡ [] → ⊥
  spelled_some e front rest spelling none = let h = first e front spelling in let nothing = front_nil front rest none in let begins = h.begins in let z : ⊥ =
      cc in z

  -- the pattern that the words spell begins with the one that a front of them spells, and the rest of them spells the rest
  pub record GoesOn (p q : List Element) (rest : List Text) : Type 0 where
    pub more : List Element
    pub whole : q ≡ p ++ more
    pub spelled : IsJoin (Spelling strong) more rest

  -- if words spell `q`, and a front of them spells `p`, then `q` begins with `p`, and the rest of them spells its rest
  pub goes_on : (p q : List Element) (own rest words : List Text) → words ≡ own ++ rest → IsJoin (Spelling strong) p own → IsJoin (Spelling strong) q words →
      GoesOn p q rest
  goes_on [] q own rest words cut none spelled =
      let same : words ≡ rest = cut ∙ ap (λ front. front ++ rest) none in
      record { more = q; whole = refl; spelled = subst (IsJoin (Spelling strong) q) same spelled }
  goes_on (e ∷ p) [] own rest words cut (front, remainder, spelling, more_spelled, joined) none =
      let empty : front ++ (remainder ++ rest) ≡ [] = sym (append_assoc front remainder rest) ∙ ap (λ l. l ++ rest) (sym joined) ∙ sym cut ∙ none in
      absurd (spelled_some e front (remainder ++ rest) spelling empty)
  goes_on (e ∷ p) (f ∷ q) own rest words cut (front, remainder, spelling, more_spelled, joined) (start, after, spelling_too, more_too, joined_too) =
      let both : front ++ (remainder ++ rest) ≡ start ++ after = sym (append_assoc front remainder rest) ∙ ap (λ l. l ++ rest) (sym joined) ∙ sym
      cut ∙ joined_too in
      let h = once e f front start (remainder ++ rest) after spelling spelling_too both in
      let further = goes_on p q remainder rest after (sym h.rest) more_spelled more_too in
      record {
        more = further.more;
        whole = let first_same = h.element in let rest_same = further.whole in cc;
        spelled = further.spelled;
      }

  -- the empty list of words spells no element
  no_more : (more : List Element) → IsJoin (Spelling strong) more [] → more ≡ []
  no_more [] j = refl
  no_more (e ∷ more) (front, rest, spelling, j, cut) = absurd (spelled_some e front rest spelling (sym cut))

  -- patterns that have the same elements, and both or neither of which observe internal steps, are the same
  same_pattern : (p q : Pattern) → p.elements ≡ q.elements → p.strong ≡ q.strong → p ≡ q
  same_pattern p q e s = let both : record { elements = p.elements; strong = p.strong } ≡ q = rw (e, s) refl in both

  -- words spell at most one pattern
  pub one_pattern : (words : List Text) (p q : Pattern) → PatternOf strong words p → PatternOf strong words q → p ≡ q
  one_pattern words p q h k =
      let further = goes_on p.elements q.elements words [] words (sym (append-nil words)) h.spelled k.spelled in
      let none : further.more ≡ [] = no_more further.more further.spelled in
      same_pattern p q (sym (further.whole ∙ ap (λ more. p.elements ++ more) none ∙ append-nil p.elements)) (h.shows ∙ sym k.shows)
