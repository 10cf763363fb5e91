-- The order of the lines of a comparison.
use Rattle.std.proofs.Common.{◌≡◌, ◌⊎◌, ◌∙◌, List, ap, inl, inr, refl, subst, sym}
use Rattle.std.specs.Ordering.{nat_cmp}
use Rattle.std.specs.Cmp.Lexicographic.{slice_cmp}
use Rattle.lotos_check.specs.NameLists.{Below}
use Rattle.lotos_check.proofs.NameOrder.{below_irrefl, below_trans, one_of_three, text_says}
use Rattle.lotos_listing.specs.Order.{Before, Label}
use Rattle.lotos_listing.proofs.SequenceOrder.{before_irrefl, before_total, before_trans}
use Rattle.lotos_compare.specs.Differences.{ComesBefore, ComparisonKind, Difference, DiffersAt, IsEarlier, IsLine, Line, Observations, Side}
use Rattle.lotos_compare.specs.Differences as d

-- no difference is earlier than itself
earlier_not : (a : Side) (e : Difference) → IsEarlier a e a e → ⊥
earlier_not a e (d.label_by_text h) = below_irrefl _ h
earlier_not a e (d.set_by_labels same h) = before_irrefl _ h

-- a set of the first side is earlier than one of a side that is the second
from_first : {b : Side} {x y : List Label} → d.second ≡ b → IsEarlier d.first (d.refuses_all_but x) b (d.refuses_all_but y)
from_first {x = x} {y = y} same = subst (λ b. IsEarlier d.first (d.refuses_all_but x) b (d.refuses_all_but y)) same d.set_by_side

-- a set of a side that is the first is earlier than one of the second
to_second : {a : Side} {x y : List Label} → a ≡ d.first → IsEarlier a (d.refuses_all_but x) d.second (d.refuses_all_but y)
to_second {x = x} {y = y} same = subst (λ a. IsEarlier a (d.refuses_all_but x) d.second (d.refuses_all_but y)) (sym same) d.set_by_side

-- the order of differences is transitive
earlier_on : {a b c : Side} {e f g : Difference} → IsEarlier a e b f → IsEarlier b f c g → IsEarlier a e c g
earlier_on (d.label_by_text h) (d.label_by_text k) = d.label_by_text (below_trans _ _ _ h k)
earlier_on (d.label_by_text h) d.label_before_set = d.label_before_set
earlier_on (d.label_by_text h) d.label_before_livelock = d.label_before_livelock
earlier_on d.label_before_set d.set_by_side = d.label_before_set
earlier_on d.label_before_set (d.set_by_labels same k) = d.label_before_set
earlier_on d.label_before_set d.set_before_livelock = d.label_before_livelock
earlier_on d.set_by_side (d.set_by_labels same k) = from_first same
earlier_on d.set_by_side d.set_before_livelock = d.set_before_livelock
earlier_on (d.set_by_labels same h) d.set_by_side = to_second same
earlier_on (d.set_by_labels same h) (d.set_by_labels too k) = d.set_by_labels (same ∙ too) (before_trans _ _ _ h k)
earlier_on (d.set_by_labels same h) d.set_before_livelock = d.set_before_livelock
earlier_on d.label_before_livelock k = elim k [ ]
earlier_on d.set_before_livelock k = elim k [ ]

-- no line comes before itself
pub before_not : (l : Line) → ComesBefore l l → ⊥
before_not l (d.by_sequence h) = before_irrefl l.sequence h
before_not l (d.by_difference same h) = earlier_not l.side l.difference h

-- a line that comes before another comes before what that one comes before
pub before_on : (l m n : Line) → ComesBefore l m → ComesBefore m n → ComesBefore l n
before_on l m n (d.by_sequence h) (d.by_sequence k) = d.by_sequence (before_trans l.sequence m.sequence n.sequence h k)
before_on l m n (d.by_sequence h) (d.by_difference same k) = d.by_sequence (subst (Before l.sequence) same h)
before_on l m n (d.by_difference same h) (d.by_sequence k) = d.by_sequence (subst (λ s. Before s n.sequence) (sym same) k)
before_on l m n (d.by_difference same h) (d.by_difference too k) = d.by_difference (same ∙ too) (earlier_on h k)

module _ (one other : Observations) where
  -- the systems do not both go on alone by one label
  one_side : (a b : Side) (s : List Label) (l : Label) → DiffersAt one other a s (d.comes l) → DiffersAt one other b s (d.comes l) → a ≡ b
  one_side d.first d.first s l h k = refl
  one_side d.first d.second s l (shared, (can, cannot)) (both, (able, unable)) = absurd (unable can)
  one_side d.second d.first s l (shared, (can, cannot)) (both, (able, unable)) = absurd (unable can)
  one_side d.second d.second s l h k = refl

  -- nor do both livelock alone
  one_turns : (a b : Side) (s : List Label) → DiffersAt one other a s d.livelocks → DiffersAt one other b s d.livelocks → a ≡ b
  one_turns d.first d.first s h k = refl
  one_turns d.first d.second s (shared, (can, cannot)) (both, (able, unable)) = absurd (unable can)
  one_turns d.second d.first s (shared, (can, cannot)) (both, (able, unable)) = absurd (unable can)
  one_turns d.second d.second s h k = refl

  -- of two differences after one sequence one is earlier, or they are the same
  abbrev OneOfThree : Side → Difference → Side → Difference → Type 0
  OneOfThree a e b f = IsEarlier a e b f ⊎ (((a ≡ b) × (e ≡ f)) ⊎ IsEarlier b f a e)

  -- of two labels
  labels_ordered : (a b : Side) (s : List Label) (l m : Label) → DiffersAt one other a s (d.comes l) → DiffersAt one other b s (d.comes m) →
      OneOfThree a (d.comes l) b (d.comes m)
  labels_ordered a b s l m h k = elim (one_of_three Below l m (slice_cmp nat_cmp l m) (text_says l m)) [
    | inl below ↦ inl (d.label_by_text below)
    | inr (inl same) ↦ inr (inl (one_side a b s l h (subst (λ n. DiffersAt one other b s (d.comes n)) (sym same) k), ap d.comes same))
    | inr (inr above) ↦ inr (inr (d.label_by_text above))
  ]

  -- of two sets of labels on one side
  sets_ordered : (a : Side) (x y : List Label) → OneOfThree a (d.refuses_all_but x) a (d.refuses_all_but y)
  sets_ordered a x y = elim (before_total x y) [
    | inl before ↦ inl (d.set_by_labels refl before)
    | inr (inl same) ↦ inr (inl (refl, ap d.refuses_all_but same))
    | inr (inr after) ↦ inr (inr (d.set_by_labels refl after))
  ]

  -- of any two
  differences_ordered : (a b : Side) (s : List Label) (e f : Difference) → DiffersAt one other a s e → DiffersAt one other b s f → OneOfThree a e b f
  differences_ordered a b s (d.comes l) (d.comes m) h k = labels_ordered a b s l m h k
  differences_ordered a b s (d.comes l) (d.refuses_all_but y) h k = inl d.label_before_set
  differences_ordered a b s (d.comes l) d.livelocks h k = inl d.label_before_livelock
  differences_ordered a b s (d.refuses_all_but x) (d.comes m) h k = inr (inr d.label_before_set)
  differences_ordered d.first d.first s (d.refuses_all_but x) (d.refuses_all_but y) h k = sets_ordered d.first x y
  differences_ordered d.first d.second s (d.refuses_all_but x) (d.refuses_all_but y) h k = inl d.set_by_side
  differences_ordered d.second d.first s (d.refuses_all_but x) (d.refuses_all_but y) h k = inr (inr d.set_by_side)
  differences_ordered d.second d.second s (d.refuses_all_but x) (d.refuses_all_but y) h k = sets_ordered d.second x y
  differences_ordered a b s (d.refuses_all_but x) d.livelocks h k = inl d.set_before_livelock
  differences_ordered a b s d.livelocks (d.comes m) h k = inr (inr d.label_before_livelock)
  differences_ordered a b s d.livelocks (d.refuses_all_but y) h k = inr (inr d.set_before_livelock)
  differences_ordered a b s d.livelocks d.livelocks h k = inr (inl (one_turns a b s h k, refl))

  -- of two lines one comes before the other, or they are the same
  pub lines_ordered : (kind : ComparisonKind) (l m : Line) → IsLine one other kind l → IsLine one other kind m →
      ComesBefore l m ⊎ ((l ≡ m) ⊎ ComesBefore m l)
  lines_ordered kind l m h k = elim (before_total l.sequence m.sequence) [
    | inl before ↦ inl (d.by_sequence before)
    | inr (inl same) ↦
        let there : DiffersAt one other m.side l.sequence m.difference = subst (λ s. DiffersAt one other m.side s m.difference) (sym same) k.differs in
        elim (differences_ordered l.side m.side l.sequence l.difference m.difference h.differs there) [
          | inl earlier ↦ inl (d.by_difference same earlier)
          | inr (inl (sides, differences)) ↦ inr (inl (λ i. record { side = sides i; sequence = same i; difference = differences i }))
          | inr (inr later) ↦ inr (inr (d.by_difference (sym same) later))
        ]
    | inr (inr after) ↦ inr (inr (d.by_sequence after))
  ]
