-- Names that are in scope at a part of a behaviour.
use Rattle.std.specs.Prelude.{◌≡◌, ◌⊎◌, ℕ, ◌<◌, List, [], ◌∷◌, ◌++◌, length, get_or, map, slice_index_or, IfSome, Option, None, Some, option_map, Box}
use Rattle.std.specs.Borrow.{Bor}
use Rattle.std.specs.declared.alloc.Global.{Global}
use Rattle.std.proofs.Common.{zero, suc, inl, inr, refl, sym, subst, arith}
use Rattle.lotos_text.specs.AstView.{BehaviourView, gates, prefix, par, call}
use Rattle.lotos_text.specs.AstOf.{behaviour_view}
use Rattle.lotos_text.specs.declared.ast.Behaviour as code
use Rattle.lotos_text.specs.declared.ast.Behaviour.{Behaviour}
use Rattle.lotos_text.specs.declared.ast.SyncSet.{SyncSet}
use Rattle.lotos_text.specs.declared.ast.Placed.{Placed}
use Rattle.lotos_text.specs.declared.ast.Action.TheVariants.{Gate}
use Rattle.lotos_text.proofs.TwoOperands.{HasOperands, by_operands}
use Rattle.lotos_check.specs.NameLists.{Name, In, texts}
use Rattle.lotos_check.specs.Subexpressions.{IsSubexpression, whole, in_choice_left, in_choice_right, in_par_left, in_par_right, in_enable_left, in_enable_right, in_disable_left, in_disable_right, acts, synchronizes, passes}
use Rattle.lotos_check.proofs.JoinedLists.{in_back, in_front}
use Rattle.lotos_check.proofs.ListIndices.{contains_in}
use Rattle.lotos_check.proofs.MappedLists.{in_map}
use Rattle.lotos_explain.specs.SimilarNames.{IsFrom, IsAmongAt, UsesGateAt, IsCallAt, OccursAt, IsInScopeAt, CallsAt}
use Rattle.lotos_explain.specs.declared.similar_gates.Occurrence.{Occurrence}

-- what holds of a name that is there, if there is one
pub some_weaker : {A : Type 0} {P Q : A → Type 0} (o : Option A) → ((a : A) → P a → Q a) → IfSome o P → IfSome o Q
some_weaker None f h = h
some_weaker (Some a) f h = f a h

-- the name of a gate of a list is one of their names
pub text_of_item : (gs : List Placed) (i : ℕ) (g : Placed) → i < length gs → g ≡ get_or gs i g → In g.name (texts gs)
text_of_item gs i g below is = in_map (λ (p : Placed). p.name) g gs (contains_in gs g (i, below, sym is))

-- a word of a list is one of their texts
pub word_located : (words : List (Bor Name)) (i : ℕ) (d : Bor Name) → i < length words → In (slice_index_or words i d).now (map (λ w. w.now) words)
word_located [] i d below = absurd (omega (arith, below))
word_located (w ∷ ws) zero d below = inl refl
word_located (w ∷ ws) (suc i) d below = inr (word_located ws i d (omega (arith, below)))

-- if a gate at an index of a list has the offset, one of the gates has it
pub among_item : (gs : List Placed) (i : ℕ) (g : Placed) (at : ℕ) → i < length gs → g ≡ get_or gs i g → g.at ≡ at → IsAmongAt gs at
among_item gs i g at below is offset = record { gate = g; located = contains_in gs g (i, below, sym is); offset = offset }

module _ {A : Type 0} (now : A → Name) where
  -- what holds of the name that is there
  pub of_some : (P : Name → Type 0) (o : Option A) (m : Name) → option_map now o ≡ Some m → IfSome o (λ n. P (now n)) → P m
  of_some P None m e h = cc
  of_some P (Some a) m e h = let same : now a ≡ m = cc in subst P same h

  -- of one name, and then of another of the list
  pub from_more : (best closest found : Option A) (names : List Name) (x : Name) → In x names →
      IfSome closest (λ n. IsFrom (option_map now best) names (now n)) →
      IfSome found (λ n. IsFrom (option_map now closest) (x ∷ []) (now n)) →
      IfSome found (λ n. IsFrom (option_map now best) names (now n))
  from_more best closest found names x i before more =
      some_weaker found (λ n h. elim h [
        | inl e ↦ of_some (IsFrom (option_map now best) names) closest (now n) e before
        | inr (inl e) ↦ inr (subst (λ t. In t names) e i)
        | inr (inr none) ↦ absurd none
      ]) more

  -- a name in scope around, or one of the list, is in scope inside
  pub from_inside : (best found : Option A) (gs : List Placed) (around : List Name) → IfSome best (λ n. In (now n) around) →
      IfSome found (λ n. IsFrom (option_map now best) (texts gs) (now n)) → IfSome found (λ n. In (now n) (texts gs ++ around))
  from_inside best found gs around outer more =
      some_weaker found (λ n h. elim h [
        | inl e ↦ in_back (now n) (texts gs) around (of_some (λ t. In t around) best (now n) e outer)
        | inr i ↦ in_front (now n) (texts gs) around i
      ]) more

  -- what is found with nothing before is in the list
  pub from_nothing : (found : Option A) (names : List Name) → IfSome found (λ n. IsFrom (option_map now None) names (now n)) →
      IfSome found (λ n. In (now n) names)
  from_nothing found names more = some_weaker found (λ n h. elim h [ inl e ↦ cc | inr i ↦ i ]) more

-- a prefix uses a gate at the offset of its gate
pub acts_at : (g : Placed) (b : BehaviourView) (at : ℕ) → g.at ≡ at → UsesGateAt (prefix (Gate g) b) at
acts_at g b at e = record { gate = g; uses = acts; offset = e }

-- a parallel composition uses a gate at the offset of each gate in its list
pub synchronizes_at : (l r : BehaviourView) (gs : List Placed) (at : ℕ) → IsAmongAt gs at → UsesGateAt (par l (gates gs) r) at
synchronizes_at l r gs at h = record { gate = h.gate; uses = synchronizes h.located; offset = h.offset }

-- a call uses a gate at the offset of each of its actual gates
pub passes_at : (p : Placed) (gs : List Placed) (at : ℕ) → IsAmongAt gs at → UsesGateAt (call p gs) at
passes_at p gs at h = record { gate = h.gate; uses = passes h.located; offset = h.offset }

-- a call is one at the offset of its name
pub call_at : (p : Placed) (gs : List Placed) (at : ℕ) → p.at ≡ at → IsCallAt (call p gs) at
call_at p gs at e = record { called = p; actuals = gs; is = refl; offset = e }

module _ (around : List Name) (place : Occurrence) where
  -- what is in scope inside an operand is in scope inside the whole
  pub deeper : (inside : List Name) (b c : BehaviourView) → ((there : List Name) (t : BehaviourView) → IsSubexpression inside b there t →
      IsSubexpression around c there t) → (n : Name) → IsInScopeAt inside b place n → IsInScopeAt around c place n
  deeper inside b c f n h = record {
    there = h.there;
    part = h.part;
    inside = f h.there h.part h.inside;
    uses = h.uses;
    visible = h.visible;
  }

  -- a name in scope around a behaviour in which a name occurs
  pub at_once : (b : BehaviourView) → OccursAt b place → (n : Name) → In n around → IsInScopeAt around b place n
  at_once b uses n visible = record { there = around; part = b; inside = whole; uses = uses; visible = visible }

module _ (around : List Name) (at : ℕ) where
  -- a call inside an operand is one inside the whole, at the same offset
  pub calls_deeper : (inside : List Name) (b c : BehaviourView) → ((there : List Name) (t : BehaviourView) → IsSubexpression inside b there t →
      IsSubexpression around c there t) → CallsAt inside b at → CallsAt around c at
  calls_deeper inside b c f h = record {
    there = h.there;
    called = h.called;
    actuals = h.actuals;
    inside = f h.there (call h.called h.actuals) h.inside;
    offset = h.offset;
  }

  -- a call contains a call at the offset of its name: itself
  pub calls_itself : (p : Placed) (gs : List Placed) → p.at ≡ at → CallsAt around (call p gs) at
  calls_itself p gs e = record { there = around; called = p; actuals = gs; inside = whole; offset = e }

-- an operand's parts are parts of a behaviour with two operands
module _ (around there : List Name) (t : BehaviourView) where
  -- a part of the left operand is a part of the whole
  pub in_left_operand : (b : Behaviour) (left right : Box Behaviour Global) →
      ((s : SyncSet) × (b ≡ code.Par left s right)) ⊎ HasOperands b left right →
      IsSubexpression around (behaviour_view left.value) there t → IsSubexpression around (behaviour_view b) there t
  in_left_operand b left right (inl (s, e)) h = rw e (in_par_left h)
  in_left_operand b left right (inr has) h =
      by_operands (λ v. IsSubexpression around v there t) b left right
      (in_choice_left h) (λ at. in_enable_left h) (in_disable_left h) has

  -- a part of the right operand is a part of the whole
  pub in_right_operand : (b : Behaviour) (left right : Box Behaviour Global) →
      ((s : SyncSet) × (b ≡ code.Par left s right)) ⊎ HasOperands b left right →
      IsSubexpression around (behaviour_view right.value) there t → IsSubexpression around (behaviour_view b) there t
  in_right_operand b left right (inl (s, e)) h = rw e (in_par_right h)
  in_right_operand b left right (inr has) h =
      by_operands (λ v. IsSubexpression around v there t) b left right
      (in_choice_right h) (λ at. in_enable_right h) (in_disable_right h) has
