-- The gates that a behaviour has free, from those of its parts.
use Rattle.std.proofs.Common.{◌≡◌, ◌↔◌, ◌⊎◌, List, [], ◌++◌, refl, subst, inl, inr}
use Rattle.lotos_text.specs.AstView.{BehaviourView, SyncView, gates, all, stop, exit, prefix, choice, par, hide, enable, disable, call}
use Rattle.lotos_text.specs.declared.ast.Placed.{Placed}
use Rattle.lotos_text.specs.declared.ast.Action.{Action}
use Rattle.lotos_text.specs.declared.ast.Action.TheVariants.{Internal, Gate}
use Rattle.lotos_check.specs.NameLists.{Name, In, texts}
use Rattle.lotos_check.specs.Subexpressions as parts
use Rattle.lotos_check.specs.Subexpressions.{IsSubexpression, in_prefix, in_choice_left, in_choice_right, in_par_left, in_par_right, in_hide, in_enable_left, in_enable_right, in_disable_left, in_disable_right, UsesGate}
use Rattle.lotos_check.proofs.JoinedLists.{in_back, in_either, in_front}
use Rattle.lotos_check.proofs.MappedLists.{in_map, in_map_from}
use Rattle.lotos_warn.specs.Additions.{IsActionNamed, IsListed}
use Rattle.lotos_warn.specs.Warnings as own
use Rattle.lotos_warn.specs.Warnings.{OffersGate, HasFree, UsesFree, OffersFree}

-- the behaviour has the gate free, by its form; `listed` says which gates the list of a parallel composition has
abbrev pub HasIn : (SyncView → Name → Type 0) → BehaviourView → Name → Type 0
HasIn listed stop n = ⊥
HasIn listed exit n = ⊥
HasIn listed (prefix a b) n = IsActionNamed a n ⊎ HasIn listed b n
HasIn listed (choice l r) n = HasIn listed l n ⊎ HasIn listed r n
HasIn listed (par l s r) n = HasIn listed l n ⊎ (listed s n ⊎ HasIn listed r n)
HasIn listed (hide gs b) n = (In n (texts gs) → ⊥) × HasIn listed b n
HasIn listed (enable l at r) n = HasIn listed l n ⊎ HasIn listed r n
HasIn listed (disable l r) n = HasIn listed l n ⊎ HasIn listed r n
HasIn listed (call p gs) n = In n (texts gs)

-- the behaviour has the gate where these gates are hidden around it
record HasFrom (has : BehaviourView → Placed → Type 0) (start : List Name) (behaviour : BehaviourView) (name : Name) : Type 0 where
  hidden : List Name
  part : BehaviourView
  gate : Placed
  inside : IsSubexpression start behaviour hidden part
  with_gate : has part gate
  named : gate.name ≡ name
  visible : In name hidden → ⊥

module _ (has : BehaviourView → Placed → Type 0) (listed : SyncView → Name → Type 0)
    (by_itself : (b : BehaviourView) (g : Placed) → has b g → HasIn listed b g.name)
    (acts : (g : Placed) (b : BehaviourView) → has (prefix (Gate g) b) g)
    (passes : (g p : Placed) (gs : List Placed) → In g gs → has (call p gs) g)
    (lists : (l : BehaviourView) (s : SyncView) (r : BehaviourView) (n : Name) → listed s n → (g : Placed) × has (par l s r) g × (g.name ≡ n)) where
  -- if a part of a behaviour has a gate that is not hidden there, the gate is not hidden around the behaviour, and the
  -- behaviour has it free by its form
  in_part : (start : List Name) (b : BehaviourView) (hidden : List Name) (part : BehaviourView) (g : Placed) →
      IsSubexpression start b hidden part → has part g → (In g.name hidden → ⊥) → (In g.name start → ⊥) × HasIn listed b g.name
  in_part start b hidden part g parts.whole h v = (v, by_itself b g h)
  in_part start b hidden part g (in_prefix i) h v = let r = in_part start _ hidden part g i h v in (r.0, inr r.1)
  in_part start b hidden part g (in_choice_left i) h v = let r = in_part start _ hidden part g i h v in (r.0, inl r.1)
  in_part start b hidden part g (in_choice_right i) h v = let r = in_part start _ hidden part g i h v in (r.0, inr r.1)
  in_part start b hidden part g (in_par_left i) h v = let r = in_part start _ hidden part g i h v in (r.0, inl r.1)
  in_part start b hidden part g (in_par_right i) h v = let r = in_part start _ hidden part g i h v in (r.0, inr (inr r.1))
  in_part start b hidden part g (in_hide {gs = gs} i) h v =
      let r = in_part (texts gs ++ start) _ hidden part g i h v in
      ((λ j. r.0 (in_back g.name (texts gs) start j)), ((λ j. r.0 (in_front g.name (texts gs) start j)), r.1))
  in_part start b hidden part g (in_enable_left i) h v = let r = in_part start _ hidden part g i h v in (r.0, inl r.1)
  in_part start b hidden part g (in_enable_right i) h v = let r = in_part start _ hidden part g i h v in (r.0, inr r.1)
  in_part start b hidden part g (in_disable_left i) h v = let r = in_part start _ hidden part g i h v in (r.0, inl r.1)
  in_part start b hidden part g (in_disable_right i) h v = let r = in_part start _ hidden part g i h v in (r.0, inr r.1)

  -- if each part of a behaviour is a part of another, with the same gates hidden around it, the other has each gate
  -- that the first has
  lifted : (start more : List Name) (t u : BehaviourView) (n : Name) →
      ((there : List Name) (part : BehaviourView) → IsSubexpression more t there part → IsSubexpression start u there part) →
      HasFrom has more t n → HasFrom has start u n
  lifted start more t u n wider h = record {
    hidden = h.hidden;
    part = h.part;
    gate = h.gate;
    inside = wider h.hidden h.part h.inside;
    with_gate = h.with_gate;
    named = h.named;
    visible = h.visible;
  }

  -- a behaviour has a gate, with these gates hidden around it, if it has the gate itself and the gate is none of them
  itself : (start : List Name) (b : BehaviourView) (n : Name) (g : Placed) → has b g → g.name ≡ n → (In n start → ⊥) → HasFrom has start b n
  itself start b n g h e v = record { hidden = start; part = b; gate = g; inside = parts.whole; with_gate = h; named = e; visible = v }

  -- a prefix has the gate of its action, unless that is hidden around it
  by_action : (start : List Name) (a : Action) (b : BehaviourView) (n : Name) → (In n start → ⊥) → IsActionNamed a n → HasFrom has start (prefix a b) n
  by_action start Internal b n v h = absurd h
  by_action start (Gate g) b n v h = itself start (prefix (Gate g) b) n g (acts g b) h v

  -- a behaviour has each gate that it has free by its form, unless that is hidden around it
  from_form : (start : List Name) (b : BehaviourView) (n : Name) → (In n start → ⊥) → HasIn listed b n → HasFrom has start b n
  from_form start stop n v h = absurd h
  from_form start exit n v h = absurd h
  from_form start (prefix a b) n v (inl h) = by_action start a b n v h
  from_form start (prefix a b) n v (inr h) = lifted start start b (prefix a b) n (λ there part i. in_prefix i) (from_form start b n v h)
  from_form start (choice l r) n v (inl h) = lifted start start l (choice l r) n (λ there part i. in_choice_left i) (from_form start l n v h)
  from_form start (choice l r) n v (inr h) = lifted start start r (choice l r) n (λ there part i. in_choice_right i) (from_form start r n v h)
  from_form start (par l s r) n v (inl h) = lifted start start l (par l s r) n (λ there part i. in_par_left i) (from_form start l n v h)
  from_form start (par l s r) n v (inr (inl h)) = let g = lists l s r n h in itself start (par l s r) n g.0 g.1 g.2 v
  from_form start (par l s r) n v (inr (inr h)) = lifted start start r (par l s r) n (λ there part i. in_par_right i) (from_form start r n v h)
  from_form start (hide gs b) n v h =
      lifted start (texts gs ++ start) b (hide gs b) n (λ there part i. in_hide i)
      (from_form (texts gs ++ start) b n (λ i. elim (in_either n (texts gs) start i) [ inl j ↦ h.0 j | inr j ↦ v j ]) h.1)
  from_form start (enable l at r) n v (inl h) = lifted start start l (enable l at r) n (λ there part i. in_enable_left i) (from_form start l n v h)
  from_form start (enable l at r) n v (inr h) = lifted start start r (enable l at r) n (λ there part i. in_enable_right i) (from_form start r n v h)
  from_form start (disable l r) n v (inl h) = lifted start start l (disable l r) n (λ there part i. in_disable_left i) (from_form start l n v h)
  from_form start (disable l r) n v (inr h) = lifted start start r (disable l r) n (λ there part i. in_disable_right i) (from_form start r n v h)
  from_form start (call p gs) n v h = let g = in_map_from (λ (g : Placed). g.name) n gs h in itself start (call p gs) n g.0 (passes g.0 p gs g.1) g.2 v

  -- if a behaviour has a gate free, it has the gate free by its form
  to_form : (b : BehaviourView) (n : Name) → HasFree has b n → HasIn listed b n
  to_form b n h = subst (HasIn listed b) h.named
      (in_part [] b h.hidden h.part h.gate h.inside h.with_gate (λ i. h.visible (subst (λ m. In m h.hidden) h.named i))).1

  -- if a behaviour has a gate, with no gates hidden around it, it has the gate free
  free_of : (b : BehaviourView) (n : Name) → HasFrom has [] b n → HasFree has b n
  free_of b n h = record {
    hidden = h.hidden;
    part = h.part;
    gate = h.gate;
    inside = h.inside;
    with_gate = h.with_gate;
    named = h.named;
    visible = h.visible;
  }

  -- a behaviour has a gate free exactly if it has it by its form
  pub free_by_form : (b : BehaviourView) (n : Name) → HasFree has b n ↔ HasIn listed b n
  free_by_form b n = (to_form b n, λ h. free_of b n (from_form [] b n (λ i. i) h))

-- a gate that a behaviour itself uses is free in it by its form
used_own : (b : BehaviourView) (g : Placed) → UsesGate b g → HasIn IsListed b g.name
used_own b g parts.acts = inl refl
used_own b g (parts.synchronizes {gs = gs} i) = inr (inl (in_map (λ (g : Placed). g.name) g gs i))
used_own b g (parts.passes {gs = gs} i) = in_map (λ (g : Placed). g.name) g gs i

-- a parallel composition uses a gate of each name in its list
used_lists : (l : BehaviourView) (s : SyncView) (r : BehaviourView) (n : Name) → IsListed s n → (g : Placed) × UsesGate (par l s r) g × (g.name ≡ n)
used_lists l (gates gs) r n h = let g = in_map_from (λ (g : Placed). g.name) n gs h in (g.0, parts.synchronizes g.1, g.2)
used_lists l all r n h = absurd h

-- a gate is used exactly if it is by the form of the behaviour
pub used_by_form : (b : BehaviourView) (n : Name) → UsesFree b n ↔ HasIn IsListed b n
used_by_form = free_by_form UsesGate IsListed used_own (λ g b. parts.acts) (λ g p gs i. parts.passes i) used_lists

-- no gate of a list is offered by it
abbrev pub IsNone : SyncView → Name → Type 0
IsNone s n = ⊥

-- a gate that a behaviour itself offers is free in it by its form, without the gates of lists
offered_own : (b : BehaviourView) (g : Placed) → OffersGate b g → HasIn IsNone b g.name
offered_own b g own.acts = inl refl
offered_own b g (own.passes {gs = gs} i) = in_map (λ (g : Placed). g.name) g gs i

-- a gate is offered exactly if it is by the form of the behaviour
pub offered_by_form : (b : BehaviourView) (n : Name) → OffersFree b n ↔ HasIn IsNone b n
offered_by_form = free_by_form OffersGate IsNone offered_own (λ g b. own.acts) (λ g p gs i. own.passes i) (λ l s r n h. absurd h)
