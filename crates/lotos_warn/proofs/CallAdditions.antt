-- The calls of a behaviour, from those of its parts.
use Rattle.std.proofs.Common.{◌≡◌, ◌↔◌, ◌⊎◌, ◌≤◌, ℕ, List, [], ◌∷◌, ◌++◌, Option, Some, slice_get, length, arith, refl, sym, ◌∙◌, subst, inl, inr, append_assoc}
use Rattle.std.proofs.lemmas.List.{append-nil}
use Rattle.std.proofs.lemmas.Option.{slice_get_within}
use Rattle.lotos_check.specs.NameLists.{Name}
use Rattle.lotos_check.specs.Flat.{Flat, stop, exit, prefix, choice, par, hide, enable, disable, call, FlatProcess}
use Rattle.lotos_check.specs.Bodies.{ContainsCall, itself, under_prefix, left_choice, right_choice, left_par, right_par, under_hide, left_enable, right_enable, left_disable, right_disable}
use Rattle.lotos_check.proofs.ListIndices.{one_item}
use Rattle.lotos_warn.specs.Additions.{Adds, ContainsCallOf, IsCalledByAny, IsCalledByNumber}
use Rattle.lotos_warn.proofs.Additions.{adds_as, adds_both, adds_nothing}

-- `stop` contains no call
from_stop : (k : ℕ) → ContainsCallOf stop k → ⊥
from_stop k (gs, h) = elim h [ ]

-- `exit` contains no call
from_exit : (k : ℕ) → ContainsCallOf exit k → ⊥
from_exit k (gs, h) = elim h [ ]

-- a call in a prefix is one in the behaviour after its action
prefix_part : {a : Option Name} {b : Flat} {k : ℕ} {gs : List Name} → ContainsCall (prefix a b) k gs → ContainsCall b k gs
prefix_part (under_prefix h) = h

-- a call in a hiding is one in the behaviour inside it
hide_part : {hidden : List Name} {b : Flat} {k : ℕ} {gs : List Name} → ContainsCall (hide hidden b) k gs → ContainsCall b k gs
hide_part (under_hide h) = h

-- a call in a choice is one in its left or its right side
choice_parts : {l r : Flat} {k : ℕ} {gs : List Name} → ContainsCall (choice l r) k gs → ContainsCall l k gs ⊎ ContainsCall r k gs
choice_parts (left_choice h) = inl h
choice_parts (right_choice h) = inr h

-- a call in a parallel composition is one in its left or its right side
par_parts : {l r : Flat} {s : Option (List Name)} {k : ℕ} {gs : List Name} → ContainsCall (par l s r) k gs → ContainsCall l k gs ⊎ ContainsCall r k gs
par_parts (left_par h) = inl h
par_parts (right_par h) = inr h

-- a call in a `>>` is one in its left or its right side
enable_parts : {l r : Flat} {k : ℕ} {gs : List Name} → ContainsCall (enable l r) k gs → ContainsCall l k gs ⊎ ContainsCall r k gs
enable_parts (left_enable h) = inl h
enable_parts (right_enable h) = inr h

-- a call in a `[>` is one in its left or its right side
disable_parts : {l r : Flat} {k : ℕ} {gs : List Name} → ContainsCall (disable l r) k gs → ContainsCall l k gs ⊎ ContainsCall r k gs
disable_parts (left_disable h) = inl h
disable_parts (right_disable h) = inr h

-- a call contains a call of no process but its own
pub called_number : {j k : ℕ} {gs names : List Name} → ContainsCall (call j gs) k names → j ≡ k
called_number itself = refl

-- a form with two operands
both_parts : (whole l r : Flat) (k : ℕ) → ((gs : List Name) → ContainsCall whole k gs → ContainsCall l k gs ⊎ ContainsCall r k gs) →
    ((gs : List Name) → ContainsCall l k gs → ContainsCall whole k gs) → ((gs : List Name) → ContainsCall r k gs → ContainsCall whole k gs) →
    (ContainsCallOf l k ⊎ ContainsCallOf r k) ↔ ContainsCallOf whole k
both_parts whole l r k down left right = (
  (λ h. elim h [ inl c ↦ (c.0, left c.0 c.1) | inr c ↦ (c.0, right c.0 c.1) ]),
  (λ c. elim (down c.0 c.1) [ inl i ↦ inl (c.0, i) | inr i ↦ inr (c.0, i) ]),
)

-- `stop` adds no process to those that are called
pub calls_stop : (ks : List ℕ) → Adds ks ks (ContainsCallOf stop)
calls_stop ks = adds_nothing ks (ContainsCallOf stop) from_stop

-- `exit` adds no process to those that are called
pub calls_exit : (ks : List ℕ) → Adds ks ks (ContainsCallOf exit)
calls_exit ks = adds_nothing ks (ContainsCallOf exit) from_exit

-- a prefix adds the processes that the behaviour after its action calls
pub calls_prefix : (old new : List ℕ) (a : Option Name) (b : Flat) → Adds old new (ContainsCallOf b) → Adds old new (ContainsCallOf (prefix a b))
calls_prefix old new a b = adds_as old new (ContainsCallOf b) (ContainsCallOf (prefix a b))
    (λ k. ((λ c. (c.0, under_prefix c.1)), (λ c. (c.0, prefix_part c.1))))

-- a hiding adds the processes that the behaviour inside it calls
pub calls_hide : (old new : List ℕ) (hidden : List Name) (b : Flat) → Adds old new (ContainsCallOf b) → Adds old new (ContainsCallOf (hide hidden b))
calls_hide old new hidden b = adds_as old new (ContainsCallOf b) (ContainsCallOf (hide hidden b))
    (λ k. ((λ c. (c.0, under_hide c.1)), (λ c. (c.0, hide_part c.1))))

module _ (old mid new : List ℕ) (l r : Flat) (first : Adds old mid (ContainsCallOf l)) (second : Adds mid new (ContainsCallOf r)) where
  -- `new` has the processes of `old` and those that one of the two behaviours calls, and no others
  both : Adds old new (λ k. ContainsCallOf l k ⊎ ContainsCallOf r k)
  both = adds_both old mid new (ContainsCallOf l) (ContainsCallOf r) first second

  -- a choice adds the processes that its sides call
  pub calls_choice : Adds old new (ContainsCallOf (choice l r))
  calls_choice = adds_as old new (λ k. ContainsCallOf l k ⊎ ContainsCallOf r k) (ContainsCallOf (choice l r))
      (λ k. both_parts (choice l r) l r k (λ gs h. choice_parts h) (λ gs h. left_choice h) (λ gs h. right_choice h)) both

  -- a parallel composition adds the processes that its sides call
  pub calls_par : (s : Option (List Name)) → Adds old new (ContainsCallOf (par l s r))
  calls_par s = adds_as old new (λ k. ContainsCallOf l k ⊎ ContainsCallOf r k) (ContainsCallOf (par l s r))
      (λ k. both_parts (par l s r) l r k (λ gs h. par_parts h) (λ gs h. left_par h) (λ gs h. right_par h)) both

  -- a `>>` adds the processes that its sides call
  pub calls_enable : Adds old new (ContainsCallOf (enable l r))
  calls_enable = adds_as old new (λ k. ContainsCallOf l k ⊎ ContainsCallOf r k) (ContainsCallOf (enable l r))
      (λ k. both_parts (enable l r) l r k (λ gs h. enable_parts h) (λ gs h. left_enable h) (λ gs h. right_enable h)) both

  -- a `[>` adds the processes that its sides call
  pub calls_disable : Adds old new (ContainsCallOf (disable l r))
  calls_disable = adds_as old new (λ k. ContainsCallOf l k ⊎ ContainsCallOf r k) (ContainsCallOf (disable l r))
      (λ k. both_parts (disable l r) l r k (λ gs h. disable_parts h) (λ gs h. left_disable h) (λ gs h. right_disable h)) both

-- a call of a process contains a call of that process
call_of : (j k : ℕ) (gs : List Name) → j ≡ k → ContainsCallOf (call j gs) k
call_of j k gs e = subst (ContainsCallOf (call j gs)) e (gs, itself)

-- a call adds its process and no other
pub calls_call : (old new : List ℕ) (j : ℕ) (gs : List Name) → Adds old new (λ k. j ≡ k) → Adds old new (ContainsCallOf (call j gs))
calls_call old new j gs = adds_as old new (λ k. j ≡ k) (ContainsCallOf (call j gs))
    (λ k. (call_of j k gs, (λ c. called_number c.1)))

-- of some processes one calls it: the first, or one of the others
pub any_split : (p : FlatProcess) (ps : List FlatProcess) (k : ℕ) → IsCalledByAny (p ∷ ps) k ↔ (ContainsCallOf p.body k ⊎ IsCalledByAny ps k)
any_split p ps k = (
  (λ (q, i, c). elim i [ inl e ↦ inl (subst (λ r. ContainsCallOf r.body k) (sym e) c) | inr j ↦ inr (q, j, c) ]),
  (λ h. elim h [ inl c ↦ (p, inl refl, c) | inr (q, j, c) ↦ (q, inr j, c) ]),
)

-- a process that the one with this number calls is called by its body
pub number_calls : (processes : List FlatProcess) (caller : ℕ) (p : FlatProcess) → slice_get processes caller ≡ Some p → (k : ℕ) →
    ContainsCallOf p.body k ↔ IsCalledByNumber processes caller k
number_calls processes caller p at k = (
  (λ c. record { process = p; located = at; calls = c }),
  (λ h. subst (λ q. ContainsCallOf q.body k) (one_item processes caller h.process p h.located at) h.calls),
)

-- a number without a process calls none
pub number_calls_none : (processes : List FlatProcess) (caller : ℕ) → length processes ≤ caller → (k : ℕ) → IsCalledByNumber processes caller k → ⊥
number_calls_none processes caller past k h = let within = slice_get_within processes caller h.process h.located in omega arith

-- what is appended is what was left first
pub appended_next : {X : Type 0} (now new more rest all : List X) → new ≡ now ++ more → now ++ (more ++ rest) ≡ all → new ++ rest ≡ all
appended_next now new more rest all grown before = subst (λ xs. xs ++ rest ≡ all) (sym grown) (append_assoc now more rest ∙ before)

-- nothing is left
pub appended_end : {X : Type 0} (now all : List X) → now ++ [] ≡ all → now ≡ all
appended_end now all before = sym (append-nil now) ∙ before
