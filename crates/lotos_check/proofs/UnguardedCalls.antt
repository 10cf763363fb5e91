-- The unguarded calls of a behaviour, from those of its parts.
use Rattle.std.proofs.Common.{◌≡◌, ◌↔◌, ◌⊎◌, ℕ, List, [], ◌∷◌, ◌++◌, Option, refl, inl, inr}
use Rattle.lotos_check.specs.NameLists.{Name, In}
use Rattle.lotos_check.specs.Flat.{Flat, choice, par, hide, enable, disable, call}
use Rattle.lotos_check.specs.Guard.{CallsUnguarded, itself, left_choice, right_choice, left_par, right_par, under_hide, left_enable, left_disable, right_disable}
use Rattle.lotos_check.proofs.JoinedLists.{in_added, in_front, in_last}

-- the second list has the processes of the first and those that the behaviour calls unguarded
abbrev pub Adds : List ℕ → List ℕ → Flat → Type 0
Adds old new code = (q : ℕ) → In q new ↔ In q old ⊎ CallsUnguarded code q

-- an unguarded call in a choice is one in its left or its right operand
from_choice : {l r : Flat} {q : ℕ} → CallsUnguarded (choice l r) q → CallsUnguarded l q ⊎ CallsUnguarded r q
from_choice (left_choice c) = inl c
from_choice (right_choice c) = inr c

-- an unguarded call in a parallel expression is one in its left or its right operand
from_par : {l r : Flat} {s : Option (List Name)} {q : ℕ} → CallsUnguarded (par l s r) q →
    CallsUnguarded l q ⊎ CallsUnguarded r q
from_par (left_par c) = inl c
from_par (right_par c) = inr c

-- an unguarded call in a disabling is one in its left or its right operand
from_disable : {l r : Flat} {q : ℕ} → CallsUnguarded (disable l r) q → CallsUnguarded l q ⊎ CallsUnguarded r q
from_disable (left_disable c) = inl c
from_disable (right_disable c) = inr c

-- an unguarded call in a hide form is one in its body
from_hide : {gs : List Name} {b : Flat} {q : ℕ} → CallsUnguarded (hide gs b) q → CallsUnguarded b q
from_hide (under_hide c) = c

-- an unguarded call in an enabling is one in its left operand
from_enable : {l r : Flat} {q : ℕ} → CallsUnguarded (enable l r) q → CallsUnguarded l q
from_enable (left_enable c) = c

-- an instantiation calls no process unguarded but the one that it names
from_call : {k q : ℕ} {gs : List Name} → CallsUnguarded (call k gs) q → k ≡ q
from_call itself = refl

-- a behaviour adds what both of its operands add, where it calls what one of them calls
module _ (old mid new : List ℕ) (left right whole : Flat) (into_left : Adds old mid left) (into_right : Adds mid new right)
    (down : (q : ℕ) → CallsUnguarded whole q → CallsUnguarded left q ⊎ CallsUnguarded right q)
    (up_left : (q : ℕ) → CallsUnguarded left q → CallsUnguarded whole q)
    (up_right : (q : ℕ) → CallsUnguarded right q → CallsUnguarded whole q) where
  -- a process in the old list or called unguarded by the left operand is in the old list or called so by the whole
  out_mid : (q : ℕ) → In q old ⊎ CallsUnguarded left q → In q old ⊎ CallsUnguarded whole q
  out_mid q (inl i) = inl i
  out_mid q (inr c) = inr (up_left q c)

  -- a process in the middle list or called unguarded by the right operand is in the old list or called so by the whole
  out : (q : ℕ) → In q mid ⊎ CallsUnguarded right q → In q old ⊎ CallsUnguarded whole q
  out q (inl i) = out_mid q ((into_left q).0 i)
  out q (inr c) = inr (up_right q c)

  -- a process that one of the operands calls unguarded is in the new list
  back_part : (q : ℕ) → CallsUnguarded left q ⊎ CallsUnguarded right q → In q new
  back_part q (inl c) = (into_right q).1 (inl ((into_left q).1 (inr c)))
  back_part q (inr c) = (into_right q).1 (inr c)

  -- a process in the old list or called unguarded by the whole is in the new list
  back : (q : ℕ) → In q old ⊎ CallsUnguarded whole q → In q new
  back q (inl i) = (into_right q).1 (inl ((into_left q).1 (inl i)))
  back q (inr c) = back_part q (down q c)

  -- the new list has the processes of the old one and those that the whole calls unguarded
  adds_both : Adds old new whole
  adds_both q = (λ i. out q ((into_right q).0 i), back q)

-- a behaviour adds what its one part adds, where it calls what that calls
module _ (old new : List ℕ) (part whole : Flat) (into : Adds old new part)
    (down : (q : ℕ) → CallsUnguarded whole q → CallsUnguarded part q)
    (up : (q : ℕ) → CallsUnguarded part q → CallsUnguarded whole q) where
  -- a process in the old list or called unguarded by the part is in the old list or called so by the whole
  out_one : (q : ℕ) → In q old ⊎ CallsUnguarded part q → In q old ⊎ CallsUnguarded whole q
  out_one q (inl i) = inl i
  out_one q (inr c) = inr (up q c)

  -- a process in the old list or called unguarded by the whole is in the new list
  back_one : (q : ℕ) → In q old ⊎ CallsUnguarded whole q → In q new
  back_one q (inl i) = (into q).1 (inl i)
  back_one q (inr c) = (into q).1 (inr (down q c))

  -- the new list has the processes of the old one and those that the whole calls unguarded
  adds_one : Adds old new whole
  adds_one q = (λ i. out_one q ((into q).0 i), back_one q)

-- a choice adds what its operands add
pub adds_choice : (old mid new : List ℕ) (l r : Flat) → Adds old mid l → Adds mid new r → Adds old new (choice l r)
adds_choice old mid new l r a b =
    adds_both old mid new l r (choice l r) a b (λ q c. from_choice c) (λ q c. left_choice c) (λ q c. right_choice c)

-- a disabling adds what its operands add
pub adds_disable : (old mid new : List ℕ) (l r : Flat) → Adds old mid l → Adds mid new r → Adds old new (disable l r)
adds_disable old mid new l r a b =
    adds_both old mid new l r (disable l r) a b (λ q c. from_disable c) (λ q c. left_disable c) (λ q c. right_disable c)

-- a parallel expression adds what its operands add
pub adds_par : (old mid new : List ℕ) (l r : Flat) (s : Option (List Name)) → Adds old mid l → Adds mid new r →
    Adds old new (par l s r)
adds_par old mid new l r s a b =
    adds_both old mid new l r (par l s r) a b (λ q c. from_par c) (λ q c. left_par c) (λ q c. right_par c)

-- a hide form adds what its body adds
pub adds_hide : (old new : List ℕ) (gs : List Name) (b : Flat) → Adds old new b → Adds old new (hide gs b)
adds_hide old new gs b a = adds_one old new b (hide gs b) a (λ q c. from_hide c) (λ q c. under_hide c)

-- an enabling adds what its left operand adds
pub adds_enable : (old new : List ℕ) (l r : Flat) → Adds old new l → Adds old new (enable l r)
adds_enable old new l r a = adds_one old new l (enable l r) a (λ q c. from_enable c) (λ q c. left_enable c)

-- a process of a list, or the one that an instantiation names, is in the list or called unguarded by the instantiation
call_out : (old : List ℕ) (k q : ℕ) (gs : List Name) → In q old ⊎ (k ≡ q) → In q old ⊎ CallsUnguarded (call k gs) q
call_out old k q gs (inl i) = inl i
call_out old k q gs (inr e) = inr (rw (← e) itself)

-- a process of a list, or one that an instantiation calls unguarded, is in the list with the named process appended
call_back : (old : List ℕ) (k q : ℕ) (gs : List Name) → In q old ⊎ CallsUnguarded (call k gs) q → In q (old ++ k ∷ [])
call_back old k q gs (inl i) = in_front q old (k ∷ []) i
call_back old k q gs (inr c) = rw (← from_call c) (in_last k old)

-- an instantiation adds the process that it names
pub adds_call : (old : List ℕ) (k : ℕ) (gs : List Name) → Adds old (old ++ k ∷ []) (call k gs)
adds_call old k gs q = (λ i. call_out old k q gs (in_added q old k i), call_back old k q gs)
