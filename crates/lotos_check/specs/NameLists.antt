-- Names in lists.
use Rattle.std.specs.Prelude.{◌≡◌, ◌⊎◌, ℕ, ◌<◌, ◌↔◌, List, [], ◌∷◌, ◌++◌, map}
use Rattle.lotos_text.specs.declared.ast.Placed.{Placed}

-- a name, as the bytes of its text
abbrev pub Name : Type 0
Name = List ℕ

-- `x` is in the list
abbrev pub In : {X : Type 0} → X → List X → Type 0
In x [] = ⊥
In x (y ∷ ys) = (y ≡ x) ⊎ In x ys

-- the names, without their offsets
abbrev pub texts : List Placed → List Name
texts = map (λ p. p.name)

-- the name occurs in the list after another with the same text
pub record IsDuplicate (placed : Placed) (names : List Placed) : Type 0 where
  pub before : List Placed
  pub after : List Placed
  pub located : names ≡ before ++ placed ∷ after
  pub again : In placed.name (texts before)

-- no name of the list occurs twice
abbrev pub AreDistinct : List Placed → Type 0
AreDistinct names = (p : Placed) → IsDuplicate p names → ⊥

-- one list comes before another by an order of their items: its item is smaller at the first index where they differ,
-- or it is a proper prefix
abbrev pub Lex : {A : Type 0} → (A → A → Type 0) → List A → List A → Type 0
Lex smaller [] [] = ⊥
Lex smaller [] (y ∷ ys) = Unit {0}
Lex smaller (x ∷ xs) [] = ⊥
Lex smaller (x ∷ xs) (y ∷ ys) = smaller x y ⊎ ((x ≡ y) × Lex smaller xs ys)

-- the text is smaller by its bytes; a proper prefix is smaller
abbrev pub Below : Name → Name → Type 0
Below = Lex ◌<◌

-- each item of the list is smaller than the next, by an order of the items
pub data IsAscendingBy {A : Type 0} (smaller : A → A → Type 0) : List A → Type 0 where
  none : IsAscendingBy smaller []
  one : {x : A} → IsAscendingBy smaller (x ∷ [])
  more : {x y : A} {ys : List A} → smaller x y → IsAscendingBy smaller (y ∷ ys) → IsAscendingBy smaller (x ∷ y ∷ ys)

-- each name is smaller than the next
abbrev pub IsAscendingNames : List Name → Type 0
IsAscendingNames = IsAscendingBy Below

-- the names of the list in the order of their bytes, without repeats
pub record IsSetOf (names : List Name) (list : List Placed) : Type 0 where
  pub ascends : IsAscendingNames names
  pub same : (n : Name) → In n names ↔ In n (texts list)
