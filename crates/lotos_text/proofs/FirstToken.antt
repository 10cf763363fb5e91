-- The first token of a list, and of lists that start alike.
use Rattle.std.proofs.Common.{◌≡◌, List, [], ◌∷◌, ◌++◌, refl, sym, ◌∙◌, ap}
use Rattle.lotos_text.specs.Grammar.{IsOfKind}
use Rattle.lotos_text.specs.Follow.{precedence}
use Rattle.lotos_text.specs.ParserContracts.{DoesNotStartWith, StartsAlike}
use Rattle.lotos_text.specs.declared.token.Token.{Token}
use Rattle.lotos_text.specs.declared.token.TokenKind.{TokenKind}

-- equal lists have the same first item
pub head_same : {A : Type 0} {x y : A} {xs ys : List A} → x ∷ xs ≡ y ∷ ys → x ≡ y
head_same e = cc

-- equal lists have the same items after the first
pub tail_same : {A : Type 0} {x y : A} {xs ys : List A} → x ∷ xs ≡ y ∷ ys → xs ≡ ys
tail_same e = cc

abbrev kind_of : Token → TokenKind
kind_of n = n.kind

-- the same token is of the same kind
pub same_is : {n m : Token} {k : TokenKind} → IsOfKind n k → n ≡ m → IsOfKind m k
same_is i e = record { same = ap kind_of (sym e) ∙ i.same }

-- no token is of two kinds
pub apart : {n m : Token} {j k : TokenKind} → IsOfKind n j → IsOfKind m k → n ≡ m → (j ≡ k → ⊥) → ⊥
apart i j e two = two (sym i.same ∙ ap kind_of e ∙ j.same)

-- a list that does not begin with the kind does not begin with such a token
pub not_first : {n : Token} (k : TokenKind) (r ts : List Token) → DoesNotStartWith k r → IsOfKind n k → r ≡ n ∷ ts → ⊥
not_first k [] ts h i e = cc
not_first k (m ∷ ms) ts h i e = h (same_is i (sym (head_same e)))

-- a token of another kind is not of this one
pub is_first : {n : Token} {j k : TokenKind} → IsOfKind n j → (j ≡ k → ⊥) → IsOfKind n k → ⊥
is_first i two j = apart i j refl two

-- a list that starts alike

-- it begins with no token of the kind either
pub starts_not : (k : TokenKind) (rest more : List Token) → StartsAlike rest more → DoesNotStartWith k rest → DoesNotStartWith k more
starts_not k [] [] st h = tt
starts_not k [] (m ∷ ms) st h = absurd cc
starts_not k (n ∷ ns) [] st h = absurd (let e = st.1 in cc)
starts_not k (n ∷ ns) (m ∷ ms) st h = λ i. h (same_is i (head_same st.1))

-- its first token has the same precedence
pub starts_rank : (rest more : List Token) → StartsAlike rest more → precedence more ≡ precedence rest
starts_rank [] more st = ap precedence st
starts_rank (n ∷ ns) more st = ap precedence st.1

-- after the same tokens it still starts alike
pub starts_after : (front rest more : List Token) → StartsAlike rest more → StartsAlike (front ++ rest) (front ++ more)
starts_after [] rest more st = st
starts_after (n ∷ front) rest more st = (front ++ more, refl)

-- each list starts as itself
pub starts_same : (ts : List Token) → StartsAlike ts ts
starts_same [] = refl
starts_same (n ∷ ns) = (ns, refl)
