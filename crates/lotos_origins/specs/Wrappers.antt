-- Relabellings and hidings around terms, by the numbers of their lists.
use Rattle.std.specs.Prelude.{◌≡◌, ◌<◌, ℕ, List, [], ◌∷◌, All, length}
use Rattle.lotos_check.specs.Guard.{IsAscending}
use Rattle.lotos_check.specs.NameLists.{In}
use Rattle.lotos_store.specs.Terms.{Term, hide, relabel}
use Rattle.lotos_store.specs.StoreView.{StoreView, gates_with, pairs_with, term_with}
use Rattle.lotos_origins.specs.Contexts.{Context, Image, bare, made_internal, shown, with_hiding, with_relabelling}
use Rattle.lotos_origins.specs.declared.wrappers.GateImage.{GateImage}
use Rattle.lotos_origins.specs.declared.wrappers.GateImage.TheVariants as images
use Rattle.lotos_origins.specs.declared.wrappers.Wrapped.{Wrapped}
use Rattle.lotos_origins.specs.declared.wrappers.Wrapper.{Wrapper}
use Rattle.lotos_origins.specs.declared.wrappers.Wrapper.TheVariants as wrapper

-- the image that the program's one stands for
abbrev pub image_of : GateImage → Image
image_of (images.Shown g) = shown g
image_of (images.MadeInternal g) = made_internal g

-- the context with the relabelling or the hiding inside
abbrev pub with_wrapper : StoreView → Context → Wrapper → Context
with_wrapper store c (wrapper.Relabelling pairs) = with_relabelling c (pairs_with store pairs)
with_wrapper store c (wrapper.Hiding gates) = with_hiding c (gates_with store gates)

-- the context with these inside, the outermost first
abbrev pub within : StoreView → Context → List Wrapper → Context
within store c [] = c
within store c (w ∷ ws) = within store (with_wrapper store c w) ws

-- the term with the relabelling or the hiding around it
abbrev pub wrapped_by : StoreView → Wrapper → Term → Term
wrapped_by store (wrapper.Relabelling pairs) t = relabel (pairs_with store pairs) t
wrapped_by store (wrapper.Hiding gates) t = hide (gates_with store gates) t

-- the term with these around it, the outermost first
abbrev pub wrapped_in : StoreView → List Wrapper → Term → Term
wrapped_in store [] t = t
wrapped_in store (w ∷ ws) t = wrapped_by store w (wrapped_in store ws t)

-- the list is one of the store, and that of a hiding ascends
abbrev pub IsWrapper : StoreView → Wrapper → Type 0
IsWrapper store (wrapper.Relabelling pairs) = pairs < length store.pairs
IsWrapper store (wrapper.Hiding gates) = (gates < length store.gates) × IsAscending (gates_with store gates)

-- each of the lists is so
abbrev pub AreWrappers : StoreView → List Wrapper → Type 0
AreWrappers store ws = All (IsWrapper store) ws

-- the number is that of a term, which is around the one with the other number
abbrev pub IsWrappedBy : StoreView → ℕ → Wrapper × ℕ → Type 0
IsWrappedBy store number (w, inner) =
    (inner < number) × IsWrapper store w × (term_with store number ≡ wrapped_by store w (term_with store inner))

-- a term of the store in relabellings and hidings of the store
pub record IsWrapping (store : StoreView) (w : Wrapped) : Type 0 where
  pub core : w.core < length store.terms
  pub wrappers : AreWrappers store w.wrappers.items

-- the term with the wrappers around it is the one with this number
pub record IsUnwrapped (store : StoreView) (number : ℕ) (w : Wrapped) : Type 0 where
  pub wrapping : IsWrapping store w
  pub term : term_with store number ≡ wrapped_in store w.wrappers.items (term_with store w.core)

-- both make the same of an action of the gate
abbrev pub AgreeAt : StoreView → List Wrapper → List Wrapper → ℕ → Type 0
AgreeAt store firsts seconds g = within store bare firsts g ≡ within store bare seconds g

-- both make the same of an action of each gate that the relabelling or the hiding names
abbrev pub AgreeOn : StoreView → List Wrapper → List Wrapper → Wrapper → Type 0
AgreeOn store firsts seconds (wrapper.Relabelling pairs) =
    (p : ℕ × ℕ) → In p (pairs_with store pairs) → AgreeAt store firsts seconds p.0
AgreeOn store firsts seconds (wrapper.Hiding gates) =
    (g : ℕ) → In g (gates_with store gates) → AgreeAt store firsts seconds g
