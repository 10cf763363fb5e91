-- Terms whose steps are alike, with what makes the internal ones: they differ by what relabellings and hidings around
-- their parts make of gates, and not in what comes out of it.
use Rattle.std.specs.Prelude.{◌≡◌, ℕ, List, Option, Some, if◌then◌else◌, length, map, slice_get}
use Rattle.lotos_check.specs.NameLists.{In}
use Rattle.lotos_store.specs.GateLists.{is_in_list}
use Rattle.lotos_store.specs.Terms.{Process, Term, call, disable, enable, hide, par, relabel}
use Rattle.lotos_store.specs.declared.label.Label.TheVariants as l
use Rattle.lotos_terms.specs.Alphabets.{HasAlphabet, IsClosedSystem}
use Rattle.lotos_terms.specs.Moves.{actual_gate}
use Rattle.lotos_terms.specs.Steps.{Step}
use Rattle.lotos_origins.specs.Origins.{InternalStep}
use Rattle.lotos_origins.specs.declared.origin.Origin.{Origin}
use Rattle.lotos_origins.specs.declared.origin.Origin.TheVariants as origin

-- what a step does: an action of a gate, termination, or an internal step with what makes it
pub data Event : Type 0 where
  gate : (number : ℕ) → Event
  termination : Event
  inside : (made_by : Origin) → Event

-- a step that does this leads from the first term to the second
abbrev pub Does : List Process → Term → Event → Term → Type 0
Does system t (gate g) u = Step system t (l.Gate g) u
Does system t termination u = Step system t l.Exit u
Does system t (inside o) u = InternalStep system t o u

-- what relabellings and hidings make of an action of a gate: an action of some gate, or an internal step that is made
-- by the hiding of some gate
pub data Image : Type 0 where
  shown : (number : ℕ) → Image
  made_internal : (number : ℕ) → Image

-- the step that it is
abbrev pub event_of : Image → Event
event_of (shown g) = gate g
event_of (made_internal g) = inside (origin.Hidden g)

-- the relabellings and hidings around a term, as what they make of an action of each of its gates
abbrev pub Context : Type 0
Context = ℕ → Image

-- no relabelling, and no hiding
abbrev pub bare : Context
bare g = shown g

-- what the context makes of a step
abbrev pub seen_through : Context → Event → Event
seen_through c (gate g) = event_of (c g)
seen_through c termination = termination
seen_through c (inside o) = inside o

-- what the context makes of what is made inside it
abbrev pub image_through : Context → Image → Image
image_through c (shown g) = c g
image_through c (made_internal g) = made_internal g

-- the second context inside the first
abbrev pub under : Context → Context → Context
under outer c g = image_through outer (c g)

-- the context with a relabelling inside
abbrev pub with_relabelling : Context → List (ℕ × ℕ) → Context
with_relabelling c pairs g = c (actual_gate pairs g)

-- the context with a hiding inside
abbrev pub with_hiding : Context → List ℕ → Context
with_hiding c gates g = if is_in_list gates g then made_internal g else c g

-- the first term in the first context and the second one in the second have the same steps, with the same origins of
-- the internal ones, and again such terms after them, by one of these rules
pub data AreAlikeIn (system : List Process) : Context → Term → Context → Term → Type 0 where
  -- one term in contexts that make the same of each gate, or of each gate of an alphabet of the term
  same : {c d : Context} {t : Term} → ((g : ℕ) → c g ≡ d g) → AreAlikeIn system c t d t
  same_on : {c d : Context} {t : Term} (gates : List ℕ) → IsClosedSystem system → HasAlphabet system gates t →
      ((g : ℕ) → In g gates → c g ≡ d g) → AreAlikeIn system c t d t
  -- calls of one process with actual gates of which the contexts make the same
  calls : {c d : Context} {p : ℕ} {gates others : List ℕ} {q : Process} → IsClosedSystem system →
      slice_get system p ≡ Some q → length gates ≡ length q.formals → map c gates ≡ map d others →
      AreAlikeIn system c (call p gates) d (call p others)
  -- a relabelling or a hiding around one of them is a part of its context
  relabelled_left : {c d : Context} {pairs : List (ℕ × ℕ)} {t u : Term} →
      AreAlikeIn system (with_relabelling c pairs) t d u → AreAlikeIn system c (relabel pairs t) d u
  relabelled_right : {c d : Context} {pairs : List (ℕ × ℕ)} {t u : Term} →
      AreAlikeIn system c t (with_relabelling d pairs) u → AreAlikeIn system c t d (relabel pairs u)
  hidden_left : {c d : Context} {gates : List ℕ} {t u : Term} →
      AreAlikeIn system (with_hiding c gates) t d u → AreAlikeIn system c (hide gates t) d u
  hidden_right : {c d : Context} {gates : List ℕ} {t u : Term} →
      AreAlikeIn system c t (with_hiding d gates) u → AreAlikeIn system c t d (hide gates u)
  -- parallel compositions of alike operands on the same gates, in contexts that make the same of each gate
  parallels : {c d : Context} {a b x y : Term} {s : Option (List ℕ)} → ((g : ℕ) → c g ≡ d g) →
      AreAlikeIn system bare a bare x → AreAlikeIn system bare b bare y →
      AreAlikeIn system c (par a s b) d (par x s y)
  -- enablings and disablings of operands that are alike in these contexts
  enablings : {c d : Context} {a b x y : Term} → AreAlikeIn system c a d x → AreAlikeIn system c b d y →
      AreAlikeIn system c (enable a b) d (enable x y)
  disablings : {c d : Context} {a b x y : Term} → AreAlikeIn system c a d x → AreAlikeIn system c b d y →
      AreAlikeIn system c (disable a b) d (disable x y)

-- the terms have the same steps so, without anything around them
abbrev pub DoAlike : List Process → Term → Term → Type 0
DoAlike system t u = AreAlikeIn system bare t bare u
