-- The question of a cover: its lines, and where the exploration of what can be observed stops.
use Rattle.std.specs.Prelude.{List, [], ◌∷◌, ◌++◌}
use Rattle.lotos_check.specs.Flat.{System}
use Rattle.lotos_listing.specs.Order.{Label}
use Rattle.lotos_sets.specs.Behaviours.{Behaviour, CanBeObserved, IsBehaviourOf}
use Rattle.lotos_automaton.specs.BoundedBehaviours.{BoundedBehaviour, IsStop}
use Rattle.lotos_automaton.specs.Explorations.{SameFuture}
use Rattle.lotos_automaton.specs.TransitionCovers as covers

-- the question is about the behaviour of the system
abbrev pub IsCoverQuestionOf : System → BoundedBehaviour → Type 0
IsCoverQuestionOf system q = IsBehaviourOf system q.behaviour

module _ (b : Behaviour) where
  -- a line of the cover: an access sequence, the first of the sequences with its future, with a label that can come
  -- next; and no longer sequence that is made so begins with it
  abbrev pub IsLine : List Label → Type 0
  IsLine = covers.IsLongestInCover (CanBeObserved b) (SameFuture b)

  -- the lines show everything that can be observed: for each sequence and each label that can come after it, some line
  -- begins with a sequence that has the same future and this label
  abbrev pub IsCovered : Type 0
  IsCovered = (s : List Label) (l : Label) → CanBeObserved b (s ++ l ∷ []) →
      (r : List Label) × (y : List Label) × SameFuture b r s × IsLine (r ++ l ∷ y)

-- a line that is listed: one of the cover, if the exploration of what can be observed stops nowhere; otherwise nothing
-- is listed, since it is not known what all lines are
pub record IsListedLine (q : BoundedBehaviour) (s : List Label) : Type 0 where
  pub line : IsLine q.behaviour s
  pub whole : (r : List Label) → IsStop q r → ⊥
