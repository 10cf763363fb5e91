-- Matches: derivations, of any number of steps, that a pattern matches.
use Rattle.std.specs.Prelude.{List}
use Rattle.lotos_pattern.specs.Patterns.{Matches, Pattern}
use Rattle.lotos_listing.specs.Order.{Before, Label}
use Rattle.lotos_listing.specs.Derivations.{Derives, MayEnd, observed}

module _ {X : Type 0} (Step : X → Label → X → Type 0) (start : X) (p : Pattern) (Ends : X → Type 0) where
  -- the run is that of a derivation, of any length, whose observed sequence the pattern matches, and whose last term is
  -- an end of some kind
  pub record IsMatchTo (run : List Label) : Type 0 where
    pub last : X
    pub derives : Derives Step start run last
    pub matches : Matches p (observed p.strong run)
    pub ends : Ends last

  -- the run of a match, and no match comes before it: none has fewer steps, and among those with as many it is the
  -- first in the order of labels
  pub record IsFirstMatchTo (run : List Label) : Type 0 where
    pub matches : IsMatchTo run
    pub first : (other : List Label) → IsMatchTo other → Before other run → ⊥

module _ {X : Type 0} (Step : X → Label → X → Type 0) (start : X) (p : Pattern) where
  -- the run is that of a derivation whose observed sequence the pattern matches, and whose last term refuses the set
  -- that the pattern demands, if there is one
  abbrev pub IsMatch : List Label → Type 0
  IsMatch = IsMatchTo Step start p (MayEnd Step p)

  -- the run of such a match, and no such match comes before it: none has fewer steps, and among those with as many it
  -- is the first in the order of labels
  abbrev pub IsFirstMatch : List Label → Type 0
  IsFirstMatch = IsFirstMatchTo Step start p (MayEnd Step p)
