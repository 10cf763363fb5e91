-- Why a command that looks for its whole answer before it writes has none.
use Rattle.std.specs.Prelude.{◌≡◌, ◌⊎◌, [], None, Option, false}
use Rattle.lotos_outcome.specs.Calls.{Answering}
use Rattle.lotos_outcome.specs.Outcomes.{is_write}
use Rattle.lotos_outcome.specs.declared.outcome.Stop.{Stop}
use Rattle.lotos_outcome.specs.declared.outcome.Stop.TheVariants.{Memory}
use Rattle.lotos_tool.specs.declared.halt.Halt.{Halt}

-- memory ran out
abbrev pub IsMemoryHalt : {P : Type 0} → Halt P → Type 0
IsMemoryHalt halt = halt ≡ record { cause = Memory; place = None }

-- this is the cause, and the place is one of these; or memory ran out
abbrev pub IsHaltAt : {P : Type 0} → Stop → (IsPlace : Option P → Type 0) → Halt P → Type 0
IsHaltAt cause IsPlace halt = IsMemoryHalt halt ⊎ ((halt.cause ≡ cause) × IsPlace halt.place)

module _ {F P : Type 0} (a : Answering F (Option P)) where
  -- the search for the answer stops for this cause at this place, before anything is written
  pub record IsUnwrittenStop (q : a.Question) (cause : Stop) (place : Option P) : Type 0 where
    pub unwritten : is_write cause ≡ false
    pub stops : a.Stops q cause place []

  -- why there is no answer to the question: the search for it stops, or memory ran out
  abbrev pub IsHalt : a.Question → Halt P → Type 0
  IsHalt q halt = IsMemoryHalt halt ⊎ IsUnwrittenStop q halt.cause halt.place

  -- why there is no answer, if one of these questions is asked
  abbrev pub HasHalt : (Asked : a.Question → Type 0) → Halt P → Type 0
  HasHalt Asked halt = IsMemoryHalt halt ⊎ ((q : a.Question) × Asked q × IsUnwrittenStop q halt.cause halt.place)
