-- Ends of calls that look for their whole answer before they write.
use Rattle.std.proofs.Common.{◌≡◌, ℕ, List, [], None, Option, true, false, inl, inr, refl, subst, sym}
use Rattle.std.proofs.KnownBytes.{Appends-nil, Keeps-refl}
use Rattle.lotos_outcome.specs.Calls.{Answered, Answering}
use Rattle.lotos_outcome.specs.Outcomes.{is_write}
use Rattle.lotos_outcome.specs.declared.outcome.Ended.TheVariants.{Stopped}
use Rattle.lotos_outcome.specs.declared.outcome.Stop.{Stop}
use Rattle.lotos_outcome.specs.declared.outcome.Stop.TheVariants.{Limit, Lines, Memory, States, Terms, Write}
use Rattle.lotos_tool.specs.Halts.{HasHalt, IsHalt, IsHaltAt, IsUnwrittenStop}
use Rattle.lotos_tool.specs.declared.halt.Halt.{Halt}

module _ {F P : Type 0} (a : Answering F (Option P)) where
  -- the halt for a cause at one of these places, at each of which the search stops for it
  pub halt_is : (q : a.Question) (cause : Stop) (IsPlace : Option P → Type 0) (h : Halt P) → is_write cause ≡ false →
      ((place : Option P) → IsPlace place → a.Stops q cause place []) → IsHaltAt cause IsPlace h → IsHalt a q h
  halt_is q cause IsPlace h unwritten stops at = elim at [
    | inl memory ↦ inl memory
    | inr (is, place) ↦
        inr (subst (λ c. IsUnwrittenStop a q c h.place) (sym is) (record { unwritten = unwritten; stops = stops h.place place }))
  ]

  module _ (Asked : a.Question → Type 0) where
    -- the halt of a question that is asked
    pub halts_for : (q : a.Question) (h : Halt P) → Asked q → IsHalt a q h → HasHalt a Asked h
    halts_for q h asked halt = elim halt [
      | inl memory ↦ inl memory
      | inr stop ↦ inr (q, asked, stop)
    ]

    -- no answer is missing because of the output
    pub halts_unwritten : (h : Halt P) → HasHalt a Asked h → is_write h.cause ≡ false
    halts_unwritten h halt = elim halt [
      | inl memory ↦ subst (λ (k : Halt P). is_write k.cause ≡ false) (sym memory) refl
      | inr (q, asked, stop) ↦ stop.unwritten
    ]

    module _ (got : Option (List ℕ)) where
      -- the search stopped, and nothing was written
      stop_written : (q : a.Question) → Asked q → (cause : Stop) (place : Option P) → IsUnwrittenStop a q cause place →
          Answered a Asked got got (Stopped cause place)
      stop_written q asked Limit place stop =
          record { question = q; bytes = []; asked = asked; said = stop.stops; written = Appends-nil got }
      stop_written q asked Terms place stop =
          record { question = q; bytes = []; asked = asked; said = stop.stops; written = Appends-nil got }
      stop_written q asked States place stop =
          record { question = q; bytes = []; asked = asked; said = stop.stops; written = Appends-nil got }
      stop_written q asked Lines place stop =
          record { question = q; bytes = []; asked = asked; said = stop.stops; written = Appends-nil got }
      stop_written q asked Memory place stop =
          inr (record { question = q; bytes = []; asked = asked; said = stop.stops; written = Appends-nil got })
      stop_written q asked Write place stop = let z : true ≡ false = stop.unwritten in cc

      -- there is no answer, and nothing was written
      pub halted : a.nowhere ≡ None → (h : Halt P) → HasHalt a Asked h → Answered a Asked got got (Stopped h.cause h.place)
      halted nowhere h halt = elim halt [
        | inl memory ↦
            subst (λ (k : Halt P). Answered a Asked got got (Stopped k.cause k.place)) (sym memory) (inl (sym nowhere, Keeps-refl got))
        | inr (q, asked, stop) ↦ stop_written q asked h.cause h.place stop
      ]
