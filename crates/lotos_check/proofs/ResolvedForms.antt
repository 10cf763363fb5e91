-- The resolution of a behaviour, from those of its operands.
use Rattle.std.specs.Prelude.{◌≡◌, ℕ, List, ◌++◌, Option, Some, None, MatchOption, MatchResult, Result, Ok, Err}
use Rattle.std.specs.Option.{option_or}
use Rattle.std.specs.Result.{IsErrAnd}
use Rattle.std.proofs.Common.{refl, sym, subst, ◌∙◌}
use Rattle.lotos_text.specs.AstView as t
use Rattle.lotos_text.specs.AstView.{BehaviourView, SyncView, gates, all}
use Rattle.lotos_text.specs.declared.ast.Action.{Action}
use Rattle.lotos_text.specs.declared.ast.Action.TheVariants.{Internal, Gate}
use Rattle.lotos_text.specs.declared.ast.Functionality.TheVariants.{Exit, NoExit}
use Rattle.lotos_text.specs.declared.ast.Placed.{Placed}
use Rattle.lotos_check.specs.NameLists.{Name, In, texts, IsSetOf}
use Rattle.lotos_check.specs.Scope.{Scope}
use Rattle.lotos_check.specs.Subexpressions.{whole, UsesGate, acts, synchronizes}
use Rattle.lotos_check.specs.Functionality as u
use Rattle.lotos_check.specs.Functionality.{Func, either, both}
use Rattle.lotos_check.specs.Flat as r
use Rattle.lotos_check.specs.Flat.{Resolves, action_of}
use Rattle.lotos_check.specs.CheckedView.{flat_of}
use Rattle.lotos_check.specs.Resolution.{GatesDeclared, CallsFit, LeftsExit, NeverExits, IsResolved, IsSyncSet, AreSyncGatesDeclared, IsActionDeclared}
use Rattle.lotos_check.specs.declared.resolved_body.ResolvedBody.{ResolvedBody}
use Rattle.lotos_check.proofs.Operands.{HasOperands, gates_joined, calls_joined, never_joined, never_lift, of_prefix, of_hide, of_choice, of_par, of_enable, of_disable}

-- a fault that a result carries on
pub carried : {X E : Type 0} (result : Result X E) (P : X → Type 0) (Q : E → Type 0) (fault : E) →
    IsErrAnd result (λ x. x ≡ fault) → Q fault → MatchResult result P Q
carried (Ok x) P Q fault h q = absurd h
carried (Err x) P Q fault h q = subst Q (sym h) q

-- an option, or else the same option, is that option
or_same : (n : Option ℕ) → option_or n n ≡ n
or_same None = refl
or_same (Some at) = refl

module _ (scope : Scope) (known : List Name) where
  -- each gate that `stop` uses is in scope
  gates_stop : GatesDeclared known t.stop
  gates_stop there part gate whole uses = elim uses [ ]

  -- each call in `stop` fits
  calls_stop : CallsFit scope known t.stop
  calls_stop there name actuals stands = elim stands [ ]

  -- each left operand of `>>` in `stop` has exit
  lefts_stop : LeftsExit scope known t.stop
  lefts_stop there left right at stands = elim stands [ ]

  -- what is found of `stop`
  pub found_stop : (found : ResolvedBody) → flat_of found.code.value ≡ r.stop → found.functionality ≡ NoExit → found.never_exits ≡ None →
      IsResolved scope known t.stop found
  found_stop found c f n = record {
    code = rw c r.of_stop;
    has = rw f u.of_stop;
    gates = gates_stop;
    calls = calls_stop;
    lefts = rw n lefts_stop;
  }

  -- each gate that `exit` uses is in scope
  gates_exit : GatesDeclared known t.exit
  gates_exit there part gate whole uses = elim uses [ ]

  -- each call in `exit` fits
  calls_exit : CallsFit scope known t.exit
  calls_exit there name actuals stands = elim stands [ ]

  -- each left operand of `>>` in `exit` has exit
  lefts_exit : LeftsExit scope known t.exit
  lefts_exit there left right at stands = elim stands [ ]

  -- what is found of `exit`
  pub found_exit : (found : ResolvedBody) → flat_of found.code.value ≡ r.exit → found.functionality ≡ Exit → found.never_exits ≡ None →
      IsResolved scope known t.exit found
  found_exit found c f n = record {
    code = rw c r.of_exit;
    has = rw f u.of_exit;
    gates = gates_exit;
    calls = calls_exit;
    lefts = rw n lefts_exit;
  }

  module _ (inner : List Name) (left right body : BehaviourView) (has : HasOperands inner known left right body)
      (first second found : ResolvedBody) (h : IsResolved scope inner left first) (k : IsResolved scope inner right second) where
    -- what is found of a behaviour that is no call, and no `>>` whose left operand has noexit
    pub found_joined : Resolves scope body (flat_of found.code.value) → Func scope body found.functionality →
        found.never_exits ≡ option_or first.never_exits second.never_exits → ((gate : Placed) → UsesGate body gate → In gate.name known) →
        ((name : Placed) (actuals : List Placed) → body ≡ t.call name actuals → ⊥) →
        ((a b : BehaviourView) (at : ℕ) → body ≡ t.enable a at b → Func scope a Exit) → IsResolved scope known body found
    found_joined code functionality never uses no_call exits = record {
      code = code;
      has = functionality;
      gates = gates_joined scope inner known left right body has uses h.gates k.gates;
      calls = calls_joined scope inner known left right body has no_call h.calls k.calls;
      lefts = rw never (never_joined scope inner known left right body has exits first.never_exits second.never_exits h.lefts k.lefts);
    }

  -- if the gate of an action is in scope, so is each gate that a prefix with this action itself uses
  uses_prefix : (action : Action) (body : BehaviourView) → IsActionDeclared known action → (gate : Placed) →
      UsesGate (t.prefix action body) gate → In gate.name known
  uses_prefix Internal body given gate uses = elim uses [ ]
  uses_prefix (Gate g) body given gate acts = given

  -- what is found of a prefix
  pub found_prefix : (action : Action) (body : BehaviourView) (inner found : ResolvedBody) → IsActionDeclared known action →
      IsResolved scope known body inner → flat_of found.code.value ≡ r.prefix (action_of action) (flat_of inner.code.value) →
      found.functionality ≡ inner.functionality → found.never_exits ≡ inner.never_exits →
      IsResolved scope known (t.prefix action body) found
  found_prefix action body inner found given h c f n =
      found_joined known body body (t.prefix action body) (of_prefix known action body) inner inner found h h
      (rw c (r.of_prefix h.code)) (rw f (u.of_prefix h.has)) (n ∙ sym (or_same inner.never_exits)) (uses_prefix action body given)
      (λ name actuals e. cc) (λ a b at e. absurd cc)

  -- what is found of a hide form
  pub found_hide : (list : List Placed) (set : List Name) (body : BehaviourView) (inner found : ResolvedBody) → IsSetOf set list →
      IsResolved scope (texts list ++ known) body inner → flat_of found.code.value ≡ r.hide set (flat_of inner.code.value) →
      found.functionality ≡ inner.functionality → found.never_exits ≡ inner.never_exits →
      IsResolved scope known (t.hide list body) found
  found_hide list set body inner found is_set h c f n =
      found_joined (texts list ++ known) body body (t.hide list body) (of_hide known list body) inner inner found h h
      (rw c (r.of_hide is_set h.code)) (rw f (u.of_hide h.has)) (n ∙ sym (or_same inner.never_exits)) (λ gate uses. elim uses [ ])
      (λ name actuals e. cc) (λ a b at e. absurd cc)

  module _ (left right : BehaviourView) (first second found : ResolvedBody) (h : IsResolved scope known left first)
      (k : IsResolved scope known right second) where
    -- what is found of a choice
    pub found_choice : flat_of found.code.value ≡ r.choice (flat_of first.code.value) (flat_of second.code.value) →
        found.functionality ≡ either first.functionality second.functionality →
        found.never_exits ≡ option_or first.never_exits second.never_exits → IsResolved scope known (t.choice left right) found
    found_choice c f n =
        found_joined known left right (t.choice left right) (of_choice known left right) first second found h k
        (rw c (r.of_choice h.code k.code)) (rw f (u.of_choice h.has k.has)) n (λ gate uses. elim uses [ ])
        (λ name actuals e. cc) (λ a b at e. absurd cc)

    -- what is found of a `[>`
    pub found_disable : flat_of found.code.value ≡ r.disable (flat_of first.code.value) (flat_of second.code.value) →
        found.functionality ≡ either first.functionality second.functionality →
        found.never_exits ≡ option_or first.never_exits second.never_exits → IsResolved scope known (t.disable left right) found
    found_disable c f n =
        found_joined known left right (t.disable left right) (of_disable known left right) first second found h k
        (rw c (r.of_disable h.code k.code)) (rw f (u.of_disable h.has k.has)) n (λ gate uses. elim uses [ ])
        (λ name actuals e. cc) (λ a b at e. absurd cc)

    uses_par : (sync : SyncView) → AreSyncGatesDeclared known sync → (gate : Placed) → UsesGate (t.par left sync right) gate →
        In gate.name known
    uses_par (gates list) given gate (synchronizes stands) = given gate stands
    uses_par all given gate uses = elim uses [ ]

    resolves_par : (set : Option (List Name)) (sync : SyncView) → IsSyncSet set sync →
        Resolves scope (t.par left sync right) (r.par (flat_of first.code.value) set (flat_of second.code.value))
    resolves_par None (gates list) is_set = absurd is_set
    resolves_par None all is_set = r.of_par_all h.code k.code
    resolves_par (Some set) (gates list) is_set = r.of_par h.code is_set k.code
    resolves_par (Some set) all is_set = absurd is_set

    -- what is found of a parallel expression
    pub found_par : (set : Option (List Name)) (sync : SyncView) → IsSyncSet set sync → AreSyncGatesDeclared known sync →
        flat_of found.code.value ≡ r.par (flat_of first.code.value) set (flat_of second.code.value) →
        found.functionality ≡ both first.functionality second.functionality →
        found.never_exits ≡ option_or first.never_exits second.never_exits → IsResolved scope known (t.par left sync right) found
    found_par set sync is_set given c f n =
        found_joined known left right (t.par left sync right) (of_par known left right sync) first second found h k
        (rw c (resolves_par set sync is_set)) (rw f (u.of_par h.has k.has)) n (uses_par sync given)
        (λ name actuals e. cc) (λ a b at e. absurd cc)

    or_none : (m n : Option ℕ) → option_or (option_or m None) n ≡ option_or m n
    or_none None n = refl
    or_none (Some at) n = refl

    same_left : (at : ℕ) → Func scope left Exit → (a b : BehaviourView) (other : ℕ) → t.enable left at right ≡ t.enable a other b →
        Func scope a Exit
    same_left at exits a b other e = let same : left ≡ a = cc in subst (λ l. Func scope l Exit) same exits

    -- what is found of a `>>` whose left operand has exit
    pub found_enable : (at : ℕ) → first.functionality ≡ Exit →
        flat_of found.code.value ≡ r.enable (flat_of first.code.value) (flat_of second.code.value) →
        found.functionality ≡ second.functionality →
        found.never_exits ≡ option_or (option_or first.never_exits None) second.never_exits → IsResolved scope known (t.enable left at right) found
    found_enable at exits c f n =
        let left_has : Func scope left Exit = rw exits at h.has in
        found_joined known left right (t.enable left at right) (of_enable known left right at) first second found h k
        (rw c (r.of_enable h.code k.code)) (rw f (u.of_enable k.has)) (n ∙ or_none first.never_exits second.never_exits)
        (λ gate uses. elim uses [ ]) (λ name actuals e. cc) (same_left at left_has)

    first_never : (at : ℕ) → Func scope left NoExit → (m n : Option ℕ) →
        MatchOption m (LeftsExit scope known left) (NeverExits scope known left) →
        MatchOption (option_or (option_or m (Some at)) n) (LeftsExit scope known (t.enable left at right))
        (NeverExits scope known (t.enable left at right))
    first_never at never None n g = record { there = known; left = left; right = right; located = whole; never_exits = never }
    first_never at never (Some other) n g =
        never_lift scope known known left (t.enable left at right) (of_enable known left right at).from_left other g

    -- what is found of a `>>` whose left operand has noexit
    pub found_halting : (at : ℕ) → first.functionality ≡ NoExit →
        flat_of found.code.value ≡ r.enable (flat_of first.code.value) (flat_of second.code.value) →
        found.functionality ≡ second.functionality →
        found.never_exits ≡ option_or (option_or first.never_exits (Some at)) second.never_exits →
        IsResolved scope known (t.enable left at right) found
    found_halting at halts c f n =
        let left_has : Func scope left NoExit = rw halts at h.has in
        let has = of_enable known left right at in
        record {
          code = rw c (r.of_enable h.code k.code);
          has = rw f (u.of_enable k.has);
          gates = gates_joined scope known known left right (t.enable left at right) has (λ gate uses. elim uses [ ]) h.gates k.gates;
          calls = calls_joined scope known known left right (t.enable left at right) has (λ name actuals e. cc) h.calls k.calls;
          lefts = rw n (first_never at left_has first.never_exits second.never_exits h.lefts);
        }
