-- What holds of a behaviour, from what holds of its operands.
use Rattle.std.specs.Prelude.{◌≡◌, ℕ, List, ◌++◌, length, Option, Some, None, MatchOption}
use Rattle.std.specs.Option.{option_or}
use Rattle.std.proofs.Common.{refl, subst}
use Rattle.lotos_text.specs.AstView.{BehaviourView, SyncView, prefix, choice, par, hide, enable, disable, call, DefinitionView, formals_of}
use Rattle.lotos_text.specs.declared.ast.Action.{Action}
use Rattle.lotos_text.specs.declared.ast.Functionality.TheVariants as f
use Rattle.lotos_text.specs.declared.ast.Placed.{Placed}
use Rattle.lotos_check.specs.NameLists.{Name, In, texts}
use Rattle.lotos_check.specs.Scope.{Scope, Binds}
use Rattle.lotos_check.specs.Subexpressions.{IsSubexpression, whole, in_prefix, in_choice_left, in_choice_right, in_par_left, in_par_right, in_hide, in_enable_left, in_enable_right, in_disable_left, in_disable_right, UsesGate}
use Rattle.lotos_check.specs.Functionality.{Func}
use Rattle.lotos_check.specs.Resolution.{GatesDeclared, CallsFit, LeftsExit, NeverExits, IsNameFault}
use Rattle.lotos_check.specs.declared.fault.CheckFault.{CheckFault}
use Rattle.lotos_check.specs.declared.fault.CheckFault.TheVariants.{E20, E21, E22, E23, E24, E25, E26, E27, E99}

-- each part of the operand is a part of the behaviour
abbrev pub Lifts : List Name → BehaviourView → List Name → BehaviourView → Type 0
Lifts inner operand known body = (there : List Name) (part : BehaviourView) → IsSubexpression inner operand there part → IsSubexpression known body there part

-- the behaviour itself, or a part of an operand
pub data Portion (inner known : List Name) (left right body : BehaviourView) : List Name → BehaviourView → Type 0 where
  itself : Portion inner known left right body known body
  of_left : {there : List Name} {part : BehaviourView} → IsSubexpression inner left there part → Portion inner known left right body there part
  of_right : {there : List Name} {part : BehaviourView} → IsSubexpression inner right there part → Portion inner known left right body there part

-- the parts of the behaviour are itself and the parts of its operands; one operand counts as both sides
pub record HasOperands (inner known : List Name) (left right body : BehaviourView) : Type 0 where
  pub from_left : Lifts inner left known body
  pub from_right : Lifts inner right known body
  pub splits : (there : List Name) (part : BehaviourView) → IsSubexpression known body there part → Portion inner known left right body there part

module _ (scope : Scope) (inner known : List Name) (operand body : BehaviourView) (lift : Lifts inner operand known body) where
  -- a fault in an operand is a fault of the behaviour
  pub misnamed_lift : (fault : CheckFault) → IsNameFault scope inner operand fault → IsNameFault scope known body fault
  misnamed_lift (E20 gate) h = h
  misnamed_lift (E21 gate) h = record {
    there = h.there;
    part = h.part;
    located = lift h.there h.part h.located;
    uses = h.uses;
    unknown = h.unknown;
  }
  misnamed_lift (E22 name) h = record {
    there = h.there;
    actuals = h.actuals;
    located = lift h.there (call name h.actuals) h.located;
    unseen = h.unseen;
  }
  misnamed_lift (E23 name formal actual) h = record {
    there = h.there;
    actuals = h.actuals;
    process = h.process;
    definition = h.definition;
    located = lift h.there (call name h.actuals) h.located;
    means = h.means;
    declared = h.declared;
    given = h.given;
    differ = h.differ;
  }
  misnamed_lift (E24 name) h = h
  misnamed_lift (E25 name declared) h = h
  misnamed_lift (E26 at) h = h
  misnamed_lift (E27 name set) h = h
  misnamed_lift (E99 e) h = h

  -- a `>>` in an operand is in the behaviour
  pub never_lift : (at : ℕ) → NeverExits scope inner operand at → NeverExits scope known body at
  never_lift at h = record {
    there = h.there;
    left = h.left;
    right = h.right;
    located = lift h.there (enable h.left at h.right) h.located;
    never_exits = h.never_exits;
  }

module _ (scope : Scope) (inner known : List Name) (left right body : BehaviourView) (has : HasOperands inner known left right body) where
  -- if the gates that the behaviour itself and its operands use are in scope, so are those that each portion of it uses
  gates_at : ((gate : Placed) → UsesGate body gate → In gate.name known) → GatesDeclared inner left → GatesDeclared inner right →
      (there : List Name) (part : BehaviourView) (gate : Placed) → Portion inner known left right body there part → UsesGate part gate →
      In gate.name there
  gates_at head first second there part gate itself uses = head gate uses
  gates_at head first second there part gate (of_left p) uses = first there part gate p uses
  gates_at head first second there part gate (of_right p) uses = second there part gate p uses

  -- the gates that the behaviour itself uses are in scope, and so are those that its operands use
  pub gates_joined : ((gate : Placed) → UsesGate body gate → In gate.name known) → GatesDeclared inner left → GatesDeclared inner right →
      GatesDeclared known body
  gates_joined head first second there part gate stands uses =
      gates_at head first second there part gate (has.splits there part stands) uses

  -- if the behaviour is no call and the calls of its operands fit, each portion of it that is a call fits
  calls_at : ((name : Placed) (actuals : List Placed) → body ≡ call name actuals → ⊥) → CallsFit scope inner left →
      CallsFit scope inner right → (there : List Name) (part : BehaviourView) (name : Placed) (actuals : List Placed) →
      Portion inner known left right body there part → part ≡ call name actuals →
      (k : ℕ) × (d : DefinitionView) × Binds scope name.name k d × (length (formals_of d) ≡ length actuals)
  calls_at head first second there part name actuals itself e = absurd (head name actuals e)
  calls_at head first second there part name actuals (of_left p) e =
      first there name actuals (subst (λ t. IsSubexpression inner left there t) e p)
  calls_at head first second there part name actuals (of_right p) e =
      second there name actuals (subst (λ t. IsSubexpression inner right there t) e p)

  -- the calls of the operands fit, and so do those of a behaviour that is no call
  pub calls_joined : ((name : Placed) (actuals : List Placed) → body ≡ call name actuals → ⊥) → CallsFit scope inner left →
      CallsFit scope inner right → CallsFit scope known body
  calls_joined head first second there name actuals stands =
      calls_at head first second there (call name actuals) name actuals (has.splits there (call name actuals) stands) refl

  -- if each `>>` in the operands, and the behaviour itself if it is one, has a left operand with exit, so has each
  -- portion of it that is a `>>`
  lefts_at : ((a b : BehaviourView) (at : ℕ) → body ≡ enable a at b → Func scope a f.Exit) → LeftsExit scope inner left →
      LeftsExit scope inner right → (there : List Name) (part a b : BehaviourView) (at : ℕ) →
      Portion inner known left right body there part → part ≡ enable a at b → Func scope a f.Exit
  lefts_at head first second there part a b at itself e = head a b at e
  lefts_at head first second there part a b at (of_left p) e =
      first there a b at (subst (λ t. IsSubexpression inner left there t) e p)
  lefts_at head first second there part a b at (of_right p) e =
      second there a b at (subst (λ t. IsSubexpression inner right there t) e p)

  -- the left operands of `>>` in the operands have exit, and so has that of the behaviour itself, where it is one
  pub lefts_joined : ((a b : BehaviourView) (at : ℕ) → body ≡ enable a at b → Func scope a f.Exit) → LeftsExit scope inner left →
      LeftsExit scope inner right → LeftsExit scope known body
  lefts_joined head first second there a b at stands =
      lefts_at head first second there (enable a at b) a b at (has.splits there (enable a at b) stands) refl

  -- the first `>>` whose left operand has noexit, where the behaviour itself is none
  pub never_joined : ((a b : BehaviourView) (at : ℕ) → body ≡ enable a at b → Func scope a f.Exit) → (m n : Option ℕ) →
      MatchOption m (LeftsExit scope inner left) (NeverExits scope inner left) →
      MatchOption n (LeftsExit scope inner right) (NeverExits scope inner right) →
      MatchOption (option_or m n) (LeftsExit scope known body) (NeverExits scope known body)
  never_joined head None None h k = lefts_joined head h k
  never_joined head None (Some at) h k = never_lift scope inner known right body has.from_right at k
  never_joined head (Some at) n h k = never_lift scope inner known left body has.from_left at h

-- a part of a prefix is the prefix itself or a part of its behaviour
splits_prefix : (known : List Name) (action : Action) (body : BehaviourView) (there : List Name) (part : BehaviourView) →
    IsSubexpression known (prefix action body) there part → Portion known known body body (prefix action body) there part
splits_prefix known action body there part whole = itself
splits_prefix known action body there part (in_prefix p) = of_left p

-- a part of a hide form is the form itself, or a part of its behaviour, in which its gates are in scope too
splits_hide : (known : List Name) (gates : List Placed) (body : BehaviourView) (there : List Name) (part : BehaviourView) →
    IsSubexpression known (hide gates body) there part → Portion (texts gates ++ known) known body body (hide gates body) there part
splits_hide known gates body there part whole = itself
splits_hide known gates body there part (in_hide p) = of_left p

-- a part of a choice is the choice itself or a part of one of its operands
splits_choice : (known : List Name) (left right : BehaviourView) (there : List Name) (part : BehaviourView) →
    IsSubexpression known (choice left right) there part → Portion known known left right (choice left right) there part
splits_choice known left right there part whole = itself
splits_choice known left right there part (in_choice_left p) = of_left p
splits_choice known left right there part (in_choice_right p) = of_right p

-- a part of a parallel expression is the expression itself or a part of one of its operands
splits_par : (known : List Name) (left right : BehaviourView) (sync : SyncView) (there : List Name) (part : BehaviourView) →
    IsSubexpression known (par left sync right) there part → Portion known known left right (par left sync right) there part
splits_par known left right sync there part whole = itself
splits_par known left right sync there part (in_par_left p) = of_left p
splits_par known left right sync there part (in_par_right p) = of_right p

-- a part of a `>>` is the `>>` itself or a part of one of its operands
splits_enable : (known : List Name) (left right : BehaviourView) (at : ℕ) (there : List Name) (part : BehaviourView) →
    IsSubexpression known (enable left at right) there part → Portion known known left right (enable left at right) there part
splits_enable known left right at there part whole = itself
splits_enable known left right at there part (in_enable_left p) = of_left p
splits_enable known left right at there part (in_enable_right p) = of_right p

-- a part of a `[>` is the `[>` itself or a part of one of its operands
splits_disable : (known : List Name) (left right : BehaviourView) (there : List Name) (part : BehaviourView) →
    IsSubexpression known (disable left right) there part → Portion known known left right (disable left right) there part
splits_disable known left right there part whole = itself
splits_disable known left right there part (in_disable_left p) = of_left p
splits_disable known left right there part (in_disable_right p) = of_right p

-- the behaviour of a prefix is its one operand
pub of_prefix : (known : List Name) (action : Action) (body : BehaviourView) → HasOperands known known body body (prefix action body)
of_prefix known action body = record {
  from_left = λ there part p. in_prefix p;
  from_right = λ there part p. in_prefix p;
  splits = splits_prefix known action body;
}

-- the behaviour of a hide form is its one operand, in which its gates are in scope too
pub of_hide : (known : List Name) (gates : List Placed) (body : BehaviourView) →
    HasOperands (texts gates ++ known) known body body (hide gates body)
of_hide known gates body = record {
  from_left = λ there part p. in_hide p;
  from_right = λ there part p. in_hide p;
  splits = splits_hide known gates body;
}

-- the operands of a choice
pub of_choice : (known : List Name) (left right : BehaviourView) → HasOperands known known left right (choice left right)
of_choice known left right = record {
  from_left = λ there part p. in_choice_left p;
  from_right = λ there part p. in_choice_right p;
  splits = splits_choice known left right;
}

-- the operands of a parallel expression
pub of_par : (known : List Name) (left right : BehaviourView) (sync : SyncView) → HasOperands known known left right (par left sync right)
of_par known left right sync = record {
  from_left = λ there part p. in_par_left p;
  from_right = λ there part p. in_par_right p;
  splits = splits_par known left right sync;
}

-- the operands of a `>>`
pub of_enable : (known : List Name) (left right : BehaviourView) (at : ℕ) → HasOperands known known left right (enable left at right)
of_enable known left right at = record {
  from_left = λ there part p. in_enable_left p;
  from_right = λ there part p. in_enable_right p;
  splits = splits_enable known left right at;
}

-- the operands of a `[>`
pub of_disable : (known : List Name) (left right : BehaviourView) → HasOperands known known left right (disable left right)
of_disable known left right = record {
  from_left = λ there part p. in_disable_left p;
  from_right = λ there part p. in_disable_right p;
  splits = splits_disable known left right;
}
