-- Faults of a behaviour itself, and the resolution of a call.
use Rattle.std.specs.Prelude.{◌≡◌, ◌≢◌, ℕ, List, [], ◌∷◌, length, None}
use Rattle.std.proofs.Common.{sym, subst, inl, inr}
use Rattle.lotos_text.specs.AstView.{BehaviourView, SyncView, gates, all, prefix, par, call, DefinitionView, formals_of, declared_of}
use Rattle.lotos_text.specs.declared.ast.Action.{Action}
use Rattle.lotos_text.specs.declared.ast.Action.TheVariants.{Internal, Gate}
use Rattle.lotos_text.specs.declared.ast.Placed.{Placed}
use Rattle.lotos_check.specs.NameLists.{Name, In, texts}
use Rattle.lotos_check.specs.Scope.{Scope, Binds}
use Rattle.lotos_check.specs.Subexpressions.{whole, UsesGate, acts, synchronizes, passes}
use Rattle.lotos_check.specs.Functionality as u
use Rattle.lotos_check.specs.Flat as r
use Rattle.lotos_check.specs.CheckedView.{flat_of}
use Rattle.lotos_check.specs.Resolution.{GatesDeclared, CallsFit, LeftsExit, IsResolved, IsNameFault, IsUndeclaredGate, IsUndeclaredInSync, IsUndeclaredAction}
use Rattle.lotos_check.specs.declared.resolved_body.ResolvedBody.{ResolvedBody}
use Rattle.lotos_check.specs.declared.fault.CheckFault.{CheckFault}
use Rattle.lotos_check.specs.declared.fault.CheckFault.TheVariants.{E20, E21, E22, E23, E24, E25, E26, E27, E99}

module _ (scope : Scope) (known : List Name) where
  -- of a list of gates that the behaviour itself uses, one is not in scope
  pub misnamed_own : (body : BehaviourView) (list : List Placed) → ((gate : Placed) → In gate list → UsesGate body gate) →
      (fault : CheckFault) → IsUndeclaredGate known list fault → IsNameFault scope known body fault
  misnamed_own body list uses (E20 gate) h = h
  misnamed_own body list uses (E21 gate) h = record {
    there = known;
    part = body;
    located = whole;
    uses = uses gate h.0;
    unknown = h.1;
  }
  misnamed_own body list uses (E22 name) h = absurd h
  misnamed_own body list uses (E23 name formal actual) h = absurd h
  misnamed_own body list uses (E24 name) h = h
  misnamed_own body list uses (E25 name declared) h = h
  misnamed_own body list uses (E26 at) h = h
  misnamed_own body list uses (E27 name set) h = h
  misnamed_own body list uses (E99 e) h = h

  -- a prefix uses each gate of the list whose one item is the gate of its action
  acts_on : (g gate : Placed) (body : BehaviourView) → In gate (g ∷ []) → UsesGate (prefix (Gate g) body) gate
  acts_on g gate body (inl e) = subst (λ x. UsesGate (prefix (Gate g) body) x) e acts
  acts_on g gate body (inr h) = absurd h

  -- the gate of a prefix is not in scope
  pub misnamed_action : (action : Action) (body : BehaviourView) (fault : CheckFault) → IsUndeclaredAction known action fault →
      IsNameFault scope known (prefix action body) fault
  misnamed_action Internal body fault h = misnamed_own (prefix Internal body) [] (λ gate x. absurd x) fault h
  misnamed_action (Gate g) body fault h = misnamed_own (prefix (Gate g) body) (g ∷ []) (λ gate x. acts_on g gate body x) fault h

  -- a gate of a parallel expression is not in scope
  pub misnamed_sync : (left right : BehaviourView) (sync : SyncView) (fault : CheckFault) → IsUndeclaredInSync known sync fault →
      IsNameFault scope known (par left sync right) fault
  misnamed_sync left right (gates list) fault h =
      misnamed_own (par left (gates list) right) list (λ gate x. synchronizes x) fault h
  misnamed_sync left right all fault h = misnamed_own (par left all right) [] (λ gate x. absurd x) fault h

  module _ (name : Placed) (actuals : List Placed) where
    -- a gate of a call is not in scope
    pub misnamed_actual : (fault : CheckFault) → IsUndeclaredGate known actuals fault → IsNameFault scope known (call name actuals) fault
    misnamed_actual fault h = misnamed_own (call name actuals) actuals (λ gate x. passes x) fault h

    -- a call of no visible process
    pub unseen_call : (text : Name) (copy : Placed) → text ≡ name.name → copy ≡ name →
        ((k : ℕ) (d : DefinitionView) → Binds scope text k d → ⊥) → IsNameFault scope known (call name actuals) (E22 copy)
    unseen_call text copy same copied unseen =
        subst (λ n. IsNameFault scope known (call name actuals) (E22 n)) (sym copied)
        (record {
          there = known;
          actuals = actuals;
          located = whole;
          unseen = subst (λ s. (k : ℕ) (d : DefinitionView) → Binds scope s k d → ⊥) same unseen;
        })

    -- a call with another number of gates than its definition
    pub unfit_call : (text : Name) (copy : Placed) (process : ℕ) (definition : DefinitionView) (formal actual : ℕ) → text ≡ name.name →
        copy ≡ name → Binds scope text process definition → formal ≡ length (formals_of definition) →
        actual ≡ length actuals →
        formal ≢ actual → IsNameFault scope known (call name actuals) (E23 copy formal actual)
    unfit_call text copy process definition formal actual same copied means declared given differ =
        subst (λ n. IsNameFault scope known (call name actuals) (E23 n formal actual)) (sym copied)
        (record {
          there = known;
          actuals = actuals;
          process = process;
          definition = definition;
          located = whole;
          means = subst (λ s. Binds scope s process definition) same means;
          declared = declared;
          given = given;
          differ = differ;
        })

    gates_call : ((gate : Placed) → In gate actuals → In gate.name known) → GatesDeclared known (call name actuals)
    gates_call given there part gate whole (passes stands) = given gate stands

    calls_call : (process : ℕ) (definition : DefinitionView) → Binds scope name.name process definition →
        length (formals_of definition) ≡ length actuals → CallsFit scope known (call name actuals)
    calls_call process definition means fits there other list whole = (process, definition, means, fits)

    lefts_call : LeftsExit scope known (call name actuals)
    lefts_call there left right at stands = elim stands [ ]

    -- the resolution of a call of a visible process with as many gates as its definition has, all of them in scope
    pub found_call : (text : Name) (process : ℕ) (definition : DefinitionView) (found : ResolvedBody) → text ≡ name.name →
        Binds scope text process definition → length (formals_of definition) ≡ length actuals →
        ((gate : Placed) → In gate actuals → In gate.name known) → flat_of found.code.value ≡ r.call process (texts actuals) →
        found.functionality ≡ declared_of definition → found.never_exits ≡ None → IsResolved scope known (call name actuals) found
    found_call text process definition found same means fits given c f n =
        let named : Binds scope name.name process definition = subst (λ s. Binds scope s process definition) same means in
        record {
          code = rw c (r.of_call named);
          has = rw f (u.of_call named);
          gates = gates_call given;
          calls = calls_call process definition named fits;
          lefts = rw n lefts_call;
        }
