-- A behaviour of an accepted specification uses gates in scope only.
use Rattle.std.proofs.Common.{◌≡◌, ℕ, List, [], ◌++◌, Some, slice_get, refl, subst, inl, inr}
use Rattle.lotos_text.specs.AstView as t
use Rattle.lotos_text.specs.AstView.{BehaviourView, DefinitionView, formals_of, body_of}
use Rattle.lotos_text.specs.declared.ast.Placed.{Placed}
use Rattle.lotos_text.specs.declared.ast.Action.{Action}
use Rattle.lotos_text.specs.declared.ast.Action.TheVariants.{Internal, Gate}
use Rattle.lotos_check.specs.NameLists.{Name, In, texts}
use Rattle.lotos_check.specs.Scope.{Scope, ScopedDefinition, within, processes_of, all_definitions}
use Rattle.lotos_check.specs.Subexpressions.{whole, in_prefix, in_choice_left, in_choice_right, in_par_left, in_par_right, in_hide, in_enable_left, in_enable_right, in_disable_left, in_disable_right, acts, synchronizes, passes}
use Rattle.lotos_check.specs.Resolution.{GatesDeclared}
use Rattle.lotos_check.specs.Flat.{Flat, FlatProcess, System, action_of, Resolves, of_stop, of_exit, of_prefix, of_choice, of_par, of_par_all, of_hide, of_enable, of_disable, of_call}
use Rattle.lotos_check.specs.UsedGates.{AreNamesOf, IsActionOf, UsesOnly}
use Rattle.lotos_check.specs.Acceptance.{IsAccepted}
use Rattle.lotos_check.proofs.JoinedLists.{in_front, in_back, in_either}
use Rattle.lotos_check.proofs.FlatSystemUnique.{paired_at}
use Rattle.lotos_check.proofs.MappedLists.{in_map_from}
use Rattle.lotos_check.proofs.NameTests.{in_or_not}

-- a name that cannot be missing from a list is in it
in_unless_missing : (n : Name) (names : List Name) → ((In n names → ⊥) → ⊥) → In n names
in_unless_missing n names h = elim (in_or_not n names) [ inl i ↦ i | inr out ↦ absurd (h out) ]

-- if each gate of a list is in scope, each of its names is
module _ (known gates : List Name) (wider : AreNamesOf gates known) where
  -- if each gate of a list is in scope, the names of the list are among `gates`
  names_used : (list : List Placed) → ((g : Placed) → In g list → In g.name known) → AreNamesOf gates (texts list)
  names_used list h n i = let g = in_map_from (λ (p : Placed). p.name) n list i in wider n (subst (λ m. In m known) g.2 (h g.0 g.1))

  -- if a prefix uses gates in scope only, the gate of its action, if it has one, is among `gates`
  action_used : (a : Action) (b : BehaviourView) → GatesDeclared known (t.prefix a b) → IsActionOf gates (action_of a)
  action_used Internal b d = tt
  action_used (Gate g) b d = wider g.name (d known _ g whole acts)

-- with calls by number, a behaviour whose parts use gates in scope only uses no others
resolved_uses : (scope : Scope) (known gates : List Name) (b : BehaviourView) (c : Flat) → AreNamesOf gates known → GatesDeclared known b → Resolves scope b c →
    UsesOnly gates c
resolved_uses scope known gates b c w d of_stop = tt
resolved_uses scope known gates b c w d of_exit = tt
resolved_uses scope known gates b c w d (of_prefix {a = a} {b = next} x) =
    (action_used known gates w a next d, resolved_uses scope known gates _ _ w (λ there part g i. d there part g (in_prefix i)) x)
resolved_uses scope known gates b c w d (of_choice x y) = (
  resolved_uses scope known gates _ _ w (λ there part g i. d there part g (in_choice_left i)) x,
  resolved_uses scope known gates _ _ w (λ there part g i. d there part g (in_choice_right i)) y,
)
resolved_uses scope known gates b c w d (of_par {gs = gs} x s y) = (
  resolved_uses scope known gates _ _ w (λ there part g i. d there part g (in_par_left i)) x,
  (λ n i. names_used known gates w gs (λ g j. d known _ g whole (synchronizes j)) n ((s.same n).0 i)),
  resolved_uses scope known gates _ _ w (λ there part g i. d there part g (in_par_right i)) y,
)
resolved_uses scope known gates b c w d (of_par_all x y) = (
  resolved_uses scope known gates _ _ w (λ there part g i. d there part g (in_par_left i)) x,
  tt,
  resolved_uses scope known gates _ _ w (λ there part g i. d there part g (in_par_right i)) y,
)
resolved_uses scope known gates b c w d (of_hide {gs = gs} {names = names} s x) =
    let inner : AreNamesOf (names ++ gates) (texts gs ++ known) = λ n i. elim (in_either n (texts gs) known i) [
      | inl j ↦ in_front n names gates ((s.same n).1 j)
      | inr j ↦ in_back n names gates (w n j)
    ] in
    resolved_uses scope (texts gs ++ known) (names ++ gates) _ _ inner (λ there part g i. d there part g (in_hide i)) x
resolved_uses scope known gates b c w d (of_enable x y) = (
  resolved_uses scope known gates _ _ w (λ there part g i. d there part g (in_enable_left i)) x,
  resolved_uses scope known gates _ _ w (λ there part g i. d there part g (in_enable_right i)) y,
)
resolved_uses scope known gates b c w d (of_disable x y) = (
  resolved_uses scope known gates _ _ w (λ there part g i. d there part g (in_disable_left i)) x,
  resolved_uses scope known gates _ _ w (λ there part g i. d there part g (in_disable_right i)) y,
)
resolved_uses scope known gates b c w d (of_call {gs = gs} m) = names_used known gates w gs (λ g j. d known _ g whole (passes j))

-- in the body of a definition each gate that is used is in scope, as there is no E21
body_declared : (spec : DefinitionView) (s : System) → IsAccepted spec s → (v : ScopedDefinition) → In v (all_definitions spec) →
    GatesDeclared (texts (formals_of v.definition)) (body_of v.definition)
body_declared spec s a v stands there part g inside uses =
    in_unless_missing g.name there (λ unknown. a.typed.known_gates g (record {
      scope = v.scope;
      in_scope = there;
      part = part;
      occurs = record { definition = v.definition; located = stands; inside = inside };
      uses = uses;
      unknown = unknown;
    }))

-- so with calls by number it uses the formal gates of the definition only
body_uses : (spec : DefinitionView) (s : System) → IsAccepted spec s → (v : ScopedDefinition) → In v (all_definitions spec) → (c : Flat) →
    Resolves v.scope (body_of v.definition) c → UsesOnly (texts (formals_of v.definition)) c
body_uses spec s a v stands c r =
    resolved_uses v.scope (texts (formals_of v.definition)) (texts (formals_of v.definition)) (body_of v.definition) c (λ n i. i)
    (body_declared spec s a v stands) r

-- the behaviour of an accepted specification uses the specification's formal gates only
pub specification_uses : (spec : DefinitionView) (s : System) → IsAccepted spec s → UsesOnly s.formals s.start
specification_uses spec s a =
    let top : ScopedDefinition = record { scope = within spec 0 []; definition = spec } in
    rw a.flat.formals (body_uses spec s a top (inl refl) s.start a.flat.start)

-- and the body of each of its processes the process's
pub process_uses : (spec : DefinitionView) (s : System) → IsAccepted spec s → (p : ℕ) (process : FlatProcess) → slice_get s.processes p ≡ Some process →
    UsesOnly process.formals process.body
process_uses spec s a p process e =
    let at = paired_at (processes_of spec) s.processes a.flat.processes p process e in
    rw at.2.formals (body_uses spec s a at.0 (inr at.1) process.body at.2.body)
