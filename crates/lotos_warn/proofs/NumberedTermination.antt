-- A term can terminate only if the behaviour may by its text.
use Rattle.std.proofs.Common.{List}
use Rattle.lotos_text.specs.AstView.{DefinitionView, BehaviourView}
use Rattle.lotos_check.specs.NameLists.{Name}
use Rattle.lotos_check.specs.Scope.{Scope}
use Rattle.lotos_check.specs.Flat.{Flat, FlatProcess, Pairwise}
use Rattle.lotos_check.proofs.BindingUnique.{one_meant}
use Rattle.lotos_check.proofs.Pairs.{pair_of_second}
use Rattle.lotos_store.specs.Terms.{Process, Term}
use Rattle.lotos_terms.specs.Numbered as n
use Rattle.lotos_terms.specs.Numbered.{IsNumberedProcess, IsNumberedTerm}
use Rattle.lotos_warn.specs.Derivations.{IsTermOf, NeverTerminates}
use Rattle.lotos_warn.specs.Termination as x
use Rattle.lotos_warn.specs.Termination.{MayExit, MayTerminate}
use Rattle.lotos_warn.proofs.TerminatingNames as by
use Rattle.lotos_warn.proofs.TerminatingTerms as c
use Rattle.lotos_warn.proofs.TerminatingTerms.{CanTerminate, never_terminates}

module _ (names : List Name) (flats : List FlatProcess) (processes : List Process) (all : Pairwise (IsNumberedProcess names) flats processes) where
  -- a behaviour with calls by number may terminate if its term can
  may_exit : (b : Flat) (t : Term) → IsNumberedTerm names b t → CanTerminate processes t → MayExit flats b
  may_exit b t n.stops h = elim h [ ]
  may_exit b t n.exits h = x.of_exit
  may_exit b t (n.internal r) (c.in_prefix h) = x.of_prefix (may_exit _ _ r h)
  may_exit b t (n.gate at r) (c.in_prefix h) = x.of_prefix (may_exit _ _ r h)
  may_exit b t (n.choices l r) (c.in_left_choice h) = x.of_choice_left (may_exit _ _ l h)
  may_exit b t (n.choices l r) (c.in_right_choice h) = x.of_choice_right (may_exit _ _ r h)
  may_exit b t (n.parallels l gates r) (c.in_both_sides h j) = x.of_par (may_exit _ _ l h) (may_exit _ _ r j)
  may_exit b t (n.on_all l r) (c.in_both_sides h j) = x.of_par (may_exit _ _ l h) (may_exit _ _ r j)
  may_exit b t (n.hidings gates r) (c.in_hiding h) = x.of_hide (may_exit _ _ r h)
  may_exit b t (n.enablings l r) (c.in_enabling h j) = x.of_enable (may_exit _ _ l h) (may_exit _ _ r j)
  may_exit b t (n.disablings l r) (c.in_left_disabling h) = x.of_disable_left (may_exit _ _ l h)
  may_exit b t (n.disablings l r) (c.in_right_disabling h) = x.of_disable_right (may_exit _ _ r h)
  may_exit b t (n.calls {p = p} gates) (c.in_call {q = q} at h) =
      let (flat, there, is) = pair_of_second flats processes all p q at in
      x.of_call there (may_exit flat.body q.body is.body h)

-- what cannot terminate by its text never does
pub never_by_text : (whole : DefinitionView) (scope : Scope) (behaviour : BehaviourView) (processes : List Process) (term : Term) →
    (MayTerminate whole scope behaviour → ⊥) → IsTermOf whole scope behaviour processes term → NeverTerminates processes term
never_by_text whole scope behaviour processes term cannot is = never_terminates processes term (λ h.
    let exits = may_exit is.names is.system.processes processes is.numbered is.flat term is.same h in
    cannot (by.name one_meant whole is.system is.accepted scope behaviour is.flat is.resolved exits))
