use Rattle.std.specs.Prelude.{◌++◌}
use Rattle.lotos_text.specs.AstView.{prefix, choice, par, hide, enable, disable}
use Rattle.lotos_text.specs.AstOf.{behaviour_view, sync_view}
use Rattle.lotos_check.specs.NameLists.{texts}
use Rattle.lotos_check.specs.ProcessScopes.{HasNames}
use Rattle.lotos_check.proofs.Operands.{misnamed_lift, of_prefix, of_choice, of_par, of_hide, of_enable, of_disable}
use Rattle.lotos_check.proofs.ResolvedForms.{carried, found_stop, found_exit}
use Rattle.lotos_check.proofs.OwnFaults.{misnamed_action, misnamed_sync}
use Rattle.lotos_check.proofs.resolution.+resolve.Goals as goal

pub returns-in_ok-make_leaf-in-Stop-clause-resolved : goal.returns-in_ok-make_leaf-in-Stop-clause-resolved
returns-in_ok-make_leaf-in-Stop-clause-resolved t c = λ scope known shows knows. rw c.in-Stop.is
    (found_stop scope known _ c.in_ok-make_leaf-in-Stop.ensures.code c.in_ok-make_leaf-in-Stop.ensures.functionality c.in_ok-make_leaf-in-Stop.ensures.never)

pub returns-in_ok-make_leaf-in-Exit-clause-resolved : goal.returns-in_ok-make_leaf-in-Exit-clause-resolved
returns-in_ok-make_leaf-in-Exit-clause-resolved t c = λ scope known shows knows. rw c.in-Exit.is
    (found_exit scope known _ c.in_ok-make_leaf-in-Exit.ensures.code c.in_ok-make_leaf-in-Exit.ensures.functionality c.in_ok-make_leaf-in-Exit.ensures.never)

pub returns-in_err-name-in-Prefix-clause-resolved : goal.returns-in_err-name-in-Prefix-clause-resolved
returns-in_err-name-in-Prefix-clause-resolved t c = λ scope known shows knows.
    let fault = c.in_err-name-in-Prefix.field-0.0 in
    carried c.from_residual-in_err-name-in-Prefix.result _ _ fault c.from_residual-in_err-name-in-Prefix.ensures.1
    (rw c.in-Prefix.is (misnamed_action scope known c.in-Prefix.action (behaviour_view c.in-Prefix.body.value) fault
    (c.in_err-name-in-Prefix.ensures.undeclared known knows)))

pub returns-in_err-inner-in-Prefix-clause-resolved : goal.returns-in_err-inner-in-Prefix-clause-resolved
returns-in_err-inner-in-Prefix-clause-resolved t c = λ scope known shows knows.
    let fault = c.in_err-inner-in-Prefix.field-0.0 in
    let h = rw c.deref.ensures at (c.in_err-inner-in-Prefix.ensures.resolved scope known shows knows) in
    let body = behaviour_view c.in-Prefix.body.value in
    carried c.from_residual-in_err-inner-in-Prefix.result _ _ fault c.from_residual-in_err-inner-in-Prefix.ensures.1
    (rw c.in-Prefix.is (misnamed_lift scope known known body (prefix c.in-Prefix.action body)
    (of_prefix known c.in-Prefix.action body).from_left fault h))

pub returns-in_ok-make_prefix-in-Prefix-clause-resolved : goal.returns-in_ok-make_prefix-in-Prefix-clause-resolved
returns-in_ok-make_prefix-in-Prefix-clause-resolved t c = λ scope known shows knows.
    let h = rw c.deref.ensures at (c.in_ok-inner-in-Prefix.ensures.resolved scope known shows knows) in
    rw c.in-Prefix.is (c.in_ok-make_prefix-in-Prefix.ensures scope known c.in-Prefix.action (behaviour_view c.in-Prefix.body.value)
    c.in_ok-name-in-Prefix.ensures.name (c.in_ok-name-in-Prefix.ensures.declared known knows) h)

pub returns-in_err-first-in-Choice-clause-resolved : goal.returns-in_err-first-in-Choice-clause-resolved
returns-in_err-first-in-Choice-clause-resolved t c = λ scope known shows knows.
    let fault = c.in_err-first-in-Choice.field-0.0 in
    let left = behaviour_view c.in-Choice.left.value in
    let right = behaviour_view c.in-Choice.right.value in
    let h = rw c.deref-in-Choice.ensures at (c.in_err-first-in-Choice.ensures.resolved scope known shows knows) in
    carried c.from_residual-in_err-first-in-Choice.result _ _ fault c.from_residual-in_err-first-in-Choice.ensures.1
    (rw c.in-Choice.is (misnamed_lift scope known known left (choice left right) (of_choice known left right).from_left fault h))

pub returns-in_err-second-in-Choice-clause-resolved : goal.returns-in_err-second-in-Choice-clause-resolved
returns-in_err-second-in-Choice-clause-resolved t c = λ scope known shows knows.
    let fault = c.in_err-second-in-Choice.field-0.0 in
    let left = behaviour_view c.in-Choice.left.value in
    let right = behaviour_view c.in-Choice.right.value in
    let h = rw c.deref-in-Choice-2.ensures
    at (c.in_err-second-in-Choice.ensures.resolved scope known shows (rw c.in_ok-first-in-Choice.ensures.declared knows)) in
    carried c.from_residual-in_err-second-in-Choice.result _ _ fault c.from_residual-in_err-second-in-Choice.ensures.1
    (rw c.in-Choice.is (misnamed_lift scope known known right (choice left right) (of_choice known left right).from_right fault h))

pub returns-in_ok-make_choice-in-Choice-clause-resolved : goal.returns-in_ok-make_choice-in-Choice-clause-resolved
returns-in_ok-make_choice-in-Choice-clause-resolved t c = λ scope known shows knows.
    let left = behaviour_view c.in-Choice.left.value in
    let right = behaviour_view c.in-Choice.right.value in
    let later : HasNames (λ k. k.now) c.resolve-in-Choice.new.gates_in_scope.keys known = rw c.in_ok-first-in-Choice.ensures.declared knows in
    let h = rw c.deref-in-Choice.ensures at (c.in_ok-first-in-Choice.ensures.resolved scope known shows knows) in
    let k = rw c.deref-in-Choice-2.ensures at (c.in_ok-second-in-Choice.ensures.resolved scope known shows later) in
    rw c.in-Choice.is (c.in_ok-make_choice-in-Choice.ensures scope known left right h k)

pub returns-in_err-first-in-Par-clause-resolved : goal.returns-in_err-first-in-Par-clause-resolved
returns-in_err-first-in-Par-clause-resolved t c = λ scope known shows knows.
    let fault = c.in_err-first-in-Par.field-0.0 in
    let left = behaviour_view c.in-Par.left.value in
    let right = behaviour_view c.in-Par.right.value in
    let sync = sync_view c.in-Par.sync in
    let h = rw c.deref-in-Par.ensures at (c.in_err-first-in-Par.ensures.resolved scope known shows knows) in
    carried c.from_residual-in_err-first-in-Par.result _ _ fault c.from_residual-in_err-first-in-Par.ensures.1
    (rw c.in-Par.is (misnamed_lift scope known known left (par left sync right) (of_par known left right sync).from_left fault h))

pub returns-in_err-second-in-Par-clause-resolved : goal.returns-in_err-second-in-Par-clause-resolved
returns-in_err-second-in-Par-clause-resolved t c = λ scope known shows knows.
    let fault = c.in_err-second-in-Par.field-0.0 in
    let left = behaviour_view c.in-Par.left.value in
    let right = behaviour_view c.in-Par.right.value in
    let sync = sync_view c.in-Par.sync in
    let h = rw c.deref-in-Par-2.ensures
    at (c.in_err-second-in-Par.ensures.resolved scope known shows (rw c.in_ok-first-in-Par.ensures.declared knows)) in
    carried c.from_residual-in_err-second-in-Par.result _ _ fault c.from_residual-in_err-second-in-Par.ensures.1
    (rw c.in-Par.is (misnamed_lift scope known known right (par left sync right) (of_par known left right sync).from_right fault h))

pub returns-in_err-set-in-Par-clause-resolved : goal.returns-in_err-set-in-Par-clause-resolved
returns-in_err-set-in-Par-clause-resolved t c = λ scope known shows knows.
    let fault = c.in_err-set-in-Par.field-0.0 in
    carried c.from_residual-in_err-set-in-Par.result _ _ fault c.from_residual-in_err-set-in-Par.ensures.1
    (rw c.in-Par.is (misnamed_sync scope known (behaviour_view c.in-Par.left.value) (behaviour_view c.in-Par.right.value)
    (sync_view c.in-Par.sync) fault (c.in_err-set-in-Par.ensures.undeclared known (rw c.in_ok-first-in-Par.ensures.declared knows))))

pub returns-in_ok-make_parallel-in-Par-clause-resolved : goal.returns-in_ok-make_parallel-in-Par-clause-resolved
returns-in_ok-make_parallel-in-Par-clause-resolved t c = λ scope known shows knows.
    let left = behaviour_view c.in-Par.left.value in
    let right = behaviour_view c.in-Par.right.value in
    let sync = sync_view c.in-Par.sync in
    let later : HasNames (λ k. k.now) c.resolve-in-Par.new.gates_in_scope.keys known = rw c.in_ok-first-in-Par.ensures.declared knows in
    let h = rw c.deref-in-Par.ensures at (c.in_ok-first-in-Par.ensures.resolved scope known shows knows) in
    let k = rw c.deref-in-Par-2.ensures at (c.in_ok-second-in-Par.ensures.resolved scope known shows later) in
    rw c.in-Par.is (c.in_ok-make_parallel-in-Par.ensures scope known left right sync c.in_ok-set-in-Par.ensures.set
    (c.in_ok-set-in-Par.ensures.declared known later) h k)

pub returns-in_err-first-in-Enable-clause-resolved : goal.returns-in_err-first-in-Enable-clause-resolved
returns-in_err-first-in-Enable-clause-resolved t c = λ scope known shows knows.
    let fault = c.in_err-first-in-Enable.field-0.0 in
    let left = behaviour_view c.in-Enable.left.value in
    let right = behaviour_view c.in-Enable.right.value in
    let h = rw c.deref-in-Enable.ensures at (c.in_err-first-in-Enable.ensures.resolved scope known shows knows) in
    carried c.from_residual-in_err-first-in-Enable.result _ _ fault c.from_residual-in_err-first-in-Enable.ensures.1
    (rw c.in-Enable.is (misnamed_lift scope known known left (enable left c.in-Enable.at right)
    (of_enable known left right c.in-Enable.at).from_left fault h))

pub returns-in_err-second-in-Enable-clause-resolved : goal.returns-in_err-second-in-Enable-clause-resolved
returns-in_err-second-in-Enable-clause-resolved t c = λ scope known shows knows.
    let fault = c.in_err-second-in-Enable.field-0.0 in
    let left = behaviour_view c.in-Enable.left.value in
    let right = behaviour_view c.in-Enable.right.value in
    let h = rw c.deref-in-Enable-2.ensures
    at (c.in_err-second-in-Enable.ensures.resolved scope known shows (rw c.in_ok-first-in-Enable.ensures.declared knows)) in
    carried c.from_residual-in_err-second-in-Enable.result _ _ fault c.from_residual-in_err-second-in-Enable.ensures.1
    (rw c.in-Enable.is (misnamed_lift scope known known right (enable left c.in-Enable.at right)
    (of_enable known left right c.in-Enable.at).from_right fault h))

pub returns-in_ok-make_enable-in-Enable-clause-resolved : goal.returns-in_ok-make_enable-in-Enable-clause-resolved
returns-in_ok-make_enable-in-Enable-clause-resolved t c = λ scope known shows knows.
    let left = behaviour_view c.in-Enable.left.value in
    let right = behaviour_view c.in-Enable.right.value in
    let later : HasNames (λ k. k.now) c.resolve-in-Enable.new.gates_in_scope.keys known = rw c.in_ok-first-in-Enable.ensures.declared knows in
    let h = rw c.deref-in-Enable.ensures at (c.in_ok-first-in-Enable.ensures.resolved scope known shows knows) in
    let k = rw c.deref-in-Enable-2.ensures at (c.in_ok-second-in-Enable.ensures.resolved scope known shows later) in
    rw c.in-Enable.is (c.in_ok-make_enable-in-Enable.ensures scope known left right h k)

pub returns-in_err-first-in-Disable-clause-resolved : goal.returns-in_err-first-in-Disable-clause-resolved
returns-in_err-first-in-Disable-clause-resolved t c = λ scope known shows knows.
    let fault = c.in_err-first-in-Disable.field-0.0 in
    let left = behaviour_view c.in-Disable.left.value in
    let right = behaviour_view c.in-Disable.right.value in
    let h = rw c.deref-in-Disable.ensures at (c.in_err-first-in-Disable.ensures.resolved scope known shows knows) in
    carried c.from_residual-in_err-first-in-Disable.result _ _ fault c.from_residual-in_err-first-in-Disable.ensures.1
    (rw c.in-Disable.is (misnamed_lift scope known known left (disable left right) (of_disable known left right).from_left fault h))

pub returns-in_err-second-in-Disable-clause-resolved : goal.returns-in_err-second-in-Disable-clause-resolved
returns-in_err-second-in-Disable-clause-resolved t c = λ scope known shows knows.
    let fault = c.in_err-second-in-Disable.field-0.0 in
    let left = behaviour_view c.in-Disable.left.value in
    let right = behaviour_view c.in-Disable.right.value in
    let h = rw c.deref-in-Disable-2.ensures
    at (c.in_err-second-in-Disable.ensures.resolved scope known shows (rw c.in_ok-first-in-Disable.ensures.declared knows)) in
    carried c.from_residual-in_err-second-in-Disable.result _ _ fault c.from_residual-in_err-second-in-Disable.ensures.1
    (rw c.in-Disable.is (misnamed_lift scope known known right (disable left right) (of_disable known left right).from_right fault h))

pub returns-in_ok-make_disable-in-Disable-clause-resolved : goal.returns-in_ok-make_disable-in-Disable-clause-resolved
returns-in_ok-make_disable-in-Disable-clause-resolved t c = λ scope known shows knows.
    let left = behaviour_view c.in-Disable.left.value in
    let right = behaviour_view c.in-Disable.right.value in
    let later : HasNames (λ k. k.now) c.resolve-in-Disable.new.gates_in_scope.keys known = rw c.in_ok-first-in-Disable.ensures.declared knows in
    let h = rw c.deref-in-Disable.ensures at (c.in_ok-first-in-Disable.ensures.resolved scope known shows knows) in
    let k = rw c.deref-in-Disable-2.ensures at (c.in_ok-second-in-Disable.ensures.resolved scope known shows later) in
    rw c.in-Disable.is (c.in_ok-make_disable-in-Disable.ensures scope known left right h k)

pub returns-in_err-inner-in-Hide-clause-resolved : goal.returns-in_err-inner-in-Hide-clause-resolved
returns-in_err-inner-in-Hide-clause-resolved t c = λ scope known shows knows.
    let fault = c.in_err-inner-in-Hide.field-0.0 in
    let gates = c.in-Hide.gates.items in
    let body = behaviour_view c.in-Hide.body.value in
    let more = rw c.as_slice.ensures.value at (c.in_ok-add_gates-in-Hide.ensures.added known knows) in
    let h = rw c.deref-in-Hide.ensures at (c.in_err-inner-in-Hide.ensures.resolved scope (texts gates ++ known) shows more) in
    carried c.from_residual-in_err-inner-in-Hide.result _ _ fault c.from_residual-in_err-inner-in-Hide.ensures.1
    (rw c.in-Hide.is (misnamed_lift scope (texts gates ++ known) known body (hide gates body)
    (of_hide known gates body).from_left fault h))

pub returns-in_ok-make_hide-in-Hide-clause-resolved : goal.returns-in_ok-make_hide-in-Hide-clause-resolved
returns-in_ok-make_hide-in-Hide-clause-resolved t c = λ scope known shows knows.
    let gates = c.in-Hide.gates.items in
    let body = behaviour_view c.in-Hide.body.value in
    let more = rw c.as_slice.ensures.value at (c.in_ok-add_gates-in-Hide.ensures.added known knows) in
    let h = rw c.deref-in-Hide.ensures at (c.in_ok-inner-in-Hide.ensures.resolved scope (texts gates ++ known) shows more) in
    let whole = rw c.as_slice-in-Hide.ensures.value at (c.in_ok-make_hide-in-Hide.ensures scope known body) in
    rw c.in-Hide.is (whole h)
