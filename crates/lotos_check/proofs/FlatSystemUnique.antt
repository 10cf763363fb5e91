-- A specification whose names are distinct has one flat system.
use Rattle.std.proofs.Common.{◌≡◌, ℕ, ◌<◌, List, [], ◌∷◌, refl, sym, ◌∙◌, inl, inr, arith, Some, length}
use Rattle.std.specs.Prelude.{slice_get}
use Rattle.lotos_text.specs.AstView.{BehaviourView, DefinitionView, body_of}
use Rattle.lotos_text.specs.declared.ast.Placed.{Placed}
use Rattle.lotos_text.specs.declared.ast.Functionality.{Functionality}
use Rattle.lotos_check.specs.NameLists.{Name, In, IsSetOf}
use Rattle.lotos_check.specs.Scope.{Scope, ScopedDefinition, Binds, IsDistinctScope, processes_of, within}
use Rattle.lotos_check.specs.StaticFaults.{IsDistinct}
use Rattle.lotos_check.specs.Flat.{Flat, FlatProcess, System, Pairwise, no_pair, one_pair, IsProcess, IsFlat, Resolves, of_stop, of_exit, of_prefix, of_choice, of_par, of_par_all, of_hide, of_enable, of_disable, of_call}
use Rattle.lotos_check.specs.Guard.{Calls, CallsUnguarded, itself, left_choice, right_choice, left_par, right_par, under_hide, left_enable, left_disable, right_disable}
use Rattle.lotos_check.proofs.BindingUnique.{one_meant}
use Rattle.lotos_check.proofs.ListIndices.{get_in}
use Rattle.lotos_check.proofs.NameOrder.{one_set}
use Rattle.lotos_check.proofs.Pairs.{pair_of_second, pairs_length}
use Rattle.lotos_check.proofs.ScopedDefinitions.{visible_distinct, meant_below}

-- two sets of the names of one list are equal
one_set_of : (xs ys : List Name) (list : List Placed) → IsSetOf xs list → IsSetOf ys list → xs ≡ ys
one_set_of xs ys list h k =
    one_set xs ys h.ascends k.ascends (λ n i. (k.same n).1 ((h.same n).0 i)) (λ n i. (h.same n).1 ((k.same n).0 i))

-- a behaviour has one flat form where names have one meaning
pub one_flat : (scope : Scope) → IsDistinctScope scope → (t : BehaviourView) (c e : Flat) → Resolves scope t c → Resolves scope t e → c ≡ e
one_flat scope distinct t c e of_stop of_stop = refl
one_flat scope distinct t c e of_exit of_exit = refl
one_flat scope distinct t c e (of_prefix x) (of_prefix y) = let a = one_flat scope distinct _ _ _ x y in cc
one_flat scope distinct t c e (of_choice x u) (of_choice y v) =
    let a = one_flat scope distinct _ _ _ x y in let b = one_flat scope distinct _ _ _ u v in cc
one_flat scope distinct t c e (of_par {gs = gs} {names = names} x s u) (of_par {names = other} y r v) =
    let a = one_flat scope distinct _ _ _ x y in let b = one_flat scope distinct _ _ _ u v in let d = one_set_of names other gs s r in cc
one_flat scope distinct t c e (of_par_all x u) (of_par_all y v) =
    let a = one_flat scope distinct _ _ _ x y in let b = one_flat scope distinct _ _ _ u v in cc
one_flat scope distinct t c e (of_hide {gs = gs} {names = names} s x) (of_hide {names = other} r y) =
    let a = one_flat scope distinct _ _ _ x y in let d = one_set_of names other gs s r in cc
one_flat scope distinct t c e (of_enable x u) (of_enable y v) =
    let a = one_flat scope distinct _ _ _ x y in let b = one_flat scope distinct _ _ _ u v in cc
one_flat scope distinct t c e (of_disable x u) (of_disable y v) =
    let a = one_flat scope distinct _ _ _ x y in let b = one_flat scope distinct _ _ _ u v in cc
one_flat scope distinct t c e (of_call {p = p} {k = i} {d = d} x) (of_call {k = j} {d = f} y) =
    let a = (one_meant scope distinct p.name i j d f x y).0 in cc

-- processes with the same parts are the same
same_parts : (n m : Name) (f g : List Name) (x y : Functionality) (b c : Flat) → n ≡ m → f ≡ g → x ≡ y → b ≡ c →
    ◌≡◌ {A = FlatProcess} (record { name = n; formals = f; functionality = x; body = b }) (record { name = m; formals = g; functionality = y; body = c })
same_parts n m f g x y b c e h k l = rw (e, h, k, l) refl

-- a definition is one process only, if no `where` of its scope declares a name twice
one_process : (v : ScopedDefinition) → IsDistinctScope v.scope → (p q : FlatProcess) → IsProcess v p → IsProcess v q → p ≡ q
one_process v distinct p q h k =
    let n : p.name ≡ q.name = h.name ∙ sym k.name in
    let f : p.formals ≡ q.formals = h.formals ∙ sym k.formals in
    let g : p.functionality ≡ q.functionality = h.functionality ∙ sym k.functionality in
    let b : p.body ≡ q.body = one_flat v.scope distinct (body_of v.definition) p.body q.body h.body k.body in
    same_parts p.name q.name p.formals q.formals p.functionality q.functionality p.body q.body n f g b

-- definitions are one list of processes only, if no `where` of their scopes declares a name twice
one_processes : (vs : List ScopedDefinition) → ((v : ScopedDefinition) → In v vs → IsDistinctScope v.scope) → (ps qs : List FlatProcess) →
    Pairwise IsProcess vs ps → Pairwise IsProcess vs qs → ps ≡ qs
one_processes [] distinct [] [] no_pair no_pair = refl
one_processes (v ∷ vs) distinct (p ∷ ps) (q ∷ qs) (one_pair h hs) (one_pair k ks) =
    let a = one_process v (distinct v (inl refl)) p q h k in
    let b = one_processes vs (λ w i. distinct w (inr i)) ps qs hs ks in
    cc
one_processes [] distinct (p ∷ ps) qs h k = elim h [ ]
one_processes [] distinct [] (q ∷ qs) h k = elim k [ ]
one_processes (v ∷ vs) distinct [] qs h k = elim h [ ]
one_processes (v ∷ vs) distinct (p ∷ ps) [] h k = elim k [ ]

-- the processes of a specification's flat systems are the same
pub same_processes : (whole : DefinitionView) (s r : System) → IsDistinct whole → IsFlat whole s → IsFlat whole r → s.processes ≡ r.processes
same_processes whole s r distinct h k =
    one_processes (processes_of whole) (λ v i. visible_distinct whole distinct v (inr i)) s.processes r.processes h.processes k.processes

-- systems with the same parts are the same
pub same_system : (f g : List Name) (b c : Flat) (ps qs : List FlatProcess) → f ≡ g → b ≡ c → ps ≡ qs →
    ◌≡◌ {A = System} (record { formals = f; start = b; processes = ps }) (record { formals = g; start = c; processes = qs })
same_system f g b c ps qs e h k = rw (e, h, k) refl

-- a specification has one flat system
pub one_system : (whole : DefinitionView) (s r : System) → IsDistinct whole → IsFlat whole s → IsFlat whole r → s ≡ r
one_system whole s r distinct h k =
    let f : s.formals ≡ r.formals = h.formals ∙ sym k.formals in
    let b : s.start ≡ r.start = one_flat (within whole 0 [])
    (visible_distinct whole distinct (record { scope = within whole 0 []; definition = whole }) (inl refl))
    (body_of whole) s.start r.start h.start k.start in
    same_system s.formals r.formals s.start r.start s.processes r.processes f b (same_processes whole s r distinct h k)

-- an unguarded call goes to a process whose number a name means
called_meant : (scope : Scope) (t : BehaviourView) (c : Flat) (q : ℕ) → Resolves scope t c → CallsUnguarded c q →
    (n : Name) × (d : DefinitionView) × Binds scope n q d
called_meant scope t c q (of_call {p = p} {d = d} m) itself = (p.name, d, m)
called_meant scope t c q (of_choice x y) (left_choice h) = called_meant scope _ _ q x h
called_meant scope t c q (of_choice x y) (right_choice h) = called_meant scope _ _ q y h
called_meant scope t c q (of_par x s y) (left_par h) = called_meant scope _ _ q x h
called_meant scope t c q (of_par x s y) (right_par h) = called_meant scope _ _ q y h
called_meant scope t c q (of_par_all x y) (left_par h) = called_meant scope _ _ q x h
called_meant scope t c q (of_par_all x y) (right_par h) = called_meant scope _ _ q y h
called_meant scope t c q (of_hide s x) (under_hide h) = called_meant scope _ _ q x h
called_meant scope t c q (of_enable x y) (left_enable h) = called_meant scope _ _ q x h
called_meant scope t c q (of_disable x y) (left_disable h) = called_meant scope _ _ q x h
called_meant scope t c q (of_disable x y) (right_disable h) = called_meant scope _ _ q y h
called_meant scope t c q of_stop h = elim h [ ]
called_meant scope t c q of_exit h = elim h [ ]
called_meant scope t c q (of_prefix x) h = elim h [ ]

-- an item of the second of two lists has its pair
pub paired_at : (vs : List ScopedDefinition) (ps : List FlatProcess) → Pairwise IsProcess vs ps → (i : ℕ) (p : FlatProcess) → slice_get ps i ≡ Some p →
    (v : ScopedDefinition) × In v vs × IsProcess v p
paired_at vs ps pairs i p e = let r = pair_of_second vs ps pairs i p e in (r.0, get_in vs i r.0 r.1, r.2)

-- every unguarded call of a flat system goes to one of its processes
pub calls_within : (whole : DefinitionView) (s : System) → IsFlat whole s → (p q : ℕ) → Calls s.processes p q → q < length s.processes
calls_within whole s flat p q h =
    let at = paired_at (processes_of whole) s.processes flat.processes p h.process h.located in
    let m = called_meant at.0.scope (body_of at.0.definition) h.process.body q at.2.body h.calls in
    let b = meant_below whole at.0 (inr at.1) m.0 q m.1 m.2 in
    let l = pairs_length (processes_of whole) s.processes flat.processes in
    omega arith
