-- What behaviours can begin with, by what is known of the processes that they call unguarded.
use Rattle.std.proofs.Common.{◌≡◌, ◌↔◌, ℕ, List, Some, None, refl, sym, subst, inl, inr}
use Rattle.std.specs.Prelude.{◌≢◌}
use Rattle.lotos_check.specs.NameLists.{Name}
use Rattle.lotos_check.specs.Flat.{Flat, FlatProcess, stop, exit, prefix, choice, par, hide, enable, disable, call}
use Rattle.lotos_check.specs.Guard as g
use Rattle.lotos_check.specs.Guard.{CallsUnguarded}
use Rattle.lotos_check.proofs.ListIndices.{one_item}
use Rattle.lotos_warn.specs.declared.first_labels.FirstLabels.{FirstLabels}
use Rattle.lotos_warn.specs.FirstLabels as c
use Rattle.lotos_warn.specs.FirstLabels.{First, termination, internal, action, IsShown, CanBegin}
use Rattle.lotos_warn.specs.LabelSets.{BeginsBy, Has, IsEnabled, IsHidden, IsKnown}

-- a hiding shows what it does not hide
shown : (gs : List Name) (inside : First → Type 0) (x : First) → IsShown gs x → inside x → IsHidden gs inside x
shown gs inside termination v h = h
shown gs inside internal v h = inl h
shown gs inside (action n) v h = (v, h)

-- `>>` does what its left side does, but for termination
goes_on : (left : First → Type 0) (x : First) → x ≢ termination → left x → IsEnabled left x
goes_on left termination n h = n refl
goes_on left internal n h = inl h
goes_on left (action m) n h = h

module _ (processes : List FlatProcess) (known : List FirstLabels) where
  -- the labels of each process that the behaviour calls unguarded are known
  abbrev pub AreCallsKnown : Flat → Type 0
  AreCallsKnown b = (k : ℕ) → CallsUnguarded b k → IsKnown processes known k

  -- by the labels of the processes that it calls unguarded a behaviour begins with each label that it can begin with
  begins : (b : Flat) → AreCallsKnown b → (x : First) → CanBegin processes b x → BeginsBy processes known b x
  begins b calls x c.terminates = refl
  begins b calls x c.acts = refl
  begins b calls x c.acts_inside = tt
  begins b calls x (c.chooses_left {l = l} h) = inl (begins l (λ k u. calls k (g.left_choice u)) x h)
  begins b calls x (c.chooses_right {r = r} h) = inr (begins r (λ k u. calls k (g.right_choice u)) x h)
  begins b calls x (c.together {l = l} {r = r} both h j) =
      inl (both, begins l (λ k u. calls k (g.left_par u)) x h, begins r (λ k u. calls k (g.right_par u)) x j)
  begins b calls x (c.left_alone {l = l} alone h) = inr (alone, inl (begins l (λ k u. calls k (g.left_par u)) x h))
  begins b calls x (c.right_alone {r = r} alone h) = inr (alone, inr (begins r (λ k u. calls k (g.right_par u)) x h))
  begins b calls x (c.hides {b = d} {g = n} listed h) = inr (n, listed, begins d (λ k u. calls k (g.under_hide u)) (action n) h)
  begins b calls x (c.shows {gs = gs} {b = d} visible h) =
      shown gs (BeginsBy processes known d) x visible (begins d (λ k u. calls k (g.under_hide u)) x h)
  begins b calls x (c.goes_on {l = l} other h) = goes_on (BeginsBy processes known l) x other (begins l (λ k u. calls k (g.left_enable u)) x h)
  begins b calls x (c.enables {l = l} h) = inr (begins l (λ k u. calls k (g.left_enable u)) termination h)
  begins b calls x (c.undisturbed {l = l} h) = inl (begins l (λ k u. calls k (g.left_disable u)) x h)
  begins b calls x (c.disables {r = r} h) = inr (begins r (λ k u. calls k (g.right_disable u)) x h)
  begins b calls y (c.calls {k = k} {process = process} {x = x} at becomes h) =
      let (labels, kept, same) = calls k g.itself process at in
      record { process = process; located = at; labels = labels; kept = kept; x = x; has = (same x).1 h; becomes = becomes }

  -- a behaviour can begin with each label that it begins with by the labels of the processes that it calls unguarded
  can_begin : (b : Flat) → AreCallsKnown b → (x : First) → BeginsBy processes known b x → CanBegin processes b x
  can_begin stop calls x h = absurd h
  can_begin exit calls x h = subst (CanBegin processes exit) (sym h) c.terminates
  can_begin (prefix None b) calls termination h = absurd h
  can_begin (prefix None b) calls internal h = c.acts_inside
  can_begin (prefix None b) calls (action m) h = absurd h
  can_begin (prefix (Some n) b) calls termination h = absurd h
  can_begin (prefix (Some n) b) calls internal h = absurd h
  can_begin (prefix (Some n) b) calls (action m) h = subst (λ m. CanBegin processes (prefix (Some n) b) (action m)) h c.acts
  can_begin (choice l r) calls x h = elim h [
    | inl j ↦ c.chooses_left (can_begin l (λ k u. calls k (g.left_choice u)) x j)
    | inr j ↦ c.chooses_right (can_begin r (λ k u. calls k (g.right_choice u)) x j)
  ]
  can_begin (par l s r) calls x h = elim h [
    | inl (both, j, k) ↦ c.together both (can_begin l (λ k u. calls k (g.left_par u)) x j) (can_begin r (λ k u. calls k (g.right_par u)) x k)
    | inr (alone, inl j) ↦ c.left_alone alone (can_begin l (λ k u. calls k (g.left_par u)) x j)
    | inr (alone, inr j) ↦ c.right_alone alone (can_begin r (λ k u. calls k (g.right_par u)) x j)
  ]
  can_begin (hide gs b) calls termination h = c.shows tt (can_begin b (λ k u. calls k (g.under_hide u)) termination h)
  can_begin (hide gs b) calls internal h = elim h [
    | inl j ↦ c.shows tt (can_begin b (λ k u. calls k (g.under_hide u)) internal j)
    | inr (n, listed, j) ↦ c.hides listed (can_begin b (λ k u. calls k (g.under_hide u)) (action n) j)
  ]
  can_begin (hide gs b) calls (action m) h = c.shows h.0 (can_begin b (λ k u. calls k (g.under_hide u)) (action m) h.1)
  can_begin (enable l r) calls termination h = absurd h
  can_begin (enable l r) calls internal h = elim h [
    | inl j ↦ c.goes_on (λ e. cc) (can_begin l (λ k u. calls k (g.left_enable u)) internal j)
    | inr j ↦ c.enables (can_begin l (λ k u. calls k (g.left_enable u)) termination j)
  ]
  can_begin (enable l r) calls (action m) h = c.goes_on (λ e. cc) (can_begin l (λ k u. calls k (g.left_enable u)) (action m) h)
  can_begin (disable l r) calls x h = elim h [
    | inl j ↦ c.undisturbed (can_begin l (λ k u. calls k (g.left_disable u)) x j)
    | inr j ↦ c.disables (can_begin r (λ k u. calls k (g.right_disable u)) x j)
  ]
  can_begin (call k gs) calls y h =
      let (labels, kept, same) = calls k g.itself h.process h.located in
      let one : h.labels ≡ labels = one_item known k h.labels labels h.kept kept in
      c.calls h.located h.becomes ((same h.x).0 (subst (λ l. Has l h.x) one h.has))

  -- by the labels of the processes that it calls unguarded a behaviour begins with what it can begin with
  pub begins_exactly : (b : Flat) → AreCallsKnown b → (x : First) → BeginsBy processes known b x ↔ CanBegin processes b x
  begins_exactly b calls x = (can_begin b calls x, begins b calls x)
