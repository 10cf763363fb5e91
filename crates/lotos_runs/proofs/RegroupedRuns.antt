-- Regrouping a term changes neither its runs nor which of them are matches.
use Rattle.std.proofs.Common.{◌≡◌, ℕ, zero, suc, Bool, List, [], ◌∷◌, Some, length, refl, ap, subst}
use Rattle.std.specs.Prelude.{slice_get}
use Rattle.lotos_check.specs.NameLists.{Name}
use Rattle.lotos_store.specs.Terms.{Process, Term}
use Rattle.lotos_normal.specs.NormalForms.{normal_form_of}
use Rattle.lotos_regrouping.specs.Regrouping.{IsRegrouped, IsRegroupedBy, Regrouping}
use Rattle.lotos_normal.proofs.RegroupedForms.{forms_by}
use Rattle.lotos_regrouping.proofs.RegroupedSteps.{follows, regrouped_back}
use Rattle.lotos_pattern.specs.Patterns.{Pattern}
use Rattle.lotos_pattern.specs.declared.ever_pattern.EndKind.{EndKind}
use Rattle.lotos_listing.specs.Order.{Label}
use Rattle.lotos_listing.specs.Derivations.{Derives, IsDeadlock, MayEndAs}
use Rattle.lotos_listing.specs.Question.{PrintedStep}
use Rattle.lotos_listing.specs.ReachedForms.{IsReachedBy, goes_on, starts}
use Rattle.lotos_runs.specs.Matches.{IsMatchTo}
use Rattle.lotos_runs.proofs.BisimilarityLaws.{AreEndsAlike, ends_alike}

-- if there is something for each that has a property, there is a list of one for each item of a list that have it
pub one_for_each : {A B : Type 0} (P : A → Type 0) (Like : A → B → Type 0) → ((a : A) → P a → (b : B) × Like a b) → (items : List A) →
    ((k : ℕ) (a : A) → slice_get items k ≡ Some a → P a) → (others : List B) × (length others ≡ length items) ×
    ((k : ℕ) (b : B) → slice_get others k ≡ Some b → (a : A) × (slice_get items k ≡ Some a) × Like a b)
one_for_each {B = B} P Like one [] all = ([], refl, λ k b at. absurd (none k b at))
  where
    none : (k : ℕ) (b : B) → slice_get {X = B} [] k ≡ Some b → ⊥
    none zero b at = cc
    none (suc k) b at = cc
one_for_each {A = A} {B = B} P Like one (a ∷ items) all =
    let (b, like) = one a (all 0 a refl) in
    let (others, long, are) = one_for_each P Like one items (λ k c at. all (suc k) c at) in
    (b ∷ others, ap suc long, each b like others are)
  where
    each : (b : B) → Like a b → (others : List B) →
        ((k : ℕ) (c : B) → slice_get others k ≡ Some c → (d : A) × (slice_get items k ≡ Some d) × Like d c) →
        (k : ℕ) (c : B) → slice_get (b ∷ others) k ≡ Some c → (d : A) × (slice_get (a ∷ items) k ≡ Some d) × Like d c
    each b like others are zero c at = (a, refl, subst (Like a) (let same : b ≡ c = cc in same) like)
    each b like others are (suc k) c at = are k c at

module _ (names : List Name) (processes : List Process) where
  -- a step is followed by one of the regrouped term, with the same text
  pub printed_follows : {x : Regrouping} {t u : Term} → IsRegroupedBy processes x t u → (l : Label) (t' : Term) → PrintedStep names processes t l t' →
      (u' : Term) × PrintedStep names processes u l u' × IsRegroupedBy processes x t' u'
  printed_follows h l t' (k, shows, step) = let (u', next, by) = follows processes h t' k step in (u', (k, shows, next), by)

  -- and a derivation by one with the same run
  derives_follow : (run : List Label) {t u : Term} → IsRegrouped processes t u → (t' : Term) → Derives (PrintedStep names processes) t run t' →
      (u' : Term) × Derives (PrintedStep names processes) u run u' × IsRegrouped processes t' u'
  derives_follow [] {u = u} h t' same = (u, refl, subst (λ v. IsRegrouped processes v u) same h)
  derives_follow (l ∷ run) h t' (v, step, more) =
      let (w, next, by) = printed_follows h.by l v step in
      let (u', rest, end) = derives_follow run (record { way = h.way; by = by }) t' more in
      (u', (w, next, rest), end)

  -- a deadlock is regrouped to a deadlock
  pub deadlock_follows : {t u : Term} → IsRegrouped processes t u → IsDeadlock (PrintedStep names processes) t → IsDeadlock (PrintedStep names processes) u
  deadlock_follows h dead l u' step = let (t', back, by) = printed_follows (regrouped_back h).by l u' step in dead l t' back

  -- and of a term and its regrouping a derivation may end in both or in neither
  pub regrouped_ends : (kind : EndKind) (p : Pattern) → AreEndsAlike (IsRegrouped processes) (MayEndAs (PrintedStep names processes) kind p)
  regrouped_ends = ends_alike (PrintedStep names processes) (IsRegrouped processes)
      (λ t u v l h step. let (w, next, by) = printed_follows h.by l v step in (w, next, record { way = h.way; by = by }))
      (λ t u w l h step.
      let back = regrouped_back h in
      let (v, next, by) = printed_follows back.by l w step in
      (v, next, regrouped_back (record { way = back.way; by = by })))

  module _ (strong : Bool) where
    -- each reached term is regrouped in the same way to a reached one
    pub reached_follows : {x : Regrouping} {t u : Term} → IsRegroupedBy processes x t u → {r : List Label} {v : Term} →
        IsReachedBy (PrintedStep names processes) (normal_form_of processes) strong t r v →
        (w : Term) × IsReachedBy (PrintedStep names processes) (normal_form_of processes) strong u r w × IsRegroupedBy processes x v w
    reached_follows {u = u} h starts = (normal_form_of processes u, starts, forms_by processes h)
    reached_follows h (goes_on {u = v} {l = l} before step) =
        let (w, there, by) = reached_follows h before in
        let (w', next, by_too) = printed_follows by l v step in
        (normal_form_of processes w', goes_on there next, forms_by processes by_too)

module _ (names : List Name) (processes : List Process) (p : Pattern) where
  -- so the matches are the same
  pub match_follows : (kind : EndKind) {t u : Term} → IsRegrouped processes t u → (run : List Label) →
      IsMatchTo (PrintedStep names processes) t p (MayEndAs (PrintedStep names processes) kind p) run →
      IsMatchTo (PrintedStep names processes) u p (MayEndAs (PrintedStep names processes) kind p) run
  match_follows kind h run match =
      let (u', derives, end) = derives_follow names processes run h match.last match.derives in
      record {
        last = u';
        derives = derives;
        matches = match.matches;
        ends = (regrouped_ends names processes kind p).forth match.last u' end match.ends;
      }

  -- and they end in terms of which one is the other regrouped
  pub match_ends : (kind : EndKind) {t u : Term} (h : IsRegrouped processes t u) (run : List Label)
      (match : IsMatchTo (PrintedStep names processes) t p (MayEndAs (PrintedStep names processes) kind p) run) →
      IsRegrouped processes match.last (match_follows kind h run match).last
  unfolding match_follows derives_follow
  match_ends kind h run match =
      let (u', derives, end) = derives_follow names processes run h match.last match.derives in
      end
