-- Strongly bisimilar terms have the same steps, and runs lead from them to bisimilar terms, in both directions.
use Rattle.std.proofs.Common.{◌≡◌, ◌∷◌, [], List, refl, subst, sym}
use Rattle.lotos_store.specs.Terms.{Process, Term}
use Rattle.lotos_store.specs.declared.label.Label.{Label}
use Rattle.lotos_terms.specs.Steps.{Step}
use Rattle.lotos_normal.specs.Bisimilarity.{AreBisimilar}
use Rattle.lotos_normal.specs.NormalForms.{normal_form_of}
use Rattle.lotos_origins.specs.FollowedRuns.{AreAlike, back, forth, same}
use Rattle.lotos_origins.specs.Origins.{DerivesByNumber}

-- steps keep bisimilarity, from the first term to the second and from the second to the first
abbrev pub KeepsForward : List Process → Type 0
KeepsForward system = (t u t' : Term) (k : Label) → AreBisimilar system t u → Step system t k t' →
    (u' : Term) × Step system u k u' × AreBisimilar system t' u'

abbrev pub KeepsBackward : List Process → Type 0
KeepsBackward system = (t u u' : Term) (k : Label) → AreBisimilar system t u → Step system u k u' →
    (t' : Term) × Step system t k t' × AreBisimilar system t' u'

-- some derivation from the term by the run ends in a term that is bisimilar to the other term
abbrev pub CanLeadTo : List Process → Term → Term → List Label → Type 0
CanLeadTo system u t run = (v : Term) × DerivesByNumber system t run v × AreAlike system v u

-- each term is strongly bisimilar to itself
pub alike_itself : (system : List Process) (t : Term) → AreAlike system t t
alike_itself system t = same

module _ (system : List Process) (forward : KeepsForward system) (backward : KeepsBackward system) where
  -- so it is with rules that are taken one after the other
  pub alike_forward : (t u t' : Term) (k : Label) → AreAlike system t u → Step system t k t' →
      (u' : Term) × Step system u k u' × AreAlike system t' u'
  alike_forward t _ t' k same step = (t', step, same)
  alike_forward t v t' k (forth {u = u} rule rest) step =
      let (u', further, like) = forward t u t' k rule step in
      let (v', last, alike) = alike_forward u v u' k rest further in
      (v', last, forth like alike)
  alike_forward t v t' k (back {u = u} rule rest) step =
      let (u', further, like) = backward u t t' k rule step in
      let (v', last, alike) = alike_forward u v u' k rest further in
      (v', last, back like alike)

  -- for each step of the second of two strongly bisimilar terms the first has one by its label, to a term that is
  -- bisimilar to its target
  pub alike_backward : (t u u' : Term) (k : Label) → AreAlike system t u → Step system u k u' →
      (t' : Term) × Step system t k t' × AreAlike system t' u'
  alike_backward t _ u' k same step = (u', step, same)
  alike_backward t v v' k (forth {u = u} rule rest) step =
      let (u', further, alike) = alike_backward u v v' k rest step in
      let (t', last, like) = backward t u u' k rule further in
      (t', last, forth like alike)
  alike_backward t v v' k (back {u = u} rule rest) step =
      let (u', further, alike) = alike_backward u v v' k rest step in
      let (t', last, like) = forward u t u' k rule further in
      (t', last, back like alike)

  module _ (end : Term) where
    leads_forward : (run : List Label) (t u : Term) → AreBisimilar system t u → CanLeadTo system end t run → CanLeadTo system end u run
    leads_forward [] t u alike (v, is, like) = (u, refl, back alike (subst (λ z. AreAlike system z end) (sym is) like))
    leads_forward (k ∷ run) t u alike (v, (w, step, derived), like) =
        let (w', step', next) = forward t u w k alike step in
        let (v', derived', like') = leads_forward run w w' next (v, derived, like) in
        (v', (w', step', derived'), like')

    leads_backward : (run : List Label) (t u : Term) → AreBisimilar system t u → CanLeadTo system end u run → CanLeadTo system end t run
    leads_backward [] t u alike (v, is, like) = (t, refl, forth alike (subst (λ z. AreAlike system z end) (sym is) like))
    leads_backward (k ∷ run) t u alike (v, (w, step, derived), like) =
        let (w', step', next) = backward t u w k alike step in
        let (v', derived', like') = leads_backward run w' w next (v, derived, like) in
        (v', (w', step', derived'), like')

    -- so runs lead from terms with the same normal form to bisimilar terms
    pub leads_like : ((t : Term) → AreBisimilar system t (normal_form_of system t)) → (run : List Label) (t u : Term) →
        normal_form_of system t ≡ normal_form_of system u → CanLeadTo system end u run → CanLeadTo system end t run
    leads_like alike run t u same_form leads =
        leads_backward run t (normal_form_of system t) (alike t)
        (subst (λ z. CanLeadTo system end z run) (sym same_form) (leads_forward run u (normal_form_of system u) (alike u) leads))
