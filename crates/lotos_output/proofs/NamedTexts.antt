-- The texts of derivations, with what makes their internal steps.
use Rattle.std.proofs.Common.{◌≡◌, ◌≢◌, ◌++◌, ◌∷◌, [], ℕ, zero, suc, List, length, refl, subst}
use Rattle.std.specs.Prelude.{codes}
use Rattle.lotos_check.specs.NameLists.{Name}
use Rattle.lotos_store.specs.Terms.{IsTerm, Process, Term}
use Rattle.lotos_store.specs.declared.label.Label.{Label as TermLabel}
use Rattle.lotos_store.specs.declared.label.Label.TheVariants as l
use Rattle.lotos_terms.specs.Steps.{Step}
use Rattle.lotos_terms.specs.TableView.{IsLabel, TableView}
use Rattle.lotos_terms.proofs.PrintedLabels.{has_text}
use Rattle.lotos_listing.specs.Ends.{repeated}
use Rattle.lotos_listing.specs.Order.{Label}
use Rattle.lotos_origins.specs.Origins.{DerivesBy, InternalStep, IsOriginOver, ends, internally, observably}
use Rattle.lotos_origins.specs.declared.origin.Origin.{Origin}
use Rattle.lotos_origins.specs.declared.origin.Origin.TheVariants as origin
use Rattle.lotos_origins.proofs.InternalSteps.{is_step}
use Rattle.lotos_output.specs.NamedRuns.{AreNamed, IsNamedStep, IsOriginText, inside, more_named, none_named, observed}

-- the term is one over the gates and the processes of the table
abbrev pub IsOver : TableView → Term → Type 0
IsOver held t = IsTerm (length held.names) (length held.processes) t

module _ (held : TableView)
    (labelled : (t u : Term) (k : TermLabel) → IsOver held t → Step held.processes t k u → IsLabel held k)
    (stays : (t u : Term) (k : TermLabel) → IsOver held t → Step held.processes t k u → IsOver held u)
    (over : (t u : Term) (o : Origin) → IsOver held t → InternalStep held.processes t o u → IsOriginOver (length held.names) o) where
  -- an origin has a text
  origin_shown : (o : Origin) → IsOriginOver (length held.names) o → (text : Label) × IsOriginText held.names o text
  origin_shown origin.Text is = (codes "i", refl)
  origin_shown (origin.Hidden g) is =
      let (gate, shows) = has_text held (l.Gate g) is in
      (codes "i(" ++ gate ++ codes ")", (gate, shows, refl))
  origin_shown origin.Termination is = (codes "i(exit)", refl)

  -- so a derivation from a term of the table has texts
  pub shown_along : {t u : Term} {run : List TermLabel} {origins : List Origin} → DerivesBy held.processes t run origins u → IsOver held t →
      (texts : List Label) × AreNamed held.names run origins texts []
  shown_along ends is = ([], none_named)
  shown_along (observably {t} {u} {v} {k} other step rest) is =
      let (text, shows) = has_text held k (labelled t u k is step) in
      let (texts, named) = shown_along rest (stays t u k is step) in
      (text ∷ texts, more_named (observed other shows) named)
  shown_along (internally {t} {u} {v} {o} inner rest) is =
      let (text, shows) = origin_shown o (over t u o is inner) in
      let (texts, named) = shown_along rest (stays t u l.Internal is (is_step held.processes inner)) in
      (text ∷ texts, more_named (inside shows) named)

-- a step that is observed leaves all origins
left_by_observed : {names : List Name} {k : TermLabel} {os rest : List Origin} {text : Label} → IsNamedStep names k os text rest → k ≢ l.Internal →
    rest ≡ os
left_by_observed (observed other shows) apart = refl
left_by_observed (inside shows) apart = absurd (apart refl)

-- an internal step leaves all but the first one
left_by_internal : {names : List Name} {o : Origin} {os rest : List Origin} {text : Label} → IsNamedStep names l.Internal (o ∷ os) text rest → rest ≡ os
left_by_internal (observed apart shows) = absurd (apart refl)
left_by_internal (inside shows) = refl

-- what follows a derivation has texts by the origins that are left
pub named_after : (names : List Name) (processes : List Process) {t u : Term} {run : List TermLabel} {before : List Origin} →
    DerivesBy processes t run before u → (next : List TermLabel) (more left : List Origin) (texts : List Label) →
    AreNamed names (run ++ next) (before ++ more) texts left → (shown : List Label) × AreNamed names next more shown left
named_after names processes ends next more left texts named = (texts, named)
named_after names processes (observably {run = run} other step rest) next more left _ (more_named {texts = texts} one named) =
    named_after names processes rest next more left texts (subst (λ os. AreNamed names (run ++ next) os texts left) (left_by_observed one other) named)
named_after names processes (internally {run = run} inner rest) next more left _ (more_named {texts = texts} one named) =
    named_after names processes rest next more left texts (subst (λ os. AreNamed names (run ++ next) os texts left) (left_by_internal one) named)

module _ (names : List Name) where
  -- the text of a step stays where more origins follow
  step_before : {k : TermLabel} {origins rest : List Origin} {text : Label} (more : List Origin) → IsNamedStep names k origins text rest →
      IsNamedStep names k (origins ++ more) text (rest ++ more)
  step_before more (observed other shows) = observed other shows
  step_before more (inside shows) = inside shows

  -- two runs that have texts have them one after the other
  pub named_append : (first second : List TermLabel) (origins more left : List Origin) (texts others : List Label) →
      AreNamed names first origins texts [] → AreNamed names second more others left →
      AreNamed names (first ++ second) (origins ++ more) (texts ++ others) left
  named_append _ second _ more left _ others none_named named = named
  named_append (k ∷ first) second origins more left (text ∷ texts) others (more_named {rest = rest} step first_named) named =
      more_named (step_before more step) (named_append first second rest more left texts others first_named named)

  -- and so do the turns of a loop
  pub named_repeated : (n : ℕ) (turn : List TermLabel) (origins : List Origin) (texts : List Label) → AreNamed names turn origins texts [] →
      AreNamed names (repeated n turn) (repeated n origins) (repeated n texts) []
  named_repeated zero turn origins texts named = none_named
  named_repeated (suc n) turn origins texts named =
      named_append turn (repeated n turn) origins (repeated n origins) [] texts (repeated n texts) named (named_repeated n turn origins texts named)
