-- The texts of matches with what makes their internal steps.
use Rattle.std.proofs.Common.{◌≡◌, ◌∙◌, ◌<◌, ◌++◌, [], ℕ, List, None, Some, ap, append-nil, length, subst, sym, true}
use Rattle.lotos_check.specs.NameLists.{Name}
use Rattle.lotos_store.specs.Terms.{Term}
use Rattle.lotos_store.specs.declared.label.Label.{Label as TermLabel}
use Rattle.lotos_store.specs.declared.label.Label.TheVariants as l
use Rattle.lotos_terms.specs.Steps.{Step}
use Rattle.lotos_terms.specs.TableView.{IsLabel, IsSoundView, TableView}
use Rattle.lotos_terms.proofs.GrowingTables.{grows_same}
use Rattle.lotos_pattern.specs.declared.ever_pattern.EverPattern.{EverPattern}
use Rattle.lotos_listing.specs.Lookups.{term_at}
use Rattle.lotos_listing.specs.Order.{Label}
use Rattle.lotos_origins.specs.Origins.{DerivesBy, InternalStep, IsOriginOver, ends, internally, observably}
use Rattle.lotos_origins.specs.declared.origin.Origin.{Origin}
use Rattle.lotos_origins.specs.declared.rounds.Round.{Round}
use Rattle.lotos_origins.proofs.InternalSteps.{is_step}
use Rattle.lotos_runs.specs.MatchQuestions.{match_question_of}
use Rattle.lotos_ever.specs.NamedRuns.{IsNamedRoundAt, IsNamedRoundOf, IsNamedRun}
use Rattle.lotos_ever.specs.declared.named_run.NamedRun.{NamedRun}
use Rattle.lotos_runs.proofs.TableQuestions.{start_is}
use Rattle.lotos_output.specs.NamedRuns.{AreNamed, AreRoundNamed}
use Rattle.lotos_output.specs.OutputLines.{round_text, round_text_if, run_text}
use Rattle.lotos_output.proofs.NamedTexts.{IsOver, named_after, shown_along}
use Rattle.lotos_tool.specs.EverOutcome.{MatchTexts}
use Rattle.lotos_tool.specs.EverParts.{AreNamedTextsOf, question_about}
use Rattle.lotos_tool.proofs.MatchOutcomes.{round_named}

module _ (held : TableView) (sound : IsSoundView held)
    (labelled : (t u : Term) (k : TermLabel) → IsOver held t → Step held.processes t k u → IsLabel held k)
    (stays : (t u : Term) (k : TermLabel) → IsOver held t → Step held.processes t k u → IsOver held u)
    (over : (t u : Term) (o : Origin) → IsOver held t → InternalStep held.processes t o u → IsOriginOver (length held.names) o) where
  -- a derivation leads from terms over the gates and processes of the table to such terms
  over_along : {t u : Term} {run : List TermLabel} {origins : List Origin} → DerivesBy held.processes t run origins u → IsOver held t → IsOver held u
  over_along ends is = is
  over_along (observably {t} {u} {v} {k} other step rest) is = over_along rest (stays t u k is step)
  over_along (internally {t} {u} {v} {o} inner rest) is = over_along rest (stays t u l.Internal is (is_step held.processes inner))

  module _ (p : EverPattern) (run : List TermLabel) (named : NamedRun) (begins : held.start < length held.terms)
      (is : IsNamedRun (match_question_of held p.pattern) p.kind run named) where
    start_over : IsOver held (term_at held.terms held.start)
    start_over = sound.terms held.start (term_at held.terms held.start) (start_is held held p.pattern (grows_same held) begins)

    -- the run has texts
    pub run_shown : (texts : List Label) × AreNamed held.names run named.origins.items texts []
    run_shown = shown_along held labelled stays over is.derives start_over

    -- what goes round where it ends
    round_at : (round : Round) → named.round ≡ Some round → IsNamedRoundOf (match_question_of held p.pattern) p.kind is.last round
    round_at round there = subst (λ o. IsNamedRoundAt (match_question_of held p.pattern) p.kind is.last o) there is.round

    -- and that has texts too
    pub round_shown : (round : Round) → named.round ≡ Some round → (r s : List Label) × AreRoundNamed held.names round r s
    round_shown round there =
        let at = round_at round there in
        let last_over = over_along is.derives start_over in
        let row = round.row.items in
        let turn = round.turn.items in
        let before = round.row_origins.items in
        let around = round.turn_origins.items in
        let (u, once) = at.goes_named 0 in
        let (v, twice) = at.goes_named 1 in
        let along : DerivesBy held.processes is.last row before u =
        subst (λ ks. DerivesBy held.processes is.last ks before u) (append-nil row)
        (subst (λ os. DerivesBy held.processes is.last (row ++ []) os u) (append-nil before) once) in
        let (r, row_named) = shown_along held labelled stays over along last_over in
        let (z, all) = shown_along held labelled stays over twice last_over in
        let (s, turn_named) = named_after held.names held.processes along (turn ++ []) (around ++ []) [] z all in (
          r,
          s,
          record {
            row = row_named;
            turn = subst (λ ks. AreNamed held.names ks around s []) (append-nil turn)
                (subst (λ os. AreNamed held.names (turn ++ []) os s []) (append-nil around) turn_named);
          },
        )

    -- with the names of the gates and the origins as they are lent
    pub run_in : (gates : List Name) (lent : List Origin) → gates ≡ held.names → lent ≡ named.origins.items → AreNamed gates run lent run_shown.0 []
    run_in gates lent same are =
        subst (λ names. AreNamed names run lent run_shown.0 []) (sym same) (subst (λ os. AreNamed held.names run os run_shown.0 []) (sym are) run_shown.1)

    -- what is written if no such steps are demanded
    pub texts_alone : (text made : List ℕ) → named.round ≡ None → made ≡ text ++ run_text true run_shown.0 →
        (texts : MatchTexts) × AreNamedTextsOf (question_about held p) run texts × (made ≡ text ++ run_text true texts.run ++ round_text_if true texts.round)
    texts_alone text made none written = (
      record { run = run_shown.0; round = None },
      record {
        last = is.last;
        derives = record { origins = named.origins.items; derives = is.derives; named = run_shown.1 };
        ends = is.ends;
        goes_round = subst (λ o. IsNamedRoundAt (match_question_of held p.pattern) p.kind is.last o) none is.round;
      },
      written ∙ sym (append-nil (text ++ run_text true run_shown.0)),
    )

    module _ (round : Round) (there : named.round ≡ Some round) (gates : List Name) (same : gates ≡ held.names) where
      -- the texts of such steps
      pub round_in : (r s : List Label) × AreRoundNamed gates round r s
      round_in =
          let (r, s, shown) = round_shown round there in
          (r, s, subst (λ names. AreRoundNamed names round r s) (sym same) shown)

      -- what is written if they are demanded
      pub texts_with_round : (text middle made : List ℕ) → middle ≡ text ++ run_text true run_shown.0 →
          ((r s : List Label) → AreRoundNamed gates round r s → made ≡ middle ++ round_text r s) →
          (texts : MatchTexts) × AreNamedTextsOf (question_about held p) run texts × (made ≡ text ++ run_text true texts.run ++ round_text_if true texts.round)
      texts_with_round text middle made first written =
          let (r, s, shown) = round_shown round there in (
            record { run = run_shown.0; round = Some (r, s) },
            record {
              last = is.last;
              derives = record { origins = named.origins.items; derives = is.derives; named = run_shown.1 };
              ends = is.ends;
              goes_round = round_named (question_about held p) is.last round r s (round_at round there) shown;
            },
            written r s (subst (λ names. AreRoundNamed names round r s) (sym same) shown) ∙ ap (λ x. x ++ round_text r s) first,
          )
