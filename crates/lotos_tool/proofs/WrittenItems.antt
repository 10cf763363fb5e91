-- The runs of a listing's items as they are written.
use Rattle.std.proofs.Common.{◌≡◌, ◌∙◌, ℕ, List, [], ◌∷◌, Option, Some, ap, refl, subst, sym}
use Rattle.std.specs.Prelude.{MatchOption}
use Rattle.std.proofs.lemmas.Option.{same_Some}
use Rattle.lotos_check.specs.NameLists.{Name}
use Rattle.lotos_store.specs.Terms.{Process, Term}
use Rattle.lotos_store.specs.declared.label.Label.{Label as TermLabel}
use Rattle.lotos_terms.specs.Steps.{Step}
use Rattle.lotos_terms.specs.TableView.{AreGateNames, IsPrintedAs}
use Rattle.lotos_terms.proofs.PrintedLabels.{one_text}
use Rattle.lotos_pattern.specs.declared.ever_pattern.EndKind.TheVariants as kinds
use Rattle.lotos_listing.specs.Derivations.{Derives}
use Rattle.lotos_listing.specs.Order.{Label}
use Rattle.lotos_listing.specs.Question.{ArePrinted, PrintedStep, more_printed, none_printed}
use Rattle.lotos_origins.specs.Origins.{DerivesByNumber}
use Rattle.lotos_runs.specs.MatchQuestions.{MatchQuestion, MayEndFor}
use Rattle.lotos_ever.specs.NamedRuns.{EndsAsDemanded}
use Rattle.lotos_output.proofs.FormattedLines.{cut_first}
use Rattle.lotos_output.specs.ItemRuns.{AreRunTexts, CanWriteRun, RunsView, labels, omitted, origins}
use Rattle.lotos_output.specs.NamedRuns.{IsNamedRun}
use Rattle.lotos_command.specs.declared.command.Runs.{Runs}
use Rattle.lotos_tool.specs.ListingQuestions.{IsLeastRunOf, IsWrittenRunOf, ListingQuestion, by_cover, by_depth, by_length, matches_of, names_of}
use Rattle.lotos_tool.specs.WrittenItems.{AreRunsFor, HasRuns}

-- ---- labels and their texts

-- no labels have no texts
no_texts : (names : List Name) (s : List Label) → ArePrinted names [] s → s ≡ []
no_texts names _ none_printed = refl

-- labels have just one list of texts
pub printed_once : (names : List Name) (ks : List TermLabel) (s t : List Label) → ArePrinted names ks s → ArePrinted names ks t → s ≡ t
printed_once names _ _ t none_printed all = sym (no_texts names t all)
printed_once names (k ∷ ks) (x ∷ s) t (more_printed shows rest) all =
    let cut = cut_first names k ks t all in
    ap (λ z. z ∷ s) (one_text names k x cut.first shows cut.printed)
    ∙ ap (λ zs. cut.first ∷ zs) (printed_once names ks s cut.others rest cut.all) ∙ sym cut.joined

-- a text is that of one label only
abbrev pub IsOneLabel : Type 0
IsOneLabel = (names : List Name) → AreGateNames names → (k j : TermLabel) (text : List ℕ) → IsPrintedAs names k text → IsPrintedAs names j text → k ≡ j

-- so a derivation by texts is one by the labels that have them
pub numbered : IsOneLabel → (names : List Name) → AreGateNames names → (processes : List Process) (ks : List TermLabel) (run : List Label) (t u : Term) →
    ArePrinted names ks run → Derives (PrintedStep names processes) t run u → DerivesByNumber processes t ks u
numbered one names named processes _ _ t u none_printed derived = derived
numbered one names named processes (k ∷ ks) (text ∷ run) t u (more_printed shows rest) (v, (j, shows_too, step), derived) =
    (v, subst (λ h. Step processes t h v) (one names named j k text shows_too shows) step, numbered one names named processes ks run v u rest derived)

-- ---- the question of a listing

-- the names are those of its derivations
pub same_names : (q : ListingQuestion) (m : MatchQuestion) → matches_of q ≡ Some m → names_of q ≡ m.names
same_names (by_depth q) m is = ap (λ (x : MatchQuestion). x.names) (same_Some _ _ is)
same_names (by_length q) m is = ap (λ (x : MatchQuestion). x.names) (same_Some _ _ is)
same_names (by_cover q) m is = absurd (let z : ⊥ = cc in z)

-- the run of a member is one of its derivations, if members have runs
pub ends_as_demanded : IsOneLabel → (q : ListingQuestion) (m : MatchQuestion) (s run : List Label) (word : List TermLabel) → HasRuns q → matches_of q ≡ Some m →
    AreGateNames m.names → IsLeastRunOf q s run → ArePrinted (names_of q) word run → EndsAsDemanded m kinds.Refuses word
ends_as_demanded one (by_depth q) m s run word has is named least shows =
    subst (λ x. EndsAsDemanded x kinds.Refuses word) (same_Some _ _ is) (record {
      last = least.fits.last;
      derives = numbered one q.names (subst AreGateNames (sym (ap (λ (x : MatchQuestion). x.names) (same_Some _ _ is))) named) q.processes word run
          q.start least.fits.last shows least.fits.derives;
      ends = least.fits.ends;
    })
ends_as_demanded one (by_length q) m s run word has is named least shows =
    let first = least has in
    let match = first.fits.matches in
    subst (λ x. EndsAsDemanded x kinds.Refuses word) (same_Some _ _ is) (record {
      last = match.last;
      derives = numbered one q.matches.names (subst AreGateNames (sym (ap (λ (x : MatchQuestion). x.names) (same_Some _ _ is))) named)
          q.matches.processes word run q.matches.start match.last shows match.derives;
      ends = match.ends;
    })
ends_as_demanded one (by_cover q) m s run word has is named least shows = absurd has

module _ (q : ListingQuestion) (wanted : Runs) (s run : List Label) (word : List TermLabel) (least : IsLeastRunOf q s run)
    (shows : ArePrinted (names_of q) word run) where
  -- the run can be written
  pub can_write : IsOneLabel → (runs : RunsView) → AreRunsFor q wanted runs → CanWriteRun (names_of q) runs word
  can_write one omitted for = tt
  can_write one labels for = tt
  can_write one (origins m) for =
      let (has, is, named) = for.with in
      (sym (same_names q m is), ends_as_demanded one q m s run word has is named least shows)

  -- and what is written of it is as wanted
  pub written_run : (runs : RunsView) (texts : List Label) → AreRunsFor q wanted runs → AreRunTexts (names_of q) runs word texts →
      IsWrittenRunOf wanted q s texts
  written_run omitted texts for texts_are =
      subst (λ w. IsWrittenRunOf w q s texts) for.wanted_are (subst (λ r. IsLeastRunOf q s r) (printed_once (names_of q) word run texts shows texts_are) least)
  written_run labels texts for texts_are =
      subst (λ w. IsWrittenRunOf w q s texts) for.wanted_are (subst (λ r. IsLeastRunOf q s r) (printed_once (names_of q) word run texts shows texts_are) least)
  written_run (origins m) texts for texts_are =
      let (has, is, named) = for.with in
      let run_is : IsNamedRun m.names m.processes m.start (MayEndFor m kinds.Refuses) run texts = record {
        labels = word;
        printed = subst (λ ns. ArePrinted ns word run) (same_names q m is) shows;
        last = texts_are.last;
        derives = texts_are.derives;
        ends = texts_are.ends;
      } in
      subst (λ w. IsWrittenRunOf w q s texts) for.wanted_are (
        run,
        least,
        subst (λ (o : Option MatchQuestion). MatchOption o ⊥ (λ x. IsNamedRun x.names x.processes x.start (MayEndFor x kinds.Refuses) run texts))
            (sym is) run_is,
      )
