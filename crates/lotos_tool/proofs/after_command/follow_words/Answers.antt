use Rattle.std.proofs.Common.{◌≤◌, ◌∙◌, ap, subst, sym}
use Rattle.lotos_check.proofs.SameFault.{passed_on}
use Rattle.lotos_listing.specs.Question.{ArePrinted}
use Rattle.lotos_terms.specs.TableView.{TableView}
use Rattle.lotos_sets.specs.Behaviours.{IsFirstOversized, behaviour_of}
use Rattle.lotos_sets.specs.Following.{IfTooMany}
use Rattle.lotos_sets.specs.declared.follow_fault.FollowFault.TheVariants.{Memory}
use Rattle.lotos_listing.proofs.PrintedSequences.{printed_length}
use Rattle.lotos_tool.proofs.AfterAnswers.{answered, too_many_here}
use Rattle.lotos_tool.proofs.after_command.follow_words.Goals as goal

pub labels_of_words-requires : goal.labels_of_words-requires
labels_of_words-requires g c = record { gates = rw (c.gates.ensures, c.table.ensures) c.requires.gates }

pub follow-requires : goal.follow-requires
follow-requires g c =
    let (strong, s, named) = c.requires.sequence in
    let names = c.gates.ensures ∙ ap (λ (t : TableView). t.names) c.table.ensures in
    let printed = subst (λ ns. ArePrinted ns c.in_ok-labels.labels.items s) names (c.in_ok-labels.ensures strong s named) in
    record { printed = (s, subst (λ ks. ArePrinted c.args.sets.now.table.names ks s) (sym c.as_slice.ensures.value) printed) }

pub answer_of-requires : goal.answer_of-requires
answer_of-requires g c =
    let (strong, s, named) = c.requires.sequence in
    let names = c.gates.ensures ∙ ap (λ (t : TableView). t.names) c.table.ensures in
    let shown = subst (λ ns. ArePrinted ns c.in_ok-labels.labels.items s) names (c.in_ok-labels.ensures strong s named) in
    let printed = subst (λ ks. ArePrinted c.args.sets.now.table.names ks s) (sym c.as_slice.ensures.value) shown in
    let followed = c.in_ok-followed.ensures.followed s printed in
    let later = c.gates-2.ensures ∙ ap (λ (t : TableView). t.names) c.table-2.ensures ∙ c.in_ok-followed.ensures.keeps.table.names in
    let long = sym (printed_length c.args.sets.now.table.names c.as_slice.result.now s printed) ∙ c.as_slice.ensures.len ∙ sym c.len.ensures in
    record {
      within = subst (λ n. c.in_ok-followed.followed.length ≤ n) long followed.to.within;
      printed = (followed.texts, subst (λ ns. ArePrinted ns c.in_ok-followed.followed.next.items followed.texts) (sym later) followed.printed);
    }

pub returns-in_err-labels-clause-none : goal.returns-in_err-labels-clause-none
returns-in_err-labels-clause-none g c strong s named =
    passed_on (λ f. IfTooMany f (IsFirstOversized (behaviour_of c.args.sets.now) c.args.sets.now.bound s)) c.from_residual.result Memory
    c.from_residual.ensures.1 tt

pub returns-in_err-followed-clause-none : goal.returns-in_err-followed-clause-none
returns-in_err-followed-clause-none g c strong s named =
    let r = c.from_residual-in_err-followed in
    let v = c.args.sets.now in
    let names = c.gates.ensures ∙ ap (λ (t : TableView). t.names) c.table.ensures in
    let shown = subst (λ ns. ArePrinted ns c.in_ok-labels.labels.items s) names (c.in_ok-labels.ensures strong s named) in
    let printed = subst (λ ks. ArePrinted v.table.names ks s) (sym c.as_slice.ensures.value) shown in
    let f = c.in_err-followed.field-0.0 in
    passed_on (λ e. IfTooMany e (IsFirstOversized (behaviour_of v) v.bound s)) r.result f r.ensures.1
    (too_many_here f _ (IsFirstOversized (behaviour_of v) v.bound s) (λ n over. over s printed) c.in_err-followed.ensures.too_many)

pub returns-in_err-answer-clause-none : goal.returns-in_err-answer-clause-none
returns-in_err-answer-clause-none g c strong s named =
    let r = c.from_residual-in_err-answer in
    passed_on (λ f. IfTooMany f (IsFirstOversized (behaviour_of c.args.sets.now) c.args.sets.now.bound s)) r.result Memory r.ensures.1 tt

pub returns-clause-answer : goal.returns-clause-answer
returns-clause-answer g c strong s named =
    let v = c.args.sets.now in
    let names = c.gates.ensures ∙ ap (λ (t : TableView). t.names) c.table.ensures in
    let shown = subst (λ ns. ArePrinted ns c.in_ok-labels.labels.items s) names (c.in_ok-labels.ensures strong s named) in
    let printed = subst (λ ks. ArePrinted v.table.names ks s) (sym c.as_slice.ensures.value) shown in
    let followed = c.in_ok-followed.ensures.followed s printed in
    let later = c.gates-2.ensures ∙ ap (λ (t : TableView). t.names) c.table-2.ensures ∙ c.in_ok-followed.ensures.keeps.table.names in
    let long = sym (printed_length v.table.names c.as_slice.result.now s printed) ∙ c.as_slice.ensures.len ∙ sym c.len.ensures in
    answered (behaviour_of v) s c.in_ok-followed.followed _ _ followed later (sym long) c.in_ok-answer.answer c.in_ok-answer.ensures
