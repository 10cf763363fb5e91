use Rattle.std.proofs.Common.{◌≡◌, ◌∙◌, ◌≤◌, Some, ap, length, slice_get, subst, sym}
use Rattle.std.proofs.lemmas.List.{length-map}
use Rattle.lotos_check.specs.NameLists.{In}
use Rattle.lotos_check.proofs.SameFault.{passed_on}
use Rattle.lotos_store.specs.Interning.{plain_lists}
use Rattle.lotos_listing.specs.Lookups.{text_of}
use Rattle.lotos_suite.specs.SuiteLines.{AreSuiteLines}
use Rattle.lotos_suite.specs.SuiteResults.{subject_of}
use Rattle.lotos_suite.specs.SuiteTables.{IsTableOf}
use Rattle.lotos_suite.proofs.GraphTables.{subject_is}
use Rattle.lotos_suite.proofs.ReturnedLines.{all_returned, labels_known}
use Rattle.lotos_suite.proofs.suite.find_suite.Goals as goal

pub find_lines-requires : goal.find_lines-requires
find_lines-requires c =
    let (b, access, is, are) = c.requires.automaton in
    let graph = plain_lists c.args.graph.now in
    let table = c.in_ok-rows.ensures b access is are in
    let s = subject_of b.names graph c.args.labels.now access in (
      s,
      subject_is b graph access is c.args.labels.now are,
      subst (λ rs. IsTableOf s (plain_lists rs)) (sym c.as_slice.ensures.value) table,
      length-map c.args.labels.now (text_of b.names),
    )

pub with_labels-requires : goal.with_labels-requires
with_labels-requires c = λ l i n j.
    c.in_ok-lines.ensures.known l (subst (In l) c.as_slice-2.ensures.value i) n j

pub returns-clause-lines : goal.returns-clause-lines
returns-clause-lines c = λ b access is are.
    let graph = plain_lists c.args.graph.now in
    let s = subject_of b.names graph c.args.labels.now access in
    let table = subst (λ rs. IsTableOf s (plain_lists rs)) (sym c.as_slice.ensures.value) (c.in_ok-rows.ensures b access is are) in
    let (parts, first, same, exact) = c.in_ok-lines.ensures.lines s (subject_is b graph access is c.args.labels.now are) table
    (length-map c.args.labels.now (text_of b.names)) in
    let counted = c.in_ok-suite.ensures.counted ∙ ap length c.as_slice-2.ensures.value in
    let returned = all_returned b.names c.args.labels.now c.in_ok-lines.lines.items c.in_ok-suite.suite.items counted
    (λ k line other at there. c.in_ok-suite.ensures.each k line other (subst (λ xs. slice_get xs k ≡ Some line) (sym c.as_slice-2.ensures.value) at) there) in
    record { parts = parts; first = first; same = same; exact = subst (AreSuiteLines s.machine parts) (sym returned) exact }

pub returns-clause-few : goal.returns-clause-few
returns-clause-few c =
    let counted = c.in_ok-suite.ensures.counted ∙ ap length c.as_slice-2.ensures.value in
    subst (λ n. n ≤ c.args.most) (sym counted) c.in_ok-lines.ensures.few

pub returns-clause-known : goal.returns-clause-known
returns-clause-known c =
    let counted = c.in_ok-suite.ensures.counted ∙ ap length c.as_slice-2.ensures.value in
    labels_known c.args.labels.now c.in_ok-lines.lines.items c.in_ok-suite.suite.items counted
    (λ k line other at there. c.in_ok-suite.ensures.each k line other (subst (λ xs. slice_get xs k ≡ Some line) (sym c.as_slice-2.ensures.value) at) there)

pub returns-in_err-lines-clause-too_many : goal.returns-in_err-lines-clause-too_many
returns-in_err-lines-clause-too_many c = passed_on _ c.from_residual-in_err-lines.result c.in_err-lines.field-0.0 c.from_residual-in_err-lines.ensures.1
    (λ e b access lines is are suite.
    let s = subject_of b.names (plain_lists c.args.graph.now) c.args.labels.now access in
    let table = subst (λ rs. IsTableOf s (plain_lists rs)) (sym c.as_slice.ensures.value) (c.in_ok-rows.ensures b access is are) in
    c.in_err-lines.ensures.too_many e s (subject_is b (plain_lists c.args.graph.now) access is c.args.labels.now are) table
    (length-map c.args.labels.now (text_of b.names)) suite.parts lines suite.first suite.same suite.exact)
