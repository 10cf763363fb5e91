use Rattle.std.proofs.Common.{ap, sym, subst, true, Err, ◌∙◌, ◌≡◌, List, []}
use Rattle.clap.specs.declared.parser.matches.ArgMatches.{ArgMatches}
use Rattle.std.specs.Prelude.{IfErr}
use Rattle.std.proofs.lemmas.Result.{err_from_is_err_and}
use Rattle.clap.specs.Words.{App, HasKind, HasMatchesOf, Text, fault_of, is_simple, is_simple_and_free, kind_of, subcommand_of, subcommand_rows_of, takes}
use Rattle.lotos_command.specs.CommandRules.{lotosseq}
use Rattle.lotos_command.specs.CommandFaults.{AreAccepted, IsFaultOf, IsFaultOfEntries}
use Rattle.lotos_command.specs.EntryRules.{FitsRequest}
use Rattle.lotos_command.specs.declared.command.CommandFault.TheVariants.{Memory}
use Rattle.clap.specs.Walk.{texts as texts_of}
use Rattle.lotos_command.specs.Request.{request_from}
use Rattle.lotos_command.proofs.CommandFacts.{simple, simple_and_free}
use Rattle.lotos_command.proofs.FaultKinds.{entries_known, entries_memory, fault_known, memory_known}
use Rattle.lotos_command.proofs.RequestFits.{request_fits}
use Rattle.lotos_command.proofs.request_reading.request.Goals as goal

-- matches without a fault are those of words without one, and have the subcommand that the words name
matched : (app : App) (words : List Text) (found : ArgMatches) → app ≡ lotosseq → (is_simple_and_free app ≡ true → fault_of app words ≡ [])
    → HasMatchesOf app words found → (fault_of lotosseq words ≡ []) × (subcommand_rows_of found ≡ subcommand_of lotosseq words)
matched app words found is none matches = (
  subst (λ (a : App). fault_of a words ≡ []) is (none (ap is_simple_and_free is ∙ simple_and_free)),
  (matches (ap is_simple is ∙ simple)).1 ∙ ap (λ (a : App). subcommand_of a words) is,
)

pub read_request-requires : goal.read_request-requires
read_request-requires c =
    let words = texts_of c.args.words.now in
    let m = matched _ words c.in-Ok.found c.in_ok-lotosseq_command.ensures c.in-Ok.ensures.kinds c.in-Ok.ensures.matches in
    subst FitsRequest (sym m.1) (request_fits words m.0)

pub returns-in-Err-clause-fault : goal.returns-in-Err-clause-fault
returns-in-Err-clause-fault c =
    let app = c.in_ok-lotosseq_command.ensures in
    let words = texts_of c.args.words.now in
    let kinds = c.in-Err.ensures.kinds (ap is_simple_and_free app ∙ simple_and_free) in
    fault_known words c.in-Err.error c.command_fault.result (subst (λ (a : App). HasKind (fault_of a words) c.in-Err.error) app kinds) c.command_fault.ensures

pub returns-in-Err-clause-taken : goal.returns-in-Err-clause-taken
returns-in-Err-clause-taken c = λ taken.
    let app = c.in_ok-lotosseq_command.ensures in
    let words = texts_of c.args.words.now in
    let mine : takes lotosseq words ≡ true = taken.0 in
    memory_known (kind_of c.in-Err.error) c.command_fault.result (c.in-Err.ensures.passes (ap (λ (a : App). takes a words) app ∙ mine)) c.command_fault.ensures

pub returns-in_ok-read_request-in-Ok-clause-is : goal.returns-in_ok-read_request-in-Ok-clause-is
returns-in_ok-read_request-in-Ok-clause-is c =
    let words = texts_of c.args.words.now in
    let m = matched _ words c.in-Ok.found c.in_ok-lotosseq_command.ensures c.in-Ok.ensures.kinds c.in-Ok.ensures.matches in
    record { faultless = m.0; reads = ap request_from (sym m.1) ∙ c.in_ok-read_request-in-Ok.ensures.is }

pub returns-in_err-read_request-in-Ok-clause-fault : goal.returns-in_err-read_request-in-Ok-clause-fault
returns-in_err-read_request-in-Ok-clause-fault c =
    let words = texts_of c.args.words.now in
    let m = matched _ words c.in-Ok.found c.in_ok-lotosseq_command.ensures c.in-Ok.ensures.kinds c.in-Ok.ensures.matches in
    let f = c.in_err-read_request-in-Ok.field-0.0 in
    let p = err_from_is_err_and c.from_residual-in_err-read_request-in-Ok.result c.from_residual-in_err-read_request-in-Ok.ensures.1 in
    subst (λ r. IfErr r (IsFaultOf words)) (sym (p.1 ∙ ap (λ v. Err v) p.2))
    (entries_known words f m.0 (subst (λ g. IsFaultOfEntries (request_from g) f) m.1 c.in_err-read_request-in-Ok.ensures.fault))

pub returns-in_err-read_request-in-Ok-clause-taken : goal.returns-in_err-read_request-in-Ok-clause-taken
returns-in_err-read_request-in-Ok-clause-taken c =
    let words = texts_of c.args.words.now in
    let m = matched _ words c.in-Ok.found c.in_ok-lotosseq_command.ensures c.in-Ok.ensures.kinds c.in-Ok.ensures.matches in
    let f = c.in_err-read_request-in-Ok.field-0.0 in
    let p = err_from_is_err_and c.from_residual-in_err-read_request-in-Ok.result c.from_residual-in_err-read_request-in-Ok.ensures.1 in
    subst (λ r. IfErr r (λ e. AreAccepted words → e ≡ Memory)) (sym (p.1 ∙ ap (λ v. Err v) p.2))
    (λ taken. entries_memory words f taken.1.0 taken.1.1 (subst (λ g. IsFaultOfEntries (request_from g) f) m.1 c.in_err-read_request-in-Ok.ensures.fault))
