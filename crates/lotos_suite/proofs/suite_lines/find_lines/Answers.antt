use Rattle.std.proofs.Common.{◌<◌, refl, subst, sym}
use Rattle.lotos_suite.proofs.PassedResults.{err_then, ok_then}
use Rattle.lotos_suite.proofs.SuiteStart.{first_parts, parts_of, setting}
use Rattle.lotos_suite.specs.SuitePrefixes.{IsSetting}
use Rattle.lotos_suite.proofs.suite_lines.find_lines.Goals as goal

pub expand_all-requires : goal.expand_all-requires
expand_all-requires c =
    let (s, is, table, many) = c.requires in
    let steps = c.in_ok-found.found.steps.items in
    let apart = c.in_ok-found.ensures s is table many in
    let parts = parts_of s is c.args.extra steps apart in (
      s,
      parts,
      apart.sequences,
      subst (λ xs. IsSetting s c.args.extra parts xs apart.sequences) (sym c.as_slice.ensures.value)
          (setting s is c.args.extra steps apart parts (first_parts s is c.args.extra steps apart) refl),
      table,
    )

pub returns-clause-lines : goal.returns-clause-lines
returns-clause-lines c = ok_then _ _ c.expand_all.result (λ v h s is table many.
    let steps = c.in_ok-found.found.steps.items in
    let apart = c.in_ok-found.ensures s is table many in
    let parts = parts_of s is c.args.extra steps apart in
    let set = subst (λ xs. IsSetting s c.args.extra parts xs apart.sequences) (sym c.as_slice.ensures.value)
    (setting s is c.args.extra steps apart parts (first_parts s is c.args.extra steps apart) refl) in
    (parts, first_parts s is c.args.extra steps apart, refl, h s parts apart.sequences set table)) c.expand_all.ensures.lines

pub returns-clause-known : goal.returns-clause-known
returns-clause-known c = ok_then _ _ c.expand_all.result (λ v h l i n j.
    let (s, is, table, many) = c.requires in
    let steps = c.in_ok-found.found.steps.items in
    let apart = c.in_ok-found.ensures s is table many in
    let parts = parts_of s is c.args.extra steps apart in
    let set = subst (λ xs. IsSetting s c.args.extra parts xs apart.sequences) (sym c.as_slice.ensures.value)
    (setting s is c.args.extra steps apart parts (first_parts s is c.args.extra steps apart) refl) in
    subst (λ k. n < k) many (h s parts apart.sequences set table l i n j)) c.expand_all.ensures.known

pub returns-clause-too_many : goal.returns-clause-too_many
returns-clause-too_many c = err_then _ _ c.expand_all.result (λ f h e s is table many parts lines first access are.
    let steps = c.in_ok-found.found.steps.items in
    let apart = c.in_ok-found.ensures s is table many in
    let set = subst (λ xs. IsSetting s c.args.extra parts xs apart.sequences) (sym c.as_slice.ensures.value)
    (setting s is c.args.extra steps apart parts first access) in
    h e s parts apart.sequences lines set table are) c.expand_all.ensures.too_many
