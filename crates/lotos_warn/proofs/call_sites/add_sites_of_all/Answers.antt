use Rattle.std.proofs.Common.{◌≡◌, ◌+◌, ◌++◌, ◌<◌, ◌≤◌, suc, length, map, drop, subst, ap, ◌∙◌, arith}
use Rattle.std.proofs.lemmas.List.{drop_all}
use Rattle.lotos_text.specs.AstOf.{behaviour_view, definition_view}
use Rattle.lotos_text.specs.AstView.{body_of}
use Rattle.lotos_check.proofs.Pairs.{drop_at}
use Rattle.lotos_warn.specs.CallSites.{site_of, sites_in, sites_from}
use Rattle.lotos_warn.proofs.CallAdditions.{appended_next, appended_end}
use Rattle.lotos_warn.proofs.call_sites.add_sites_of_all.Goals as goal

pub loop-index-preserved : goal.loop-index-preserved
loop-index-preserved c =
    let n = c.loop-index.index in
    let within : n < length c.args.definitions.now = omega arith in
    let d = c.index-definitions-index.result.now in
    let next = drop_at c.args.definitions.now n _ c.index-definitions-index.result within c.index-definitions-index.is in
    let now = map site_of c.loop-index.into.items in
    let all = map site_of c.args.into.now.items ++ sites_from 0 (map (λ d. definition_view d.now) c.args.definitions.now) in
    let step : suc n ≡ n + 1 = omega arith in
    let rest = map (λ d. definition_view d.now) (drop (n + 1) c.args.definitions.now) in
    appended_next now (map site_of c.add_sites_of.new.into.items) (sites_in n (body_of (definition_view d))) (sites_from (n + 1) rest) all
    c.in_ok-add_sites_of.ensures
    (subst (λ m. now ++ (sites_in n (body_of (definition_view d)) ++ sites_from m rest) ≡ all) step
    (subst (λ ds. now ++ sites_from n (map (λ d. definition_view d.now) ds) ≡ all) next c.loop-index.invariant))

pub returns : goal.returns
returns c =
    let done : length c.args.definitions.now ≤ c.loop-index.index = omega arith in
    let now = map site_of c.loop-index.into.items in
    let all = map site_of c.args.into.now.items ++ sites_from 0 (map (λ d. definition_view d.now) c.args.definitions.now) in
    appended_end now all
    (subst (λ ds. now ++ sites_from c.loop-index.index (map (λ d. definition_view d.now) ds) ≡ all)
    (drop_all c.loop-index.index c.args.definitions.now done) c.loop-index.invariant)
