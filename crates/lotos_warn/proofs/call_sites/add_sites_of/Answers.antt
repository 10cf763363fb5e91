use Rattle.std.proofs.Common.{◌≡◌, ◌++◌, map, subst}
use Rattle.std.proofs.lemmas.Result.{on_ok_weaker}
use Rattle.lotos_text.proofs.DefinitionParts.{body_shown}
use Rattle.lotos_warn.specs.CallSites.{site_of, sites_in}
use Rattle.lotos_warn.proofs.call_sites.add_sites_of.Goals as goal

pub returns : goal.returns
returns c =
    on_ok_weaker c.add_sites.result
    (λ h. subst (λ b. map site_of c.add_sites.new.into.items ≡ map site_of c.args.into.now.items ++ sites_in c.args.index b)
    (body_shown c.args.definition.now) h)
    c.add_sites.ensures
