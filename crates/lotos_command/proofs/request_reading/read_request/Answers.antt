use Rattle.std.proofs.Common.{◌≡◌, ◌∙◌, List, None, Option, Some, ap, ap₂, option_map, sym}
use Rattle.std.proofs.lemmas.Result.{IfOk-weaker}
use Rattle.clap.specs.Words.{Row, Text, found_of, rows_of}
use Rattle.lotos_command.specs.Request.{request_from, request_named}
use Rattle.lotos_command.proofs.request_reading.read_request.Goals as goal

-- the request of a subcommand with this name and these entries is that of the entries
request_is : {X : Type 0} (f : X → Text) (g : X → List Row) (s : Option X) (name : Text) (rows : List Row) → Some name ≡ option_map f s →
    Some rows ≡ option_map (λ (p : Text × List Row). p.1) (option_map (λ x. (f x, g x)) s) →
    request_from (option_map (λ x. (f x, g x)) s) ≡ request_named name rows
request_is f g None name rows e h = cc
request_is f g (Some x) name rows e h =
    let a : f x ≡ name = cc in
    let b : g x ≡ rows = cc in
    ap₂ request_named a b

pub returns-else-eq-3-clause-is : goal.returns-else-eq-3-clause-is
returns-else-eq-3-clause-is c =
    let named = ap (λ o. option_map (λ p. p.0.now) o) (sym c.unwrap.ensures) ∙ c.subcommand.ensures.name in
    let rows = ap (λ o. option_map (λ p. rows_of (found_of p.1.now)) o) (sym c.unwrap.ensures) ∙ c.subcommand.ensures.rows in
    IfOk-weaker c.read_other_request.result _ _ (λ r e. request_is _ _ _ _ _ named rows ∙ e) c.read_other_request.ensures.is
