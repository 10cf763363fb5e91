use Rattle.std.proofs.Common.{rules, sym, ◌∙◌, ap, subst, [], ◌∷◌, ◌++◌, append_assoc, ◌≡◌}
use Rattle.lotos_text.specs.Grammar.{located_name}
use Rattle.lotos_text.specs.ParserContracts.{Parses}
use Rattle.lotos_text.specs.Phrases.{OneToken, NameList}
use Rattle.lotos_text.specs.declared.ast.Placed.{Placed}
use Rattle.lotos_text.specs.declared.token.TokenKind.TheVariants.{Identifier}
use Rattle.lotos_text.proofs.NameLists.{found_last, found_more, lost_here, lost_more}
use Rattle.lotos_text.proofs.ParseErrors.{missed_on}
use Rattle.lotos_text.proofs.parse_primitives.parse_names.Goals as goal

pub returns-in_err-first-clause-fails : goal.returns-in_err-first-clause-fails
returns-in_err-first-clause-fails c =
    missed_on (OneToken Identifier) (NameList c.args.text.now) c.loop-found.rest.now c.args.tokens.now
    (λ at l. c.loop-found.invariant.loses at (lost_here c.args.text.now c.loop-found.rest.now at l))
    c.from_residual.result c.in_err-first.field-0.0 c.from_residual.ensures.1 c.in_err-first.ensures.fails

pub returns-in_default-clause-parses : goal.returns-in_default-clause-parses
returns-in_default-clause-parses c =
    let name = located_name c.args.text.now c.in_ok-first.first in
    let e : c.push.new.self.items ≡ c.loop-found.found.items ++ name ∷ [] =
    c.in_ok-push.ensures.items ∙ ap (λ (p : Placed). c.loop-found.found.items ++ p ∷ []) c.in_ok-name.ensures in
    subst (λ names. Parses (NameList c.args.text.now) c.args.tokens.now names c.in_ok-first.remainder.now) (sym e)
    (c.loop-found.invariant.finds (name ∷ []) c.in_ok-first.remainder.now
    (found_last c.args.text.now c.loop-found.rest.now c.in_ok-first.remainder.now c.in_ok-first.first
    c.in_ok-first.ensures.parses.0 c.in_ok-first.ensures.parses.1 c.in_default.ensures.none))

pub loop-found-preserved : goal.loop-found-preserved
loop-found-preserved c =
    let name = located_name c.args.text.now c.in_ok-first.first in
    record {
      stand = search rules;
      finds = λ names remainder f.
          let e : c.push.new.self.items ++ names ≡ c.loop-found.found.items ++ (name ∷ names) =
          ap (λ l. l ++ names) (c.in_ok-push.ensures.items ∙ ap (λ (p : Placed). c.loop-found.found.items ++ p ∷ [])
          c.in_ok-name.ensures)
          ∙ append_assoc c.loop-found.found.items (name ∷ []) names in
          subst (λ l. Parses (NameList c.args.text.now) c.args.tokens.now l remainder) (sym e)
          (c.loop-found.invariant.finds (name ∷ names) remainder
          (found_more c.args.text.now c.loop-found.rest.now c.in_ok-first.remainder.now c.in-Some.after.now remainder
          c.in_ok-first.first c.in-Some.field-0-0 names
          c.in_ok-first.ensures.parses.0 c.in_ok-first.ensures.parses.1 c.in-Some.ensures.some.0 c.in-Some.ensures.some.1 f));
      loses = λ at l. c.loop-found.invariant.loses at
          (lost_more c.args.text.now c.loop-found.rest.now c.in_ok-first.remainder.now c.in-Some.after.now at c.in_ok-first.first
          c.in-Some.field-0-0
          c.in_ok-first.ensures.parses.0 c.in-Some.ensures.some.0 c.in-Some.ensures.some.1 l);
    }
