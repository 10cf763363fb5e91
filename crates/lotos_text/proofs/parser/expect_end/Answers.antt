use Rattle.std.proofs.Common.{◌≡◌, ◌==◌, true, List, length, sym, ◌∙◌, ap}
use Rattle.std.proofs.lemmas.Bool.{eqb-true}
use Rattle.std.proofs.lemmas.List.{nil_from_length}
use Rattle.lotos_text.specs.declared.token.Token.{Token}
use Rattle.lotos_text.proofs.OneToken.{lost_end}
use Rattle.lotos_text.proofs.parser.expect_end.Goals as goal

pub returns-then-is_empty-clause-parses : goal.returns-then-is_empty-clause-parses
returns-then-is_empty-clause-parses c =
    nil_from_length c.args.tokens.now (eqb-true (length c.args.tokens.now) 0 (sym c.is_empty.ensures ∙ c.if-is_empty.true))

pub returns-else-is_empty-clause-fails : goal.returns-else-is_empty-clause-fails
returns-else-is_empty-clause-fails c =
    lost_end c.args.tokens.now
    (λ e. let f = c.if-is_empty.false in let g = c.is_empty.ensures in let h : (length c.args.tokens.now == 0) ≡ true = ap
    (λ (m : List Token). length m == 0) e in cc)
