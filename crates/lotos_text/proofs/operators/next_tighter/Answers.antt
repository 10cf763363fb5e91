use Rattle.std.proofs.Common.{subst, sym, ap}
use Rattle.lotos_text.specs.AstOf.{level_view}
use Rattle.lotos_text.specs.Grammar.{BindsTighter, disabling, parallel, choosing, prefixing, tighter_than_enabling, tighter_than_disabling, tighter_than_parallel, tighter_than_choosing}
use Rattle.lotos_text.proofs.operators.next_tighter.Goals as goal

pub returns-in-Enabling : goal.returns-in-Enabling
returns-in-Enabling c = subst (λ l. BindsTighter l disabling) (sym (ap level_view c.in-Enabling.is)) tighter_than_enabling

pub returns-in-Disabling : goal.returns-in-Disabling
returns-in-Disabling c = subst (λ l. BindsTighter l parallel) (sym (ap level_view c.in-Disabling.is)) tighter_than_disabling

pub returns-in-Parallel : goal.returns-in-Parallel
returns-in-Parallel c = subst (λ l. BindsTighter l choosing) (sym (ap level_view c.in-Parallel.is)) tighter_than_parallel

pub returns-in-Choosing : goal.returns-in-Choosing
returns-in-Choosing c = subst (λ l. BindsTighter l prefixing) (sym (ap level_view c.in-Choosing.is)) tighter_than_choosing
