use Rattle.std.proofs.Common.{subst, sym}
use Rattle.std.specs.Prelude.{Decides, IfOk}
use Rattle.diagnostics.specs.repairs.Mending.{Continues}
use Rattle.diagnostics.proofs.repairs.mending.goes_on.Goals as goal

pub returns-then-is_whole : goal.returns-then-is_whole
returns-then-is_whole c =
    subst (λ b. IfOk c.is_derived.result (λ does. Decides does (Continues b c.args.tokens.now))) (sym c.if-is_whole.true) c.is_derived.ensures

pub returns-else-is_whole : goal.returns-else-is_whole
returns-else-is_whole c =
    subst (λ b. IfOk c.begins.result (λ does. Decides does (Continues b c.args.tokens.now))) (sym c.if-is_whole.false) c.begins.ensures
