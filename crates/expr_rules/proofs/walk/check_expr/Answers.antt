use Rattle.std.proofs.Common.{sym, ◌∙◌}
use Rattle.expr_rules.proofs.Least.{least_is_least}
use Rattle.expr_rules.proofs.walk.check_expr.Goals as goal

pub returns-in-None-clause-accepted : goal.returns-in-None-clause-accepted
returns-in-None-clause-accepted c = least_is_least.none _ (sym c.in-None.is ∙ (rw c.wanted_of.ensures at c.expression_fault.ensures))

pub returns-in-Some-clause-refused : goal.returns-in-Some-clause-refused
returns-in-Some-clause-refused c = least_is_least.some _ _ (sym c.in-Some.is ∙ (rw c.wanted_of.ensures at c.expression_fault.ensures))

pub returns-in-Some-clause-least : goal.returns-in-Some-clause-least
returns-in-Some-clause-least c = sym c.in-Some.is ∙ (rw c.wanted_of.ensures at c.expression_fault.ensures)
