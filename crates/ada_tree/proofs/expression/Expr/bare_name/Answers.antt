use Rattle.std.proofs.Common.{sym, ap, ◌∙◌}
use Rattle.ada_tree.specs.ExpressionTree.{bare_name, expr_tree}
use Rattle.ada_tree.proofs.Rows.{bare_other, named_tree}
use Rattle.ada_tree.proofs.expression.Expr.bare_name.Goals as goal

pub returns-in-Name : goal.returns-in-Name
returns-in-Name c = c.bare.ensures ∙ ap bare_name (sym (ap expr_tree c.in-Name.is ∙ named_tree c.in-Name.name))

pub returns-in_default : goal.returns-in_default
returns-in_default c = bare_other c.args.self.now c.in_default.not-Name
