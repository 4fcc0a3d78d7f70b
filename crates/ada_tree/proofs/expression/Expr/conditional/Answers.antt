use Rattle.std.proofs.Common.{refl, ◌∙◌}
use Rattle.ada_tree.proofs.Rows.{conditional_tree}
use Rattle.ada_tree.proofs.expression.Expr.conditional.Goals as goal

pub returns : goal.returns
returns c =
    conditional_tree c.args.place c.in_ok-condition.condition c.in_ok-value.value c.args.elsif_values c.in_ok-else_value.else_value
    ∙ rw (c.in_ok-condition.ensures.ok, c.in_ok-value.ensures.ok, c.in_ok-else_value.ensures.ok) refl
