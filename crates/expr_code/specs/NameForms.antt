-- Forms of names as the tree of a program has them: with actual parameters behind them, with a component or an operation, and as whole values (RM 4.1).
use Rattle.ada_tree.specs.declared.expression.NameExpr.{NameExpr}
use Rattle.ada_tree.specs.ExpressionTree.{ExprTree, Named, name_tree}

-- the value of a name
abbrev pub value_named : NameExpr → ExprTree
value_named name = Named (name_tree name).first (name_tree name).selectors
