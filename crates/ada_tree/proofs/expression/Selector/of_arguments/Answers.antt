use Rattle.ada_tree.proofs.Rows.{arguments_tree}
use Rattle.ada_tree.proofs.expression.Selector.of_arguments.Goals as goal

pub returns : goal.returns
returns c = arguments_tree c.args.arguments
