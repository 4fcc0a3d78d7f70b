use Rattle.std.proofs.Common.{sym, ◌∙◌}
use Rattle.ada_tree.specs.StatementTree.{operation_tree}
use Rattle.expr_rules.specs.Walks.{any_of_trees}
use Rattle.declaration_rules.specs.ProtectedRules.{is_handler}
use Rattle.declaration_rules.proofs.protected.has_handler.Goals as goal

pub returns : goal.returns
returns c = c.any_handler.ensures ∙ sym (any_of_trees is_handler operation_tree c.args.operations.now)
