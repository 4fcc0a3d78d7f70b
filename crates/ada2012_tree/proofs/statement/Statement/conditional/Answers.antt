use Rattle.std.proofs.Common.{rules}
use Rattle.ada2012_tree.specs.declared.statement.Statement as statements
use Rattle.ada2012_tree.proofs.StatementRows.{row_branches, row_statements}
use Rattle.ada2012_tree.proofs.statement.Statement.conditional.Goals as goal

pub returns : goal.returns
returns c = search (rules, row_branches, row_statements, statements.the_lemmas)
