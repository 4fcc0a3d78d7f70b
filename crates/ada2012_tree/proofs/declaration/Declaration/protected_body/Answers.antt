use Rattle.std.proofs.Common.{rules}
use Rattle.ada2012_tree.specs.declared.statement.Statement as statements
use Rattle.ada2012_tree.proofs.StatementRows.{row_declarations}
use Rattle.ada2012_tree.proofs.declaration.Declaration.protected_body.Goals as goal

pub returns : goal.returns
returns c = search (rules, row_declarations, statements.the_lemmas)
