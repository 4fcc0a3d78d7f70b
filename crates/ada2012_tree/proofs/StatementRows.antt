-- The spans of what stands in the vectors of statements and bodies.
use Rattle.std.proofs.Common.{rules, ◌≡◌, refl, ap, map}
use Rattle.ada2012_tree.specs.declared.statement.Statement.{Row_of-Branch, end_of-Branch, more_of-Branch, items-the_row-Branch, Row_of-Alternative, end_of-Alternative, more_of-Alternative, items-the_row-Alternative, Row_of-Statement, end_of-Statement, more_of-Statement, items-the_row-Statement}
use Rattle.ada2012_tree.specs.declared.statement.Statement as cycle
use Rattle.ada2012_tree.specs.declared.statement.Body.{Row_of-Handler, end_of-Handler, more_of-Handler, items-the_row-Handler}
use Rattle.ada2012_tree.specs.declared.declaration.Declaration.{Row_of-Declaration, end_of-Declaration, more_of-Declaration, items-the_row-Declaration}
use Rattle.ada2012_tree.specs.Spans.{SpanTrees, Node, NoTrees, MoreTrees, joined, only, trees_of}
use Rattle.ada2012_tree.specs.StatementSpans.{alternative_spans, alternatives_of_row, branch_spans, branches_of_row, declaration_spans, declarations_of_row, handler_spans, handlers_of_row, statement_spans, statements_of_row}

pub row_statements : (n : _) (k : Row_of-Statement n) → statements_of_row k ≡ trees_of (map statement_spans (items-the_row-Statement n k))
row_statements n end_of-Statement = refl
row_statements n (more_of-Statement {n = m} one rest) = ap (MoreTrees (statement_spans one)) (row_statements m rest)

pub row_declarations : (n : _) (k : Row_of-Declaration n) → declarations_of_row k ≡ trees_of (map declaration_spans (items-the_row-Declaration n k))
row_declarations n end_of-Declaration = refl
row_declarations n (more_of-Declaration {n = m} one rest) = ap (MoreTrees (declaration_spans one)) (row_declarations m rest)

pub row_branches : (n : _) (k : Row_of-Branch n) → branches_of_row k ≡ trees_of (map branch_spans (items-the_row-Branch n k))
row_branches n end_of-Branch = refl
row_branches n (more_of-Branch {n = m} span condition s statements rest) = search (rules, row_statements, row_branches m rest, cycle.the_lemmas)

pub row_alternatives : (n : _) (k : Row_of-Alternative n) → alternatives_of_row k ≡ trees_of (map alternative_spans (items-the_row-Alternative n k))
row_alternatives n end_of-Alternative = refl
row_alternatives n (more_of-Alternative {n = m} span choices s statements rest) = search (rules, row_statements, row_alternatives m rest, cycle.the_lemmas)

pub row_handlers : (n : _) (k : Row_of-Handler n) → handlers_of_row k ≡ trees_of (map handler_spans (items-the_row-Handler n k))
row_handlers n end_of-Handler = refl
row_handlers n (more_of-Handler {n = m} span occurrence choices s statements rest) = search (rules, row_statements, row_handlers m rest, cycle.the_lemmas)
