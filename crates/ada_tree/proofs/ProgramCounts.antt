-- A whole text has at most as many nodes as each of its spellings has tokens.
use Rattle.std.proofs.Common.{◌+◌, arith}
use Rattle.ada_tree.specs.declared.declaration.Component.{Component}
use Rattle.ada_tree.specs.declared.program.Pragma.{Pragma}
use Rattle.ada_tree.specs.declared.program.UnitClause.{UnitClause}
use Rattle.ada_tree.specs.declared.program.MainStatement.{MainStatement}
use Rattle.ada_tree.specs.declared.program.MainStatement.TheVariants as main_statements
use Rattle.ada_tree.specs.StatementTree.{RangeTree}
use Rattle.ada_tree.specs.ProgramTree.{IndexTree, OfRange, OfSubtype, DefinitionTree, Integer, Array, Record, Subtype, BodyTree, ItemTree, OfType, OfObject, OfException, OfSubprogram, OfTask, OfProtected, ProtectedItemTree, OperationBody, EntryBody, BodyItemTree, OfItem, SubprogramBody, TaskBody, ProtectedBody, PackageDeclarationTree, PackageBodyTree, PackageTree, MainTree, ProgramTree}
use Rattle.ada_tree.specs.Language.{Limit}
use Rattle.ada_tree.specs.StatementGrammar.{aspect, declaration}
use Rattle.ada_tree.specs.ProgramGrammar.{index, record_component, constraint, type_declaration_of, item, body, protected_item, body_item, unit_clause, package_declaration, package_body, package_part, main_statement, main, pragma_clause, program}
use Rattle.ada_tree.specs.Size.{range_size, index_size, definition_size, item_size, body_size, protected_item_size, body_item_size, package_declaration_size, package_body_size, package_size, main_size, size}
use Rattle.ada_tree.specs.Laws.{SizeWithinTokens}
use Rattle.ada_tree.proofs.Counts.{AtLeast, one, one_at, fewer, joins, later, sooner, opened, any, in_order, counted, some_counted}
use Rattle.ada_tree.proofs.ExpressionCounts.{expression_counts}
use Rattle.ada_tree.proofs.StatementCounts.{range_counts, aspect_counts, object_counts, task_counts, protected_counts, subprogram_counts, entry_counts, declaration_counts, stmts_counts, handlers_counts}

index_counts : (l : Limit) (i : IndexTree) → AtLeast (index_size i) (index l i)
index_counts l (OfRange r) = range_counts l r
index_counts l (OfSubtype name) = one_at

component_counts : (c : Component) → AtLeast 1 (record_component c)
component_counts c = sooner one_at

constraint_counts : (l : Limit) (r : RangeTree) → AtLeast (range_size r) (constraint l r)
constraint_counts l r = later (range_counts l r)

definition_counts : (l : Limit) (name : _) (d : DefinitionTree) → AtLeast (1 + definition_size d) (type_declaration_of l name d)
definition_counts l name (Integer r) = fewer (joins one (later (later (later (joins (range_counts l r) one))))) (omega arith)
definition_counts l name (Array i components) =
    fewer (joins one (later (later (later (joins (opened (λ l. later (sooner (index_counts l i))) l) (sooner one)))))) (omega arith)
definition_counts l name (Record components) =
    fewer (joins one (later (later (later (joins (some_counted {p = record_component} component_counts components) (sooner one)))))) (omega arith)
definition_counts l name (Subtype parent r) =
    fewer (joins one (later (later (later (joins (any {p = constraint l} (constraint_counts l) r) one))))) (omega arith)

pub item_counts : (l : Limit) (i : ItemTree) → AtLeast (item_size i) (item l i)
item_counts l (OfType d) = definition_counts l d.name d.definition
item_counts l (OfObject d) = object_counts l d
item_counts l (OfException name) = sooner one_at
item_counts l (OfSubprogram d) = sooner (subprogram_counts l d)
item_counts l (OfTask d) = task_counts l d
item_counts l (OfProtected d) = protected_counts l d

pub body_counts : (l : Limit) (b : BodyTree) → AtLeast (body_size b) (body l b)
body_counts l b =
    fewer (joins (in_order {p = declaration l} (declaration_counts l) b.declarations) (joins one (joins (stmts_counts b.statements l) (sooner (handlers_counts b.handlers l))))) (omega arith)

protected_item_counts : (l : Limit) (i : ProtectedItemTree) → AtLeast (protected_item_size i) (protected_item l i)
protected_item_counts l (OperationBody d b) = joins (subprogram_counts l d) (later (body_counts l b))
protected_item_counts l (EntryBody d barrier b) =
    fewer (joins (entry_counts l d) (later (joins (expression_counts l barrier) (later (body_counts l b))))) (omega arith)

pub body_item_counts : (l : Limit) (i : BodyItemTree) → AtLeast (body_item_size i) (body_item l i)
body_item_counts l (OfItem d) = item_counts l d
body_item_counts l (SubprogramBody d b) = joins (subprogram_counts l d) (later (body_counts l b))
body_item_counts l (TaskBody name b) = joins one (later (later (later (body_counts l b))))
body_item_counts l (ProtectedBody name items end_name) = joins one (later (later (later (sooner (in_order {p = protected_item l} (protected_item_counts l) items)))))

clause_counts : (c : UnitClause) → AtLeast 1 (unit_clause c)
clause_counts c = sooner one_at

package_declaration_counts : (l : Limit) (d : PackageDeclarationTree) → AtLeast (package_declaration_size d) (package_declaration l d)
package_declaration_counts l d = joins one_at (later (later (sooner (in_order {p = item l} (item_counts l) d.items))))

package_body_counts : (l : Limit) (d : PackageBodyTree) → AtLeast (package_body_size d) (package_body l d)
package_body_counts l d = joins one_at (later (later (later (sooner (in_order {p = body_item l} (body_item_counts l) d.items)))))

package_counts : (l : Limit) (p : PackageTree) → AtLeast (package_size p) (package_part l p)
package_counts l p =
    fewer (joins (counted {p = unit_clause} clause_counts p.clauses) (joins (package_declaration_counts l p.declaration) (joins (package_body_counts l p.body) (sooner one)))) (omega arith)

main_statement_counts : (s : MainStatement) → AtLeast 1 (main_statement s)
main_statement_counts (main_statements.Null place) = sooner one_at
main_statement_counts (main_statements.Call name procedure) = sooner one_at

main_counts : (l : Limit) (m : MainTree) → AtLeast (main_size m) (main l m)
main_counts l m =
    fewer (joins one_at (later (joins (any {p = aspect l} (aspect_counts l) m.aspect) (later (later (sooner (some_counted {p = main_statement} main_statement_counts m.statements))))))) (omega arith)

pragma_counts : (p : Pragma) → AtLeast 1 (pragma_clause p)
pragma_counts p = sooner one_at

pub program_counts : (l : Limit) (p : ProgramTree) → AtLeast (size p) (program l p)
program_counts l p =
    fewer (joins (counted {p = pragma_clause} pragma_counts p.pragmas) (joins (any {p = package_part l} (package_counts l) p.package_) (main_counts l p.main))) (omega arith)

pub size_within_tokens : SizeWithinTokens
size_within_tokens l t ts = (program_counts l t).within ts
